-- The pointer is null, so the slot owns nothing.
use Rattle.std.proofs.Common.{◌≡◌, [], ◌∷◌, refl, lit<}
use mir.Val.{Val}
use base.Logic.{SProp, emp}
use types.Kit.{‵, raw, ◌⊛◌, ◌$◌, ◌∵◌, !, qed, by, keep, split, use0}
use types.Run.{lit, no_more, and_then, returns, enter}
use types.ByLocal.{alloc_all, pass_all, free_all, look_at, sets}
use types.Part.{agg}
use contract.Monad.{fact, fact_i}
use contract.Running.{tables}
use denote.RattleType.{owns}
use denote.Signature.{types_at}
use denote.RawPtr.{null_ptr}
use denote.Steps.{nothing}
use denote.Triple.Entry.{alive}
use denote.Triple.Walked.{Stays, walk_of}
use Rattle.std.specs.Prelude.{None}
use Rattle.std.proofs.raw_atomic.Walks.{proved_at, leaves}
use Rattle.jsonptr_c_calls.proofs.TextSlotSteps.{single, null_word, no_value, slot_made_vacant}
use Rattle.jsonptr_c_calls.specs.contracts.text_slot.TextSlot.vacant as f
use Rattle.jsonptr_c_calls.proofs.text_slot.TextSlot.vacant.Statement.{statement}
use Rattle.jsonptr_c_calls.proofs.text_slot.TextSlot.vacant.Code as code

abbrev nothing_kept : Stays f.ended.signature.params f.ended.kept
nothing_kept = tt

pub vacant_spec : {M : Type 1} → statement M
vacant_spec 𝓤 𝓛 𝓜 𝓡 wired =
    let c = f.clauses 𝓛 𝓜.mem 𝓡.returns in let 𝓣 = tables 𝓤 𝓛.H 𝓜 𝓡 𝓡.env in
    proved_at 𝓛 f.ended nothing_kept c 𝓜 𝓡 tt f.Key.name code.function (code.unfolded 𝓤 𝓛.H 𝓜 𝓡 wired) (λ y are.
    let Post : Val → SProp 𝓤 = (walk_of 𝓛 f.ended nothing_kept c).post y in
    let tokens = raw (alive 𝓛 f.ended.signature y.0.0 y.0.1) in
    let arguments = ‵ (owns (types_at f.ended.signature.params y.0.0) y.0.3 y.0.4) in
    qed 𝓛 ((tokens ⊛ arguments) ∷ raw ((c y.0.0 y.0.3).requires y.1) ∷ []) ∵ split ! $
    enter ! 𝓣.C 𝓣.Λ code.function [] Post $ alloc_all ! (λ l. pass_all ! refl tt $
    sets ! (agg ! (and_then ! (lit ! tt) (no_more !))) refl (tt, (record { fits = lit< tt }, tt)) $
    slot_made_vacant ! $
    use0 𝓛 (raw (fact 𝓤 (no_value ≡ no_value))) (fact_i 𝓤 (no_value ≡ no_value) (emp 𝓤) refl) $
    nothing ! $ returns ! (look_at ! 0 refl) $ free_all ! refl $ keep ! (3 ∷ 0 ∷ 2 ∷ 1 ∷ []) $
    by ! (leaves 𝓛 f.ended nothing_kept c y (single null_word) (record { address = null_ptr; content = None }) tt tt)))
