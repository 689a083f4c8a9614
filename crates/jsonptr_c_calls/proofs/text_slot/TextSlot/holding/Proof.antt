-- The slot takes the pointer. The allocator has no bytes, and any other frees the value as well.
use Rattle.std.proofs.Common.{◌≡◌, List, [], ◌∷◌, ◌++◌, refl, sym, subst}
use mir.Val.{Val, vptr}
use base.Logic.{SProp, ent, emp, id⊢}
use prog.Wp.{WpFn}
use types.Kit.{‵, raw, ◌⊛◌, ◌$◌, ◌∵◌, !, qed, by, move, keep, split, fsplit, fjoin, suffices, use0}
use types.Run.{stop, fld, of_opd, no_more, and_then, returns, enter}
use types.ByLocal.{alloc_all, pass_all, free_all, look_at, get, get_in, sets}
use types.Part.{agg, sub, whole}
use contract.Monad.{fact, fact_i}
use contract.Running.{tables}
use denote.Exit.{yes}
use denote.RattleType.{RattleType, owns}
use denote.Signature.{types_at, plain}
use denote.RawPtr.{block_ptr}
use denote.Steps.{nothing}
use denote.Triple.Entry.{alive}
use denote.Triple.Walked.{Stays, stay_dropped, walk_of, Goes-dropped}
use Rattle.std.specs.Prelude.{Some}
use Rattle.std.specs.contracts.alloc.Global as global
use Rattle.std.proofs.alloc.Global.TheLaws as global_laws
use Rattle.std.specs.contracts.impls.GlobalAllocator.TheImpl.{ghosts}
use Rattle.std.proofs.raw_atomic.Walks.{proved_at, leaves}
use Rattle.jsonptr_c_calls.proofs.ApartSteps.{pair, pair_fits, apart_opens}
use Rattle.jsonptr_c_calls.proofs.ApartSteps.{Row as Apart}
use Rattle.jsonptr_c_calls.proofs.TextSlotSteps.{single, Held, slot_made}
use Rattle.jsonptr_c_calls.specs.contracts.text_slot.TextSlot.holding as f
use Rattle.jsonptr_c_calls.proofs.text_slot.TextSlot.holding.Statement.{statement}
use Rattle.jsonptr_c_calls.proofs.text_slot.TextSlot.holding.Code as code

abbrev Parameter : RattleType
Parameter = Apart Held global.the_row global_laws.the_row_laws ghosts

abbrev apart_kept : Stays f.ended.signature.params f.ended.kept
apart_kept = (stay_dropped (plain (λ _. Parameter)) yes, tt)

pub holding_spec : {M : Type 1} → statement M
holding_spec 𝓤 𝓛 𝓜 𝓡 wired =
    let c = f.clauses 𝓛 𝓜.mem 𝓡.returns in let 𝓣 = tables 𝓤 𝓛.H 𝓜 𝓡 𝓡.env in
    let goes = Goes-dropped 𝓛 0 (plain (λ _. Parameter)) yes (λ κs x fits. refl) in
    proved_at 𝓛 f.ended apart_kept c 𝓜 𝓡 (goes, tt) f.Key.name code.function (code.unfolded 𝓤 𝓛.H 𝓜 𝓡 wired) (λ y are.
    let x = y.0.3.0 in let Post : Val → SProp 𝓤 = (walk_of 𝓛 f.ended apart_kept c).post y in
    let Runs : List Val → SProp 𝓤 = λ arguments. WpFn 𝓤 𝓛.H 𝓣.C 𝓣.Λ code.function arguments Post in
    let tokens = raw (alive 𝓛 f.ended.signature y.0.0 y.0.1) in
    let arguments = ‵ (owns (types_at f.ended.signature.params y.0.0) y.0.3 y.0.4) in
    qed 𝓛 ((tokens ⊛ arguments) ∷ raw ((c y.0.0 y.0.3).requires y.1) ∷ []) ∵ split ! $ move ! (1 ∷ []) $ fsplit ! $
    apart_opens Held global.the_row global_laws.the_row_laws ghosts ! x y.0.4.0 (λ b o h at word good.
    let argument : Val = pair (vptr b o) h in
    suffices ! (Runs (argument ∷ [])) (subst (λ (ws : List Val). ent 𝓤 (Runs (argument ∷ [])) (Runs ws))
    (sym (λ i. word i ++ [])) (id⊢ 𝓤 (Runs (argument ∷ [])))) $
    enter ! 𝓣.C 𝓣.Λ code.function (argument ∷ []) Post $
    alloc_all ! (λ l. pass_all ! refl (pair_fits Held global.the_row global_laws.the_row_laws ghosts b o h good, tt) $
    -- `address = apart.address`, and the slot of it
    sets ! (of_opd ! (get_in ! (fld ! refl (stop !)) (sub ! 0 refl (whole !)))) refl (tt, tt) $
    sets ! (agg ! (and_then ! (get ! refl) (no_more !))) refl (tt, (tt, tt)) $
    slot_made ! x.allocator b o x.content $
    use0 𝓛 (raw (fact 𝓤 (Some x.content ≡ Some x.content))) (fact_i 𝓤 (Some x.content ≡ Some x.content) (emp 𝓤) refl) $
    nothing ! $ nothing ! $ fjoin ! $ returns ! (look_at ! 0 refl) $ free_all ! refl $ keep ! (5 ∷ 0 ∷ 2 ∷ 1 ∷ []) $
    by ! (leaves 𝓛 f.ended apart_kept c y (single (vptr b o)) (record { address = block_ptr b o; content = Some x.content }) (_, tt) (tt, tt)))))
