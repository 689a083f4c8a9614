-- The pointer leaves the slot, beside a handle of the allocator.
use Rattle.std.proofs.Common.{◌≡◌, List, [], ◌∷◌, ◌++◌, refl, sym, subst}
use mir.Val.{Val, vptr}
use base.Logic.{SProp, ent, emp, id⊢}
use prog.Wp.{WpFn}
use types.Kit.{‵, raw, ◌⊛◌, ◌$◌, ◌∵◌, !, qed, by, move, keep, split, fsplit3, fjoin, suffices, use0, rewrite}
use types.Run.{stop, fld, of_opd, no_more, and_then, returns, enter}
use types.ByLocal.{alloc_all, pass_all, free_all, look_at, get, get_in, sets}
use types.Part.{agg, sub, whole}
use contract.Monad.{fact, fact_i}
use contract.Running.{tables}
use denote.Exit.{yes}
use denote.RattleType.{RattleType, owns}
use denote.Signature.{types_at, plain}
use denote.RawPtr.{block_ptr}
use denote.Steps.{nothing, heard}
use denote.Param.{layout}
use denote.Triple.Entry.{alive}
use denote.Triple.Walked.{Stays, stay_dropped, walk_of, Goes-dropped}
use Rattle.core.proofs.cell.Inside.{one}
use Rattle.std.specs.Prelude.{Some}
use Rattle.std.specs.contracts.alloc.Global as global
use Rattle.std.proofs.alloc.Global.TheLaws as global_laws
use Rattle.std.specs.contracts.impls.GlobalAllocator.TheImpl.{ghosts}
use Rattle.std.proofs.raw_atomic.Walks.{proved_at, leaves}
use Rattle.jsonptr_c_calls.specs.declared.open_text.OpenText.{OpenText}
use Rattle.jsonptr_c_calls.proofs.ApartSteps.{pair, pair_fits, apart_made}
use Rattle.jsonptr_c_calls.proofs.TextSlotSteps.{single, Held, slot_opens}
use Rattle.jsonptr_c_calls.proofs.TextSlotSteps.{Row as Slot}
use Rattle.jsonptr_c_calls.specs.contracts.text_slot.TextSlot.into_apart as f
use Rattle.jsonptr_c_calls.proofs.text_slot.TextSlot.into_apart.Statement.{statement}
use Rattle.jsonptr_c_calls.proofs.text_slot.TextSlot.into_apart.Code as code

abbrev Heap : RattleType
Heap = global.the_row

abbrev both_kept : Stays f.ended.signature.params f.ended.kept
both_kept = (stay_dropped (plain (λ _. Slot)) yes, (stay_dropped (plain (λ _. Heap)) yes, tt))

pub into_apart_spec : {M : Type 1} → statement M
into_apart_spec 𝓤 𝓛 𝓜 𝓡 wired =
    let c = f.clauses 𝓛 𝓜.mem 𝓡.returns in let 𝓣 = tables 𝓤 𝓛.H 𝓜 𝓡 𝓡.env in
    let slot_goes = Goes-dropped 𝓛 0 (plain (λ _. Slot)) yes (λ κs x fits. refl) in
    let heap_goes = Goes-dropped 𝓛 0 (plain (λ _. Heap)) yes (λ κs x fits. refl) in
    proved_at 𝓛 f.ended both_kept c 𝓜 𝓡 (slot_goes, (heap_goes, tt)) f.Key.name code.function (code.unfolded 𝓤 𝓛.H 𝓜 𝓡 wired) (λ y are.
    let d = y.0.3.0 in let a = y.0.3.1.0 in let Post : Val → SProp 𝓤 = (walk_of 𝓛 f.ended both_kept c).post y in
    let Runs : List Val → SProp 𝓤 = λ arguments. WpFn 𝓤 𝓛.H 𝓣.C 𝓣.Λ code.function arguments Post in
    let h = one (layout Heap) y.0.4.1.0 ((global_laws.the_row_laws.lawful 𝓛).typed a y.0.4.1.0 are.1.0) in
    let tokens = raw (alive 𝓛 f.ended.signature y.0.0 y.0.1) in
    let arguments = ‵ (owns (types_at f.ended.signature.params y.0.0) y.0.3 y.0.4) in
    qed 𝓛 ((tokens ⊛ arguments) ∷ raw (fact 𝓤 ((v : OpenText) × (d.content ≡ Some v))) ∷ []) ∵ move ! (1 ∷ []) $
    heard ! ((v : OpenText) × (d.content ≡ Some v)) (λ held. split ! $ move ! (1 ∷ []) $ fsplit3 ! $
    rewrite ! 1 (λ (ws : List Val). ‵ (Heap.own_val a ws)) h.1 refl $ slot_opens ! d held.0 held.1 y.0.4.0 (λ g b o at word.
    let slot : Val = single (vptr b o) in
    suffices ! (Runs (slot ∷ h.0 ∷ [])) (subst (λ (ws : List Val). ent 𝓤 (Runs (slot ∷ h.0 ∷ [])) (Runs ws))
    (sym (λ i. word i ++ (h.1 i ++ []))) (id⊢ 𝓤 (Runs (slot ∷ h.0 ∷ [])))) $
    enter ! 𝓣.C 𝓣.Λ code.function (slot ∷ h.0 ∷ []) Post $
    alloc_all ! (λ l. pass_all ! refl ((tt, (tt, tt)), (h.2, tt)) $
    -- `address = slot.address`, and both fields of the result
    sets ! (of_opd ! (get_in ! (fld ! refl (stop !)) (sub ! 0 refl (whole !)))) refl (tt, tt) $
    sets ! (agg ! (and_then ! (get ! refl) (and_then ! (get ! refl) (no_more !)))) refl
    (pair_fits Held Heap global_laws.the_row_laws ghosts b o h.0 h.2) $
    apart_made Held Heap global_laws.the_row_laws ghosts ! b o h.0 a held.0 $
    use0 𝓛 (raw (fact 𝓤 (d.content ≡ Some held.0))) (fact_i 𝓤 (d.content ≡ Some held.0) (emp 𝓤) held.1) $
    nothing ! $ nothing ! $ fjoin ! $ nothing ! $ fjoin ! $ returns ! (look_at ! 0 refl) $ free_all ! refl $ keep ! (4 ∷ 0 ∷ 2 ∷ 1 ∷ []) $
    by ! (leaves 𝓛 f.ended both_kept c y (pair (vptr b o) h.0) (record { address = block_ptr b o; allocator = a; content = held.0 })
    (_, (tt, tt)) (tt, (tt, tt)))))))
