-- `into_raw_with_allocator` gives the two fields.
use Rattle.std.proofs.Common.{◌≡◌, List, [], ◌∷◌, ◌++◌, refl, sym, ap, ◌∙◌, subst}
use mir.Syntax.{a_type, dcons, dnil}
use mir.Raw.{raw as untyped}
use mir.Val.{Val, vptr, vstruct, of_list}
use mir.MapTy.{inst_fn}
use base.Logic.{SProp, ent, emp, never, id⊢, fst∗}
use base.Fml.{ftrue, fsep, flft}
use prog.Wp.{WpFn}
use types.Logic.{sem}
use types.Kit.{‵, raw, ◌⊛◌, some, later, ◌$◌, ◌∵◌, !, qed, by, move, keep, drop, split, split3, join, fsplit, fjoin, fpick, pick, suffices, use0, use1, await, rewrite, feq_l}
use types.Run.{stop, fld, of_opd, no_more, and_then, returns, enter}
use types.ByLocal.{alloc_all, pass_all, free_all, look_at, get, get_in, sets, lands_as}
use types.Part.{agg, sub, whole}
use contract.Monad.{fact, fact_i}
use contract.Running.{tables}
use denote.Exit.{no}
use denote.RattleType.{RattleType, owns}
use denote.Signature.{types_at, plain}
use denote.Builtin.{RawPtr}
use denote.RawPtr.{Ptr, block_ptr, null_ptr, ptr_val, in_a_block}
use denote.Steps.{nothing, only, heard}
use denote.Param.{param, layout, bounded}
use denote.Param.Laws.{param_laws}
use denote.Struct.Tuple.{Tuple}
use denote.Triple.Spec.{triple_of}
use denote.Triple.Call.{calls_at}
use denote.Triple.Walked.{Stays, stay_dropped, walk_of}
use Rattle.core.proofs.alloc.Calls.{Goes-blank, handle_tells}
use Rattle.core.proofs.atomic.Steps.{fm}
use Rattle.std_alloc.proofs.BoxSteps.Form as boxed
use Rattle.std_alloc.proofs.BoxSteps.Steps.{box_out, box_in}
use Rattle.std.proofs.raw_atomic.Walks.{proved_at, leaves}
use Rattle.jsonptr_c_calls.proofs.ApartSteps.{pair, pair_fits, apart_made, heap}
use Rattle.std_alloc.specs.contracts.boxed.Box.into_raw_with_allocator as callee
use Rattle.std_alloc.proofs.boxed.Box.into_raw_with_allocator.Met.{met}
use Rattle.jsonptr_c_calls.specs.contracts.apart.Apart.from_box as f
use Rattle.jsonptr_c_calls.proofs.apart.Apart.from_box.Statement.{statement}
use Rattle.jsonptr_c_calls.proofs.apart.Apart.from_box.Code as code

pub from_box_spec : {M : Type 1} → statement M
from_box_spec 𝓤 𝓛 𝓜 𝓡 wired T A L LA g d dropping allocating allocator glue glued =
    let 𝓣 = tables 𝓤 𝓛.H 𝓜 𝓡 𝓡.env in let E : RattleType = param 0 T in let Z : RattleType = param 1 A in
    let laws = param_laws 1 A LA in let ended = f.ended T A g d dropping allocating in
    let c = f.clauses T A g d dropping allocating 𝓛 𝓜.mem 𝓡.returns in
    let types = bounded (a_type ∷ a_type ∷ []) (T, (A, tt)) (dcons d (dcons dropping (dcons allocating dnil))) in
    let Box : boxed.Bx = record { row = T; laws = L; al = record { row = A; laws = LA; g = g; d = d; drops = allocating } } in
    let function = inst_fn types code.function in
    let kept : Stays ended.signature.params ended.kept = (stay_dropped (plain (λ _. boxed.B Box)) no, tt) in
    proved_at 𝓛 ended kept c 𝓜 𝓡 (Goes-blank 𝓛 2 (plain (λ _. boxed.B Box)) no (λ κs x fits. tt), tt) (f.Key.name types) function
    (code.unfolded 𝓤 𝓛.H 𝓜 𝓡 wired (T, (A, tt)) d dropping allocating) (λ y are.
    let κs = y.0.0 in let qs = y.0.1 in let x = y.0.3.0 in let a = x.alloc in
    let Post : Val → SProp 𝓤 = (walk_of 𝓛 ended kept c).post y in
    let Runs : List Val → SProp 𝓤 = λ arguments. WpFn 𝓤 𝓛.H 𝓣.C 𝓣.Λ function arguments Post in
    let tokens = ‵ (flft κs.0 qs.0) ⊛ ‵ (flft κs.1.0 qs.1.0) ⊛ ‵ ftrue in
    let arguments = ‵ (owns (types_at ended.signature.params κs) y.0.3 y.0.4) in
    qed 𝓛 ((tokens ⊛ arguments) ∷ raw ((c κs y.0.3).requires y.1) ∷ []) ∵ split ! $ move ! (1 ∷ []) $ fsplit ! $
    -- the box is opened once, to learn its machine value
    box_out Box ! x y.0.4.0 (λ b o h at word good. box_in Box ! x b o x.value at refl $
    let argument : Val = boxed.word Box h b o in let fits = pair_fits E Z laws g b o h good in
    let called = triple_of 𝓛 (callee.signature T A g d allocating dropping) (callee.spec T A g d allocating dropping 𝓛 𝓜.mem 𝓡.returns) in
    let asks : called.Ghost = ((κs, qs, tt, (x, tt), (argument ∷ [], tt)), tt) in let Both = Tuple (RawPtr ∷ Z ∷ []) in
    fjoin ! $ move ! (1 ∷ 0 ∷ []) $ join ! $ join ! $ use1 𝓛 (raw (called.pre asks)) (id⊢ 𝓤 _) $
    suffices ! (Runs (argument ∷ [])) (subst (λ (ws : List Val). ent 𝓤 (Runs (argument ∷ [])) (Runs ws))
    (sym (λ i. word i ++ [])) (id⊢ 𝓤 (Runs (argument ∷ [])))) $
    enter ! 𝓣.C 𝓣.Λ function (argument ∷ []) Post $ alloc_all ! (λ l. pass_all ! refl (fits, tt) $
    sets ! (of_opd ! (get ! refl)) refl fits $
    calls_at ! (fm 𝓛 𝓜 𝓡) called
    (met 𝓤 𝓛 𝓜 𝓡 (code.calls-std_alloc::boxed::Box::into_raw_with_allocator 𝓡.env wired) T A L LA g d allocating dropping allocator glued glue)
    asks (and_then ! (get ! refl) (no_more !)) (λ u.
    use1 𝓛 (later (some (λ (r : Ptr × A.Denot). (tokens ⊛ ‵ (Both.own_val r (u ∷ [])))
    ⊛ some (λ (last : (Unit {0} × (Unit {0} × Unit {0})) × Unit {0}). ‵ (fsep (fsep ftrue (fsep ftrue ftrue)) ftrue)
    ⊛ (raw (fact 𝓤 (r.1 ≡ a)) ⊛ ‵ (heap E Z laws g a r.0 x.value)))))) (id⊢ 𝓤 _) $
    await ! tt $ pick ! (λ r. split ! $ move ! (1 ∷ []) $ pick ! (λ last. split3 ! $ drop ! $ heard ! (r.1 ≡ a) (λ same.
    in_a_block ! r.0 (λ p. heap E Z laws g a p x.value)
    (fst∗ 𝓤 (never 𝓤) (sem 𝓛 (g.dealloc_token a (untyped (layout T)) null_ptr))) (λ b' o' at'.
    -- the result of the call is a pair, which is taken apart
    move ! (1 ∷ []) $ split ! $ move ! (1 ∷ []) $ fpick ! (λ parts. fsplit ! $ feq_l ! (λ result. fsplit ! $ feq_l ! (λ first. fsplit ! $
    rewrite ! 0 (λ (s : A.Denot). ‵ (A.own_val s parts.1.0)) same refl $ handle_tells Box.al ! a parts.1.0 (λ h' second good'.
    let made = pair_fits E Z laws g b' o' h' good' in
    lands_as ! (ap only (result ∙ (λ j. vstruct (of_list ((first ∙ ap (λ (p : Ptr). ptr_val p ∷ []) at') j ++ (second j ++ []))) ∷ []))) refl made $
    sets ! (of_opd ! (get_in ! (fld ! refl (stop !)) (sub ! 0 refl (whole !)))) refl (tt, tt) $
    sets ! (of_opd ! (get_in ! (fld ! refl (stop !)) (sub ! 1 refl (whole !)))) refl good' $
    sets ! (of_opd ! (get ! refl)) refl good' $
    sets ! (agg ! (and_then ! (get ! refl) (and_then ! (get ! refl) (no_more !)))) refl made $
    move ! (3 ∷ 0 ∷ []) $ apart_made E Z laws g ! b' o' h' a x.value $
    use0 𝓛 (raw (fact 𝓤 (x.value ≡ x.value))) (fact_i 𝓤 (x.value ≡ x.value) (emp 𝓤) refl) $ nothing ! $ nothing ! $ fjoin ! $
    returns ! (look_at ! 0 refl) $ free_all ! refl $ keep ! (4 ∷ 0 ∷ 2 ∷ 1 ∷ []) $
    by ! (leaves 𝓛 ended kept c y (pair (vptr b' o') h') (record { address = block_ptr b' o'; allocator = a; content = x.value })
    ((tt, (tt, tt)), tt) (tt, tt))))))))))))))
