-- `from_raw` makes the box of the two fields.
use Rattle.std.proofs.Common.{◌≡◌, List, [], ◌∷◌, ◌++◌, refl, sym, ap, subst}
use mir.Syntax.{a_type, dcons, dnil}
use mir.Val.{Val, vptr}
use mir.MapTy.{inst_fn}
use base.Logic.{SProp, ent, id⊢}
use base.Fml.{ftrue, flft}
use prog.Wp.{WpFn}
use types.Kit.{‵, raw, ◌⊛◌, some, later, at_ret, ◌$◌, ◌∵◌, !, qed, by, move, keep, drop, split, split3, join, fsplit, fjoin, pick, suffices, use1, await, rewrite, feq_i}
use types.Run.{stop, fld, of_opd, no_more, and_then, first, blocks, exec, returns, enter}
use types.ByLocal.{alloc_all, pass_all, free_all, look_at, get, get_in, sets, lands_last, env}
use types.Part.{sub, whole}
use contract.Monad.{fact}
use contract.BorrowLft.{◌⊑◌}
use contract.Running.{tables}
use denote.Exit.{no}
use denote.RattleType.{RattleType, owns}
use denote.Signature.{types_at, plain}
use denote.RawPtr.{block_ptr}
use denote.Steps.{nothing, only}
use denote.Param.{param, layout, bounded}
use denote.Param.Laws.{param_laws}
use denote.Triple.Clauses.{Lasts, lasts}
use denote.Triple.Spec.{triple_of}
use denote.Triple.Call.{calls_at_last}
use denote.Triple.Walked.{Stays, stay_dropped, walk_of}
use Rattle.core.proofs.alloc.Calls.{Goes-blank}
use Rattle.core.proofs.alloc.Shapes.{after}
use Rattle.core.proofs.atomic.Steps.{fm}
use Rattle.core.proofs.cell.Inside.{Good}
use Rattle.std_alloc.proofs.BoxSteps.Form as boxed
use Rattle.std_alloc.proofs.BoxSteps.Steps.{box_out, box_in}
use Rattle.std.proofs.raw_atomic.Walks.{proved_at, leaves}
use Rattle.jsonptr_c_calls.proofs.ApartSteps.{pair, pair_fits, apart_opens}
use Rattle.jsonptr_c_calls.proofs.ApartSteps.{Row as Apart}
use Rattle.std_alloc.specs.contracts.boxed.Box.from_raw as callee
use Rattle.std_alloc.proofs.boxed.Box.from_raw.Met.{met}
use Rattle.jsonptr_c_calls.specs.contracts.apart.Apart.into_box as f
use Rattle.jsonptr_c_calls.proofs.apart.Apart.into_box.Statement.{statement}
use Rattle.jsonptr_c_calls.proofs.apart.Apart.into_box.Code as code

pub into_box_spec : {M : Type 1} → statement M
into_box_spec 𝓤 𝓛 𝓜 𝓡 wired T A L LA g d dropping allocating allocator glue glued =
    let 𝓣 = tables 𝓤 𝓛.H 𝓜 𝓡 𝓡.env in let E : RattleType = param 0 T in let Z : RattleType = param 1 A in
    let laws = param_laws 1 A LA in let ended = f.ended T A g d dropping allocating in
    let c = f.clauses T A g d dropping allocating 𝓛 𝓜.mem 𝓡.returns in
    let types = bounded (a_type ∷ a_type ∷ []) (T, (A, tt)) (dcons d (dcons dropping (dcons allocating dnil))) in
    let Box : boxed.Bx = record { row = T; laws = L; al = record { row = A; laws = LA; g = g; d = d; drops = allocating } } in
    let function = inst_fn types code.function in let Whole : RattleType = boxed.B Box in
    let kept : Stays ended.signature.params ended.kept = (stay_dropped (plain (λ _. Apart E Z laws g)) no, tt) in
    proved_at 𝓛 ended kept c 𝓜 𝓡 (Goes-blank 𝓛 2 (plain (λ _. Apart E Z laws g)) no (λ κs x fits. tt), tt) (f.Key.name types) function
    (code.unfolded 𝓤 𝓛.H 𝓜 𝓡 wired (T, (A, tt)) d dropping allocating) (λ y are.
    let κs = y.0.0 in let qs = y.0.1 in let x = y.0.3.0 in let a = x.allocator in
    let Post : Val → SProp 𝓤 = (walk_of 𝓛 ended kept c).post y in
    let Runs : List Val → SProp 𝓤 = λ arguments. WpFn 𝓤 𝓛.H 𝓣.C 𝓣.Λ function arguments Post in
    let tokens = ‵ (flft κs.0 qs.0) ⊛ ‵ (flft κs.1.0 qs.1.0) ⊛ ‵ ftrue in
    let arguments = ‵ (owns (types_at ended.signature.params κs) y.0.3 y.0.4) in
    qed 𝓛 ((tokens ⊛ arguments) ∷ raw ((c κs y.0.3).requires y.1) ∷ []) ∵ split ! $ move ! (1 ∷ []) $ fsplit ! $
    apart_opens E Z laws g ! x y.0.4.0 (λ b o h at word good.
    let argument : Val = pair (vptr b o) h in let fits = pair_fits E Z laws g b o h good in
    let called = triple_of 𝓛 (callee.signature T A g d allocating) (callee.spec T A g d allocating 𝓛 𝓜.mem 𝓡.returns) in
    let asks : called.Ghost = ((κs, qs, tt, (a, (block_ptr b o, tt)), (h ∷ [], (vptr b o ∷ [], tt))), x.content) in
    -- what `from_raw` requires: the tokens, the allocator and the pointer, and the value at it
    move ! (4 ∷ []) $ use1 𝓛 (raw (fact 𝓤 (κs.0 ⊑ T.lives)) ⊛ raw (fact 𝓤 (κs.1.0 ⊑ A.lives)) ⊛ ‵ ftrue) (id⊢ 𝓤 _) $
    split3 ! $ move ! (2 ∷ []) $ drop ! $ move ! (1 ∷ 2 ∷ []) $ join ! $ move ! (1 ∷ 0 ∷ []) $ join ! $
    move ! (2 ∷ []) $ feq_i ! (List Val) (vptr b o ∷ []) (vptr b o ∷ []) refl $ fjoin ! $
    move ! (2 ∷ 0 ∷ []) $ fjoin ! $ move ! (2 ∷ 0 ∷ []) $ join ! $ join ! $ use1 𝓛 (raw (called.pre asks)) (id⊢ 𝓤 _) $
    suffices ! (Runs (argument ∷ [])) (subst (λ (ws : List Val). ent 𝓤 (Runs (argument ∷ [])) (Runs ws))
    (sym (λ i. word i ++ [])) (id⊢ 𝓤 (Runs (argument ∷ [])))) $
    enter ! 𝓣.C 𝓣.Λ function (argument ∷ []) Post $ alloc_all ! (λ l. pass_all ! refl (fits, tt) $
    let Locals = env function.locals l in
    sets ! (of_opd ! (get_in ! (fld ! refl (stop !)) (sub ! 0 refl (whole !)))) refl (tt, tt) $
    sets ! (of_opd ! (get_in ! (fld ! refl (stop !)) (sub ! 1 refl (whole !)))) refl good $
    first ! $ blocks ! $ sets ! (of_opd ! (get ! refl)) refl good $
    calls_at_last ! (fm 𝓛 𝓜 𝓡) called
    (met 𝓤 𝓛 𝓜 𝓡 (code.calls-std_alloc::boxed::Box::from_raw 𝓡.env wired) T A L LA g d allocating allocator glued)
    asks (and_then ! (get ! refl) (and_then ! (get ! refl) (no_more !))) (λ u.
    use1 𝓛 (later (some (λ (r : Whole.Denot). (tokens ⊛ ‵ (Whole.own_val r (u ∷ [])))
    ⊛ some (λ (last : Lasts (callee.ended T A g d allocating) κs asks.0.3). ‵ (lasts (callee.ended T A g d allocating) κs asks.0.3 last)
    ⊛ (raw (fact 𝓤 (r.value ≡ x.content)) ⊛ raw (fact 𝓤 (r.alloc ≡ a))))))) (id⊢ 𝓤 (called.post asks u)) $
    await ! tt $ pick ! (λ r. split ! $ move ! (1 ∷ []) $ pick ! (λ last. split3 ! $ drop ! $ move ! (2 ∷ []) $ split ! $ move ! (1 ∷ []) $
    -- the box is opened once, to learn that it fits its type
    box_out Box ! r (u ∷ []) (λ b' o' h' at' word' good'. box_in Box ! r b' o' r.value at' refl $
    rewrite ! 0 (λ (ws : List Val). ‵ (Whole.own_val r ws)) (sym word') refl $
    let made : Good (layout Whole) u = subst (Good (layout Whole)) (sym (ap only word')) (pair_fits E Z laws g b' o' h' good') in
    lands_last ! refl made $ exec ! 𝓣.C 𝓣.Λ Locals (after 3 function.body) (at_ret Locals Post) $
    sets ! (of_opd ! (get ! refl)) refl made $ nothing ! $ nothing ! $ fjoin ! $
    returns ! (look_at ! 0 refl) $ free_all ! refl $ keep ! (2 ∷ 0 ∷ 1 ∷ 3 ∷ []) $
    by ! (leaves 𝓛 ended kept c y u r ((tt, (tt, tt)), tt) (tt, tt)))))))))
