-- `token_mut` walks down a tree, and the document follows the reference that it holds at each turn.
use Rattle.jsonptr_walk.proofs.WalkSteps.{◌≡◌, ℕ, List, [], ◌∷◌, refl, lit<, MutBor, arith, proved, id⊢, fres, named, Val, vint, vptr, tables, ‵, raw, ◌⊛◌, some, later, Sq, ◌$◌, ◌∵◌, !, qed, done, move, drop, use0, use1, use2, split, join, pick, await, rewrite, suffices, frame, by, enter, of_opd, lit, addr, stop, no_more, and_then, first, blocks, branches, skips, exec, alloc_all, pass_all, free_all, look_at, get, through, sets, lands_as, env, no, yes, uint_Makes, uint_vals, MutRef, mut_vals, mut_Tells, ShrRef, shr_vals, shr_Tells, shr_copy, plain, nothing, owned, heard, calls_at, lasts, triple_of, Stays, walk_of, says, stay_dropped, Goes-dropped, Goes-spent_ref, ends_at, framed}
use Rattle.std.proofs.Common.{◌<◌, ◌≤◌, ◌-◌, ◌^◌, length, get_or, sym, subst, Ok, Err, IsOk, IfOk, IfErr, w64, true≢false}
use seplogic.Ra.Ura.{Ura}
use mathlib.Core.WellFounded.InvImage
use lib.WfN.{lt-wf_rel}
use lib.Dec.{T}
use base.Logic.{SProp, ent, sep}
use base.Fml.{Fml}
use mir.Val.{of_list, vcons, vnil, has_ty, WT}
use mir.Syntax.{Body, Ty, Fn}
use prog.Model.{Model}
use prog.Wired.{Wired}
use prog.Wp.{Env, Out, Wp, WpFn, Tables, after_seq, after_block, after_turn, at_return}
use contract.Lifetimes.{Lfts, Shares, AllOutlive}
use contract.Running.{Running, tables_of}
use types.Logic.{Logic, sem}
use types.Kit.{split3, Item, any_q, runs, given, learn, fpack, fpick}
use types.Run.{loops, again, Below, un, switches_on, fld, returns_within}
use types.ByLocal.{holding, forget_but, sets_last, get_in, get_tag}
use types.Match.{live, vrt, in_variant}
use types.Part.{whole, sub, agg}
use denote.Builtin.{usize, RefOf}
use denote.Follow.{follows, follows_then, followed, such_by, follows_by, follows_so}
use denote.RattleType.{RattleType}
use denote.Ref.{Bor, NamedLft}
use denote.Signature.{named_lft}
use denote.Triple.Clauses.{Clauses, Ended}
use denote.Triple.Entry.{alive}
use Rattle.std.proofs.VecSteps.Shapes.{after, head, arm_body}
use Rattle.std.specs.Prelude.{OnErr}
use Rattle.std.specs.Borrow.{name_if_ok}
use Rattle.std.specs.contracts.result.Result as RS
use Rattle.serde_json.specs.contracts.value.Value.{the_row as R}
use Rattle.serde_json.specs.declared.value.Value.{Value}
use Rattle.jsonptr_walk.specs.contracts.descend.StepResult as L
use Rattle.jsonptr_walk.proofs.Follows.{follows_self}
use Rattle.jsonptr_walk.proofs.Outcome.{by_result, and_tt, ok_of, err_of, ok_out, err_out, moved_val, on, off}
use Rattle.jsonptr_patch_journal.specs.declared.token_step.TokenError.{TokenError}
use Rattle.jsonptr_patch_journal.specs.contracts.token_step.TokenError as FS
use Rattle.jsonptr_patch_journal.proofs.token_step.TokenError.TheLaws as error_laws
use Rattle.jsonptr.specs.contracts.pointer.buf.PointerBuf as guide_row
use Rattle.jsonptr.proofs.pointer.buf.PointerBuf.TheLaws as guide_laws
use Rattle.jsonptr.specs.Text.{Text, HasNoTilde, text}
use Rattle.jsonptr.specs.Node.{Path, Names}
use Rattle.jsonptr.specs.Content.{map_of, FindsContent}
use Rattle.jsonptr_patch_journal.specs.Location.{contents_of}
use Rattle.jsonptr_patch_journal.specs.PrivateTokenStep.{MovesByToken, MovesBackByToken, IsLostAtToken, LendsTokenMove}
use Rattle.jsonptr_patch_journal.specs.Writing.{write_at}
use Rattle.jsonptr_walk.specs.PrivateDescend.{Begins}
use Rattle.jsonptr_patch_journal.specs.Leading.{StopsAtOffset}
use Rattle.jsonptr_patch_journal.proofs.TokenLemmas.{Trail, move_fits, trail_none, trail_more, trail_here, trail_leads, trail_puts, trail_lost, trail_same}
use Rattle.jsonptr_patch_journal.proofs.token_step.token_step.Met.{met}
use Rattle.jsonptr_patch_journal.specs.contracts.token_step.token_step as g
use Rattle.jsonptr_patch_journal.specs.contracts.node_mut.ValueNodeMut.token_mut as f
use Rattle.jsonptr_patch_journal.proofs.node_mut.ValueNodeMut.token_mut.Statement.{statement}
use Rattle.jsonptr_patch_journal.proofs.node_mut.ValueNodeMut.token_mut.Code as code

module _ {M : Type 1} {𝓤 : Ura M} (𝓛 : Logic 𝓤) (𝓜 : Model 𝓤 𝓛.H) (𝓡 : Running 𝓤 𝓛.H 𝓜) (wired : Wired 𝓡.env code.code) where
  open 𝓛 use {H, A}

  abbrev D : Type 0
  D = Value

  abbrev function : Fn
  function = code.function

  abbrev end : Ended
  end = f.ended

  abbrev stayed : Stays end.signature.params end.kept
  stayed = (stay_dropped _ no, (stay_dropped _ yes, tt))

  abbrev turn : Body
  turn = head (head (head (after 2 function.body)))

  abbrev arm : Body
  arm = arm_body 0 (after 2 turn)

  abbrev c : Clauses 𝓤 end
  c = f.clauses 𝓛 𝓜.mem 𝓡.returns

  abbrev 𝓣 : Tables 𝓤 H
  𝓣 = tables_of 𝓤 H 𝓜 (tables 𝓤 H 𝓜 𝓡 𝓡.env)

  abbrev Why : RattleType
  Why = FS.the_row

  abbrev Whyτ : Ty
  Whyτ = get_or Why.mir 0 error_laws.mir

  module _ (κs : Lfts 2) (qs : Shares 2) (bounds : AllOutlive 2 end.signature.outlives κs) (doc : MutBor D) (guide : Bor (List Text)) where
    abbrev y : (walk_of 𝓛 end stayed c).Ghost
    y = ((κs, qs, bounds, (doc, (guide, tt)), (mut_vals doc, (shr_vals guide, tt))), tt)

    abbrev Post : Val → SProp 𝓤
    Post = (walk_of 𝓛 end stayed c).post y

    abbrev NL : NamedLft
    NL = named_lft 2 0 tt κs

    abbrev LR : RattleType
    LR = L.the_row NL R

    abbrev MR : RattleType
    MR = MutRef (named 0) κs.0 R

    abbrev GR : RattleType
    GR = guide_row.the_row

    -- what a step gives, and what is given
    abbrev Rt : RattleType
    Rt = RS.the_row LR Why

    abbrev Ro : RattleType
    Ro = RS.the_row MR Why

    abbrev Ref : MutBor D → Fml
    Ref x = MR.own_val x (mut_vals x)

    abbrev Location : Fml
    Location = (ShrRef (named 1) κs.1.0 GR).own_val guide (shr_vals guide)

    abbrev Alive : SProp 𝓤
    Alive = alive 𝓛 end.signature κs qs

    abbrev all : List Text
    all = guide.now

    abbrev Plain : Type 0
    Plain = HasNoTilde (text all)

    abbrev Kept : D → (D → D) → ℕ → Type 0
    Kept x F i = Plain → Trail all doc.now x F i

    abbrev Ends : ℕ → Type 0
    Ends i = (front left : List Text) → Begins all i front left → left ≡ []

    abbrev Says : Ro.Denot → Type 0
    Says r = (s : (D → D) × D) × ((w : D) → IsOk r → Plain → (p : Path) → Names (map_of (contents_of doc.now)) all p → contents_of (s.0 w) ≡ write_at p (contents_of w) (contents_of doc.now)) × OnErr r (Plain → contents_of s.1 ≡ contents_of doc.now)

    abbrev Follows : (r : Ro.Denot) → Says r → Fml
    Follows r s = follows_by D D R.coded.code R.coded.code doc.ghost_name (name_if_ok (λ v. v.ghost_name) r) s.0.0 s.0.1

    abbrev Lent : Ro.Denot → Fml
    Lent r = follows_so R R doc.ghost_name (name_if_ok (λ v. v.ghost_name) r)
        (λ w n. IsOk r → Plain → (p : Path) → Names (map_of (contents_of doc.now)) all p → contents_of n ≡ write_at p (contents_of w) (contents_of doc.now)) (λ n. OnErr r (Plain → contents_of n ≡ contents_of doc.now))

    abbrev Stopped : Ro.Denot → Type 0
    Stopped r = IfOk r (λ v. Plain → FindsContent (contents_of doc.now) all (contents_of v.now)) × IfErr r (λ e. Plain → StopsAtOffset (map_of (contents_of doc.now)) all e.offset)

    exits : (r : Ro.Denot) (v : Val) → Stopped r → ent 𝓤 (sep 𝓤 (sem 𝓛 (Ro.own_val r (v ∷ []))) (sep 𝓤 (sem 𝓛 (Lent r)) Alive)) (Post v)
    exits r v value =
        qed 𝓛 (‵ (Ro.own_val r (v ∷ [])) ∷ ‵ (Lent r) ∷ raw Alive ∷ []) ∵
        suffices ! _ (ends_at 𝓛 end stayed c y v r (tt, (tt, tt)) (tt, (tt, tt))) $
        move ! (2 ∷ []) $
        -- [the tokens; the result; what the document follows]
        nothing ! $ nothing ! $ join ! $ nothing ! $ join ! $ move ! (0 ∷ 2 ∷ []) $ join ! $ move ! (1 ∷ 0 ∷ []) $ join ! $ frame ! $ says ! value $ done !

    arrived : (x : MutBor D) (F : D → D) (i : ℕ) → Kept x.now F i → Ends i
        → ent 𝓤 (sep 𝓤 (sem 𝓛 (Ref x)) (sep 𝓤 (sem 𝓛 (follows R R doc.ghost_name x.ghost_name F)) Alive)) (Post (live 0 (of_list (mut_vals x))))
    unfolding such_by follows_by
    arrived x F i kept none =
        let r : Ro.Denot = Ok x in let v = live 0 (of_list (mut_vals x)) in
        qed 𝓛 (‵ (Ref x) ∷ ‵ (follows R R doc.ghost_name x.ghost_name F) ∷ raw Alive ∷ []) ∵
        use1 𝓛 (‵ (Ro.own_val r (v ∷ []))) (ok_of 𝓛 MR Why x (vptr x.ref_ptr.0 x.ref_ptr.1)) $ move ! (1 ∷ []) $
        fpack ! (Says r) (Follows r) ((F, x.now), (λ w ok plain p named. trail_puts all doc.now x.now F i (kept plain) none w p named), tt) $
        move ! (1 ∷ 0 ∷ []) $ by ! (exits r v ((λ plain. trail_leads all doc.now x.now F i (kept plain) none), tt))

    failed : (x : MutBor D) (F : D → D) (e : TokenError) (ev : Val) (t : D) → (Plain → contents_of (F t) ≡ contents_of doc.now) → Stopped (Err e)
        → ent 𝓤 (sep 𝓤 (sem 𝓛 (Why.own_val e (ev ∷ []))) (sep 𝓤 (A.res x.ghost_name (R.coded.code t)) (sep 𝓤 (sem 𝓛 (follows R R doc.ghost_name x.ghost_name F)) Alive))) (Post (live 1 (of_list (ev ∷ []))))
    unfolding such_by follows_by
    failed x F e ev t same stopped =
        let r : Ro.Denot = Err e in let v = live 1 (of_list (ev ∷ [])) in
        qed 𝓛 (‵ (Why.own_val e (ev ∷ [])) ∷ ‵ (fres x.ghost_name (R.coded.code t)) ∷ ‵ (follows R R doc.ghost_name x.ghost_name F) ∷ raw Alive ∷ []) ∵
        move ! (2 ∷ 1 ∷ []) $ use2 𝓛 (‵ (fres doc.ghost_name (R.coded.code (F t)))) (followed 𝓛 R R F doc.ghost_name x.ghost_name t) $
        fpack ! (Says r) (Follows r) (((λ w. w), F t), (λ w ok. absurd (true≢false (sym ok))), same) $
        move ! (1 ∷ []) $ use1 𝓛 (‵ (Ro.own_val r (v ∷ []))) (err_of 𝓛 MR Why e ev) $
        by ! (exits r v stopped)

    abbrev At : Type 0
    At = (i : ℕ) × (x : MutBor D) × (F : D → D) × (i < 2 ^ 64) × Kept x.now F i

    abbrev Nearer : At → At → Type 0
    Nearer t u = length (text all) - t.0 < length (text all) - u.0

    abbrev Lends : MutBor D → ℕ → Rt.Denot → Fml
    Lends x i r = LendsTokenMove R (λ v. v) x all i r

    abbrev Gives : MutBor D → ℕ → Rt.Denot → Type 0
    Gives x i r = IfOk r (λ t. MovesByToken all i t.down x.now t.next t.node.now) × IfErr r (λ e. (e.offset ≡ i) × IsLostAtToken all i x.now)

    module _ (l : ℕ → ℕ) where
      abbrev En : Env 𝓤 H
      En = env function.locals l

      abbrev Now : At → List (Item 𝓤)
      Now t = ‵ (Ref t.1) ∷ ‵ (follows R R doc.ghost_name t.1.ghost_name t.2) ∷ raw Alive ∷ ‵ Location
          ∷ holding 𝓛 En ((1, vptr doc.ref_ptr.0 doc.ref_ptr.1) ∷ (2, vptr guide.ref_ptr.0 guide.ref_ptr.1) ∷ (3, vptr t.1.ref_ptr.0 t.1.ref_ptr.1) ∷ (4, vint w64 t.0) ∷ [])

      abbrev Turned : At → Out → SProp 𝓤
      Turned t = after_turn 𝓤 H (Below 𝓛 Nearer Now t) (after_block 𝓤 H (after_seq 𝓤 H (Wp 𝓤 H 𝓣.C 𝓣.Λ En (after 3 function.body) (at_return 𝓤 H En Post)) (at_return 𝓤 H En Post)))

      turns : (t : At) → Sq 𝓛 (Now t) (runs 𝓣.C 𝓣.Λ En turn (any_q (Turned t)))
      unfolding after_turn such_by follows_by tables_of
      turns t =
          let i = t.0 in let x = t.1 in let F = t.2 in let fi = t.3 in let kept = t.4 in
          sets ! (addr ! (through ! refl (stop !))) refl (tt, tt) $
          -- what the call asks for
          move ! (3 ∷ []) $ use1 𝓛 (‵ Location ⊛ ‵ Location) ((shr_copy 𝓛 (named 1) κs.1.0 GR guide_laws.the_row_laws.shr_laws).twice guide _) $ split ! $
          nothing ! $ owned ! usize _ (uint_Makes 𝓛 w64) i _ (refl, fi) $ join ! $ move ! (1 ∷ 0 ∷ []) $ join ! $ move ! (2 ∷ 0 ∷ []) $ join ! $ move ! (3 ∷ 0 ∷ []) $ join ! $
          nothing ! $ move ! (1 ∷ 0 ∷ []) $
          let G = triple_of 𝓛 g.signature (g.spec 𝓛 𝓜.mem 𝓡.returns) in
          let z : G.Ghost = ((κs, qs, bounds, (x, (guide, (i, tt))), (mut_vals x, (shr_vals guide, (uint_vals w64 i, tt)))), tt) in
          use2 𝓛 (raw (G.pre z)) (id⊢ 𝓤 _) $
          calls_at ! (framed 𝓤 𝓛.H 𝓜 (tables 𝓤 𝓛.H 𝓜 𝓡 𝓡.env)) G (met 𝓤 𝓛 𝓜 𝓡 (code.calls-jsonptr_patch_journal::token_step::token_step 𝓡.env wired)) z
          (and_then ! (get ! refl) (and_then ! (get ! refl) (and_then ! (get ! refl) (no_more !)))) (λ v.
          use1 𝓛 (later (some (λ (r : Rt.Denot). (raw Alive ⊛ ‵ (Rt.own_val r (v ∷ []))) ⊛
          some (λ (ws : Unit {0} × (Unit {0} × (Unit {0} × Unit {0}))). ‵ (lasts g.ended κs z.0.3 ws) ⊛ ‵ (Lends x i r) ⊛ raw (contract.Monad.fact 𝓤 (Gives x i r)))))) (id⊢ 𝓤 _) $
          await ! tt $ pick ! (λ r. split ! $ split ! $ move ! (2 ∷ []) $ pick ! (λ ws. split3 ! $ drop ! $ move ! (1 ∷ []) $ heard ! _ (λ gives.
          -- [what x follows; the tokens; the result; the way; what the document follows]
          move ! (2 ∷ 0 ∷ 4 ∷ 1 ∷ 3 ∷ []) $
          by_result r
          (λ lent is. rewrite ! 0 (λ (u : Rt.Denot). ‵ (Rt.own_val u (v ∷ []))) is refl $ rewrite ! 1 (λ (u : Rt.Denot). ‵ (Lends x i u)) is refl $
          let here : MovesByToken all i lent.down x.now lent.next lent.node.now = (subst (Gives x i) is gives).0 in
          let fn : lent.next < 2 ^ 64 = move_fits all i lent.down x.now lent.next lent.node.now here in
          use1 𝓛 (given (v ≡ live 0 (vcons (moved_val lent) vnil)) (‵ (Ref lent.node))) (ok_out 𝓛 NL R Why lent v) $ learn ! (λ told.
          move ! (1 ∷ []) $ fpick ! (λ s. let G' : D → D = s.0.0 in let K : D → D = λ m. F (G' m) in
          move ! (2 ∷ 0 ∷ []) $ use2 𝓛 (‵ (follows R R doc.ghost_name lent.node.ghost_name K)) (follows_then 𝓛 R R R F G' doc.ghost_name x.ghost_name lent.node.ghost_name) $ move ! (1 ∷ 0 ∷ []) $
          -- [the node; what the document follows; the tokens; the way]
          lands_as ! told refl (tt, (record { fits = lit< tt }, ((tt, (record { fits = fn }, (tt, tt))), tt))) $
          switches_on ! (get_tag ! (vrt ! refl (fld ! refl (stop !))) (whole !)) $ exec ! 𝓣.C 𝓣.Λ En arm (any_q (Turned t)) $
          sets ! (of_opd ! (get_in ! (vrt ! refl (fld ! refl (stop !))) (in_variant ! 0 0 refl refl (whole !)))) refl (tt, (tt, (record { fits = fn }, (tt, tt)))) $
          sets ! (of_opd ! (get_in ! (fld ! refl (stop !)) (sub ! 0 refl (whole !)))) refl (tt, tt) $
          sets ! (of_opd ! (get_in ! (fld ! refl (stop !)) (sub ! 1 refl (whole !)))) refl (tt, record { fits = fn }) $
          sets ! (of_opd ! (get_in ! (fld ! refl (stop !)) (sub ! 2 refl (whole !)))) refl (tt, tt) $
          sets ! (un ! (get ! refl) tt) refl (tt, tt) $
          first ! $ branches ! (get ! refl)
          (λ stops. let down = off lent.down stops in
          let none = subst (λ d. MovesByToken all i d x.now lent.next lent.node.now) down here in
          let back = λ (m : D). subst (λ d. MovesBackByToken all i d x.now m (G' m)) down (s.1 m) in
          let kept' : Kept lent.node.now K i = λ plain. trail_here all doc.now x.now F i (kept plain) lent.node.now G' none.2 back in
          move ! (3 ∷ []) $ drop ! $
          sets ! (addr ! (through ! refl (stop !))) refl (tt, tt) $
          sets ! (agg ! (and_then ! (lit ! tt) (and_then ! (get ! refl) (no_more !)))) refl (tt, (record { fits = lit< tt }, (tt, tt))) $
          returns_within ! Post refl (look_at ! 0 refl) $ free_all ! refl $
          by ! (arrived lent.node K i kept' none.1))
          (λ goes. let down = on lent.down goes in
          let step = subst (λ d. MovesByToken all i d x.now lent.next lent.node.now) down here in
          let back = λ (m : D). subst (λ d. MovesBackByToken all i d x.now m (G' m)) down (s.1 m) in
          let kept' : Kept lent.node.now K lent.next = λ plain. trail_more all doc.now x.now F i (kept plain) lent.node.now G' lent.next plain step back in
          let farther : i < lent.next = step.1 in
          let within : lent.next ≤ length (text all) = step.2 in
          skips ! $ exec ! 𝓣.C 𝓣.Λ En (after 6 arm) (any_q (Turned t)) $
          sets ! (addr ! (through ! refl (stop !))) refl (tt, tt) $
          sets_last ! (of_opd ! (get ! refl)) refl (tt, record { fits = fn }) $
          forget_but ! En (1 ∷ 2 ∷ 3 ∷ 4 ∷ []) refl $
          again ! Nearer Now t (lent.next, lent.node, K, fn, kept') (omega (arith, farther, within))))))
          (λ e is. rewrite ! 0 (λ (u : Rt.Denot). ‵ (Rt.own_val u (v ∷ []))) is refl $ rewrite ! 1 (λ (u : Rt.Denot). ‵ (Lends x i u)) is refl $
          let told : Gives x i (Err e) = subst (Gives x i) is gives in
          let lost : IsLostAtToken all i x.now = told.1.1 in
          let stopped : Stopped (Err e) = (tt, λ plain. subst (λ (n : ℕ). StopsAtOffset (map_of (contents_of doc.now)) all n) (sym told.1.0) (trail_lost all doc.now x.now F i (kept plain) plain lost)) in
          use1 𝓛 (some (λ (ev : Val). given ((v ≡ live 1 (vcons ev vnil)) × (T (has_ty Whyτ ev) × WT ev)) (‵ (Why.own_val e (ev ∷ []))))) (err_out 𝓛 LR Why Whyτ refl (error_laws.the_row_laws.lawful 𝓛) e v) $ pick ! (λ ev. learn ! (λ told. move ! (1 ∷ []) $ fpick ! (λ s. move ! (1 ∷ []) $
          -- [the fault; the last value of x; what the document follows; the tokens; the way]
          lands_as ! told.0 refl (and_tt _ told.1.0, (record { fits = lit< tt }, (told.1.1, tt))) $
          switches_on ! (get_tag ! (vrt ! refl (fld ! refl (stop !))) (whole !)) $ exec ! 𝓣.C 𝓣.Λ En (arm_body 1 (after 2 turn)) (any_q (Turned t)) $
          sets ! (of_opd ! (get_in ! (vrt ! refl (fld ! refl (stop !))) (in_variant ! 1 0 refl refl (whole !)))) refl told.1 $
          sets ! (agg ! (and_then ! (lit ! tt) (and_then ! (get ! refl) (no_more !)))) refl (and_tt _ told.1.0, (record { fits = lit< tt }, (told.1.1, tt))) $
          move ! (4 ∷ []) $ drop ! $ returns_within ! Post refl (look_at ! 0 refl) $ free_all ! refl $
          by ! (failed x F e ev s.0.1 (λ plain. trail_same all doc.now x.now F i (kept plain) s.0.1 s.2) stopped)))))))))

    walk : ent 𝓤 ((walk_of 𝓛 end stayed c).pre y)
        (WpFn 𝓤 H 𝓣.C 𝓣.Λ function (vptr doc.ref_ptr.0 doc.ref_ptr.1 ∷ vptr guide.ref_ptr.0 guide.ref_ptr.1 ∷ []) Post)
    walk =
        qed 𝓛 ((raw Alive ⊛ (‵ (Ref doc) ⊛ ‵ Location ⊛ ‵ base.Fml.ftrue)) ∷ ‵ base.Fml.ftrue ∷ []) ∵
        split ! $ move ! (2 ∷ []) $ drop ! $ move ! (1 ∷ []) $ split3 ! $ move ! (2 ∷ []) $ drop ! $
        -- [the document; the way; the tokens]
        enter ! 𝓣.C 𝓣.Λ function (vptr doc.ref_ptr.0 doc.ref_ptr.1 ∷ vptr guide.ref_ptr.0 guide.ref_ptr.1 ∷ []) _ $
        alloc_all ! (λ l. pass_all ! refl ((tt, tt), ((tt, tt), tt)) $
        sets ! (of_opd ! (get ! refl)) refl (tt, tt) $ sets ! (of_opd ! (lit ! tt)) refl (tt, record { fits = lit< tt }) $
        use0 𝓛 (‵ (follows R R doc.ghost_name doc.ghost_name (λ w. w))) (follows_self 𝓛 R doc.ghost_name) $ move ! (1 ∷ 0 ∷ 3 ∷ 2 ∷ []) $
        first ! $ blocks ! $ loops ! 𝓣 Nearer (InvImage.wf (λ (t : At). length (text all) - t.0) lt-wf_rel.wf) (Now l) (turns l) (0, doc, (λ w. w), lit< tt, λ plain. trail_none all doc.now))

pub token_mut_spec : {M : Type 1} → statement M
unfolding tables_of
token_mut_spec 𝓤 𝓛 𝓜 𝓡 wired =
    let st : Stays f.ended.signature.params f.ended.kept = stayed 𝓛 𝓜 𝓡 wired in
    let c = f.clauses 𝓛 𝓜.mem 𝓡.returns in
    proved 𝓛 f.ended st c 𝓜 𝓡 (Goes-spent_ref 𝓛 2 (0 ∷ []) tt (plain (λ _. R)), (Goes-dropped 𝓛 2 (RefOf (1 ∷ []) tt (plain (λ κs. guide_row.the_row)) (λ _. tt)) yes (λ κs x f. refl), tt))
    f.Key.name code.function (code.unfolded 𝓤 𝓛.H 𝓜 𝓡 wired)
    (λ κs. (mut_vals, (shr_vals, tt))) (λ κs. (mut_Tells (named 0) κs.0 R, (shr_Tells (named 1) κs.1.0 (guide_row.the_row), tt))) (λ κs qs bounds a _ are.
    walk 𝓛 𝓜 𝓡 wired κs qs bounds a.0 a.1.0)
