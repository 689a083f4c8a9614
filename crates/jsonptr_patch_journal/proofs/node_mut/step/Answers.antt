use Rattle.std.proofs.Common.{◌≡◌, Some, None, ◌<◌, length, refl, sym, ap, ◌∙◌, subst, arith, string_bytes}
use Rattle.jsonptr.specs.Text.{Text}
use Rattle.jsonptr.specs.Content.{child}
use Rattle.jsonptr.specs.Node.{key, place}
use Rattle.jsonptr_patch_journal.specs.declared.location.LocationStep.{LocationStep}
use Rattle.jsonptr_patch_journal.specs.Location.{path_of, path_step, contents_of}
use Rattle.jsonptr_patch_journal.specs.PrivateNodeMut.{nth}
use Rattle.jsonptr_patch_journal.proofs.WritingLemmas.{nth_at, nth_past, no_element, no_member, array_same, element_beyond, element_found, element_written, object_same, member_lacking, member_found, member_written, moves_back}
use Rattle.jsonptr_patch_journal.proofs.node_mut.step.Goals as goal

pub returns-then-i-len : goal.returns-then-i-len
returns-then-i-len c =
    let ps = c.args.location.now.steps in
    ((refl, (λ w. refl), tt), record { writes_back = tt; value = ((c.ranges.i.fits, nth_past ps.items c.args.i (omega (arith, c.if-i-len.true, c.len.ensures, ps.ok.0)), refl), tt) })

pub returns-then-index-len : goal.returns-then-index-len
returns-then-index-len c =
    let ps = c.args.location.now.steps in let i = c.args.i in let vs = c.in-Some.elements.now in let at = c.args.at.now in let is = c.in-Some.ensures.value in
    let inside : i < length ps.items = omega (arith, c.if-i-len.false, c.len.ensures, ps.ok.0) in
    let named : nth i (path_of c.args.location.now) ≡ Some (place c.in-Index.index) = nth_at ps.items i c.index.result.now inside c.index.ensures ∙ ap (λ (p : LocationStep). Some (path_step p)) c.in-Index.is in
    let within : c.in-Index.index < length vs.items = omega (arith, c.if-index-len.true, c.len-in-Some.ensures, vs.ok.0) in (
      (refl, (λ w. moves_back (path_of c.args.location.now) i (place c.in-Index.index) at w _ named (element_written at vs is c.in-Index.index w)), tt),
      record { writes_back = tt; value = ((omega (arith, c.if-i-len.false, c.len.type_inv), omega arith, place c.in-Index.index, named, element_found at vs is c.in-Index.index c.index_mut-node.result.now within c.index_mut-node.ensures.value), tt) },
    )

pub returns-else-index-len : goal.returns-else-index-len
returns-else-index-len c =
    let ps = c.args.location.now.steps in let i = c.args.i in let vs = c.in-Some.elements.now in let at = c.args.at.now in let is = c.in-Some.ensures.value in
    let inside : i < length ps.items = omega (arith, c.if-i-len.false, c.len.ensures, ps.ok.0) in
    let named : nth i (path_of c.args.location.now) ≡ Some (place c.in-Index.index) = nth_at ps.items i c.index.result.now inside c.index.ensures ∙ ap (λ (p : LocationStep). Some (path_step p)) c.in-Index.is in (
      (refl, (λ w. tt), array_same at vs is),
      record { writes_back = tt; value = (tt, (refl, (place c.in-Index.index, named, element_beyond at vs is c.in-Index.index (omega (arith, c.if-index-len.false, c.len-in-Some.ensures, vs.ok.0))))) },
    )

pub returns-in-None : goal.returns-in-None
returns-in-None c =
    let ps = c.args.location.now.steps in let i = c.args.i in
    let inside : i < length ps.items = omega (arith, c.if-i-len.false, c.len.ensures, ps.ok.0) in
    let named : nth i (path_of c.args.location.now) ≡ Some (place c.in-Index.index) = nth_at ps.items i c.index.result.now inside c.index.ensures ∙ ap (λ (p : LocationStep). Some (path_step p)) c.in-Index.is in
    ((refl, (λ w. tt), refl), record { writes_back = tt; value = (tt, (refl, (place c.in-Index.index, named, no_element c.args.at.now c.in-Index.index c.in-None.ensures.value))) })

pub returns-in-Some-get_mut : goal.returns-in-Some-get_mut
returns-in-Some-get_mut c =
    let ps = c.args.location.now.steps in let i = c.args.i in let m = c.in-Some-as_object_mut.members.now in let at = c.args.at.now in let is = c.in-Some-as_object_mut.ensures.value in
    let inside : i < length ps.items = omega (arith, c.if-i-len.false, c.len.ensures, ps.ok.0) in
    let k = string_bytes c.in-Key.key in
    let named : nth i (path_of c.args.location.now) ≡ Some (key k) = nth_at ps.items i c.index.result.now inside c.index.ensures ∙ ap (λ (p : LocationStep). Some (path_step p)) c.in-Key.is in
    let text : c.as_str.result.now ≡ k = c.as_str.ensures.value in
    let e = c.in-Some-get_mut.node.now in (
      (refl, (λ w. moves_back (path_of c.args.location.now) i (key c.as_str.result.now) at w _ (named ∙ ap (λ (t : Text). Some (key t)) (sym text)) (member_written at m is c.as_str.result.now (c.get_mut.follows.lender w) w (c.get_mut.follows.holds w))), tt),
      record { writes_back = tt; value = ((omega (arith, c.if-i-len.false, c.len.type_inv), omega arith, key k, named, subst (λ (t : Text). child (key t) (contents_of at) ≡ Some (contents_of e)) text (member_found at m is c.as_str.result.now e c.in-Some-get_mut.ensures.value)), tt) },
    )

pub returns-in-None-get_mut : goal.returns-in-None-get_mut
returns-in-None-get_mut c =
    let ps = c.args.location.now.steps in let i = c.args.i in let m = c.in-Some-as_object_mut.members.now in let at = c.args.at.now in let is = c.in-Some-as_object_mut.ensures.value in
    let inside : i < length ps.items = omega (arith, c.if-i-len.false, c.len.ensures, ps.ok.0) in
    let k = string_bytes c.in-Key.key in
    let named : nth i (path_of c.args.location.now) ≡ Some (key k) = nth_at ps.items i c.index.result.now inside c.index.ensures ∙ ap (λ (p : LocationStep). Some (path_step p)) c.in-Key.is in
    let text : c.as_str.result.now ≡ k = c.as_str.ensures.value in (
      (refl, (λ w. tt), object_same at m is c.get_mut.follows.lender-at-none c.get_mut.follows.holds-at-none),
      record { writes_back = tt; value = (tt, (refl, (key k, named, subst (λ (t : Text). child (key t) (contents_of at) ≡ None) text (member_lacking at m is c.as_str.result.now c.in-None-get_mut.ensures.value)))) },
    )

pub returns-in-None-as_object_mut : goal.returns-in-None-as_object_mut
returns-in-None-as_object_mut c =
    let ps = c.args.location.now.steps in let i = c.args.i in
    let inside : i < length ps.items = omega (arith, c.if-i-len.false, c.len.ensures, ps.ok.0) in
    let k = string_bytes c.in-Key.key in
    let named : nth i (path_of c.args.location.now) ≡ Some (key k) = nth_at ps.items i c.index.result.now inside c.index.ensures ∙ ap (λ (p : LocationStep). Some (path_step p)) c.in-Key.is in
    ((refl, (λ w. tt), refl), record { writes_back = tt; value = (tt, (refl, (key k, named, no_member c.args.at.now k c.in-None-as_object_mut.ensures.value))) })
