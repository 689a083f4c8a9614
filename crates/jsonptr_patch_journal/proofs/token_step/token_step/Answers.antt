use Rattle.std.proofs.Common.{◌≡◌, ℕ, ◌<◌, List, Some, None, refl, sym, ◌∙◌, subst}
use Rattle.serde_json.specs.declared.value.Value.{Object}
use Rattle.jsonptr.specs.Text.{Text, HasNoTilde, text}
use Rattle.jsonptr.specs.Content.{child}
use Rattle.jsonptr.specs.Node.{key, place}
use Rattle.jsonptr_patch_journal.specs.Location.{contents_of}
use Rattle.jsonptr_patch_journal.specs.Writing.{write_step}
use Rattle.jsonptr_patch_journal.specs.PrivateTokenStep.{IsTokenAt}
use Rattle.jsonptr_patch_journal.proofs.WritingLemmas.{no_member, element_found, element_written, object_same, member_lacking, member_found, member_written}
use Rattle.jsonptr_patch_journal.proofs.TokenLemmas.{element_within, element_named, member_named, lacks_step, move_back, move_down, plain_at}
use Rattle.jsonptr_patch_journal.proofs.token_step.token_step.Goals as goal

pub index_mut-node-requires : goal.index_mut-node-requires
index_mut-node-requires c =
    let vs = c.in-Some-as_array_mut.elements.now in
    subst (λ (n : ℕ). c.in-Some-element_in.index < n) (sym vs.ok.0) (element_within c.args.at.now vs c.in-Some-as_array_mut.ensures.value c.in-Some.token c.in-Some-element_in.index c.in-Some-element_in.ensures)

pub returns-in-Some-as_array_mut : goal.returns-in-Some-as_array_mut
returns-in-Some-as_array_mut c =
    let ts = c.args.pointer.now in let o = c.args.offset in let x = c.in-Some.token in let next = c.in-Some.next in
    let t : IsTokenAt ts o x next = subst (λ (us : List Text). IsTokenAt us o x next) c.as_ptr.ensures.tokens c.in-Some.ensures in
    let at = c.args.at.now in let vs = c.in-Some-as_array_mut.elements.now in let is = c.in-Some-as_array_mut.ensures.value in let i = c.in-Some-element_in.index in let e = c.index_mut-node.result.now in
    let named = λ (plain : HasNoTilde (text ts)). element_named (contents_of at) x i c.in-Some-element_in.ensures in
    let within : i < _ = element_within at vs is x i c.in-Some-element_in.ensures in (
      (refl, (λ w. move_back ts o x next (place i) at w _ t named (λ plain. element_written at vs is i w)), tt),
      record { writes_back = tt; value = (move_down ts o x next (place i) at e t named (λ plain. element_found at vs is i e within c.index_mut-node.ensures.value), tt) },
    )

pub returns-in-Some-get_mut : goal.returns-in-Some-get_mut
returns-in-Some-get_mut c =
    let ts = c.args.pointer.now in let o = c.args.offset in let x = c.in-Some.token in let next = c.in-Some.next in
    let t : IsTokenAt ts o x next = subst (λ (us : List Text). IsTokenAt us o x next) c.as_ptr.ensures.tokens c.in-Some.ensures in
    let at = c.args.at.now in let m = c.in-Some-as_object_mut.members.now in let is = c.in-Some-as_object_mut.ensures.value in let k = c.encoded.result.now in let e = c.in-Some-get_mut.node.now in
    let read = λ (plain : HasNoTilde (text ts)). c.encoded.ensures ∙ plain_at ts o x next t plain in
    let named = λ (plain : HasNoTilde (text ts)). member_named at m x is in (
      (
        refl,
        (λ w. move_back ts o x next (key x) at w _ t named
            (λ plain. subst (λ (q : Text). contents_of (Object (c.get_mut.follows.lender w)) ≡ write_step (key q) (contents_of w) (contents_of at)) (read plain) (member_written at m is k (c.get_mut.follows.lender w) w (c.get_mut.follows.holds w)))),
        tt,
      ),
      record {
        writes_back = tt;
        value = (move_down ts o x next (key x) at e t named (λ plain. subst (λ (q : Text). child (key q) (contents_of at) ≡ Some (contents_of e)) (read plain) (member_found at m is k e c.in-Some-get_mut.ensures.value)), tt);
      },
    )

pub returns-in-Some-as_object_mut : goal.returns-in-Some-as_object_mut
returns-in-Some-as_object_mut c =
    let ts = c.args.pointer.now in let o = c.args.offset in let x = c.in-Some.token in let next = c.in-Some.next in
    let t : IsTokenAt ts o x next = subst (λ (us : List Text). IsTokenAt us o x next) c.as_ptr.ensures.tokens c.in-Some.ensures in
    let at = c.args.at.now in let m = c.in-Some-as_object_mut.members.now in let is = c.in-Some-as_object_mut.ensures.value in let k = c.encoded.result.now in
    let read = λ (plain : HasNoTilde (text ts)). c.encoded.ensures ∙ plain_at ts o x next t plain in (
      (refl, (λ w. tt), object_same at m is c.get_mut.follows.lender-at-none c.get_mut.follows.holds-at-none),
      record {
        writes_back = tt;
        value = (
          tt,
          (
            refl,
            λ plain. (t.front, x, t.rest, t.begins, lacks_step (contents_of at) x c.in-None.ensures (subst (λ (q : Text). child (key q) (contents_of at) ≡ None) (read plain) (member_lacking at m is k c.in-None-get_mut.ensures.value))),
          ),
        );
      },
    )

pub returns : goal.returns
returns c =
    let ts = c.args.pointer.now in let o = c.args.offset in let x = c.in-Some.token in let next = c.in-Some.next in
    let t : IsTokenAt ts o x next = subst (λ (us : List Text). IsTokenAt us o x next) c.as_ptr.ensures.tokens c.in-Some.ensures in
    let at = c.args.at.now in (
      (refl, (λ w. tt), refl),
      record {
        writes_back = tt;
        value = (tt, (refl, λ plain. (t.front, x, t.rest, t.begins, lacks_step (contents_of at) x c.in-None.ensures (no_member at x c.in-None-as_object_mut.ensures.value))));
      },
    )
