use Rattle.std.proofs.Common.{true, false, IsTrue, ◌↔◌, List, ◌≡◌, [], ◌∷◌, ◌++◌, true≢false, sym, ap, ◌∙◌, subst, append_assoc, append-nil}
use Rattle.serde_json.proofs.Views.{Entry}
use Rattle.serde_json.specs.declared.value.Value.{Value}
use Rattle.jsonptr_tree.proofs.JsonLemmas.{content_of, null_is, bool_is, number_is, string_is}
use Rattle.jsonptr_patch.specs.PrivateTesting.{FloatIn, FloatAmong}
use Rattle.jsonptr_patch.proofs.TestingLemmas.{float_as, float_number, float_part, elements_float, members_float, null_float, boolean_float, string_float, floats_push, float_more, float_here, float_nowhere, float_under, float_under_none}
use Rattle.jsonptr_patch.proofs.equality.+floats.Goals as goal

pub has_float-returns-in-Null : goal.has_float-returns-in-Null
has_float-returns-in-Null t c = float_as _ _ (ap content_of c.in-Null.is ∙ null_is) null_float

pub has_float-returns-in-Bool : goal.has_float-returns-in-Bool
has_float-returns-in-Bool t c = float_as _ _ (ap content_of c.in-Bool.is ∙ bool_is _) (boolean_float _)

pub has_float-returns-in-Number : goal.has_float-returns-in-Number
has_float-returns-in-Number t c = float_number _ _ _ (ap content_of c.in-Number.is ∙ number_is _) c.is_f64.ensures

pub has_float-returns-in-String : goal.has_float-returns-in-String
has_float-returns-in-String t c = float_as _ _ (ap content_of c.in-String.is ∙ string_is _) (string_float _)

pub has_float-returns-in-Array : goal.has_float-returns-in-Array
has_float-returns-in-Array t c = float_part _ _ _ _ c.in-Array.is c.elements_have_float.ensures (elements_float _)

pub has_float-returns-in-Object : goal.has_float-returns-in-Object
has_float-returns-in-Object t c = float_part _ _ _ _ c.in-Object.is c.members_have_float.ensures (members_float _)

pub elements_have_float-loop-element-preserved : goal.elements_have_float-loop-element-preserved
elements_have_float-loop-element-preserved t c =
    let none : FloatIn c.element-item.result → ⊥ = λ f. true≢false (sym (c.has_float.ensures.1 f) ∙ c.if-has_float.false) in
    float_more _ _ c.element-item.result c.loop-element-test.true c.element-item.is none c.loop-element.invariant

pub elements_have_float-returns : goal.elements_have_float-returns
elements_have_float-returns t c = subst (λ (vs : List Value). IsTrue false ↔ FloatAmong vs) c.deref-element-items.ensures.value (float_nowhere _ _ c.loop-element-test.false c.loop-element.invariant)

pub elements_have_float-returns-then-has_float : goal.elements_have_float-returns-then-has_float
elements_have_float-returns-then-has_float t c = subst (λ (vs : List Value). IsTrue true ↔ FloatAmong vs) c.deref-element-items.ensures.value (float_here _ _ c.element-item.result c.loop-element-test.true c.element-item.is (c.has_float.ensures.0 c.if-has_float.true))

pub members_have_float-returns-then-has_float : goal.members_have_float-returns-then-has_float
members_have_float-returns-then-has_float t c =
    let done = c.loop-key.invariant.0 in
    let e : Entry = (c.in-Some._key.now, c.in-Some.member.now) in
    let left = c.next.new.self in
    let all : c.args.members.now.entries ≡ done ++ e ∷ left = c.loop-key.invariant.1 ∙ ap (λ es. done ++ es) c.in-Some.ensures.steps in
    float_under c.args.members.now done e left all c.iter-key-items.ensures.ordered (c.has_float.ensures.0 c.if-has_float.true)

pub members_have_float-loop-key-preserved : goal.members_have_float-loop-key-preserved
members_have_float-loop-key-preserved t c =
    let done = c.loop-key.invariant.0 in
    let e : Entry = (c.in-Some._key.now, c.in-Some.member.now) in
    let left = c.next.new.self in
    let all : c.args.members.now.entries ≡ done ++ e ∷ left = c.loop-key.invariant.1 ∙ ap (λ es. done ++ es) c.in-Some.ensures.steps in
    (done ++ e ∷ [], all ∙ sym (append_assoc done (e ∷ []) left), floats_push done e c.loop-key.invariant.2 (λ f. true≢false (sym (c.has_float.ensures.1 f) ∙ c.if-has_float.false)))

pub members_have_float-returns : goal.members_have_float-returns
members_have_float-returns t c =
    let done = c.loop-key.invariant.0 in
    let all : c.args.members.now.entries ≡ done = c.loop-key.invariant.1 ∙ ap (λ es. done ++ es) c.in-None.ensures.steps.0 ∙ append-nil done in
    float_under_none c.args.members.now done all c.loop-key.invariant.2
