use Rattle.std.proofs.Common.{◌≡◌, List, [], ◌∷◌, ◌++◌, length, refl, sym, ap, subst, arith, rules}
use Rattle.std.proofs.lemmas.Result.{on_ok_weaker}
use Rattle.serde_json.specs.declared.value.Value.{Value}
use Rattle.jsonptr_value.specs.declared.frame.Frame.{Frame}
use Rattle.jsonptr_value.specs.declared.frame.Frame.TheVariants.{Elements}
use Rattle.jsonptr_value.specs.PrivateFrames.{WritesElements, WritesStack, stack_length}
use Rattle.jsonptr_value.specs.Lengths.{elements_length}
use Rattle.jsonptr_value.proofs.StackLemmas.{last_first, stack_length-push}
use Rattle.jsonptr_value.proofs.LengthLemmas.{elements_length-first}
use Rattle.jsonptr_value.proofs.WritingLemmas.{writes_no_elements, writes_element}
use Rattle.jsonptr_value.proofs.frame.step_elements.Goals as goal

no_length : (vs : List Value) → length vs ≡ 0 → vs ≡ []
no_length [] e = refl
no_length (v ∷ vs) e = absurd (omega (arith, e))

pub returns-in_default-clause-written : goal.returns-in_default-clause-written
returns-in_default-clause-written c =
    let none : c.args.elements.now ≡ [] = no_length c.args.elements.now c.in_default.ensures.cases in
    on_ok_weaker c.end_array.result (λ e. λ end h. (_, subst (λ (vs : List Value). WritesElements vs c.args.out.now.tokens c.end_array.new.self.tokens) (sym none) (writes_no_elements _ _ e), h)) c.end_array.ensures.ok

pub returns-clause-written : goal.returns-clause-written
returns-clause-written c =
    let v = c.in-Some.element.now in
    let vs = c.in-Some.rest.now in
    let all : c.args.elements.now ≡ v ∷ vs = c.in-Some.ensures.cases.0 in
    let pushed : c.push.new.self.items ≡ c.args.stack.now.items ++ Elements c.in-Some.rest ∷ [] = search rules in
    on_ok_weaker c.begin.result (λ begun. λ end h.
    let m = begun end h in
    let top = last_first c.args.stack.now.items (Elements c.in-Some.rest) _ _ (subst (λ (fs : List Frame). WritesStack fs m.0 end) pushed m.2) in
    (top.0, subst (λ (xs : List Value). WritesElements xs c.args.out.now.tokens top.0) (sym all) (writes_element v vs _ _ _ m.1 top.1), top.2)) c.begin.ensures.written

pub returns-clause-smaller : goal.returns-clause-smaller
returns-clause-smaller c =
    let v = c.in-Some.element.now in
    let vs = c.in-Some.rest.now in
    let all : c.args.elements.now ≡ v ∷ vs = c.in-Some.ensures.cases.0 in
    let pushed : c.push.new.self.items ≡ c.args.stack.now.items ++ Elements c.in-Some.rest ∷ [] = search rules in
    on_ok_weaker c.begin.result (λ less.
    omega (arith, less, ap stack_length pushed, stack_length-push c.args.stack.now.items (Elements c.in-Some.rest), ap elements_length all, elements_length-first v vs)) c.begin.ensures.smaller
