use Rattle.std.proofs.Common.{◌≡◌, List, [], ◌∷◌, ◌++◌, length, refl, sym, ap, subst, arith, rules}
use Rattle.std.proofs.lemmas.Result.{IfOk-weaker, on_ok_weaker}
use Rattle.serde_json.specs.declared.value.Value.{Value}
use Rattle.jsonptr_value.specs.Lengths.{elements_length}
use Rattle.jsonptr_value.proofs.LengthLemmas.{elements_length-first}
use Rattle.jsonptr_patch.specs.declared.float_search.Left.TheVariants.{Elements}
use Rattle.jsonptr_patch.specs.PrivateSearching.{ElementsLeadTo, ElementsLack, AllLeadTo, AllLack, stack_length}
use Rattle.jsonptr_patch.proofs.SearchingLemmas.{all_lead-push, all_lack-pop, stack_length-push}
use Rattle.jsonptr_patch.proofs.float_search.look_at_element.Goals as goal

no_length : (vs : List Value) → length vs ≡ 0 → vs ≡ []
no_length [] e = refl
no_length (v ∷ vs) e = absurd (omega (arith, e))

pub returns-in_default-clause-lacks : goal.returns-in_default-clause-lacks
returns-in_default-clause-lacks c = λ off before. (before, subst ElementsLack (sym (no_length c.args.elements.now c.in_default.ensures.cases)) tt)

pub returns-clause-found : goal.returns-clause-found
returns-clause-found c = IfOk-weaker c.look.result _ _ (λ b h. λ v leads on. (subst (ElementsLeadTo v) c.in-Some.ensures.cases.0 leads).0 (h on)) c.look.ensures.found

pub returns-clause-leads : goal.returns-clause-leads
returns-clause-leads c =
    let pushed : c.push.new.self.items ≡ c.args.stack.now.items ++ Elements c.in-Some.rest ∷ [] = search rules in
    on_ok_weaker c.look.result (λ h. λ v leads before.
    let l = subst (ElementsLeadTo v) c.in-Some.ensures.cases.0 leads in
    h v l.0 (subst (AllLeadTo v) (sym pushed) (all_lead-push v c.args.stack.now.items (Elements c.in-Some.rest) before l.1))) c.look.ensures.leads

pub returns-clause-lacks : goal.returns-clause-lacks
returns-clause-lacks c =
    let pushed : c.push.new.self.items ≡ c.args.stack.now.items ++ Elements c.in-Some.rest ∷ [] = search rules in
    IfOk-weaker c.look.result _ _ (λ b h. λ off lack.
    let r = h off lack in
    let p = all_lack-pop c.args.stack.now.items (Elements c.in-Some.rest) (subst AllLack pushed r.0) in
    (p.0, subst ElementsLack (sym c.in-Some.ensures.cases.0) (r.1, p.1))) c.look.ensures.lacks

pub returns-clause-smaller : goal.returns-clause-smaller
returns-clause-smaller c =
    let all : c.args.elements.now ≡ c.in-Some.element.now ∷ c.in-Some.rest.now = c.in-Some.ensures.cases.0 in
    let pushed : c.push.new.self.items ≡ c.args.stack.now.items ++ Elements c.in-Some.rest ∷ [] = search rules in
    on_ok_weaker c.look.result (λ less.
    omega (arith, less, ap stack_length pushed, stack_length-push c.args.stack.now.items (Elements c.in-Some.rest), ap elements_length all, elements_length-first c.in-Some.element.now c.in-Some.rest.now)) c.look.ensures.smaller
