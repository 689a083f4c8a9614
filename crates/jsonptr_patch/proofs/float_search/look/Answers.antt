use Rattle.std.proofs.Common.{◌≡◌, [], ◌∷◌, ◌++◌, true≢false, sym, ap, ◌∙◌, subst, arith, rules}
use Rattle.serde_json.specs.Data.{array, object}
use Rattle.serde_json.specs.View.{view, items_view, members_view}
use Rattle.serde_json.proofs.Views.{view-Array, view-Object}
use Rattle.jsonptr_value.specs.Lengths.{token_count}
use Rattle.jsonptr_tree.proofs.JsonLemmas.{content_of, null_is, bool_is, number_is, string_is}
use Rattle.jsonptr_patch.specs.PrivateTesting.{FloatIn}
use Rattle.jsonptr_patch.specs.declared.float_search.Left.TheVariants.{Elements, Members}
use Rattle.jsonptr_patch.specs.PrivateSearching.{ElementsLeadTo, ElementsLack, AllLeadTo, AllLack, stack_length}
use Rattle.jsonptr_patch.proofs.TestingLemmas.{float_as, float_number, null_float, boolean_float, string_float}
use Rattle.jsonptr_patch.proofs.SearchingLemmas.{all_lead-push, all_lack-pop, stack_length-push, elements_lead, elements_lack, members_lead, members_lack}
use Rattle.jsonptr_patch.proofs.float_search.look.Goals as goal

pub returns-in-Null-clause-lacks : goal.returns-in-Null-clause-lacks
returns-in-Null-clause-lacks c = λ off before. (before, λ f. true≢false (sym ((float_as _ _ (ap content_of c.in-Null.is ∙ null_is) null_float).1 f)))

pub returns-in-Bool-clause-lacks : goal.returns-in-Bool-clause-lacks
returns-in-Bool-clause-lacks c = λ off before. (before, λ f. true≢false (sym ((float_as _ _ (ap content_of c.in-Bool.is ∙ bool_is _) (boolean_float _)).1 f)))

pub returns-in-String-clause-lacks : goal.returns-in-String-clause-lacks
returns-in-String-clause-lacks c = λ off before. (before, λ f. true≢false (sym ((float_as _ _ (ap content_of c.in-String.is ∙ string_is _) (string_float _)).1 f)))

pub returns-in-Number-clause-found : goal.returns-in-Number-clause-found
returns-in-Number-clause-found c = (float_number _ _ _ (ap content_of c.in-Number.is ∙ number_is _) c.is_f64.ensures).0

pub returns-in-Number-clause-lacks : goal.returns-in-Number-clause-lacks
returns-in-Number-clause-lacks c = λ off before. (before, λ f. true≢false (sym ((float_number _ _ _ (ap content_of c.in-Number.is ∙ number_is _) c.is_f64.ensures).1 f) ∙ off))

pub returns-in_ok-push-in-Array-clause-leads : goal.returns-in_ok-push-in-Array-clause-leads
returns-in_ok-push-in-Array-clause-leads c = λ v to before.
    let pushed : c.push.new.self.items ≡ c.args.stack.now.items ++ Elements c.as_slice.result ∷ [] = search rules in
    let lead = elements_lead v c.in-Array.elements (λ f. to (subst FloatIn (sym c.in-Array.is) f)) in
    subst (AllLeadTo v) (sym pushed) (all_lead-push v c.args.stack.now.items (Elements c.as_slice.result) before (subst (ElementsLeadTo v) (sym c.as_slice.ensures.value) lead))

pub returns-in_ok-push-in-Array-clause-lacks : goal.returns-in_ok-push-in-Array-clause-lacks
returns-in_ok-push-in-Array-clause-lacks c = λ off lack.
    let pushed : c.push.new.self.items ≡ c.args.stack.now.items ++ Elements c.as_slice.result ∷ [] = search rules in
    let h = all_lack-pop c.args.stack.now.items (Elements c.as_slice.result) (subst AllLack pushed lack) in
    (h.0, λ f. elements_lack c.in-Array.elements (subst ElementsLack c.as_slice.ensures.value h.1) (subst FloatIn c.in-Array.is f))

pub returns-in_ok-push-in-Array-clause-smaller : goal.returns-in_ok-push-in-Array-clause-smaller
returns-in_ok-push-in-Array-clause-smaller c =
    let vs = c.as_slice.result.now in
    let seen : array (items_view vs) ≡ view c.args.value.now = ap (λ xs. array (items_view xs)) c.as_slice.ensures.value ∙ sym (ap view c.in-Array.is ∙ view-Array c.in-Array.elements) in
    let pushed : c.push.new.self.items ≡ c.args.stack.now.items ++ Elements c.as_slice.result ∷ [] = search rules in
    omega (arith, ap stack_length pushed, stack_length-push c.args.stack.now.items (Elements c.as_slice.result), ap token_count seen)

pub returns-in_ok-push-in-Object-clause-leads : goal.returns-in_ok-push-in-Object-clause-leads
returns-in_ok-push-in-Object-clause-leads c = λ v to before.
    let es = c.in-Object.members.entries in
    let pushed : c.push-in-Object.new.self.items ≡ c.args.stack.now.items ++ Members es ∷ [] = search rules in
    let lead = members_lead v c.in-Object.members c.iter.ensures.ordered (λ f. to (subst FloatIn (sym c.in-Object.is) f)) in
    subst (AllLeadTo v) (sym pushed) (all_lead-push v c.args.stack.now.items (Members es) before lead)

pub returns-in_ok-push-in-Object-clause-lacks : goal.returns-in_ok-push-in-Object-clause-lacks
returns-in_ok-push-in-Object-clause-lacks c = λ off lack.
    let es = c.in-Object.members.entries in
    let pushed : c.push-in-Object.new.self.items ≡ c.args.stack.now.items ++ Members es ∷ [] = search rules in
    let h = all_lack-pop c.args.stack.now.items (Members es) (subst AllLack pushed lack) in
    (h.0, λ f. members_lack c.in-Object.members h.1 (subst FloatIn c.in-Object.is f))

pub returns-in_ok-push-in-Object-clause-smaller : goal.returns-in_ok-push-in-Object-clause-smaller
returns-in_ok-push-in-Object-clause-smaller c =
    let es = c.in-Object.members.entries in
    let seen : object (members_view es) ≡ view c.args.value.now = sym (ap view c.in-Object.is ∙ view-Object c.in-Object.members) in
    let pushed : c.push-in-Object.new.self.items ≡ c.args.stack.now.items ++ Members es ∷ [] = search rules in
    omega (arith, ap stack_length pushed, stack_length-push c.args.stack.now.items (Members es), ap token_count seen)
