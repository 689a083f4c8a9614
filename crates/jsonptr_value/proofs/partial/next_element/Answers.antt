use Rattle.std.proofs.Common.{◌≡◌, [], ◌∷◌, ◌++◌, sym, ap, ◌∙◌, subst, arith, rules}
use Rattle.serde_json.specs.Data.{array}
use Rattle.serde_json.specs.View.{view, items_view}
use Rattle.serde_json.proofs.Views.{view-Array}
use Rattle.jsonptr_value.specs.Lengths.{elements_length}
use Rattle.jsonptr_value.proofs.LengthLemmas.{elements_length-first}
use Rattle.jsonptr_value.specs.declared.partial.PartialCopy.TheVariants.{Elements}
use Rattle.jsonptr_value.specs.PrivatePartial.{ArePartial, completed, join_items, copies_length}
use Rattle.jsonptr_value.proofs.PartialLemmas.{no_length, completed-push, partial-push, copies_length-push, join_items-none}
use Rattle.jsonptr_value.proofs.partial.next_element.Goals as goal

pub returns-in_default-clause-completed : goal.returns-in_default-clause-completed
returns-in_default-clause-completed c =
    let none : c.args.left.now ≡ [] = no_length c.args.left.now c.in_default.ensures.cases in
    ap (completed c.args.stack.now.items)
    (view-Array c.args.copies ∙ ap array (sym (join_items-none (items_view c.args.copies.items)) ∙ ap (λ vs. join_items (items_view c.args.copies.items) (items_view vs)) (sym none)))

pub returns-in-Ok-clause-completed : goal.returns-in-Ok-clause-completed
returns-in-Ok-clause-completed c =
    let h = Elements c.args.copies c.in-Some.rest in
    let all : c.args.left.now ≡ c.in-Some.element.now ∷ c.in-Some.rest.now = c.in-Some.ensures.cases.0 in
    let pushed : c.push.new.self.items ≡ c.args.stack.now.items ++ h ∷ [] = search rules in
    ap (λ hs. completed hs (view c.in-Some.element.now)) pushed ∙ completed-push c.args.stack.now.items h (view c.in-Some.element.now)
    ∙ ap (λ vs. completed c.args.stack.now.items (array (join_items (items_view c.args.copies.items) (items_view vs)))) (sym all)

pub returns-in-Ok-clause-partial : goal.returns-in-Ok-clause-partial
returns-in-Ok-clause-partial c = λ before.
    let h = Elements c.args.copies c.in-Some.rest in
    let pushed : c.push.new.self.items ≡ c.args.stack.now.items ++ h ∷ [] = search rules in
    subst ArePartial (sym pushed) (partial-push c.args.stack.now.items h before tt)

pub returns-in-Ok-clause-smaller : goal.returns-in-Ok-clause-smaller
returns-in-Ok-clause-smaller c =
    let h = Elements c.args.copies c.in-Some.rest in
    let all : c.args.left.now ≡ c.in-Some.element.now ∷ c.in-Some.rest.now = c.in-Some.ensures.cases.0 in
    let pushed : c.push.new.self.items ≡ c.args.stack.now.items ++ h ∷ [] = search rules in
    omega (arith, ap copies_length pushed, copies_length-push c.args.stack.now.items h, ap elements_length all, elements_length-first c.in-Some.element.now c.in-Some.rest.now)
