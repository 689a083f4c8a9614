use Rattle.std.proofs.Common.{◌≡◌, [], ◌∷◌, ◌++◌, refl, sym, ap, ◌∙◌, subst, arith}
use Rattle.std.specs.List.Sorted.{IsStrictlySortedBy}
use Rattle.std.specs.Map.{keys_of}
use Rattle.std.specs.String.{string_cmp}
use Rattle.serde_json.specs.Data.{object}
use Rattle.serde_json.specs.View.{view, members_view}
use Rattle.serde_json.proofs.Views.{Entry, view-Object}
use Rattle.jsonptr_value.specs.Lengths.{members_length}
use Rattle.jsonptr_value.proofs.LengthLemmas.{members_length-first}
use Rattle.jsonptr_value.specs.declared.partial.PartialCopy.TheVariants.{Members}
use Rattle.jsonptr_value.specs.PrivatePartial.{ArePartial, completed, join_members, copies_length}
use Rattle.jsonptr_value.proofs.PartialLemmas.{completed-push, partial-push, copies_length-push, join_members-none}
use Rattle.jsonptr_value.proofs.partial.next_member.Goals as goal

pub returns-in_default-clause-completed : goal.returns-in_default-clause-completed
returns-in_default-clause-completed c =
    let none : c.args.left ≡ [] = c.in_default.ensures.steps.0 in
    ap (completed c.args.stack.now.items)
    (view-Object c.args.copies ∙ ap object (sym (join_members-none (members_view c.args.copies.entries)) ∙ ap (λ es. join_members (members_view c.args.copies.entries) (members_view es)) (sym none)))

pub returns-in-Ok-clause-completed : goal.returns-in-Ok-clause-completed
returns-in-Ok-clause-completed c =
    let h = Members c.args.copies c.in-Some.key c.next.new.self in
    let m : Entry = (c.in-Some.key.now, c.in-Some.member.now) in
    let d = view c.in-Some.member.now in
    let all : c.args.left ≡ m ∷ c.next.new.self = c.in-Some.ensures.steps in
    ap (λ hs. completed hs d) c.in-Ok.ensures.items ∙ completed-push c.args.stack.now.items h d
    ∙ ap (λ es. completed c.args.stack.now.items (object (join_members (members_view c.args.copies.entries) (members_view es)))) (sym all)

pub returns-in-Ok-clause-partial : goal.returns-in-Ok-clause-partial
returns-in-Ok-clause-partial c = λ before.
    let h = Members c.args.copies c.in-Some.key c.next.new.self in
    let m : Entry = (c.in-Some.key.now, c.in-Some.member.now) in
    let all : c.args.left ≡ m ∷ c.next.new.self = c.in-Some.ensures.steps in
    let done = c.requires.0 in
    let sorted = subst (λ es. IsStrictlySortedBy string_cmp (keys_of (done ++ es))) all c.requires.2 in
    subst ArePartial (sym c.in-Ok.ensures.items) (partial-push c.args.stack.now.items h before (done, m, c.requires.1, refl, sorted))

pub returns-in-Ok-clause-smaller : goal.returns-in-Ok-clause-smaller
returns-in-Ok-clause-smaller c =
    let h = Members c.args.copies c.in-Some.key c.next.new.self in
    let m : Entry = (c.in-Some.key.now, c.in-Some.member.now) in
    let all : c.args.left ≡ m ∷ c.next.new.self = c.in-Some.ensures.steps in
    omega (arith, ap copies_length c.in-Ok.ensures.items, copies_length-push c.args.stack.now.items h, ap members_length all, members_length-first m c.next.new.self)
