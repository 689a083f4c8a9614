use Rattle.std.proofs.Common.{◌≡◌, [], ◌∷◌, ◌++◌, string_bytes, sym, ap, ◌∙◌, subst}
use Rattle.std.proofs.lemmas.Result.{IfOk-weaker}
use Rattle.serde_json.specs.Data.{array, object, member}
use Rattle.serde_json.specs.View.{view, items_view, members_view}
use Rattle.serde_json.proofs.Views.{Entry}
use Rattle.jsonptr_value.specs.PrivatePartial.{IsPartial, filled, completed, join_items, join_members}
use Rattle.jsonptr_value.proofs.PartialLemmas.{join_items-append, join_members-append, member_last, sorted_after}
use Rattle.jsonptr_value.proofs.partial.resume.Goals as goal

pub next_member-requires : goal.next_member-requires
next_member-requires c =
    let partial = subst IsPartial c.in-Members.is c.requires in
    let m : Entry = (partial.1.0, c.args.copied) in (
      partial.0 ++ m ∷ [],
      member_last c.in-Members.copies.entries c.in_ok-copies-in-Members.copies.entries (string_bytes c.in-Members.key.now) c.args.copied partial.0 partial.1 c.in-Members.left c.in_ok-copies-in-Members.ensures partial.2 partial.3 partial.4,
      sorted_after partial.0 partial.1 c.args.copied c.in-Members.left partial.4,
    )

pub returns-in_ok-copies-in-Elements-clause-completed : goal.returns-in_ok-copies-in-Elements-clause-completed
returns-in_ok-copies-in-Elements-clause-completed c =
    let stack = c.args.stack.now.items in
    let left = items_view c.in-Elements.left.now in
    let step : array (join_items (items_view c.in_ok-copies-in-Elements.copies.items) left) ≡ filled c.args.partial (view c.args.copied) =
    ap (λ vs. array (join_items (items_view vs) left)) c.in_ok-copies-in-Elements.ensures ∙ ap array (join_items-append c.in-Elements.copies.items c.args.copied left)
    ∙ ap (λ h. filled h (view c.args.copied)) (sym c.in-Elements.is) in
    IfOk-weaker c.next_element.result _ _ (λ next e. e ∙ ap (completed stack) step) c.next_element.ensures.completed

pub returns-in_ok-copies-in-Members-clause-completed : goal.returns-in_ok-copies-in-Members-clause-completed
returns-in_ok-copies-in-Members-clause-completed c =
    let stack = c.args.stack.now.items in
    let left = members_view c.in-Members.left in
    let partial = subst IsPartial c.in-Members.is c.requires in
    let m : Entry = (partial.1.0, c.args.copied) in
    let last = member_last c.in-Members.copies.entries c.in_ok-copies-in-Members.copies.entries (string_bytes c.in-Members.key.now) c.args.copied partial.0 partial.1 c.in-Members.left c.in_ok-copies-in-Members.ensures partial.2 partial.3 partial.4 in
    let step : object (join_members (members_view c.in_ok-copies-in-Members.copies.entries) left) ≡ filled c.args.partial (view c.args.copied) =
    ap (λ ms. object (join_members ms left)) last ∙ ap object (join_members-append partial.0 m left)
    ∙ ap (λ ms. object (join_members ms (member (string_bytes partial.1.0) (view c.args.copied) left))) (sym partial.2)
    ∙ ap (λ k. object (join_members (members_view c.in-Members.copies.entries) (member k (view c.args.copied) left))) (sym partial.3)
    ∙ ap (λ h. filled h (view c.args.copied)) (sym c.in-Members.is) in
    IfOk-weaker c.next_member.result _ _ (λ next e. e ∙ ap (completed stack) step) c.next_member.ensures.completed
