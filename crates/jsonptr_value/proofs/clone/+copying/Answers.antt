use Rattle.std.proofs.Common.{◌≡◌, ◌+◌, List, [], ◌∷◌, ◌++◌, drop, sym, ap, ◌∙◌, subst, append_assoc, arith}
use Rattle.std.proofs.lemmas.List.{drop_more, drop_all}
use Rattle.std.specs.List.Sorted.{IsStrictlySortedBy}
use Rattle.std.specs.Map.{keys_of}
use Rattle.std.specs.String.{string_cmp}
use Rattle.serde_json.specs.Data.{Data, item}
use Rattle.serde_json.specs.View.{items_view}
use Rattle.serde_json.specs.declared.value.Value.{Value}
use Rattle.serde_json.proofs.Views.{Entry, put_last}
use Rattle.jsonptr_value.specs.PrivatePartial.{join_items}
use Rattle.jsonptr_value.proofs.PartialLemmas.{join_items-append, join_items-none}
use Rattle.jsonptr_value.proofs.clone.+copying.Goals as goal

pub copy_elements-loop-element-preserved : goal.copy_elements-loop-element-preserved
copy_elements-loop-element-preserved t c =
    let l = c.loop-element in
    let xs = c.deref-element-items.result.now in
    let x = c.element-item.result in
    let left = items_view (drop (l.element-index + 1) xs) in
    let here : drop l.element-index xs ≡ x ∷ drop (l.element-index + 1) xs = drop_more xs l.element-index x (omega arith) ∙ ap (λ y. y ∷ drop (l.element-index + 1) xs) (sym c.element-item.is) in
    ap (λ (vs : List Value). join_items (items_view vs) left) c.in_ok-copies-in-Ok.ensures
    ∙ join_items-append l.copies.items c.in-Ok.copied left
    ∙ ap (λ (d : Data). join_items (items_view l.copies.items) (item d left)) c.in-Ok.ensures
    ∙ ap (λ (vs : List Value). join_items (items_view l.copies.items) (items_view vs)) (sym here)
    ∙ l.invariant

pub copy_elements-returns : goal.copy_elements-returns
copy_elements-returns t c =
    let l = c.loop-element in
    let xs = c.deref-element-items.result.now in
    let none : drop l.element-index xs ≡ [] = drop_all l.element-index xs (omega arith) in
    sym (join_items-none (items_view l.copies.items))
    ∙ ap (λ (vs : List Value). join_items (items_view l.copies.items) (items_view vs)) (sym none)
    ∙ l.invariant
    ∙ ap items_view c.deref-element-items.ensures.value

pub copy_members-loop-key-preserved : goal.copy_members-loop-key-preserved
copy_members-loop-key-preserved t c =
    let l = c.loop-key in
    let done = l.invariant.0 in
    let e : Entry = (c.in-Some.key.now, c.in-Some.member.now) in
    let left = c.next.new.self in
    let all : c.args.members.now.entries ≡ done ++ e ∷ left = l.invariant.1 ∙ ap (λ (es : List Entry). done ++ es) c.in-Some.ensures.steps in
    let last = put_last done e left (subst (λ (es : List Entry). IsStrictlySortedBy string_cmp (keys_of es)) all c.iter-key-items.ensures.ordered) in (
      done ++ e ∷ [],
      all ∙ sym (append_assoc done (e ∷ []) left),
      c.in_ok-copies-in-Ok.ensures ∙ rw (c.in-Ok.ensures, l.invariant.2) last,
    )
