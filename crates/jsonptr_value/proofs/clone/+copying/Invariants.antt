use Rattle.std.proofs.Common.{◌≡◌, ◌+◌, ◌*◌, List, ◌++◌, drop}
use Rattle.serde_json.specs.View.{items_view, members_view}
use Rattle.serde_json.proofs.Views.{Entry}
use Rattle.jsonptr_value.specs.PrivatePartial.{join_items}
use Rattle.jsonptr_value.proofs.clone.+copying.Given as goal

-- the copies and the elements that are left are all elements
abbrev pub invariant-copy_elements-loop-element : goal.invariant-copy_elements-loop-element
invariant-copy_elements-loop-element l = join_items (items_view l.copies.items) (items_view (drop l.element-index l.element-items)) ≡ items_view l.element-items

-- the copies are the members before those that are left
abbrev pub invariant-copy_members-loop-key : goal.invariant-copy_members-loop-key
invariant-copy_members-loop-key l =
    (done : List Entry) × (l.members.entries ≡ done ++ l.key-iterator) × (members_view l.copies.entries ≡ members_view done)

abbrev pub decreases-copy_within : goal.decreases-copy_within
decreases-copy_within l = 2 * l.levels

abbrev pub decreases-copy_elements : goal.decreases-copy_elements
decreases-copy_elements l = 2 * l.levels + 1

abbrev pub decreases-copy_members : goal.decreases-copy_members
decreases-copy_members l = 2 * l.levels + 1
