-- Moving and copying by their parts, and the addition that restores what was deleted.
use Rattle.std.proofs.Common.{List, sym, subst}
use Rattle.serde_json.specs.Data.{null}
use Rattle.serde_json.specs.View.{view}
use Rattle.serde_json.specs.declared.value.Value.{Value}
use Rattle.jsonptr.specs.Text.{Text}
use Rattle.jsonptr.specs.Node.{NodeMap}
use Rattle.jsonptr.specs.Following.{Finds}
use Rattle.jsonptr.specs.Json.{nodes}
use Rattle.jsonptr.specs.Removing.{Deletes}
use Rattle.jsonptr_tree.proofs.FollowingLemmas.{Finds_one}
use Rattle.jsonptr_patch.specs.Adding.{Adds}
use Rattle.jsonptr_patch.specs.Operating.{IsProperPrefix, Applies, RestoresAt}
use Rattle.jsonptr_patch.specs.declared.operation.Operation.{Operation}
use Rattle.jsonptr_patch.specs.declared.operation.Operation.TheVariants.{Add, Remove, Move, Copy}
use Rattle.jsonptr_patch.proofs.RestoringLemmas.{restored}

pub move_parts : (n m : NodeMap) (from path : List Text) (value : Value) → Applies n (Move from path) m → Finds n from (nodes (view value)) → (left : NodeMap) × Applies n (Remove from) left × Applies left (Add path value) m
move_parts n m from path value a found = (a.left, (a.node, a.taken), subst (λ (q : NodeMap). Adds a.left path q m) (Finds_one n from a.node (nodes (view value)) a.taken.found found) a.added)

pub move_whole : (n left m : NodeMap) (from path : List Text) (value : Value) → (IsProperPrefix from path → ⊥) → Finds n from (nodes (view value)) → Applies n (Remove from) left → Applies left (Add path value) m → Applies n (Move from path) m
move_whole n left m from path value apart found removed added = record {
  node = nodes (view value);
  left = left;
  apart = apart;
  taken = record { found = found; left = removed.1.left };
  added = added;
}

pub copy_parts : (n m : NodeMap) (from path : List Text) (value : Value) → Applies n (Copy from path) m → Finds n from (nodes (view value)) → Applies n (Add path value) m
copy_parts n m from path value a found = subst (λ (q : NodeMap). Adds n path q m) (Finds_one n from a.node (nodes (view value)) a.found found) a.added

pub copy_whole : (n m : NodeMap) (from path : List Text) (value : Value) → Finds n from (nodes (view value)) → Applies n (Add path value) m → Applies n (Copy from path) m
copy_whole n m from path value found added = record { node = nodes (view value); found = found; added = added }

pub restoring : (n m : NodeMap) (tokens : List Text) (o : Operation) → RestoresAt n tokens o → Deletes n tokens (nodes null) m → Applies m o n
restoring n m tokens o r gone = subst (λ (q : Operation). Applies m q n) (sym r.1) (restored n m (nodes (view r.0)) (nodes null) tokens r.2 gone)
