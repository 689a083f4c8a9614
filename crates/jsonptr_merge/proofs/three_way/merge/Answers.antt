use Rattle.std.proofs.Common.{List, [], Option, subst, refl}
use Rattle.serde_json.specs.View.{view}
use Rattle.serde_json.specs.declared.value.Value.{Value}
use Rattle.jsonptr.specs.Json.{nodes}
use Rattle.jsonptr_merge.specs.Values.{map_in}
use Rattle.jsonptr_merge.specs.Merge.{IsMerge}
use Rattle.jsonptr_merge.specs.PrivateSides.{AppendsConflicts}
use Rattle.jsonptr_merge.specs.declared.conflict.Conflict.{Conflict}
use Rattle.jsonptr_merge.proofs.MergeLemmas.{merge_exists}
use Rattle.jsonptr_merge.proofs.FindingLemmas.{all_conflicts, no_conflicts, not_none, none_left}
use Rattle.jsonptr_merge.proofs.three_way.merge.Goals as goal

pub returns-then-not-is_empty-clause-outcome : goal.returns-then-not-is_empty-clause-outcome
returns-then-not-is_empty-clause-outcome c =
    let b = nodes (view c.args.base.now) in
    let o = nodes (view c.args.ours.now) in
    let t = nodes (view c.args.theirs.now) in
    let cs = c.merge_at.new.conflicts in
    all_conflicts b o t cs.items (not_none cs.items cs.len c.is_empty.result cs.ok.0 c.is_empty.ensures c.if-not-is_empty.true)
    (subst (λ (ds : List Conflict). AppendsConflicts [] b o t ds cs.items) c.new-conflicts.ensures.items c.in_ok-merged.ensures.finds)

pub unreachable-requires : goal.unreachable-requires
unreachable-requires c =
    let b = nodes (view c.args.base.now) in
    let o = nodes (view c.args.ours.now) in
    let t = nodes (view c.args.theirs.now) in
    let cs = c.merge_at.new.conflicts in
    let none = no_conflicts b o t cs.items (none_left cs.items cs.len c.is_empty.result cs.ok.0 c.is_empty.ensures c.if-not-is_empty.false)
    (subst (λ (ds : List Conflict). AppendsConflicts [] b o t ds cs.items) c.new-conflicts.ensures.items c.in_ok-merged.ensures.finds) in
    merge_exists b o t refl refl refl none (subst (λ (v : Option Value). IsMerge b o t (map_in v)) c.in-None.is (c.in_ok-merged.ensures.merges none))
