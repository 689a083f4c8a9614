use Rattle.jsonptr_merge.specs.Values.{no_value, map_in}
use Rattle.jsonptr_merge.specs.PrivateObjects.{side_map}
use Rattle.jsonptr_merge.specs.PrivateTrail.{tokens_of}
use Rattle.jsonptr_merge.proofs.MergeLemmas.{apart_merges, not_objects}
use Rattle.jsonptr_merge.proofs.FindingLemmas.{one_found, ok_step, ok_all}
use Rattle.jsonptr_merge.proofs.three_way.merge_added.Goals as goal

pub returns-in-Not-clause-merges : goal.returns-in-Not-clause-merges
returns-in-Not-clause-merges c =
    ok_all c.append_conflict.result _ (λ m. apart_merges no_value (side_map c.args.ours) (side_map c.args.theirs) (map_in m) c.in-Not.ensures.settled (not_objects (side_map c.args.ours) (side_map c.args.theirs)))

pub returns-in-Not-clause-finds : goal.returns-in-Not-clause-finds
returns-in-Not-clause-finds c =
    ok_step c.append_conflict.result _ _
    (one_found (tokens_of c.args.at.now) no_value (side_map c.args.ours) (side_map c.args.theirs) c.args.conflicts.now.items c.append_conflict.new.conflicts.items c.in-Not.ensures.settled (not_objects (side_map c.args.ours) (side_map c.args.theirs)))
    c.append_conflict.ensures.appends
