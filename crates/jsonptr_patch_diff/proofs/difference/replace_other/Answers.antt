use Rattle.serde_json.specs.View.{view}
use Rattle.jsonptr.specs.Json.{nodes}
use Rattle.jsonptr_patch.proofs.OperatingLemmas.{ok_all}
use Rattle.jsonptr_patch_diff.specs.PrivateDiff.{tokens_of}
use Rattle.jsonptr_patch_diff.proofs.SameLemmas.{twin_same}
use Rattle.jsonptr_patch_diff.proofs.ChangeLemmas.{appends_none, changes_replace, not_same}
use Rattle.jsonptr_patch_diff.proofs.TurningLemmas.{turns_nowhere, turns_replace}
use Rattle.jsonptr_patch_diff.proofs.difference.replace_other.Goals as goal

pub returns-then-is_same-clause-turns : goal.returns-then-is_same-clause-turns
returns-then-is_same-clause-turns c = λ other. turns_nowhere (view c.args.new.now) c.args.patch.now.items (tokens_of c.args.at.now) (nodes (view c.args.value.now)) (nodes (view c.args.new.now)) (twin_same _ _ (c.is_same.ensures.0 c.if-is_same.true))

pub returns-then-is_same-clause-changes : goal.returns-then-is_same-clause-changes
returns-then-is_same-clause-changes c = λ other. appends_none _ _

pub returns-clause-changes : goal.returns-clause-changes
returns-clause-changes c = ok_all c.replace.result _ _
    (λ replaced other. changes_replace (tokens_of c.args.at.now) (nodes (view c.args.value.now)) (view c.args.new.now) c.args.patch.now.items c.replace.new.patch.items (not_same _ _ _ c.is_same.ensures c.if-is_same.false) other replaced)
    c.replace.ensures

pub returns-clause-turns : goal.returns-clause-turns
returns-clause-turns c = ok_all c.replace.result _ _
    (λ replaced other. turns_replace c.args.patch.now.items c.replace.new.patch.items (tokens_of c.args.at.now) (nodes (view c.args.value.now)) (view c.args.new.now) (not_same _ _ _ c.is_same.ensures c.if-is_same.false) other replaced)
    c.replace.ensures
