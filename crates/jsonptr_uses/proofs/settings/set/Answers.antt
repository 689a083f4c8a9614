use Rattle.std.proofs.lemmas.Result.{IfOk-weaker}
use Rattle.serde_json.specs.View.{view}
use Rattle.jsonptr.specs.Json.{content, nodes}
use Rattle.jsonptr.specs.Expansion.{expanded}
use Rattle.jsonptr.specs.Assigning.{with_room}
use Rattle.jsonptr.proofs.Calling.{map_of-IsTree, Assigns-Finds}
use Rattle.jsonptr_uses.proofs.SettingsLemmas.{assigned_apart, set_at, nothing_apart}
use Rattle.jsonptr_uses.proofs.settings.set.Goals as goal

pub returns-clause-found : goal.returns-clause-found
returns-clause-found c =
    IfOk-weaker c.assign_json.result _ _
    (λ old assigned plain. Assigns-Finds _ _ _ _ _ assigned plain (map_of-IsTree (content (view c.args.value))).root)
    c.assign_json.ensures.assigned

pub returns-clause-others : goal.returns-clause-others
returns-clause-others c =
    IfOk-weaker c.assign_json.result _ _
    (λ old assigned. assigned_apart _ _ _ _ _ assigned)
    c.assign_json.ensures.assigned

pub returns-clause-location : goal.returns-clause-location
returns-clause-location c =
    let n = nodes (view c.args.top.now) in
    let m = nodes (view c.assign_json.new.document) in
    let v = nodes (view c.args.value) in
    IfOk-weaker c.assign_json.result _ _
    (λ old assigned. set_at n _ v m _ assigned
    (map_of-IsTree (content (view c.args.top.now)))
    (map_of-IsTree (content (view c.assign_json.new.document)))
    (map_of-IsTree (content (view c.args.value))).root
    ((c.put_law.ensures.whole (with_room n assigned.path) assigned.path (expanded assigned.left v) m).0 assigned.made))
    c.assign_json.ensures.assigned

pub returns-clause-nothing : goal.returns-clause-nothing
returns-clause-nothing c =
    IfOk-weaker c.assign_json.result _ _
    (λ _ (at : _) plain. nothing_apart _ _ at.0 _ _ at.1 at.2 plain)
    (returns-clause-location c)
