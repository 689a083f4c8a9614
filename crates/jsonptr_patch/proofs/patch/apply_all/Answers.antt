use Rattle.std.proofs.Common.{◌≡◌, [], ◌∷◌, length, rules}
use Rattle.serde_json.specs.View.{view}
use Rattle.jsonptr.specs.Json.{nodes}
use Rattle.jsonptr_walk.proofs.FollowLemmas.{refused_on}
use Rattle.jsonptr_patch.proofs.LaterLemmas.{refused_last, records_both}
use Rattle.jsonptr_patch.proofs.OperatingLemmas.{ok_all, patches_push_by, refused_all, refused_longer}
use Rattle.jsonptr_patch.proofs.patch.apply_all.Goals as goal

pub returns-in_err-record_all-clause-refused : goal.returns-in_err-record_all-clause-refused
returns-in_err-record_all-clause-refused c = refused_on (Unit {0}) _ c.in_err-record_all.field-0.0 _ _ (λ e. refused_longer c.args.first.comparison _ c.args.operations.items (c.args.last ∷ []) e) c.in_err-record_all.ensures.refused c.from_residual.ensures.1

pub returns-clause-applied : goal.returns-clause-applied
returns-clause-applied c =
    let done = c.in_ok-record_all.ensures.applied in
    ok_all c.finish.result _ _ (λ h. patches_push_by c.args.first.comparison _ _ _ c.args.operations.items c.args.last done.1 (h done.0 done.2)) c.finish.ensures.applied

pub returns-clause-refused : goal.returns-clause-refused
returns-clause-refused c =
    let counted : c.len-number.result ≡ length c.args.operations.items = search (rules, c.len-number.ensures) in
    let done = c.in_ok-record_all.ensures.applied in
    refused_all c.finish.result _ _ (λ e r. refused_last c.args.first.comparison (nodes (view c.args.document.now)) done.0 c.args.operations.items c.args.last _ e counted done.1 (r done.0 done.2)) c.finish.ensures.refused

pub returns-clause-undone : goal.returns-clause-undone
returns-clause-undone c = records_both c.args.document.now c.record_all.new.document c.finish.new.document c.args.run.now.journal c.record_all.new.run.journal c.finish.new.run.journal c.finish.result c.in_ok-record_all.ensures.undone c.finish.ensures.undone
