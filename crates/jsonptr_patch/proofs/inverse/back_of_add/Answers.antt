use Rattle.std.proofs.Common.{inl, inr}
use Rattle.serde_json.specs.View.{view}
use Rattle.jsonptr.specs.Json.{nodes}
use Rattle.jsonptr.specs.Pointer.{tokens}
use Rattle.jsonptr_patch.proofs.AddingLemmas.{copy_ascends, found_copy, named_refused}
use Rattle.jsonptr_patch.proofs.InverseLemmas.{place_object}
use Rattle.jsonptr_patch.proofs.inverse.back_of_add.Goals as goal

pub returns-in-Ok-clause-back : goal.returns-in-Ok-clause-back
returns-in-Ok-clause-back c =
    let found = rw c.in-Member.is at c.in_ok-target_of.ensures.found in
    (c.in_ok-to_buf-in-Ok.ensures, found_copy _ _ _ _ c.in-Ok.ensures.found c.in_ok-copy-in-Ok.ensures, inr (place_object (nodes (view c.args.document.now)) (tokens c.args.path) c.in-Member.object c.in-Member.key found))

pub returns-in-Err-Refused-clause-back : goal.returns-in-Err-Refused-clause-back
returns-in-Err-Refused-clause-back c =
    let found = rw c.in-Member.is at c.in_ok-target_of.ensures.found in
    let refused = rw c.in-Err-Refused.field-0-is at c.in-Err-Refused.ensures.refused in
    inl (c.in_ok-to_buf-in-Err-Refused.ensures, place_object (nodes (view c.args.document.now)) (tokens c.args.path) c.in-Member.object c.in-Member.key found, λ w h. named_refused (nodes (view c.args.document.now)) (tokens c.args.path) w _ h refused)

pub returns-in-Ok-clause-sorted : goal.returns-in-Ok-clause-sorted
returns-in-Ok-clause-sorted c = copy_ascends _ _ _ _ c.in-Ok.ensures.found c.in_ok-copy-in-Ok.ensures
