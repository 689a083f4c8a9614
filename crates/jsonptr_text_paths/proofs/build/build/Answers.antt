use Rattle.std.proofs.Common.{rules, ◌≢◌, ◌<◌, [], length, arith}
use Rattle.serde_json.specs.View.{view}
use Rattle.jsonptr.specs.Json.{nodes}
use Rattle.jsonptr_text_paths.proofs.BuildingLemmas.{progress_more, built, stopped, shorter, some_left, none_left}
use Rattle.jsonptr_text_paths.proofs.build.build.Goals as goal

pub loop-rest-preserved : goal.loop-rest-preserved
loop-rest-preserved c =
    let some : c.loop-rest.rest.now ≢ [] = some_left c.loop-rest.rest.now c.is_empty.result c.is_empty.ensures c.loop-rest-test.true in
    let less : length c.first_line.result.1.now < length c.loop-rest.rest.now = shorter c.loop-rest.rest.now c.first_line.result.0.now c.first_line.result.1.now some c.first_line.ensures in (
      search rules,
      progress_more c.args.text.now c.loop-rest.rest.now c.first_line.result.0.now c.first_line.result.1.now c.loop-rest.number (nodes (view c.loop-rest.document)) (nodes (view c.assign_line.new.document))
          some
          c.first_line.ensures
          c.loop-rest.invariant.1
          c.in-Ok.ensures.assigned,
      omega (arith, less, c.loop-rest.invariant.2),
      c.in-Ok.ensures.sorted c.loop-rest.invariant.3,
      c.in-Ok.ensures.readable c.loop-rest.invariant.4,
    )

pub returns-clause-built : goal.returns-clause-built
returns-clause-built c =
    built c.args.text.now c.loop-rest.rest.now c.loop-rest.number (nodes (view c.loop-rest.document))
    (none_left c.loop-rest.rest.now c.is_empty.result c.is_empty.ensures c.loop-rest-test.false)
    c.loop-rest.invariant.1

pub returns-in-Err-clause-refused : goal.returns-in-Err-clause-refused
returns-in-Err-clause-refused c =
    stopped c.args.text.now c.loop-rest.rest.now c.first_line.result.0.now c.first_line.result.1.now c.loop-rest.number (nodes (view c.loop-rest.document)) c.in-Err.fault c.at_line.result
    c.lines_law.ensures.some
    (some_left c.loop-rest.rest.now c.is_empty.result c.is_empty.ensures c.loop-rest-test.true)
    c.first_line.ensures
    c.loop-rest.invariant.1
    c.in-Err.ensures.refused
    c.at_line.ensures
