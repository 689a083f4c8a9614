use Rattle.std.proofs.Common.{option_map}
use Rattle.serde_json.specs.View.{view}
use Rattle.jsonptr.specs.Pointer.{tokens}
use Rattle.jsonptr_run_command.specs.Private.{request_of}
use Rattle.jsonptr_run_command.specs.Run.{HasValueOf}
use Rattle.jsonptr_run_command.proofs.AnswerLemmas.{found_left, split_left, value_left}
use Rattle.jsonptr_run_command.proofs.run.line_of.Goals as goal

pub returns-in-Resolve-clause-line : goal.returns-in-Resolve-clause-line
returns-in-Resolve-clause-line g c = rw c.in-Resolve.is c.found_line.ensures.line

pub returns-in-Resolve-clause-value : goal.returns-in-Resolve-clause-value
returns-in-Resolve-clause-value g c = rw c.in-Resolve.is (λ _. c.found_line.ensures.value)

pub returns-in-Resolve-clause-left : goal.returns-in-Resolve-clause-left
returns-in-Resolve-clause-left g c =
    found_left (tokens c.in-Resolve.pointer) (g.R.Read.remaining c.args.input.now)
    (λ bytes. HasValueOf (request_of c.args.request) bytes (option_map view c.found_line.new.value)) c.args.value.now c.found_line.new.value c.found_line.result
    c.found_line.ensures.refused c.found_line.ensures.unchanged

pub returns-in-Change-clause-line : goal.returns-in-Change-clause-line
returns-in-Change-clause-line g c = rw c.in-Change.is c.document_line.ensures.line

pub returns-in-Change-clause-left : goal.returns-in-Change-clause-left
returns-in-Change-clause-left g c =
    rw c.in-Change.is
    (value_left c.in-Change.change (g.R.Read.remaining c.args.input.now) c.args.value.now c.document_line.new.value c.document_line.result
    c.document_line.ensures.refused c.document_line.ensures.unchanged c.document_line.ensures.document c.document_line.ensures.left)

pub returns-in-Split-clause-left : goal.returns-in-Split-clause-left
returns-in-Split-clause-left g c =
    split_left (tokens c.in-Split.pointer) c.in-Split.position (g.R.Read.remaining c.args.input.now)
    (λ bytes. HasValueOf (request_of c.args.request) bytes (option_map view c.args.value.now)) c.args.value.now c.split_line.result c.split_line.ensures.refused
