use Rattle.std.proofs.Common.{refl}
use Rattle.jsonptr_run_command.proofs.CommandLemmas.{no_number, next_is_no_number, fault_is_no_number}
use Rattle.jsonptr_run_command.proofs.run.read_position.Goals as goal

pub returns-in-Ok-Next-clause-refused : goal.returns-in-Ok-Next-clause-refused
returns-in-Ok-Next-clause-refused c =
    (no_number c.args.word.now c.parse.result c.parse.ensures.value (next_is_no_number c.parse.result c.in-Ok-Next.field-0 c.in-Ok-Next.is c.in-Ok-Next.field-0-is), refl)

pub returns-in-Err-clause-refused : goal.returns-in-Err-clause-refused
returns-in-Err-clause-refused c =
    (no_number c.args.word.now c.parse.result c.parse.ensures.value (fault_is_no_number c.parse.result c.in-Err.field-0 c.in-Err.is), refl)
