use Rattle.std.proofs.Common.{All, map, subst}
use Rattle.std.proofs.lemmas.List.{take_all}
use Rattle.std.proofs.lemmas.Result.{err_from_is_err_and}
use Rattle.jsonptr.specs.Grammar.{IsPointer}
use Rattle.jsonptr_run_command.specs.Operations.{pointers_of}
use Rattle.jsonptr_run_command.specs.PrivateOperations.{texts_of}
use Rattle.jsonptr_run_command.proofs.OperationWordsLemmas.{pointers_more, fault_at}
use Rattle.jsonptr_run_command.proofs.operations.check_pointers.Goals as goal

pub returns-in_err-check_pointers_in-clause-refused : goal.returns-in_err-check_pointers_in-clause-refused
returns-in_err-check_pointers_in-clause-refused c =
    let p = err_from_is_err_and c.from_residual.result c.from_residual.ensures.1 in
    rw (p.1, p.2) (fault_at texts_of c.args.operations.now c.loop-words.words-index _ _ c.loop-words-test.true c.loop-words.invariant c.in_err-check_pointers_in.ensures.refused)

pub loop-words-preserved : goal.loop-words-preserved
loop-words-preserved c = pointers_more texts_of c.args.operations.now c.loop-words.words-index _ c.loop-words-test.true c.loop-words.invariant c.in_ok-check_pointers_in.ensures.pointers

pub returns-clause-pointers : goal.returns-clause-pointers
returns-clause-pointers c = subst (λ l. All IsPointer (pointers_of (map texts_of l))) (take_all _ _ c.loop-words-test.false) c.loop-words.invariant
