use Rattle.std.proofs.Common.{◌++◌, ◌∷◌, [], map, sym, ap, ◌∙◌, subst, append_assoc}
use Rattle.std.proofs.lemmas.Result.{err_from_is_err_and}
use Rattle.jsonptr_run_command.specs.Operations.{AreOperationsOf, data_of}
use Rattle.jsonptr_run_command.specs.PrivateOperations.{texts_of}
use Rattle.jsonptr_run_command.proofs.OperationWordsLemmas.{pushed, means_next, pointers_within, refused_within}
use Rattle.jsonptr_run_command.proofs.operations.to_operations.Goals as goal

pub to_operation-requires : goal.to_operation-requires
to_operation-requires c =
    let are = ap (λ l. c.loop-words.yielded ++ l) (sym c.in-Some.ensures.steps.0) ∙ c.loop-words.invariant.rest in
    pointers_within texts_of c.loop-words.yielded c.in-Some.words _ c.args.operations.items are c.requires

pub returns-in_err-operation-clause-refused : goal.returns-in_err-operation-clause-refused
returns-in_err-operation-clause-refused c =
    let are = ap (λ l. c.loop-words.yielded ++ l) (sym c.in-Some.ensures.steps.0) ∙ c.loop-words.invariant.rest in
    let p = err_from_is_err_and c.from_residual.result c.from_residual.ensures.1 in
    rw (p.1, p.2) (refused_within texts_of c.loop-words.yielded c.in-Some.words _ c.args.operations.items c.in_err-operation.field-0.0 are c.in_err-operation.ensures.refused)

pub loop-words-preserved : goal.loop-words-preserved
loop-words-preserved c =
    let are = ap (λ l. c.loop-words.yielded ++ l) (sym c.in-Some.ensures.steps.0) ∙ c.loop-words.invariant.rest in
    let more = pushed c.push.new.self.items c.loop-words.patch.items c.in_ok-operation.operation _ c.push.ensures.items c.in_ok-map_err.ensures.variant in
    record {
      rest = append_assoc c.loop-words.yielded (c.in-Some.words ∷ []) _ ∙ are;
      done = subst (λ l. AreOperationsOf (map texts_of (c.loop-words.yielded ++ (c.in-Some.words ∷ []))) (map data_of l)) (sym more)
          (means_next texts_of data_of c.loop-words.yielded c.in-Some.words c.loop-words.patch.items c.in_ok-operation.operation c.loop-words.invariant.done c.in_ok-operation.ensures.operation);
    }
