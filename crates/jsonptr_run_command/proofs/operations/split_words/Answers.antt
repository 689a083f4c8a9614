use Rattle.std.proofs.Common.{◌≡◌, ◌++◌, map, string_bytes, refl, sym, subst, inl}
use Rattle.jsonptr_run_command.specs.Operations.{words_of}
use Rattle.jsonptr_run_command.specs.PrivateOperations.{texts_of}
use Rattle.jsonptr_run_command.proofs.OperationWordsLemmas.{words_more, pushed, refused_behind}
use Rattle.jsonptr_run_command.proofs.operations.split_words.Goals as goal

pub returns-in_default-clause-refused : goal.returns-in_default-clause-refused
returns-in_default-clause-refused c = inl (refused_behind texts_of string_bytes c.loop-rest.operations.items c.args.words.now c.loop-rest.rest.now c.loop-rest.invariant c.loop-rest-test.ensures c.in_default.ensures, refl)

pub loop-rest-preserved : goal.loop-rest-preserved
loop-rest-preserved c =
    let more = pushed c.push.new.self.items c.loop-rest.operations.items c.in-Some.operation _ c.push.ensures.items c.in_ok-map_err.ensures.variant in
    subst (λ l. map string_bytes c.args.words.now ≡ words_of (map texts_of l) ++ map string_bytes c.in-Some.left.now) (sym more)
    (words_more texts_of string_bytes c.loop-rest.operations.items c.in-Some.operation c.args.words.now c.loop-rest.rest.now c.in-Some.left.now c.loop-rest.invariant c.in-Some.ensures)
