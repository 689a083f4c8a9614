use Rattle.std.proofs.Common.{[], ◌∷◌}
use Rattle.jsonptr.specs.Json.{nodes}
use Rattle.jsonptr.specs.Pointer.{tokens}
use Rattle.serde_json.specs.View.{view}
use Rattle.jsonptr_patch.proofs.ApartnessLemmas.{one_pointer, two_pointers}
use Rattle.jsonptr_patch.proofs.apart.diverges_from_one.Goals as goal

pub returns-in-Add : goal.returns-in-Add
returns-in-Add c = rw c.in-Add.is (one_pointer c.diverge.result (nodes (view c.args.document.now)) (tokens c.args.pointer ∷ []) _ c.in-Add.path c.as_ptr.ensures.tokens c.diverge.ensures)

pub returns-in-Remove : goal.returns-in-Remove
returns-in-Remove c = rw c.in-Remove.is (one_pointer c.diverge-in-Remove.result (nodes (view c.args.document.now)) (tokens c.args.pointer ∷ []) _ c.in-Remove.path c.as_ptr-in-Remove.ensures.tokens c.diverge-in-Remove.ensures)

pub returns-in-Replace : goal.returns-in-Replace
returns-in-Replace c = rw c.in-Replace.is (one_pointer c.diverge-in-Replace.result (nodes (view c.args.document.now)) (tokens c.args.pointer ∷ []) _ c.in-Replace.path c.as_ptr-in-Replace.ensures.tokens c.diverge-in-Replace.ensures)

pub returns-in-Test : goal.returns-in-Test
returns-in-Test c = rw c.in-Test.is (one_pointer c.diverge-in-Test.result (nodes (view c.args.document.now)) (tokens c.args.pointer ∷ []) _ c.in-Test.path c.as_ptr-in-Test.ensures.tokens c.diverge-in-Test.ensures)

pub returns-in-Move : goal.returns-in-Move
returns-in-Move c = rw c.in-Move.is (two_pointers c.diverges_from_both.result (nodes (view c.args.document.now)) (tokens c.args.pointer ∷ []) _ _ c.in-Move.from c.in-Move.path c.as_ptr-in-Move.ensures.tokens c.as_ptr-in-Move-2.ensures.tokens c.diverges_from_both.ensures)

pub returns-in-Copy : goal.returns-in-Copy
returns-in-Copy c = rw c.in-Copy.is (two_pointers c.diverges_from_both-in-Copy.result (nodes (view c.args.document.now)) (tokens c.args.pointer ∷ []) _ _ c.in-Copy.from c.in-Copy.path c.as_ptr-in-Copy.ensures.tokens c.as_ptr-in-Copy-2.ensures.tokens c.diverges_from_both-in-Copy.ensures)
