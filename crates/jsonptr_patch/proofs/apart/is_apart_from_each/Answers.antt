use Rattle.jsonptr.specs.Json.{nodes}
use Rattle.serde_json.specs.View.{view}
use Rattle.jsonptr_patch.specs.Apart.{all_pointers}
use Rattle.jsonptr_patch.proofs.ApartnessLemmas.{pointer_of, pointers_of}
use Rattle.jsonptr_patch.proofs.apart.is_apart_from_each.Goals as goal

pub returns-in-Add : goal.returns-in-Add
returns-in-Add c = rw c.in-Add.is (pointer_of c.diverges_from_each.result (nodes (view c.args.document.now)) (all_pointers c.args.others.now) _ c.in-Add.path c.as_ptr.ensures.tokens c.diverges_from_each.ensures)

pub returns-in-Remove : goal.returns-in-Remove
returns-in-Remove c = rw c.in-Remove.is (pointer_of c.diverges_from_each-in-Remove.result (nodes (view c.args.document.now)) (all_pointers c.args.others.now) _ c.in-Remove.path c.as_ptr-in-Remove.ensures.tokens c.diverges_from_each-in-Remove.ensures)

pub returns-in-Replace : goal.returns-in-Replace
returns-in-Replace c = rw c.in-Replace.is (pointer_of c.diverges_from_each-in-Replace.result (nodes (view c.args.document.now)) (all_pointers c.args.others.now) _ c.in-Replace.path c.as_ptr-in-Replace.ensures.tokens c.diverges_from_each-in-Replace.ensures)

pub returns-in-Test : goal.returns-in-Test
returns-in-Test c = rw c.in-Test.is (pointer_of c.diverges_from_each-in-Test.result (nodes (view c.args.document.now)) (all_pointers c.args.others.now) _ c.in-Test.path c.as_ptr-in-Test.ensures.tokens c.diverges_from_each-in-Test.ensures)

pub returns-in-Move : goal.returns-in-Move
returns-in-Move c = rw c.in-Move.is (pointers_of c.both_diverge_from_each.result (nodes (view c.args.document.now)) (all_pointers c.args.others.now) _ _ c.in-Move.from c.in-Move.path c.as_ptr-in-Move.ensures.tokens c.as_ptr-in-Move-2.ensures.tokens c.both_diverge_from_each.ensures)

pub returns-in-Copy : goal.returns-in-Copy
returns-in-Copy c = rw c.in-Copy.is (pointers_of c.both_diverge_from_each-in-Copy.result (nodes (view c.args.document.now)) (all_pointers c.args.others.now) _ _ c.in-Copy.from c.in-Copy.path c.as_ptr-in-Copy.ensures.tokens c.as_ptr-in-Copy-2.ensures.tokens c.both_diverge_from_each-in-Copy.ensures)
