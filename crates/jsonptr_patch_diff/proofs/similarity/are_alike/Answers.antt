use Rattle.jsonptr_patch_diff.proofs.SameLemmas.{array_differs, object_differs, same_arrays, same_objects}
use Rattle.jsonptr_patch_diff.proofs.similarity.are_alike.Goals as goal

pub returns-in-Some : goal.returns-in-Some
returns-in-Some c = λ same. c.elements_are_alike.ensures (same_arrays c.args.left.now c.args.right.now c.in-Array.elements c.in-Some.others.now c.in-Array.is c.in-Some.ensures same)

pub returns-in-None : goal.returns-in-None
returns-in-None c = (array_differs c.args.left.now c.args.right.now c.in-Array.elements c.in-Array.is c.in-None.ensures).1

pub returns-in-Some-as_object : goal.returns-in-Some-as_object
returns-in-Some-as_object c = λ same. c.members_are_alike.ensures (same_objects c.args.left.now c.args.right.now c.in-Object.members c.in-Some-as_object.others.now c.in-Object.is c.in-Some-as_object.ensures same)

pub returns-in-None-as_object : goal.returns-in-None-as_object
returns-in-None-as_object c = (object_differs c.args.left.now c.args.right.now c.in-Object.members c.in-Object.is c.in-None-as_object.ensures).1
