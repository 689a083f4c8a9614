use Rattle.std.proofs.Common.{◌≡◌, List, ◌++◌}
use Rattle.serde_json.specs.declared.value.Value.{Value, Array, Object}
use Rattle.jsonptr.specs.Pointer.{tokens}
use Rattle.jsonptr_text_paths.specs.PrivateWalking.{WalksNodes, content_of, InFirst}
use Rattle.jsonptr_text_paths.proofs.WalkingLemmas.{EntryOf, Under}
use Rattle.jsonptr_text_paths.proofs.walk.+walk.Given as goal

abbrev pub invariant-visit_elements-loop-index : goal.invariant-visit_elements-loop-index
invariant-visit_elements-loop-index g l = WalksNodes content_of g.T.Visitor.visits (Array l.elements) (InFirst l.index) (tokens l.pointer) l.fn.visitor l.visitor

abbrev pub invariant-visit_members-loop-key : goal.invariant-visit_members-loop-key
invariant-visit_members-loop-key g l =
    (done : List (EntryOf Value)) × (l.members.entries ≡ done ++ l.key-iterator)
    × WalksNodes content_of g.T.Visitor.visits (Object l.members) (Under done) (tokens l.pointer) l.fn.visitor l.visitor
