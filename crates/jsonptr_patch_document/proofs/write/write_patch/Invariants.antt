use Rattle.std.proofs.Common.{◌≡◌, map, take}
use Rattle.serde_json.specs.View.{view}
use Rattle.jsonptr_patch_document.specs.Writing.{written_object}
use Rattle.jsonptr_patch_document.proofs.write.write_patch.Given as goal

abbrev pub invariant-loop-operation : goal.invariant-loop-operation
invariant-loop-operation l = map view l.objects.items ≡ map written_object (take l.operation-index l.patch.items)
