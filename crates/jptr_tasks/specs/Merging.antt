-- The edits that merge documents.
use Rattle.std.specs.Prelude.{◌<◌, ◌⊎◌}
use Rattle.serde_json.specs.Data.{Data, depth}
use Rattle.serde_json.specs.Read.{max_depth}
use Rattle.jsonptr.specs.Node.{NodeMap}
use Rattle.jsonptr_patch.specs.Patching.{Patches}
use Rattle.jsonptr_merge.specs.Merge.{IsMerge, HasNoConflict, AreConflicts}
use Rattle.jsonptr_text_value.specs.Operations.{operations_in}
use Rattle.jptr_tasks.specs.declared.merge.MergeEdit.{MergeEdit}
use Rattle.jptr_tasks.specs.declared.merge.MergeEdit.TheVariants.{Patch, Conflicts}

-- `IsMergeEdit b o t e`: the operations of `e` turn the copy `o` of the document `b` into the merge with the copy `t`, which has no
-- conflict; or `e` has all conflicts
abbrev pub IsMergeEdit : NodeMap → NodeMap → NodeMap → MergeEdit → Type 0
IsMergeEdit b o t (Patch p) =
    (m : NodeMap) × Patches o (operations_in p.operations.items) m × IsMerge b o t m × HasNoConflict b o t
IsMergeEdit b o t (Conflicts cs) = AreConflicts b o t cs.items

-- `IsTooDeep d`: the document `d` nests deeper than one that `serde_json` reads
abbrev pub IsTooDeep : Data → Type 0
IsTooDeep d = max_depth < depth d

-- `AreTooDeep b o t`: so does one of the three documents
abbrev pub AreTooDeep : Data → Data → Data → Type 0
AreTooDeep b o t = IsTooDeep b ⊎ (IsTooDeep o ⊎ IsTooDeep t)
