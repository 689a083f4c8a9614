-- An edit of a text has one outcome.
use Rattle.std.proofs.Common.{◌≡◌, List, [], ◌∷◌, ◌++◌, All, Option, Some, None, IsSome, true≢false, refl, sym, ap, ◌∙◌, subst}
use Rattle.serde_json.specs.Data.{Data, depth, null}
use Rattle.serde_json.specs.Read.{read, max_depth}
use Rattle.serde_json.proofs.Nesting.{depth-read}
use Rattle.jsonptr.proofs.Calling.{ascends_read, nodes_one, map_of-IsTree, map_of-finite, Names_one_path, Deletes_one}
use Rattle.jsonptr.specs.Assign.{RefusesAssign}
use Rattle.jsonptr.specs.Assigning.{Assigns}
use Rattle.jsonptr.specs.Documents.{IsDocument}
use Rattle.jsonptr.specs.Json.{content, nodes}
use Rattle.jsonptr.specs.Node.{NodeMap, Names, IsTree, Path, key}
use Rattle.jsonptr.specs.Pointer.{tokens}
use Rattle.jsonptr.specs.Removing.{Deletes}
use Rattle.jsonptr.specs.Text.{Text}
use Rattle.jsonptr.specs.declared.assign.Error as assign
use Rattle.jsonptr_value.proofs.LevelLemmas.{NestsWithin-depth}
use Rattle.jsonptr_value.proofs.NestingLemmas.{NestsWithin-more}
use Rattle.jsonptr_value.specs.Nesting.{NestsWithin}
use Rattle.jsonptr_patch.proofs.OneLemmas.{last_one}
use Rattle.jsonptr_patch.specs.Operating.{AppliesBy, Moves}
use Rattle.jsonptr_patch.specs.Order.{OperationHasSortedKeys}
use Rattle.jsonptr_patch.specs.Patching.{PatchesBy, FailsBy}
use Rattle.jsonptr_patch.specs.declared.comparison.Comparison.TheVariants.{Numeric}
use Rattle.jsonptr_patch.specs.declared.failed_operation.FailedOperation.{FailedOperation}
use Rattle.jsonptr_patch.specs.declared.operation.Operation.{Operation}
use Rattle.jsonptr_patch.specs.declared.operation.Operation.TheVariants.{Move}
use Rattle.jsonptr_text_value.specs.Operations.{operations_in}
use Rattle.jsonptr_text_value.specs.Raw.{value_of_raw}
use Rattle.jsonptr_text_value.specs.declared.raw_value.RawValue.{RawValue}
use Rattle.jsonptr_text_step.proofs.RenameErrorLemmas.{member_there}
use Rattle.jsonptr_text_step.specs.EditInText.{AssignsInText, DeletesInText}
use Rattle.jsonptr_text_step.specs.PatchInText.{PatchesInText}
use Rattle.jsonptr_text_step.specs.Renaming.{IsMember, Renames, RenamesInText, RefusesRename}
use Rattle.jsonptr_text_step.specs.declared.rename.RenameError.{RenameError}
use Rattle.jsonptr_text_step.specs.declared.rename.RenameError.TheVariants as rename
use Rattle.jsonptr_text_edit.specs.Edits.{EditsText}
use Rattle.jsonptr_text_edit.specs.Errors.{FailsToAssign, FailsToDelete, FailsToRename, FailsToPatch, IsEditError}
use Rattle.jsonptr_text_edit.specs.Outcomes.{EditHasSortedKeys, IsMemory}
use Rattle.jsonptr_text_edit.specs.declared.edit.Edit.{Edit}
use Rattle.jsonptr_text_edit.specs.declared.edit.Edit.TheVariants as edits
use Rattle.jsonptr_text_edit.specs.declared.edit_error.EditError.{EditError}
use Rattle.jsonptr_text_edit.specs.declared.edit_error.EditError.TheVariants.{NotJson, Assign, NotThere, Rename, Patch, TooDeep, Memory}

-- ---- a text is read in one way

one_read : (text : Text) (d e : Data) → read text ≡ Some d → read text ≡ Some e → d ≡ e
one_read text d e h k =
    let whole : Some d ≡ Some e = sym h ∙ k in
    let same : d ≡ e = cc in
    same

is_json : (text : Text) (d : Data) → read text ≡ Some d → read text ≡ None → ⊥
is_json text d h k =
    let whole : Some d ≡ None = sym h ∙ k in
    let wrong : ⊥ = cc in
    wrong

is_document : (d : Data) → IsDocument (nodes d)
is_document d = (map_of-IsTree (content d), map_of-finite (content d))

-- a document that is read nests at most 127 deep
within : (text : Text) (d : Data) → read text ≡ Some d → NestsWithin max_depth (nodes d)
within text d h = NestsWithin-more (depth d) max_depth (nodes d) (depth-read text d h) (NestsWithin-depth d)

-- texts whose documents have one map are read as one document
same_read : (new other : Text) (d e : Data) → read new ≡ Some d → read other ≡ Some e → nodes d ≡ nodes e → read new ≡ read other
same_read new other d e h k same = h ∙ ap (λ (x : Data). Some x) (nodes_one d e (ascends_read new d h) (ascends_read other e k) same) ∙ sym k

-- ---- a member that is renamed

-- the tokens identify one member
pub same_member : (n : NodeMap) (ts : List Text) (a b : IsMember n ts) → (a.front ≡ b.front) × (a.x ≡ b.x) × (a.path ≡ b.path)
same_member n ts a b =
    let ends = last_one a.front b.front a.x b.x (sym a.split ∙ b.split) in
    (ends.0, ends.1, Names_one_path n b.front a.path b.path (subst (λ (f : List Text). Names n f a.path) ends.0 a.named) b.named)

pub rename_both : (n : NodeMap) (ts : List Text) (k : Text) (m : NodeMap) (f : RenameError) → Renames n ts k m → RefusesRename n ts k f → ⊥
rename_both n ts k m rename.NotThere h r =
    let there = member_there n ts h.member in
    r there.0 there.1
rename_both n ts k m rename.NotAMember h r = r.1 h.member
rename_both n ts k m rename.KeyTaken h r =
    let same = same_member n ts r.0 h.member in
    let free : n (h.member.path ++ key k ∷ []) ≡ None = h.free (λ is. r.1 (is ∙ sym same.1)) in
    let taken : IsSome (n (h.member.path ++ key k ∷ [])) = subst (λ (w : Path). IsSome (n (w ++ key k ∷ []))) same.2 r.2 in
    true≢false (sym (subst IsSome free taken))

pub rename_one : (n : NodeMap) (ts : List Text) (k : Text) (e f : RenameError) → RefusesRename n ts k e → RefusesRename n ts k f → e ≡ f
rename_one n ts k rename.NotThere rename.NotThere h r = refl
rename_one n ts k rename.NotThere rename.NotAMember h r = absurd (h r.0.0 r.0.1)
rename_one n ts k rename.NotThere rename.KeyTaken h r =
    let there = member_there n ts r.0 in
    absurd (h there.0 there.1)
rename_one n ts k rename.NotAMember rename.NotThere h r = absurd (r h.0.0 h.0.1)
rename_one n ts k rename.NotAMember rename.NotAMember h r = refl
rename_one n ts k rename.NotAMember rename.KeyTaken h r = absurd (h.1 r.0)
rename_one n ts k rename.KeyTaken rename.NotThere h r =
    let there = member_there n ts h.0 in
    absurd (r there.0 there.1)
rename_one n ts k rename.KeyTaken rename.NotAMember h r = absurd (r.1 h.0)
rename_one n ts k rename.KeyTaken rename.KeyTaken h r = refl

-- ---- each kind of edit

module _
    (assign_both : (n : NodeMap) (ts : List Text) (v m : NodeMap) (old : Option NodeMap) (e : assign.Error) → Assigns n ts v m old → RefusesAssign n ts e → ⊥)
    (assign_map : (n : NodeMap) (ts : List Text) (v m k : NodeMap) (old was : Option NodeMap) → Assigns n ts v m old → Assigns n ts v k was → (m ≡ k) × (old ≡ was))
    (assign_one : (n : NodeMap) (ts : List Text) (e f : assign.Error) → RefusesAssign n ts e → RefusesAssign n ts f → e ≡ f)
    (operation_map : (n m l : NodeMap) (o : Operation) → IsTree n → AppliesBy Numeric n o m → AppliesBy Numeric n o l → m ≡ l)
    (patch_both : (n m : NodeMap) (os : List Operation) (f : FailedOperation) → IsDocument n → PatchesBy Numeric n os m → FailsBy Numeric n os f → ⊥)
    (patch_map : (n m l : NodeMap) (os : List Operation) → IsDocument n → PatchesBy Numeric n os m → PatchesBy Numeric n os l → m ≡ l)
    (patch_one : (n : NodeMap) (os : List Operation) (e f : FailedOperation) → IsDocument n → FailsBy Numeric n os e → FailsBy Numeric n os f → e ≡ f) where
  -- assigning
  assigned_one : (old new other : Text) (ts : List Text) (v : NodeMap) → AssignsInText old ts v new → AssignsInText old ts v other → read new ≡ read other
  assigned_one old new other ts v h k =
      let again = subst (λ (d : Data). Assigns (nodes d) ts v (nodes h.1) h.4) (one_read old h.0 k.0 h.2 k.2) h.5 in
      same_read new other h.1 k.1 h.3 k.3 (assign_map (nodes k.0) ts v (nodes h.1) (nodes k.1) h.4 k.4 again k.5).0

  place_deep : (old : Text) (ts : List Text) (raw : RawValue) (f : assign.Error) → FailsToAssign old ts raw (Assign f) → FailsToAssign old ts raw TooDeep → ⊥
  place_deep old ts raw f h k =
      assign_both (nodes k.0) ts (nodes (value_of_raw raw)) k.1 k.2 f k.4 (subst (λ (d : Data). RefusesAssign (nodes d) ts f) (one_read old h.0 k.0 h.1 k.3) h.2)

  assigned_both : (old new : Text) (ts : List Text) (raw : RawValue) (e : EditError) → AssignsInText old ts (nodes (value_of_raw raw)) new → FailsToAssign old ts raw e → IsMemory e
  assigned_both old new ts raw NotJson h k = absurd (is_json old h.0 h.2 k)
  assigned_both old new ts raw (Assign f) h k =
      absurd (assign_both (nodes h.0) ts (nodes (value_of_raw raw)) (nodes h.1) h.4 f h.5 (subst (λ (d : Data). RefusesAssign (nodes d) ts f) (one_read old k.0 h.0 k.1 h.2) k.2))
  assigned_both old new ts raw TooDeep h k =
      let again = subst (λ (d : Data). Assigns (nodes d) ts (nodes (value_of_raw raw)) k.1 k.2) (one_read old k.0 h.0 k.3 h.2) k.4 in
      let same = assign_map (nodes h.0) ts (nodes (value_of_raw raw)) k.1 (nodes h.1) k.2 h.4 again h.5 in
      absurd (k.5 (subst (NestsWithin max_depth) (sym same.0) (within new h.1 h.3)))
  assigned_both old new ts raw (Memory f) h k = tt
  assigned_both old new ts raw e h k = absurd k

  assign_error_one : (old : Text) (ts : List Text) (raw : RawValue) (e f : EditError) → (IsMemory e → ⊥) → (IsMemory f → ⊥) → FailsToAssign old ts raw e → FailsToAssign old ts raw f → e ≡ f
  assign_error_one old ts raw NotJson NotJson on going h k = refl
  assign_error_one old ts raw NotJson (Assign f) on going h k = absurd (is_json old k.0 k.1 h)
  assign_error_one old ts raw NotJson TooDeep on going h k = absurd (is_json old k.0 k.3 h)
  assign_error_one old ts raw NotJson (Memory f) on going h k = absurd (going tt)
  assign_error_one old ts raw NotJson f on going h k = absurd k
  assign_error_one old ts raw (Assign e) NotJson on going h k = absurd (is_json old h.0 h.1 k)
  assign_error_one old ts raw (Assign e) (Assign f) on going h k =
      ap Assign (assign_one (nodes k.0) ts e f (subst (λ (d : Data). RefusesAssign (nodes d) ts e) (one_read old h.0 k.0 h.1 k.1) h.2) k.2)
  assign_error_one old ts raw (Assign e) TooDeep on going h k = absurd (place_deep old ts raw e h k)
  assign_error_one old ts raw (Assign e) (Memory f) on going h k = absurd (going tt)
  assign_error_one old ts raw (Assign e) f on going h k = absurd k
  assign_error_one old ts raw TooDeep NotJson on going h k = absurd (is_json old h.0 h.3 k)
  assign_error_one old ts raw TooDeep (Assign f) on going h k = absurd (place_deep old ts raw f k h)
  assign_error_one old ts raw TooDeep TooDeep on going h k = refl
  assign_error_one old ts raw TooDeep (Memory f) on going h k = absurd (going tt)
  assign_error_one old ts raw TooDeep f on going h k = absurd k
  assign_error_one old ts raw (Memory e) f on going h k = absurd (on tt)
  assign_error_one old ts raw e f on going h k = absurd h

  -- deleting
  deleted_one : (old new other : Text) (ts : List Text) → DeletesInText old ts new → DeletesInText old ts other → read new ≡ read other
  deleted_one old new other ts h k =
      let again = subst (λ (d : Data). Deletes (nodes d) ts (nodes null) (nodes h.1)) (one_read old h.0 k.0 h.2 k.2) h.5 in
      same_read new other h.1 k.1 h.3 k.3 (Deletes_one (nodes k.0) (nodes null) ts (nodes h.1) (nodes k.1) (is_document k.0).0 again k.5)

  deleted_both : (old new : Text) (ts : List Text) (e : EditError) → DeletesInText old ts new → FailsToDelete old ts e → IsMemory e
  deleted_both old new ts NotJson h k = absurd (is_json old h.0 h.2 k)
  deleted_both old new ts NotThere h k = absurd (k.2 h.4.0 (subst (λ (d : Data). Names (nodes d) ts h.4.0) (one_read old h.0 k.0 h.2 k.1) h.4.1))
  deleted_both old new ts (Memory f) h k = tt
  deleted_both old new ts e h k = absurd k

  delete_error_one : (old : Text) (ts : List Text) (e f : EditError) → (IsMemory e → ⊥) → (IsMemory f → ⊥) → FailsToDelete old ts e → FailsToDelete old ts f → e ≡ f
  delete_error_one old ts NotJson NotJson on going h k = refl
  delete_error_one old ts NotJson NotThere on going h k = absurd (is_json old k.0 k.1 h)
  delete_error_one old ts NotJson (Memory f) on going h k = absurd (going tt)
  delete_error_one old ts NotJson f on going h k = absurd k
  delete_error_one old ts NotThere NotJson on going h k = absurd (is_json old h.0 h.1 k)
  delete_error_one old ts NotThere NotThere on going h k = refl
  delete_error_one old ts NotThere (Memory f) on going h k = absurd (going tt)
  delete_error_one old ts NotThere f on going h k = absurd k
  delete_error_one old ts (Memory e) f on going h k = absurd (on tt)
  delete_error_one old ts e f on going h k = absurd h

  -- renaming a member
  renamed_map : (n m l : NodeMap) (ts : List Text) (k : Text) → IsTree n → Renames n ts k m → Renames n ts k l → m ≡ l
  renamed_map n m l ts k tree h r =
      let same = same_member n ts h.member r.member in
      operation_map n m l (Move ts (r.member.front ++ k ∷ [])) tree (subst (λ (f : List Text). Moves n ts (f ++ k ∷ []) m) same.0 h.moves) r.moves

  renamed_one : (old new other : Text) (ts : List Text) (x : Text) → RenamesInText old ts x new → RenamesInText old ts x other → read new ≡ read other
  renamed_one old new other ts x h k =
      let again = subst (λ (d : Data). Renames (nodes d) ts x (nodes h.1)) (one_read old h.0 k.0 h.2 k.2) h.4 in
      same_read new other h.1 k.1 h.3 k.3 (renamed_map (nodes k.0) (nodes h.1) (nodes k.1) ts x (is_document k.0).0 again k.4)

  renamed_both : (old new : Text) (ts : List Text) (x : Text) (e : EditError) → RenamesInText old ts x new → FailsToRename old ts x e → IsMemory e
  renamed_both old new ts x NotJson h k = absurd (is_json old h.0 h.2 k)
  renamed_both old new ts x (Rename f) h k =
      absurd (rename_both (nodes h.0) ts x (nodes h.1) f h.4 (subst (λ (d : Data). RefusesRename (nodes d) ts x f) (one_read old k.0 h.0 k.1 h.2) k.2))
  renamed_both old new ts x (Memory f) h k = tt
  renamed_both old new ts x e h k = absurd k

  rename_error_one : (old : Text) (ts : List Text) (x : Text) (e f : EditError) → (IsMemory e → ⊥) → (IsMemory f → ⊥) → FailsToRename old ts x e → FailsToRename old ts x f → e ≡ f
  rename_error_one old ts x NotJson NotJson on going h k = refl
  rename_error_one old ts x NotJson (Rename f) on going h k = absurd (is_json old k.0 k.1 h)
  rename_error_one old ts x NotJson (Memory f) on going h k = absurd (going tt)
  rename_error_one old ts x NotJson f on going h k = absurd k
  rename_error_one old ts x (Rename e) NotJson on going h k = absurd (is_json old h.0 h.1 k)
  rename_error_one old ts x (Rename e) (Rename f) on going h k =
      ap Rename (rename_one (nodes k.0) ts x e f (subst (λ (d : Data). RefusesRename (nodes d) ts x e) (one_read old h.0 k.0 h.1 k.1) h.2) k.2)
  rename_error_one old ts x (Rename e) (Memory f) on going h k = absurd (going tt)
  rename_error_one old ts x (Rename e) f on going h k = absurd k
  rename_error_one old ts x (Memory e) f on going h k = absurd (on tt)
  rename_error_one old ts x e f on going h k = absurd h

  -- applying a patch
  patched_one : (old new other : Text) (os : List Operation) → PatchesInText old os new → PatchesInText old os other → read new ≡ read other
  patched_one old new other os h k =
      let again = subst (λ (d : Data). PatchesBy Numeric (nodes d) os (nodes h.1)) (one_read old h.0 k.0 h.2 k.2) h.4 in
      same_read new other h.1 k.1 h.3 k.3 (patch_map (nodes k.0) (nodes h.1) (nodes k.1) os (is_document k.0) again k.4)

  stuck_deep : (old : Text) (os : List Operation) (f : FailedOperation) → FailsToPatch old os (Patch f) → FailsToPatch old os TooDeep → ⊥
  stuck_deep old os f h k =
      patch_both (nodes k.0) k.1 os f (is_document k.0) k.3 (subst (λ (d : Data). FailsBy Numeric (nodes d) os f) (one_read old h.0 k.0 h.1 k.2) h.2)

  patched_both : (old new : Text) (os : List Operation) (e : EditError) → All OperationHasSortedKeys os → PatchesInText old os new → FailsToPatch old os e → IsMemory e
  patched_both old new os NotJson sorted h k = absurd (is_json old h.0 h.2 k)
  patched_both old new os (Patch f) sorted h k =
      absurd (patch_both (nodes h.0) (nodes h.1) os f (is_document h.0) h.4 (subst (λ (d : Data). FailsBy Numeric (nodes d) os f) (one_read old k.0 h.0 k.1 h.2) k.2))
  patched_both old new os TooDeep sorted h k =
      let again = subst (λ (d : Data). PatchesBy Numeric (nodes d) os k.1) (one_read old k.0 h.0 k.2 h.2) k.3 in
      let same = patch_map (nodes h.0) k.1 (nodes h.1) os (is_document h.0) again h.4 in
      absurd (k.4 sorted (subst (NestsWithin max_depth) (sym same) (within new h.1 h.3)))
  patched_both old new os (Memory f) sorted h k = tt
  patched_both old new os e sorted h k = absurd k

  patch_error_one : (old : Text) (os : List Operation) (e f : EditError) → (IsMemory e → ⊥) → (IsMemory f → ⊥) → FailsToPatch old os e → FailsToPatch old os f → e ≡ f
  patch_error_one old os NotJson NotJson on going h k = refl
  patch_error_one old os NotJson (Patch f) on going h k = absurd (is_json old k.0 k.1 h)
  patch_error_one old os NotJson TooDeep on going h k = absurd (is_json old k.0 k.2 h)
  patch_error_one old os NotJson (Memory f) on going h k = absurd (going tt)
  patch_error_one old os NotJson f on going h k = absurd k
  patch_error_one old os (Patch e) NotJson on going h k = absurd (is_json old h.0 h.1 k)
  patch_error_one old os (Patch e) (Patch f) on going h k =
      ap Patch (patch_one (nodes k.0) os e f (is_document k.0) (subst (λ (d : Data). FailsBy Numeric (nodes d) os e) (one_read old h.0 k.0 h.1 k.1) h.2) k.2)
  patch_error_one old os (Patch e) TooDeep on going h k = absurd (stuck_deep old os e h k)
  patch_error_one old os (Patch e) (Memory f) on going h k = absurd (going tt)
  patch_error_one old os (Patch e) f on going h k = absurd k
  patch_error_one old os TooDeep NotJson on going h k = absurd (is_json old h.0 h.2 k)
  patch_error_one old os TooDeep (Patch f) on going h k = absurd (stuck_deep old os f k h)
  patch_error_one old os TooDeep TooDeep on going h k = refl
  patch_error_one old os TooDeep (Memory f) on going h k = absurd (going tt)
  patch_error_one old os TooDeep f on going h k = absurd k
  patch_error_one old os (Memory e) f on going h k = absurd (on tt)
  patch_error_one old os e f on going h k = absurd h

  -- ---- all kinds

  pub edits_one : (old new other : Text) (edit : Edit) → EditsText old edit new → EditsText old edit other → read new ≡ read other
  edits_one old new other (edits.Assign pointer raw) h k = assigned_one old new other (tokens pointer) (nodes (value_of_raw raw)) h k
  edits_one old new other (edits.Delete pointer) h k = deleted_one old new other (tokens pointer) h k
  edits_one old new other (edits.Rename pointer x) h k = renamed_one old new other (tokens pointer) x.now h k
  edits_one old new other (edits.Patch patch) h k = patched_one old new other (operations_in patch.operations.items) h k

  pub edits_both : (old new : Text) (edit : Edit) (e : EditError) → EditHasSortedKeys edit → EditsText old edit new → IsEditError old edit e → IsMemory e
  edits_both old new (edits.Assign pointer raw) e sorted h k = assigned_both old new (tokens pointer) raw e h k
  edits_both old new (edits.Delete pointer) e sorted h k = deleted_both old new (tokens pointer) e h k
  edits_both old new (edits.Rename pointer x) e sorted h k = renamed_both old new (tokens pointer) x.now e h k
  edits_both old new (edits.Patch patch) e sorted h k = patched_both old new (operations_in patch.operations.items) e sorted h k

  pub edit_error_one : (old : Text) (edit : Edit) (e f : EditError) → (IsMemory e → ⊥) → (IsMemory f → ⊥) → IsEditError old edit e → IsEditError old edit f → e ≡ f
  edit_error_one old (edits.Assign pointer raw) e f on going h k = assign_error_one old (tokens pointer) raw e f on going h k
  edit_error_one old (edits.Delete pointer) e f on going h k = delete_error_one old (tokens pointer) e f on going h k
  edit_error_one old (edits.Rename pointer x) e f on going h k = rename_error_one old (tokens pointer) x.now e f on going h k
  edit_error_one old (edits.Patch patch) e f on going h k = patch_error_one old (operations_in patch.operations.items) e f on going h k
