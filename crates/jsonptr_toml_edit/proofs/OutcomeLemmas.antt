-- An edit of a TOML text has one error.
use Rattle.std.proofs.Common.{◌≡◌, ◌⊎◌, inl, inr, List, [], ◌∷◌, ◌++◌, Option, None, refl, sym, ap, ◌∙◌, subst}
use Rattle.std.specs.Bool.{⊤}
use Rattle.std.specs.declared.convert.Infallible.{Infallible}
use Rattle.toml.specs.Data.{Data}
use Rattle.toml.specs.Parse.{parse_document}
use Rattle.toml.specs.View.{view}
use Rattle.jsonptr.proofs.Calling.{map_of-IsTree}
use Rattle.jsonptr.proofs.TomlCalling.{nodes_one}
use Rattle.jsonptr.specs.Assign.{RefusesAssign}
use Rattle.jsonptr.specs.Assigning.{Assigns}
use Rattle.jsonptr.specs.Node.{NodeMap, IsTree}
use Rattle.jsonptr.specs.Pointer.{tokens}
use Rattle.jsonptr.specs.Text.{Text}
use Rattle.jsonptr.specs.TomlValue.{content, nodes, HasSortedKeys}
use Rattle.jsonptr.specs.declared.assign.Error.{Error as AssignError}
use Rattle.jsonptr_patch.specs.Operating.{AppliesBy, Moves}
use Rattle.jsonptr_patch.specs.declared.comparison.Comparison.TheVariants.{Numeric}
use Rattle.jsonptr_patch.specs.declared.operation.Operation.{Operation}
use Rattle.jsonptr_patch.specs.declared.operation.Operation.TheVariants.{Move}
use Rattle.jsonptr_text_edit.proofs.OutcomeLemmas.{same_member, rename_both, rename_one}
use Rattle.jsonptr_toml.specs.InToml.{ReadsAsToml, IsDeep, HasDeepValues, LacksInToml}
use Rattle.jsonptr_toml.specs.declared.error.EditTomlError.{EditTomlError}
use Rattle.jsonptr_toml.specs.declared.error.EditTomlError.TheVariants as kind
use Rattle.jsonptr_text_step.specs.Renaming.{Renames, RefusesRename}
use Rattle.jsonptr_text_step.specs.declared.rename.RenameError.{RenameError}
use Rattle.jsonptr_toml_edit.proofs.FailingLemmas.{one_assign_error, one_delete_error, lacking_error, not_toml_read, not_toml_deep, deep_read, same_document}
use Rattle.jsonptr_toml_edit.specs.Failing.{IsAssignInTomlError, IsDeleteInTomlError, IsTomlOutOfMemory, AreOneError}
use Rattle.jsonptr_toml_edit.specs.Renaming.{RenamesTo, RenamesInOrder, IsRenameInTomlError}
use Rattle.jsonptr_toml_edit.specs.TomlEditErrors.{FailsToAssignInToml, FailsToDeleteInToml, FailsToRenameInToml, IsTomlEditError}
use Rattle.jsonptr_toml_edit.specs.TomlOutcomes.{TomlEditHasSortedKeys, IsTomlMemory}
use Rattle.jsonptr_toml_edit.specs.declared.edit.TomlEdit.{TomlEdit}
use Rattle.jsonptr_toml_edit.specs.declared.edit.TomlEdit.TheVariants as edits
use Rattle.jsonptr_toml_edit.specs.declared.edit_error.TomlEditError.{TomlEditError}
use Rattle.jsonptr_toml_edit.specs.declared.edit_error.TomlEditError.TheVariants.{NotToml, DocumentTooDeep, Assign, NotThere, Rename, TooDeep, NoText, Memory}

-- what the laws of assigning and of operations say
abbrev NotBoth : Type 0
NotBoth = (n : NodeMap) (ts : List Text) (v m : NodeMap) (old : Option NodeMap) (e : AssignError) → Assigns n ts v m old → RefusesAssign n ts e → ⊥

abbrev OneMade : Type 0
OneMade = (n : NodeMap) (ts : List Text) (v m k : NodeMap) (old was : Option NodeMap) → Assigns n ts v m old → Assigns n ts v k was → (m ≡ k) × (old ≡ was)

abbrev OneRefusal : Type 0
OneRefusal = (n : NodeMap) (ts : List Text) (e f : AssignError) → RefusesAssign n ts e → RefusesAssign n ts f → e ≡ f

abbrev OneMap : Type 0
OneMap = (n m l : NodeMap) (o : Operation) → IsTree n → AppliesBy Numeric n o m → AppliesBy Numeric n o l → m ≡ l

-- ---- a member that is renamed

renamed_map : OneMap → (n m l : NodeMap) (ts : List Text) (k : Text) → IsTree n → Renames n ts k m → Renames n ts k l → m ≡ l
renamed_map map n m l ts k tree h r =
    let same = same_member n ts h.member r.member in
    map n m l (Move ts (r.member.front ++ k ∷ [])) tree (subst (λ (f : List Text). Moves n ts (f ++ k ∷ []) m) same.0 h.moves) r.moves

-- ---- renaming in a text

renamed_or_refused : (text : Text) (ts : List Text) (k : Text) (d2 d : Data) (e : RenameError) → RenamesTo text ts k d2 → ReadsAsToml text d → RefusesRename (nodes d) ts k e → ⊥
renamed_or_refused text ts k d2 d e h reads refused =
    rename_both (nodes d) ts k (nodes d2) e (subst (λ (x : Data). Renames (nodes x) ts k (nodes d2)) (same_document text h.0 d h.1 reads) h.2) refused

same_renamed : OneMap → (text : Text) (ts : List Text) (k : Text) (d2 d3 : Data) → RenamesInOrder text ts k d2 → RenamesInOrder text ts k d3 → d2 ≡ d3
same_renamed map text ts k d2 d3 h r =
    let from : h.0.0 ≡ r.0.0 = same_document text h.0.0 r.0.0 h.0.1 r.0.1 in
    let there = subst (λ (x : Data). Renames (nodes x) ts k (nodes d2)) from h.0.2 in
    nodes_one d2 d3 h.1 r.1 (renamed_map map (nodes r.0.0) (nodes d2) (nodes d3) ts k (map_of-IsTree (content r.0.0)) there r.0.2)

-- the text is read, if the error is one of these
abbrev ReadFirst : EditTomlError RenameError → Type 0
ReadFirst kind.NotToml = ⊥
ReadFirst kind.DocumentTooDeep = ⊥
ReadFirst (kind.Refused f) = ⊤
ReadFirst kind.TooDeep = ⊤
ReadFirst kind.NoText = ⊤
ReadFirst (kind.Memory f) = ⊥

read_first : (text : Text) (ts : List Text) (k : Text) (e : EditTomlError RenameError) → ReadFirst e → IsRenameInTomlError text ts k e → (d : Data) × ReadsAsToml text d
read_first text ts k kind.NotToml late h = absurd late
read_first text ts k kind.DocumentTooDeep late h = absurd late
read_first text ts k (kind.Refused f) late h = (h.0, h.1)
read_first text ts k kind.TooDeep late h = (h.1.0.0, h.1.0.1)
read_first text ts k kind.NoText late h = (h.1.0.0, h.1.0.1)
read_first text ts k (kind.Memory f) late h = absurd late

not_toml : (text : Text) (ts : List Text) (k : Text) (e : EditTomlError RenameError) → ReadFirst e → parse_document text ≡ None → IsRenameInTomlError text ts k e → ⊥
not_toml text ts k e late none h = let r = read_first text ts k e late h in not_toml_read text r.0 none r.1

not_deep : (text : Text) (ts : List Text) (k : Text) (e : EditTomlError RenameError) → ReadFirst e → IsDeep text → IsRenameInTomlError text ts k e → ⊥
not_deep text ts k e late deep h = let r = read_first text ts k e late h in deep_read text r.0 deep r.1

deep_or_no_text : OneMap → (text : Text) (ts : List Text) (k : Text) → IsRenameInTomlError text ts k kind.TooDeep → IsRenameInTomlError text ts k kind.NoText → ⊥
deep_or_no_text map text ts k h r = r.2.0 (subst HasDeepValues (same_renamed map text ts k h.0 r.0 h.1 r.1) h.2)

one_rename_error : OneMap → (text : Text) (ts : List Text) (k : Text) (e f : EditTomlError RenameError) → IsRenameInTomlError text ts k e → IsRenameInTomlError text ts k f → AreOneError e f
one_rename_error map text ts k (kind.Memory e) f h r = inl tt
one_rename_error map text ts k kind.NotToml kind.NotToml h r = inr (inr refl)
one_rename_error map text ts k kind.NotToml kind.DocumentTooDeep h r = absurd (not_toml_deep text h r)
one_rename_error map text ts k kind.NotToml (kind.Refused f) h r = absurd (not_toml text ts k (kind.Refused f) tt h r)
one_rename_error map text ts k kind.NotToml kind.TooDeep h r = absurd (not_toml text ts k kind.TooDeep tt h r)
one_rename_error map text ts k kind.NotToml kind.NoText h r = absurd (not_toml text ts k kind.NoText tt h r)
one_rename_error map text ts k kind.NotToml (kind.Memory f) h r = inr (inl tt)
one_rename_error map text ts k kind.DocumentTooDeep kind.NotToml h r = absurd (not_toml_deep text r h)
one_rename_error map text ts k kind.DocumentTooDeep kind.DocumentTooDeep h r = inr (inr refl)
one_rename_error map text ts k kind.DocumentTooDeep (kind.Refused f) h r = absurd (not_deep text ts k (kind.Refused f) tt h r)
one_rename_error map text ts k kind.DocumentTooDeep kind.TooDeep h r = absurd (not_deep text ts k kind.TooDeep tt h r)
one_rename_error map text ts k kind.DocumentTooDeep kind.NoText h r = absurd (not_deep text ts k kind.NoText tt h r)
one_rename_error map text ts k kind.DocumentTooDeep (kind.Memory f) h r = inr (inl tt)
one_rename_error map text ts k (kind.Refused e) kind.NotToml h r = absurd (not_toml text ts k (kind.Refused e) tt r h)
one_rename_error map text ts k (kind.Refused e) kind.DocumentTooDeep h r = absurd (not_deep text ts k (kind.Refused e) tt r h)
one_rename_error map text ts k (kind.Refused e) (kind.Refused f) h r =
    let from : r.0 ≡ h.0 = same_document text r.0 h.0 r.1 h.1 in
    inr (inr (ap kind.Refused (rename_one (nodes h.0) ts k e f h.2 (subst (λ (d : Data). RefusesRename (nodes d) ts k f) from r.2))))
one_rename_error map text ts k (kind.Refused e) kind.TooDeep h r = absurd (renamed_or_refused text ts k r.0 h.0 e r.1.0 h.1 h.2)
one_rename_error map text ts k (kind.Refused e) kind.NoText h r = absurd (renamed_or_refused text ts k r.0 h.0 e r.1.0 h.1 h.2)
one_rename_error map text ts k (kind.Refused e) (kind.Memory f) h r = inr (inl tt)
one_rename_error map text ts k kind.TooDeep kind.NotToml h r = absurd (not_toml text ts k kind.TooDeep tt r h)
one_rename_error map text ts k kind.TooDeep kind.DocumentTooDeep h r = absurd (not_deep text ts k kind.TooDeep tt r h)
one_rename_error map text ts k kind.TooDeep (kind.Refused f) h r = absurd (renamed_or_refused text ts k h.0 r.0 f h.1.0 r.1 r.2)
one_rename_error map text ts k kind.TooDeep kind.TooDeep h r = inr (inr refl)
one_rename_error map text ts k kind.TooDeep kind.NoText h r = absurd (deep_or_no_text map text ts k h r)
one_rename_error map text ts k kind.TooDeep (kind.Memory f) h r = inr (inl tt)
one_rename_error map text ts k kind.NoText kind.NotToml h r = absurd (not_toml text ts k kind.NoText tt r h)
one_rename_error map text ts k kind.NoText kind.DocumentTooDeep h r = absurd (not_deep text ts k kind.NoText tt r h)
one_rename_error map text ts k kind.NoText (kind.Refused f) h r = absurd (renamed_or_refused text ts k h.0 r.0 f h.1.0 r.1 r.2)
one_rename_error map text ts k kind.NoText kind.TooDeep h r = absurd (deep_or_no_text map text ts k r h)
one_rename_error map text ts k kind.NoText kind.NoText h r = inr (inr refl)
one_rename_error map text ts k kind.NoText (kind.Memory f) h r = inr (inl tt)

-- ---- the error of an edit is that of its kind

abbrev of_assign : EditTomlError AssignError → TomlEditError
of_assign kind.NotToml = NotToml
of_assign kind.DocumentTooDeep = DocumentTooDeep
of_assign (kind.Refused f) = Assign f
of_assign kind.TooDeep = TooDeep
of_assign kind.NoText = NoText
of_assign (kind.Memory f) = Memory f

abbrev of_rename : EditTomlError RenameError → TomlEditError
of_rename kind.NotToml = NotToml
of_rename kind.DocumentTooDeep = DocumentTooDeep
of_rename (kind.Refused f) = Rename f
of_rename kind.TooDeep = TooDeep
of_rename kind.NoText = NoText
of_rename (kind.Memory f) = Memory f

abbrev of_delete : EditTomlError Infallible → TomlEditError
of_delete kind.NotToml = NotToml
of_delete kind.DocumentTooDeep = DocumentTooDeep
of_delete (kind.Refused f) = NotThere
of_delete kind.TooDeep = TooDeep
of_delete kind.NoText = NoText
of_delete (kind.Memory f) = Memory f

memory_assign : (e : EditTomlError AssignError) → IsTomlOutOfMemory e → IsTomlMemory (of_assign e)
memory_assign kind.NotToml h = h
memory_assign kind.DocumentTooDeep h = h
memory_assign (kind.Refused f) h = h
memory_assign kind.TooDeep h = h
memory_assign kind.NoText h = h
memory_assign (kind.Memory f) h = h

memory_rename : (e : EditTomlError RenameError) → IsTomlOutOfMemory e → IsTomlMemory (of_rename e)
memory_rename kind.NotToml h = h
memory_rename kind.DocumentTooDeep h = h
memory_rename (kind.Refused f) h = h
memory_rename kind.TooDeep h = h
memory_rename kind.NoText h = h
memory_rename (kind.Memory f) h = h

memory_delete : (e : EditTomlError Infallible) → IsTomlOutOfMemory e → IsTomlMemory (of_delete e)
memory_delete kind.NotToml h = h
memory_delete kind.DocumentTooDeep h = h
memory_delete (kind.Refused f) h = h
memory_delete kind.TooDeep h = h
memory_delete kind.NoText h = h
memory_delete (kind.Memory f) h = h

from_assign : (old : Text) (ts : List Text) (v : Data) (e : TomlEditError) → FailsToAssignInToml old ts v e → (f : EditTomlError AssignError) × (e ≡ of_assign f) × IsAssignInTomlError old ts v f
from_assign old ts v NotToml h = (kind.NotToml, refl, h)
from_assign old ts v DocumentTooDeep h = (kind.DocumentTooDeep, refl, h)
from_assign old ts v (Assign f) h = (kind.Refused f, refl, h)
from_assign old ts v NotThere h = absurd h
from_assign old ts v (Rename f) h = absurd h
from_assign old ts v TooDeep h = (kind.TooDeep, refl, h)
from_assign old ts v NoText h = (kind.NoText, refl, h)
from_assign old ts v (Memory f) h = (kind.Memory f, refl, h)

from_rename : (old : Text) (ts : List Text) (k : Text) (e : TomlEditError) → FailsToRenameInToml old ts k e → (f : EditTomlError RenameError) × (e ≡ of_rename f) × IsRenameInTomlError old ts k f
from_rename old ts k NotToml h = (kind.NotToml, refl, h)
from_rename old ts k DocumentTooDeep h = (kind.DocumentTooDeep, refl, h)
from_rename old ts k (Assign f) h = absurd h
from_rename old ts k NotThere h = absurd h
from_rename old ts k (Rename f) h = (kind.Refused f, refl, h)
from_rename old ts k TooDeep h = (kind.TooDeep, refl, h)
from_rename old ts k NoText h = (kind.NoText, refl, h)
from_rename old ts k (Memory f) h = (kind.Memory f, refl, h)

-- nothing is there, or it is an error of a deletion
from_delete : (old : Text) (ts : List Text) (e : TomlEditError) → FailsToDeleteInToml old ts e → ((e ≡ NotThere) × LacksInToml old ts) ⊎ ((f : EditTomlError Infallible) × (e ≡ of_delete f) × IsDeleteInTomlError old ts f)
from_delete old ts NotToml h = inr (kind.NotToml, refl, h)
from_delete old ts DocumentTooDeep h = inr (kind.DocumentTooDeep, refl, h)
from_delete old ts (Assign f) h = absurd h
from_delete old ts NotThere h = inl (refl, h)
from_delete old ts (Rename f) h = absurd h
from_delete old ts TooDeep h = inr (kind.TooDeep, refl, h)
from_delete old ts NoText h = inr (kind.NoText, refl, h)
from_delete old ts (Memory f) h = inr (kind.Memory f, refl, h)

-- ---- one error

-- errors of a kind are one error, or an allocation failed
joined : {E : Type 0} → (turn : EditTomlError E → TomlEditError) → ((a : EditTomlError E) → IsTomlOutOfMemory a → IsTomlMemory (turn a)) → (e f : TomlEditError) (a b : EditTomlError E) → e ≡ turn a → f ≡ turn b → (IsTomlMemory e → ⊥) → (IsTomlMemory f → ⊥) → AreOneError a b → e ≡ f
joined turn memory e f a b is is2 on going (inl h) = absurd (on (subst IsTomlMemory (sym is) (memory a h)))
joined turn memory e f a b is is2 on going (inr (inl h)) = absurd (going (subst IsTomlMemory (sym is2) (memory b h)))
joined turn memory e f a b is is2 on going (inr (inr h)) = is ∙ ap turn h ∙ sym is2

assign_error_one : NotBoth → OneMade → OneRefusal → (old : Text) (ts : List Text) (v : Data) (e f : TomlEditError) → HasSortedKeys v → (IsTomlMemory e → ⊥) → (IsTomlMemory f → ⊥) → FailsToAssignInToml old ts v e → FailsToAssignInToml old ts v f → e ≡ f
assign_error_one both made one old ts v e f sorted on going h k =
    let a = from_assign old ts v e h in
    let b = from_assign old ts v f k in
    joined of_assign memory_assign e f a.0 b.0 a.1 b.1 on going (one_assign_error both made one old ts v a.0 b.0 sorted a.2 b.2)

rename_error_one : OneMap → (old : Text) (ts : List Text) (k : Text) (e f : TomlEditError) → (IsTomlMemory e → ⊥) → (IsTomlMemory f → ⊥) → FailsToRenameInToml old ts k e → FailsToRenameInToml old ts k f → e ≡ f
rename_error_one map old ts k e f on going h r =
    let a = from_rename old ts k e h in
    let b = from_rename old ts k f r in
    joined of_rename memory_rename e f a.0 b.0 a.1 b.1 on going (one_rename_error map old ts k a.0 b.0 a.2 b.2)

delete_error_one : (old : Text) (ts : List Text) (e f : TomlEditError) → (IsTomlMemory e → ⊥) → (IsTomlMemory f → ⊥) → FailsToDeleteInToml old ts e → FailsToDeleteInToml old ts f → e ≡ f
delete_error_one old ts e f on going h k = at (from_delete old ts e h) (from_delete old ts f k)
  where
    at : ((e ≡ NotThere) × LacksInToml old ts) ⊎ ((a : EditTomlError Infallible) × (e ≡ of_delete a) × IsDeleteInTomlError old ts a) → ((f ≡ NotThere) × LacksInToml old ts) ⊎ ((b : EditTomlError Infallible) × (f ≡ of_delete b) × IsDeleteInTomlError old ts b) → e ≡ f
    at (inl a) (inl b) = a.0 ∙ sym b.0
    at (inl a) (inr b) = absurd (going (subst IsTomlMemory (sym b.1) (memory_delete b.0 (lacking_error old ts b.0 a.1 b.2))))
    at (inr a) (inl b) = absurd (on (subst IsTomlMemory (sym a.1) (memory_delete a.0 (lacking_error old ts a.0 b.1 a.2))))
    at (inr a) (inr b) = joined of_delete memory_delete e f a.0 b.0 a.1 b.1 on going (one_delete_error old ts a.0 b.0 a.2 b.2)

pub toml_edit_error_one : NotBoth → OneMade → OneRefusal → OneMap → (old : Text) (edit : TomlEdit) (e f : TomlEditError) → TomlEditHasSortedKeys edit → (IsTomlMemory e → ⊥) → (IsTomlMemory f → ⊥) → IsTomlEditError old edit e → IsTomlEditError old edit f → e ≡ f
toml_edit_error_one both made one map old (edits.Assign pointer raw) e f sorted on going h k = assign_error_one both made one old (tokens pointer) (view raw.value) e f sorted on going h k
toml_edit_error_one both made one map old (edits.AssignValue pointer value) e f sorted on going h k = assign_error_one both made one old (tokens pointer) (view value) e f sorted on going h k
toml_edit_error_one both made one map old (edits.Delete pointer) e f sorted on going h k = delete_error_one old (tokens pointer) e f on going h k
toml_edit_error_one both made one map old (edits.Rename pointer x) e f sorted on going h k = rename_error_one map old (tokens pointer) x.now e f on going h k
