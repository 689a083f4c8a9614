-- A member of a table that is renamed: it is deleted, and assigned under the new key.
use Rattle.std.proofs.Common.{◌≡◌, ◌⊎◌, inl, inr, List, [], ◌∷◌, ◌++◌, Bool, IsTrue, ◌↔◌, Option, Some, None, IsSome, option_map, true≢false, refl, sym, ap, ◌∙◌, subst}
use Rattle.toml.specs.Data.{Data}
use Rattle.jsonptr.specs.Text.{Text}
use Rattle.jsonptr.specs.Node.{Step, key, place, Path, Label, an_object, NodeMap, NamesStep, Names}
use Rattle.jsonptr.specs.Content.{label_of}
use Rattle.jsonptr.specs.Following.{Finds, LacksStep}
use Rattle.jsonptr.specs.TomlValue.{content, nodes, FindsValue}
use Rattle.jsonptr.specs.Put.{put}
use Rattle.jsonptr.specs.Assign.{RefusesAssign}
use Rattle.jsonptr.specs.Assigning.{Assigns}
use Rattle.jsonptr.specs.Removing.{Deletes}
use Rattle.jsonptr.specs.declared.assign.Error.{Error}
use Rattle.jsonptr_tree.proofs.NodeLemmas.{Names-push, Names_one_path}
use Rattle.jsonptr_tree.proofs.FollowingLemmas.{cases_some, stops_in}
use Rattle.jsonptr_tree.proofs.AssigningLemmas.{Assigns_one, Assigns_named, Assigns_object}
use Rattle.jsonptr_patch.specs.Adding.{AddsUnder}
use Rattle.jsonptr_patch.specs.Operating.{IsProperPrefix}
use Rattle.jsonptr_patch.proofs.OneLemmas.{no_last}
use Rattle.jsonptr_toml.specs.InToml.{ReadsAsToml, PrintsAs, IsReadTomlError, IsPrintTomlError}
use Rattle.jsonptr_toml.specs.Errors.{edit_toml_of_read, edit_toml_of_print}
use Rattle.jsonptr_toml.specs.declared.error.ReadTomlError.{ReadTomlError}
use Rattle.jsonptr_toml.specs.declared.error.ReadTomlError.TheVariants as reading
use Rattle.jsonptr_toml.specs.declared.error.PrintTomlError.{PrintTomlError}
use Rattle.jsonptr_toml.specs.declared.error.PrintTomlError.TheVariants as printing
use Rattle.jsonptr_toml.specs.declared.error.EditTomlError.{EditTomlError}
use Rattle.jsonptr_toml.specs.declared.error.EditTomlError.TheVariants.{NotToml, DocumentTooDeep, Refused, TooDeep, NoText, Memory}
use Rattle.jsonptr_text_step.specs.PrivateRenaming.{IsObjectAt, IsTarget}
use Rattle.jsonptr_text_step.specs.Renaming.{IsMember, Renames}
use Rattle.jsonptr_text_step.specs.declared.rename.RenameError.{RenameError}
use Rattle.jsonptr_text_step.specs.declared.stepped.Stepped.{Stepped}
use Rattle.jsonptr_text_step.specs.declared.stepped.Stepped.TheVariants.{InPlace, Rewritten}
use Rattle.jsonptr_text_step.proofs.RenamingLemmas.{member_named, left_object, not_below}
use Rattle.jsonptr_toml_edit.specs.EditInToml.{IsPrinted}
use Rattle.jsonptr_toml_edit.specs.PrivateRenaming.{IsTargetError}
use Rattle.jsonptr_toml_edit.specs.Renaming.{RenamesTo, RenamesInOrder, RenamesAndPrintsToml, IsRenameInTomlError}

-- what the law of assigning says
abbrev NotBoth : Type 0
NotBoth = (n : NodeMap) (tokens : List Text) (v m : NodeMap) (old : Option NodeMap) (e : Error) → Assigns n tokens v m old → RefusesAssign n tokens e → ⊥

-- ---- a value that is assigned under a key of an object

the_key : (x : Text) (s : Step) → NamesStep (Some an_object) x s → s ≡ key x
the_key x (key k) h = ap key h
the_key x (place i) h = absurd h

lacks_key : (n : NodeMap) (w : Path) (k : Text) → n w ≡ Some an_object → n (w ++ key k ∷ []) ≡ None → LacksStep n w k
lacks_key n w k object none = λ s named some.
    let step : s ≡ key k = the_key k s (subst (λ (l : Option Label). NamesStep l k s) object named) in
    let there : IsSome (n (w ++ key k ∷ [])) = subst (λ (t : Step). IsSome (n (w ++ t ∷ []))) step some in
    true≢false (sym (subst (λ (o : Option Label). IsSome o) none there))

key_added : (n v : NodeMap) (tokens front : List Text) (k : Text) (w : Path) → tokens ≡ front ++ k ∷ [] → Names n front w → n w ≡ Some an_object → (r : Option NodeMap) × Assigns n tokens v (put n (w ++ key k ∷ []) v) r
key_added n v tokens front k w is named object = at (cases_some (n (w ++ key k ∷ [])))
  where
    step : NamesStep (n w) k (key k)
    step = subst (λ (l : Option Label). NamesStep l k (key k)) (sym object) refl

    at : IsSome (n (w ++ key k ∷ [])) ⊎ (n (w ++ key k ∷ []) ≡ None) → (r : Option NodeMap) × Assigns n tokens v (put n (w ++ key k ∷ []) v) r
    at (inl some) = (_, Assigns_named n tokens v (w ++ key k ∷ []) (subst (λ (ts : List Text). Names n ts (w ++ key k ∷ [])) (sym is) (Names-push n front k w (key k) named step some)))
    at (inr none) = (None, Assigns_object n tokens front k [] v w (stops_in n tokens front k [] w is named (lacks_key n w k object none)) object)

-- ---- the document

-- what a deletion of the root leaves is not what that of a member leaves
other_blank : (n blank other left : NodeMap) (ts : List Text) → IsMember n ts → Deletes n ts blank left → Deletes n ts other left
other_blank n blank other left ts m h = record {
  whole = λ root. absurd (no_last m.front m.x (sym root ∙ m.split));
  child = h.child;
  none = h.none;
}

pub renames_by : (n left v m blank : NodeMap) (ts target : List Text) (k : Text) (r : Option NodeMap) → IsTarget n ts k target → Finds n ts v → Deletes n ts blank left → Assigns left target v m r → Renames n ts k m
renames_by n left v m blank ts target k r t found deleted assigned = record {
  member = t.member;
  free = t.free;
  moves = record {
    node = v;
    left = left;
    apart = subst (λ (xs : List Text). IsProperPrefix xs (t.member.front ++ k ∷ []) → ⊥) (sym t.member.split) (not_below t.member.front t.member.x k);
    taken = record { found = found; left = other_blank n blank _ left ts t.member deleted };
    added = inr (record {
      front = t.member.front;
      last = k;
      path = t.member.path;
      split = refl;
      named = object.0;
      made = subst (λ (l : Option Label). AddsUnder left t.member.path l k v m) (sym object.1) all;
    });
  };
}
  where
    object : Names left t.member.front t.member.path × (left t.member.path ≡ Some an_object)
    object = left_object n blank left ts t.member deleted

    all : m ≡ put left (t.member.path ++ key k ∷ []) v
    all =
        let a = key_added left v target t.member.front k t.member.path t.target_is object.0 object.1 in
        (Assigns_one left target v m (put left (t.member.path ++ key k ∷ []) v) r a.0 assigned a.1).0

-- assigning it under the other key does not fail
pub no_refusal : NotBoth → (n left v blank : NodeMap) (ts target : List Text) (k : Text) (e : Error) → IsTarget n ts k target → Deletes n ts blank left → RefusesAssign left target e → ⊥
no_refusal both n left v blank ts target k e t deleted refused =
    let object = left_object n blank left ts t.member deleted in
    let a = key_added left v target t.member.front k t.member.path t.target_is object.0 object.1 in
    both left target v (put left (t.member.path ++ key k ∷ []) v) a.0 e a.1 refused

-- and so does deleting it
pub target_there : (n : NodeMap) (ts target : List Text) (k : Text) → IsTarget n ts k target → ((w : Path) → Names n ts w → ⊥) → ⊥
target_there n ts target k t none = none (t.member.path ++ key t.member.x ∷ []) (member_named n ts t.member)

-- ---- what a pointer resolves to

one_label : (l m : Label) → Some l ≡ Some m → l ≡ m
one_label l m e = cc

pub table_there : (d e : Data) (ts : List Text) (b : Bool) → FindsValue d ts e → (IsTrue b ↔ (label_of (content e) ≡ an_object)) → IsTrue b ↔ IsObjectAt (nodes d) ts
table_there d e ts b h iff = (
  λ t. (h.path, h.named, label ∙ ap (λ (l : Label). Some l) (iff.0 t)),
  λ w. iff.1 (one_label (label_of (content e)) an_object (sym label ∙ ap (nodes d) (Names_one_path (nodes d) ts h.path w.0 h.named w.1) ∙ w.2)),
)
  where
    label : nodes d h.path ≡ Some (label_of (content e))
    label = ap (option_map label_of) h.there

-- ---- the errors

pub unread_to_rename : (text : Text) (ts : List Text) (k : Text) (e : ReadTomlError) → IsReadTomlError text e → IsRenameInTomlError text ts k (edit_toml_of_read e)
unread_to_rename text ts k reading.NotToml h = h
unread_to_rename text ts k reading.DocumentTooDeep h = h
unread_to_rename text ts k (reading.Memory f) h = tt

pub untargeted : (text : Text) (ts : List Text) (k : Text) (d : Data) (e : EditTomlError RenameError) → ReadsAsToml text d → IsTargetError (nodes d) ts k e → IsRenameInTomlError text ts k e
untargeted text ts k d NotToml reads h = absurd h
untargeted text ts k d DocumentTooDeep reads h = absurd h
untargeted text ts k d (Refused f) reads h = (d, reads, h)
untargeted text ts k d TooDeep reads h = absurd h
untargeted text ts k d NoText reads h = absurd h
untargeted text ts k d (Memory f) reads h = tt

pub unprinted_after_rename : (text : Text) (ts : List Text) (k : Text) (d2 : Data) (e : PrintTomlError) → RenamesInOrder text ts k d2 → IsPrintTomlError d2 e → IsRenameInTomlError text ts k (edit_toml_of_print e)
unprinted_after_rename text ts k d2 printing.TooDeep made h = (d2, made, h)
unprinted_after_rename text ts k d2 printing.NoText made h = (d2, made, h)
unprinted_after_rename text ts k d2 (printing.Memory f) made h = tt

pub renamed_print : (text : Text) (ts : List Text) (k : Text) (d2 : Data) (e : Stepped) → RenamesTo text ts k d2 → IsPrinted (PrintsAs d2) e → IsPrinted (RenamesAndPrintsToml text ts k) e
renamed_print text ts k d2 (InPlace s) made h = tt
renamed_print text ts k d2 (Rewritten s) made h = (d2, made, h)
