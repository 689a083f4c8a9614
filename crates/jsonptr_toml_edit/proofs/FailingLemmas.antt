-- One text, pointer and value have one error.
use Rattle.std.proofs.Common.{◌≡◌, inl, inr, List, Option, Some, None, refl, sym, ap, subst, ◌∙◌, arith}
use Rattle.std.specs.Bool.{⊤}
use Rattle.toml.specs.Data.{Data, Members, members_depth, table, no_members}
use Rattle.toml.specs.Parse.{parse_document}
use Rattle.jsonptr.specs.Text.{Text}
use Rattle.jsonptr.specs.Node.{NodeMap}
use Rattle.jsonptr.specs.Assigning.{Assigns}
use Rattle.jsonptr.specs.Removing.{Deletes}
use Rattle.jsonptr.specs.TomlValue.{content, nodes, FindsValue, HasSortedKeys}
use Rattle.jsonptr.specs.Assign.{RefusesAssign}
use Rattle.jsonptr.specs.declared.assign.Error.{Error}
use Rattle.jsonptr.proofs.Calling.{Deletes_one, map_of-IsTree}
use Rattle.jsonptr.proofs.TomlCalling.{nodes_one}
use Rattle.jsonptr_toml.specs.InToml.{ReadsAsToml, IsDeep, HasDeepValues, AssignsTo, DeletesTo, LacksInToml}
use Rattle.jsonptr_toml.specs.declared.error.EditTomlError.{EditTomlError}
use Rattle.jsonptr_toml.specs.declared.error.EditTomlError.TheVariants.{NotToml, DocumentTooDeep, Refused, TooDeep, NoText, Memory}
use Rattle.std.specs.declared.convert.Infallible.{Infallible}
use Rattle.jsonptr_toml_edit.specs.Failing.{AssignsInOrder, DeletesInOrder, IsAssignInTomlError, IsDeleteInTomlError, IsTomlOutOfMemory, AreOneError}
use Rattle.jsonptr_toml_edit.specs.EditInToml.{DeletesInToml}

-- what the law of assigning says
abbrev NotBoth : Type 0
NotBoth = (n : NodeMap) (tokens : List Text) (v m : NodeMap) (old : Option NodeMap) (e : Error) → Assigns n tokens v m old → RefusesAssign n tokens e → ⊥

abbrev OneMade : Type 0
OneMade = (n : NodeMap) (tokens : List Text) (v m k : NodeMap) (old was : Option NodeMap) → Assigns n tokens v m old → Assigns n tokens v k was → (m ≡ k) × (old ≡ was)

abbrev OneRefusal : Type 0
OneRefusal = (n : NodeMap) (tokens : List Text) (e f : Error) → RefusesAssign n tokens e → RefusesAssign n tokens f → e ≡ f

-- ---- a text is read in one way

one_read : (text : Text) (ms ns : Members) → parse_document text ≡ Some ms → parse_document text ≡ Some ns → ms ≡ ns
one_read text ms ns p q =
    let whole : Some ms ≡ Some ns = sym p ∙ q in
    let same : ms ≡ ns = cc in
    same

no_text : (text : Text) (ms : Members) → parse_document text ≡ None → parse_document text ≡ Some ms → ⊥
no_text text ms p q =
    let whole : Some ms ≡ None = sym q ∙ p in
    let wrong : ⊥ = cc in
    wrong

pub not_toml_read : (text : Text) (d : Data) → parse_document text ≡ None → ReadsAsToml text d → ⊥
not_toml_read text d none reads = no_text text reads.0 none reads.1

pub not_toml_deep : (text : Text) → parse_document text ≡ None → IsDeep text → ⊥
not_toml_deep text none deep = no_text text deep.0 none deep.1

pub deep_read : (text : Text) (d : Data) → IsDeep text → ReadsAsToml text d → ⊥
deep_read text d deep reads =
    let same : members_depth deep.0 ≡ members_depth reads.0 = ap members_depth (one_read text deep.0 reads.0 deep.1 reads.1) in
    absurd (omega (arith, same, deep.2, reads.3))

pub same_document : (text : Text) (d e : Data) → ReadsAsToml text d → ReadsAsToml text e → d ≡ e
same_document text d e r s = r.2 ∙ ap table (one_read text r.0 s.0 r.1 s.1) ∙ sym s.2

swap : (e f : EditTomlError Error) → AreOneError e f → AreOneError f e
swap e f (inl h) = inr (inl h)
swap e f (inr (inl h)) = inl h
swap e f (inr (inr h)) = inr (inr (sym h))

-- ---- assigning

same_assigned : (made : OneMade) (text : Text) (ts : List Text) (v d2 d3 : Data) → HasSortedKeys v → AssignsInOrder text ts v d2 → AssignsInOrder text ts v d3 → d2 ≡ d3
same_assigned made text ts v d2 d3 sorted h k =
    let from : h.0.0 ≡ k.0.0 = same_document text h.0.0 k.0.0 h.0.1 k.0.1 in
    let there = subst (λ (d : Data). Assigns (nodes d) ts (nodes v) (nodes d2) h.0.2.0) from h.0.2.1 in
    let alike : nodes d2 ≡ nodes d3 = (made (nodes k.0.0) ts (nodes v) (nodes d2) (nodes d3) h.0.2.0 k.0.2.0 there k.0.2.1).0 in
    nodes_one d2 d3 (h.1 sorted) (k.1 sorted) alike

assigned_or_refused : (both : NotBoth) (text : Text) (ts : List Text) (v d2 d : Data) (e : Error) → AssignsTo text ts v d2 → ReadsAsToml text d → RefusesAssign (nodes d) ts e → ⊥
assigned_or_refused both text ts v d2 d e h reads refused =
    let from : h.0 ≡ d = same_document text h.0 d h.1 reads in
    let there = subst (λ (x : Data). Assigns (nodes x) ts (nodes v) (nodes d2) h.2.0) from h.2.1 in
    both (nodes d) ts (nodes v) (nodes d2) h.2.0 e there refused

-- the text is read, if the pointer is at fault or the new document is
too_deep_read : (text : Text) (ts : List Text) (v : Data) → IsAssignInTomlError text ts v TooDeep → (d : Data) × ReadsAsToml text d
too_deep_read text ts v (inl h) = h.0
too_deep_read text ts v (inr h) = (h.1.0.0, h.1.0.1)

-- an error beside that of a text that is not TOML, and so on

beside_not_toml : (text : Text) (ts : List Text) (v : Data) (f : EditTomlError Error) → parse_document text ≡ None → IsAssignInTomlError text ts v f → AreOneError NotToml f
beside_not_toml text ts v NotToml h k = inr (inr refl)
beside_not_toml text ts v DocumentTooDeep h k = absurd (not_toml_deep text h k)
beside_not_toml text ts v (Refused f) h k = absurd (not_toml_read text k.0 h k.1)
beside_not_toml text ts v TooDeep h k = let r = too_deep_read text ts v k in absurd (not_toml_read text r.0 h r.1)
beside_not_toml text ts v NoText h k = absurd (not_toml_read text k.1.1.0.0 h k.1.1.0.1)
beside_not_toml text ts v (Memory f) h k = inr (inl tt)

beside_deep : (text : Text) (ts : List Text) (v : Data) (f : EditTomlError Error) → IsDeep text → IsAssignInTomlError text ts v f → AreOneError DocumentTooDeep f
beside_deep text ts v NotToml h k = absurd (not_toml_deep text k h)
beside_deep text ts v DocumentTooDeep h k = inr (inr refl)
beside_deep text ts v (Refused f) h k = absurd (deep_read text k.0 h k.1)
beside_deep text ts v TooDeep h k = let r = too_deep_read text ts v k in absurd (deep_read text r.0 h r.1)
beside_deep text ts v NoText h k = absurd (deep_read text k.1.1.0.0 h k.1.1.0.1)
beside_deep text ts v (Memory f) h k = inr (inl tt)

place_or_deep : (both : NotBoth) (text : Text) (ts : List Text) (v : Data) (e : Error) → IsAssignInTomlError text ts v (Refused e) → IsAssignInTomlError text ts v TooDeep → ⊥
place_or_deep both text ts v e h (inl k) = absurd (omega (arith, h.2, k.1))
place_or_deep both text ts v e h (inr k) = assigned_or_refused both text ts v k.0 h.0 e k.1.0 h.1 h.3

beside_bad_place : (both : NotBoth) (one : OneRefusal) (text : Text) (ts : List Text) (v : Data) (e : Error) (f : EditTomlError Error) → IsAssignInTomlError text ts v (Refused e) → IsAssignInTomlError text ts v f → AreOneError (Refused e) f
beside_bad_place both one text ts v e NotToml h k = swap NotToml (Refused e) (beside_not_toml text ts v (Refused e) k h)
beside_bad_place both one text ts v e DocumentTooDeep h k = swap DocumentTooDeep (Refused e) (beside_deep text ts v (Refused e) k h)
beside_bad_place both one text ts v e (Refused f) h k =
    let from : k.0 ≡ h.0 = same_document text k.0 h.0 k.1 h.1 in
    inr (inr (ap Refused (one (nodes h.0) ts e f h.3 (subst (λ (d : Data). RefusesAssign (nodes d) ts f) from k.3))))
beside_bad_place both one text ts v e TooDeep h k = absurd (place_or_deep both text ts v e h k)
beside_bad_place both one text ts v e NoText h k = absurd (assigned_or_refused both text ts v k.1.0 h.0 e k.1.1.0 h.1 h.3)
beside_bad_place both one text ts v e (Memory f) h k = inr (inl tt)

deep_or_no_text : (made : OneMade) (text : Text) (ts : List Text) (v : Data) → HasSortedKeys v → IsAssignInTomlError text ts v TooDeep → IsAssignInTomlError text ts v NoText → ⊥
deep_or_no_text made text ts v sorted (inl h) k = absurd (omega (arith, h.1, k.0))
deep_or_no_text made text ts v sorted (inr h) k = k.1.2.0 (subst HasDeepValues (same_assigned made text ts v h.0 k.1.0 sorted h.1 k.1.1) h.2)

pub one_assign_error : NotBoth → OneMade → OneRefusal → (text : Text) (ts : List Text) (v : Data) (e f : EditTomlError Error) → HasSortedKeys v → IsAssignInTomlError text ts v e → IsAssignInTomlError text ts v f → AreOneError e f
one_assign_error both made one text ts v NotToml f sorted h k = beside_not_toml text ts v f h k
one_assign_error both made one text ts v DocumentTooDeep f sorted h k = beside_deep text ts v f h k
one_assign_error both made one text ts v (Refused e) f sorted h k = beside_bad_place both one text ts v e f h k
one_assign_error both made one text ts v TooDeep NotToml sorted h k = swap NotToml TooDeep (beside_not_toml text ts v TooDeep k h)
one_assign_error both made one text ts v TooDeep DocumentTooDeep sorted h k = swap DocumentTooDeep TooDeep (beside_deep text ts v TooDeep k h)
one_assign_error both made one text ts v TooDeep (Refused f) sorted h k = absurd (place_or_deep both text ts v f k h)
one_assign_error both made one text ts v TooDeep TooDeep sorted h k = inr (inr refl)
one_assign_error both made one text ts v TooDeep NoText sorted h k = absurd (deep_or_no_text made text ts v sorted h k)
one_assign_error both made one text ts v TooDeep (Memory f) sorted h k = inr (inl tt)
one_assign_error both made one text ts v NoText NotToml sorted h k = swap NotToml NoText (beside_not_toml text ts v NoText k h)
one_assign_error both made one text ts v NoText DocumentTooDeep sorted h k = swap DocumentTooDeep NoText (beside_deep text ts v NoText k h)
one_assign_error both made one text ts v NoText (Refused f) sorted h k = swap (Refused f) NoText (beside_bad_place both one text ts v f NoText k h)
one_assign_error both made one text ts v NoText TooDeep sorted h k = absurd (deep_or_no_text made text ts v sorted k h)
one_assign_error both made one text ts v NoText NoText sorted h k = inr (inr refl)
one_assign_error both made one text ts v NoText (Memory f) sorted h k = inr (inl tt)
one_assign_error both made one text ts v (Memory e) f sorted h k = inl tt

-- ---- deleting

same_deleted : (text : Text) (ts : List Text) (d2 d3 : Data) → DeletesInOrder text ts d2 → DeletesInOrder text ts d3 → d2 ≡ d3
same_deleted text ts d2 d3 h k =
    let from : h.0.0 ≡ k.0.0 = same_document text h.0.0 k.0.0 h.0.1 k.0.1 in
    let there = subst (λ (d : Data). Deletes (nodes d) ts (nodes (table no_members)) (nodes d2)) from h.0.3 in
    nodes_one d2 d3 h.1 k.1 (Deletes_one (nodes k.0.0) (nodes (table no_members)) ts (nodes d2) (nodes d3) (map_of-IsTree (content k.0.0)) there k.0.3)

deleted_or_lacking : (text : Text) (ts : List Text) (d2 : Data) → DeletesTo text ts d2 → LacksInToml text ts → ⊥
deleted_or_lacking text ts d2 h k =
    let found : FindsValue k.0 ts h.2.0 = subst (λ (d : Data). FindsValue d ts h.2.0) (same_document text h.0 k.0 h.1 k.1) h.2.1 in
    k.2 found.path found.named

deep_or_unprinted : (text : Text) (ts : List Text) → IsDeleteInTomlError text ts TooDeep → IsDeleteInTomlError text ts NoText → ⊥
deep_or_unprinted text ts h k = k.2.0 (subst HasDeepValues (same_deleted text ts h.0 k.0 h.1 k.1) h.2)

-- the text is read, if the error is one of these
abbrev ReadFirst : EditTomlError Infallible → Type 0
ReadFirst NotToml = ⊥
ReadFirst DocumentTooDeep = ⊥
ReadFirst (Refused f) = ⊥
ReadFirst TooDeep = ⊤
ReadFirst NoText = ⊤
ReadFirst (Memory f) = ⊥

read_first : (text : Text) (ts : List Text) (e : EditTomlError Infallible) → ReadFirst e → IsDeleteInTomlError text ts e → (d : Data) × ReadsAsToml text d
read_first text ts NotToml late h = absurd late
read_first text ts DocumentTooDeep late h = absurd late
read_first text ts (Refused f) late h = absurd late
read_first text ts TooDeep late h = (h.1.0.0, h.1.0.1)
read_first text ts NoText late h = (h.1.0.0, h.1.0.1)
read_first text ts (Memory f) late h = absurd late

pub one_delete_error : (text : Text) (ts : List Text) (e f : EditTomlError Infallible) → IsDeleteInTomlError text ts e → IsDeleteInTomlError text ts f → AreOneError e f
one_delete_error text ts NotToml NotToml h k = inr (inr refl)
one_delete_error text ts NotToml DocumentTooDeep h k = absurd (not_toml_deep text h k)
one_delete_error text ts NotToml (Refused f) h k = absurd k
one_delete_error text ts NotToml TooDeep h k = let r = read_first text ts TooDeep tt k in absurd (not_toml_read text r.0 h r.1)
one_delete_error text ts NotToml NoText h k = let r = read_first text ts NoText tt k in absurd (not_toml_read text r.0 h r.1)
one_delete_error text ts NotToml (Memory f) h k = inr (inl tt)
one_delete_error text ts DocumentTooDeep NotToml h k = absurd (not_toml_deep text k h)
one_delete_error text ts DocumentTooDeep DocumentTooDeep h k = inr (inr refl)
one_delete_error text ts DocumentTooDeep (Refused f) h k = absurd k
one_delete_error text ts DocumentTooDeep TooDeep h k = let r = read_first text ts TooDeep tt k in absurd (deep_read text r.0 h r.1)
one_delete_error text ts DocumentTooDeep NoText h k = let r = read_first text ts NoText tt k in absurd (deep_read text r.0 h r.1)
one_delete_error text ts DocumentTooDeep (Memory f) h k = inr (inl tt)
one_delete_error text ts (Refused e) f h k = absurd h
one_delete_error text ts TooDeep NotToml h k = let r = read_first text ts TooDeep tt h in absurd (not_toml_read text r.0 k r.1)
one_delete_error text ts TooDeep DocumentTooDeep h k = let r = read_first text ts TooDeep tt h in absurd (deep_read text r.0 k r.1)
one_delete_error text ts TooDeep (Refused f) h k = absurd k
one_delete_error text ts TooDeep TooDeep h k = inr (inr refl)
one_delete_error text ts TooDeep NoText h k = absurd (deep_or_unprinted text ts h k)
one_delete_error text ts TooDeep (Memory f) h k = inr (inl tt)
one_delete_error text ts NoText NotToml h k = let r = read_first text ts NoText tt h in absurd (not_toml_read text r.0 k r.1)
one_delete_error text ts NoText DocumentTooDeep h k = let r = read_first text ts NoText tt h in absurd (deep_read text r.0 k r.1)
one_delete_error text ts NoText (Refused f) h k = absurd k
one_delete_error text ts NoText TooDeep h k = absurd (deep_or_unprinted text ts k h)
one_delete_error text ts NoText NoText h k = inr (inr refl)
one_delete_error text ts NoText (Memory f) h k = inr (inl tt)
one_delete_error text ts (Memory e) f h k = inl tt

-- ---- nothing to delete

pub lacking_error : (text : Text) (ts : List Text) (e : EditTomlError Infallible) → LacksInToml text ts → IsDeleteInTomlError text ts e → IsTomlOutOfMemory e
lacking_error text ts NotToml l h = absurd (not_toml_read text l.0 h l.1)
lacking_error text ts DocumentTooDeep l h = absurd (deep_read text l.0 h l.1)
lacking_error text ts (Refused f) l h = absurd h
lacking_error text ts TooDeep l h = absurd (deleted_or_lacking text ts h.0 h.1.0 l)
lacking_error text ts NoText l h = absurd (deleted_or_lacking text ts h.0 h.1.0 l)
lacking_error text ts (Memory f) l h = tt

pub lacking_or_deleted : (text new : Text) (ts : List Text) → LacksInToml text ts → DeletesInToml text ts new → ⊥
lacking_or_deleted text new ts l h = deleted_or_lacking text ts h.1 (h.0, h.2, h.4, h.5) l
