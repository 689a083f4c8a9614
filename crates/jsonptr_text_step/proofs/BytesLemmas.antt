-- What edits of a text do to its bytes.
use Rattle.std.proofs.Common.{◌≡◌, ℕ, List, [], ◌∷◌, ◌++◌, Option, Some, None, option_map, IsSome, ◌⊎◌, inl, inr, string_bytes, codes, rules, refl, sym, ap, ◌∙◌, subst, arith}
use Rattle.json.specs.Lex.{tokens as lexed}
use Rattle.serde_json.specs.Data as json
use Rattle.serde_json.specs.Data.{Data}
use Rattle.serde_json.specs.Find.{get_member}
use Rattle.serde_json.specs.Read.{read}
use Rattle.serde_json.specs.View.{view}
use Rattle.serde_json.specs.declared.value.Value.{Null}
use Rattle.serde_json.specs.declared.value.Value.{Null, the_lemmas}
use Rattle.jsonptr.specs.Text.{Text, dec}
use Rattle.jsonptr.specs.Node.{key, Label, an_object, NamesStep}
use Rattle.jsonptr.specs.Content.{Content, label_of, content_at}
use Rattle.jsonptr.specs.Expansion.{expanded}
use Rattle.jsonptr.specs.Json.{content, nodes}
use Rattle.jsonptr_tree.proofs.ContentLemmas.{content_at-push}
use Rattle.jsonptr_tree.proofs.NodeLemmas.{Names-push}
use Rattle.jsonptr_text_search.specs.Search as json_search
use Rattle.jsonptr_text_search.specs.Search.{Choice}
use Rattle.jsonptr_text_resolve.specs.InText.{FindsInText}
use Rattle.jsonptr_text_resolve.specs.Selecting.{IsChoiceOf, AreChoicesOf}
use Rattle.jsonptr_patch.specs.Adding.{MeansPlace}
use Rattle.jsonptr_text_check.specs.Editing.{InsertsItem, AddsChosenMember, AddsElement, ChangesChild, Makes}
use Rattle.jsonptr_text_check.specs.declared.change.ChildValue.{ChildValue}
use Rattle.jsonptr_text_check.specs.declared.change.Change.TheVariants as change
use Rattle.jsonptr_text_piece.specs.Spacing.{IsBlank, IsTrimmed}
use Rattle.jsonptr_text_check.specs.Child.{IsValueText}
use Rattle.jsonptr_text_check.specs.PrivateChild.{IsCutChild}
use Rattle.jsonptr_text_step.specs.Steps.{ReplacesByText, AddsAtByText}
use Rattle.jsonptr_text_step.specs.Bytes.{IsScalar, HasPlace, ReplacesBytes, CutsBytes, CutsInTurn, CutsMembers, CutsElement}
use Rattle.jsonptr_text_value.specs.Raw.{value_of_raw}
use Rattle.jsonptr_text_step.specs.PatchInText.{AddsAtBytes}
use Rattle.jsonptr_text_step.specs.PrivateReaching.{ReachedInText, ReplacesCut, SplicesAt, MemberAdded, ElementAppended, ReplacesScalarByText, AddsPieceByText, AddsByText}
use Rattle.jsonptr_text_step.specs.PrivateGiving.{ReplacesWith, ExpandsWith, AddsWith}
use Rattle.jsonptr_text_value.specs.Wrapping.{wrapped}
use Rattle.jsonptr_text_step.specs.Placing.{IsAt}
use Rattle.jsonptr_text_step.specs.PrivateOperating.{ElementInserted}
use Rattle.jsonptr_text_step.specs.RawPatching.{AddsGiven, ReplacesGiven}
use Rattle.jsonptr_text_value.specs.declared.raw_value.RawValue.{RawValue}
use Rattle.jsonptr_text_value.proofs.WrappingLemmas.{same_data}
use Rattle.jsonptr_text_step.proofs.EditLemmas.{label_there}
use Rattle.jsonptr_text_step.proofs.ReachingLemmas.{in_object}
use Rattle.jsonptr_text_value.proofs.WrappingLemmas.{raw_reads}

-- the value of a text that is read twice
pub one_value : (t : Text) (d e : Data) → read t ≡ Some d → read t ≡ Some e → d ≡ e
one_value t d e a b = same_data d e (sym a ∙ b)

pub null_seen : view Null ≡ json.null
null_seen = search (rules, the_lemmas)

-- where an edit was made, in the old text and in the new one
pub found_old : (old new : Text) (tokens : List Text) (R : Data → Data → Type 0) (h : ReachedInText old new tokens R) → FindsInText old tokens h.4.at
found_old old new tokens R h = (h.0, h.2, record { path = h.4.path; named = h.4.named; there = h.4.there })

pub found_new : (old new : Text) (tokens : List Text) (R : Data → Data → Type 0) (h : ReachedInText old new tokens R) → FindsInText new tokens h.4.at2
found_new old new tokens R h = (h.1, h.3, record { path = h.4.path; named = h.4.named2; there = h.4.there2 })

found_is : (t : Text) (tokens : List Text) (d e : Data) → d ≡ e → FindsInText t tokens d → FindsInText t tokens e
found_is t tokens d e same h = subst (FindsInText t tokens) same h

-- ---- a value replaced

pub replaced : (old new middle piece flat : Text) (tokens : List Text) (cs : List Choice) → AreChoicesOf tokens cs → SplicesAt cs old new middle piece → ReachedInText old new tokens (ReplacesCut middle flat) → IsTrimmed middle → ((e : Data) × (read flat ≡ Some e) × IsValueText e piece) → lexed piece ≡ lexed flat → ReplacesByText old new tokens flat
replaced old new middle piece flat tokens cs are s h trimmed p same = (
  p.0,
  p.1,
  record {
    middle = middle;
    piece = piece;
    value = h.4.at;
    splices = s.splices;
    found = found_old old new tokens (ReplacesCut middle flat) h;
    whole = record { reads = h.4.changes.0; trimmed = trimmed };
    made = p.2;
    was_at = (cs, are, s.was_at);
    is_at = (cs, are, s.is_at);
  },
  same,
)

pub replaced_scalar : (old new middle piece flat : Text) (tokens : List Text) (cs : List Choice) (d : Data) → AreChoicesOf tokens cs → SplicesAt cs old new middle piece → ReachedInText old new tokens (ReplacesCut middle flat) → IsTrimmed middle → ((e : Data) × (read flat ≡ Some e) × IsValueText e piece) → lexed piece ≡ lexed flat → read middle ≡ Some d → IsScalar d
    → ReplacesScalarByText old new tokens flat
replaced_scalar old new middle piece flat tokens cs d are s h trimmed p same reads scalar = (
  p.0,
  p.1,
  record {
    middle = middle;
    piece = piece;
    value = h.4.at;
    splices = s.splices;
    found = found_old old new tokens (ReplacesCut middle flat) h;
    whole = record { reads = h.4.changes.0; trimmed = trimmed };
    made = p.2;
    was_at = (cs, are, s.was_at);
    is_at = (cs, are, s.is_at);
  },
  subst IsScalar (one_value middle d h.4.at reads h.4.changes.0) scalar,
  same,
)

pub replaced_member : (old new : Text) (front : List Text) (x middle piece flat : Text) (cs : List Choice) → AreChoicesOf (front ++ x ∷ []) cs → SplicesAt cs old new middle piece → ReachedInText old new front (ChangesChild (x, None) (ReplacesCut middle flat)) → IsTrimmed middle → ((e : Data) × (read flat ≡ Some e) × IsValueText e piece) → lexed piece ≡ lexed flat
    → ReplacesByText old new (front ++ x ∷ []) flat
replaced_member old new front x middle piece flat cs are s h trimmed p same = at h.4.changes
  where
    at : ChangesChild (x, None) (ReplacesCut middle flat) h.4.at h.4.at2 → ReplacesByText old new (front ++ x ∷ []) flat
    at (inl m) = absurd (cc)
    at (inr m) =
        let object_there : content_at h.4.path (content h.0) ≡ Some (content (json.object m.ms)) = h.4.there ∙ ap (λ (y : Data). Some (content y)) m.old in
        let label : nodes h.0 h.4.path ≡ Some an_object = label_there h.0 (json.object m.ms) h.4.path object_there in
        let child : content_at (h.4.path ++ key x ∷ []) (content h.0) ≡ Some (content m.at) = content_at-push h.4.path (key x) (content h.0) (content (json.object m.ms)) object_there ∙ (in_object m.ms m.ms2 x m.at m.at2 m.differs).was in (
          p.0,
          p.1,
          record {
            middle = middle;
            piece = piece;
            value = m.at;
            splices = s.splices;
            found = (
              h.0,
              h.2,
              record {
                path = h.4.path ++ key x ∷ [];
                named = Names-push (nodes h.0) front x h.4.path (key x) h.4.named (subst (λ (l : Option Label). NamesStep l x (key x)) (sym label) refl) (subst (λ (o : Option Content). IsSome (option_map label_of o)) (sym child) refl);
                there = child;
              },
            );
            whole = record { reads = m.changes.0; trimmed = trimmed };
            made = p.2;
            was_at = (cs, are, s.was_at);
            is_at = (cs, are, s.is_at);
          },
          same,
        )

pub replaces_value : (old new : Text) (tokens : List Text) (flat : Text) (v : Data) → read flat ≡ Some v → ReplacesByText old new tokens flat → ReplacesBytes old new tokens v
replaces_value old new tokens flat v reads h = subst (ReplacesBytes old new tokens) (one_value flat h.0 v h.1 reads) h.2

pub replaces_with : (old new : Text) (tokens : List Text) (raw : RawValue) → ReplacesByText old new tokens (string_bytes raw.printed.flat) → ReplacesWith raw old new tokens
replaces_with old new tokens raw h =
    subst (λ (e : Data). (b : ReplacesBytes old new tokens e) × (lexed b.piece ≡ lexed (string_bytes raw.printed.flat))) (one_value (string_bytes raw.printed.flat) h.0 (value_of_raw raw) h.1 (raw_reads raw)) (h.2, h.3)

pub expands : (old new : Text) (front more : List Text) (flat : Text) (raw : RawValue) (e : Data) → read flat ≡ Some e → nodes e ≡ expanded more (nodes (value_of_raw raw)) → lexed flat ≡ wrapped more (lexed (string_bytes raw.printed.flat)) → ReplacesScalarByText old new front flat → ExpandsWith raw old new front more
expands old new front more flat raw e reads is wraps h =
    (record { whole = h.0; whole_is = ap nodes (one_value flat h.0 e h.1 reads) ∙ is; replaces = h.2; scalar = h.3 }, h.4 ∙ wraps)

-- ---- a child added

pub piece_added : (old new before middle after piece value trail flat : Text) (tokens : List Text) (k : Option Text) → old ≡ before ++ (middle ++ after) → new ≡ before ++ (piece ++ after) → IsBlank middle → ((e : Data) × (read flat ≡ Some e) × IsCutChild k e piece value trail) → lexed value ≡ lexed flat
    → IsAt new tokens value (trail ++ after) → AddsPieceByText old new tokens k flat
piece_added old new before middle after piece value trail flat tokens k old_is new_is blank p same at = (
  p.0,
  p.1,
  record {
    middle = middle;
    piece = piece;
    splices = record { before = before; after = after; old_is = old_is; new_is = new_is };
    blank = blank;
    child = p.2.one;
    is_at = subst (λ (t : Text). IsAt new tokens t (p.2.one.trail ++ after)) (sym p.2.value_is) (subst (λ (t : Text). IsAt new tokens value (t ++ after)) (sym p.2.trail_is) at);
  },
  ap (λ (t : Text). lexed t) p.2.value_is ∙ same,
)

pub adds_new_member : (old new : Text) (front : List Text) (x flat : Text) → ReachedInText old new front (MemberAdded x flat) → AddsPieceByText old new (front ++ x ∷ []) (Some x) flat → AddsByText old new front x flat
adds_new_member old new front x flat h p =
    let m = h.4.changes.2 in
    (p.0, p.1, inl ((m.ms, found_is old front h.4.at (json.object m.ms) m.old (found_old old new front (MemberAdded x flat) h), m.inserts.none), p.2), p.3)

one_index : (i j : ℕ) → Some i ≡ Some j → i ≡ j
one_index i j h = cc

pub adds_last_element : (old new : Text) (front : List Text) (x flat : Text) (child : ChildValue) (i : ℕ) → child.selector.index ≡ Some i → (x ≡ codes "-") ⊎ (x ≡ dec i) → ReachedInText old new front (Makes (change.Append child)) → AddsPieceByText old new (front ++ dec i ∷ []) None flat → AddsByText old new front x flat
adds_last_element old new front x flat child i index refers h p =
    let a = h.4.changes.2 in
    let same : i ≡ json_search.items_count a.ds = one_index i a.i (sym index ∙ a.selects) ∙ a.last in
    let q = subst (λ (n : ℕ). AddsPieceByText old new (front ++ dec n ∷ []) None flat) same p in
    let place : HasPlace old front x = record {
      ds = a.ds;
      found = found_is old front h.4.at (json.array a.ds) a.old (found_old old new front (Makes (change.Append child)) h);
      i = json_search.items_count a.ds;
      means = means a.ds (subst (λ (n : ℕ). (x ≡ codes "-") ⊎ (x ≡ dec n)) same refers);
    } in
    (q.0, q.1, inr (place, q.2), q.3)
  where
    means : (ds : json.Items) → (x ≡ codes "-") ⊎ (x ≡ dec (json_search.items_count ds)) → MeansPlace (json_search.items_count ds) x (json_search.items_count ds)
    means ds (inl dash) = (omega arith, inr (dash, refl))
    means ds (inr number) = (omega arith, inl number)

pub adds_new_element : (old new : Text) (front : List Text) (x flat : Text) → ReachedInText old new front (ElementInserted x flat) → AddsPieceByText old new (front ++ x ∷ []) None flat → AddsByText old new front x flat
adds_new_element old new front x flat h p =
    let m = h.4.changes.4 in
    let is : x ≡ dec m.i = h.4.changes.3.index_is m.i m.selects in
    let q = subst (λ (y : Text). AddsPieceByText old new (front ++ y ∷ []) None flat) is p in
    let place : HasPlace old front x = record {
      ds = m.ds;
      found = found_is old front h.4.at (json.array m.ds) m.old (found_old old new front (ElementInserted x flat) h);
      i = m.i;
      means = (m.inserts.within, inl is);
    } in
    (q.0, q.1, inr (place, q.2), q.3)

pub element_appended : (child : ChildValue) (x flat : Text) (i : ℕ) (d d2 : Data) → child.selector.index ≡ Some i → (x ≡ codes "-") ⊎ (x ≡ dec i) → string_bytes child.value ≡ flat → Makes (change.Append child) d d2 → ElementAppended x flat d d2
element_appended child x flat i d d2 index refers value m =
    let a = m.2 in
    let same : i ≡ json_search.items_count a.ds = one_index i a.i (sym index ∙ a.selects) ∙ a.last in record {
      ds = a.ds;
      ds2 = a.ds2;
      e = m.0;
      reads = ap read (sym value) ∙ m.1;
      old = a.old;
      new = a.new;
      inserts = subst (λ (n : ℕ). InsertsItem n m.0 a.ds a.ds2) a.last a.inserts;
      refers = subst (λ (n : ℕ). (x ≡ codes "-") ⊎ (x ≡ dec n)) same refers;
    }

pub element_inserted : (child : ChildValue) (x flat : Text) (d d2 : Data) → IsChoiceOf x (json_search.choice_of child.selector) → string_bytes child.value ≡ flat → Makes (change.Insert child) d d2 → ElementInserted x flat d d2
element_inserted child x flat d d2 is value m = (m.0, json_search.choice_of child.selector, ap read (sym value) ∙ m.1, is, m.2)

pub adds_expanded_bytes : (old new : Text) (front : List Text) (x : Text) (rest : List Text) (flat : Text) (raw : RawValue) (e : Data) → read flat ≡ Some e → nodes e ≡ expanded rest (nodes (value_of_raw raw)) → lexed flat ≡ wrapped rest (lexed (string_bytes raw.printed.flat)) → AddsByText old new front x flat → AddsWith raw old new front x rest
adds_expanded_bytes old new front x rest flat raw e reads is wraps h = ((h.0, ap nodes (one_value flat h.0 e h.1 reads) ∙ is, h.2), h.3 ∙ wraps)

pub adds_child_at : (old new : Text) (front : List Text) (x flat : Text) → AddsByText old new front x flat → AddsAtByText old (front ++ x ∷ []) flat new
adds_child_at old new front x flat h = (h.0, h.1, inr (front, x, refl, h.2), h.3)

pub adds_there_at : (old new : Text) (path : List Text) (flat : Text) → ReplacesByText old new path flat → AddsAtByText old path flat new
adds_there_at old new path flat h = (h.0, h.1, inl h.2, h.3)

pub adds_value_at : (old new : Text) (path : List Text) (flat : Text) (v : Data) → read flat ≡ Some v → AddsAtByText old path flat new → AddsAtBytes old path v new
adds_value_at old new path flat v reads h = subst (λ (e : Data). AddsAtBytes old path e new) (one_value flat h.0 v h.1 reads) h.2

-- with the text of the value
pub replaces_given : (old new : Text) (tokens : List Text) (raw : RawValue) → ReplacesByText old new tokens (string_bytes raw.printed.flat) → ReplacesGiven old tokens (value_of_raw raw) (Some raw) new
replaces_given old new tokens raw h = subst (λ (e : Data). ReplacesGiven old tokens e (Some raw) new) (one_value (string_bytes raw.printed.flat) h.0 (value_of_raw raw) h.1 (raw_reads raw)) (h.2, h.3)

pub adds_given : (old new : Text) (tokens : List Text) (raw : RawValue) → AddsAtByText old tokens (string_bytes raw.printed.flat) new → AddsGiven old tokens (value_of_raw raw) (Some raw) new
adds_given old new tokens raw h = subst (λ (e : Data). AddsGiven old tokens e (Some raw) new) (one_value (string_bytes raw.printed.flat) h.0 (value_of_raw raw) h.1 (raw_reads raw)) (h.2, h.3)

-- ---- a child cut out

pub child_cut : (old new before middle after value trail : Text) (tokens : List Text) (k : Option Text) (v : Data) → old ≡ before ++ (middle ++ after) → new ≡ before ++ after → IsCutChild k v middle value trail → IsAt old tokens value (trail ++ after) → CutsBytes old new tokens k v
child_cut old new before middle after value trail tokens k v old_is new_is h at = record {
  middle = middle;
  splices = record { before = before; after = after; old_is = old_is; new_is = new_is };
  child = h.one;
  was_at = subst (λ (t : Text). IsAt old tokens t (h.one.trail ++ after)) (sym h.value_is) (subst (λ (t : Text). IsAt old tokens value (t ++ after)) (sym h.trail_is) at);
}

pub cuts_members : (old first new value : Text) (front : List Text) (x : Text) (c : Choice) → IsChoiceOf x c → ReachedInText new old front (λ at at2. (e : Data) × (read value ≡ Some e) × AddsChosenMember c e at at2) → ((v : Data) × (read value ≡ Some v) × CutsBytes old first (front ++ x ∷ []) (Some x) v) → ((mids : List Text) × CutsInTurn front x first mids new)
    → CutsMembers old new front x
cuts_members old first new value front x c is h cut again =
    let m = h.4.changes.2 in record {
      ms = m.ms2;
      v = h.4.changes.0;
      first = first;
      mids = again.0;
      found = found_is old front h.4.at2 (json.object m.ms2) m.new (found_new new old front (λ at at2. (e : Data) × (read value ≡ Some e) × AddsChosenMember c e at at2) h);
      was = subst (λ (k : Text). get_member k m.ms2 ≡ Some h.4.changes.0) is.key_is m.inserts.is;
      cuts = subst (CutsBytes old first (front ++ x ∷ []) (Some x)) (one_value value cut.0 h.4.changes.0 cut.1 h.4.changes.1) cut.2;
      again = again.1;
    }

pub cuts_element : (old new value : Text) (front : List Text) (x : Text) (c : Choice) → IsChoiceOf x c → ReachedInText new old front (λ at at2. (e : Data) × (read value ≡ Some e) × AddsElement c e at at2) → ((v : Data) × (read value ≡ Some v) × CutsBytes old new (front ++ x ∷ []) None v) → CutsElement old new front x
cuts_element old new value front x c is h cut =
    let m = h.4.changes.2 in record {
      ds = m.ds2;
      i = m.i;
      v = h.4.changes.0;
      found = found_is old front h.4.at2 (json.array m.ds2) m.new (found_new new old front (λ at at2. (e : Data) × (read value ≡ Some e) × AddsElement c e at at2) h);
      refers = is.index_is m.i m.selects;
      was = m.inserts.is;
      cuts = subst (CutsBytes old new (front ++ x ∷ []) None) (one_value value cut.0 h.4.changes.0 cut.1 h.4.changes.1) cut.2;
    }
