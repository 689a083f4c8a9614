-- The error of a search that stopped.
use Rattle.std.proofs.Common.{◌≡◌, ℕ, ◌+◌, ◌-◌, ◌<◌, ◌≤◌, List, [], ◌∷◌, ◌++◌, length, Ok, Err, refl, sym, ap, ap₂, ◌∙◌, subst, arith, length-append}
use Rattle.serde_json.specs.Data as json
use Rattle.serde_json.specs.Data.{Data}
use Rattle.jsonptr_text_search.specs.Search as json_search
use Rattle.jsonptr_text_search.specs.Search.{kind_of}
use Rattle.jsonptr_text_search.specs.declared.outcome.Kind.{Kind}
use Rattle.jsonptr_text_search.specs.declared.outcome.Kind.TheVariants as kind
use Rattle.jsonptr_text_resolve.specs.Selecting.{StopsLeft}
use Rattle.jsonptr_text_resolve.proofs.SearchLemmas.{len_same}
use Rattle.jsonptr.specs.Text.{Text, text}
use Rattle.jsonptr.specs.Node.{Label, Scalar, of_json, an_object, an_array, a_leaf}
use Rattle.jsonptr.specs.Following.{StopsBefore}
use Rattle.jsonptr.specs.Content.{label_of}
use Rattle.jsonptr.specs.Json.{content, nodes}
use Rattle.jsonptr_tree.proofs.ContentLemmas.{map_of-IsTree}
use Rattle.jsonptr_tree.proofs.FollowingLemmas.{StopsBefore-array}
use Rattle.jsonptr.specs.Index.{Reads, IsWithin}
use Rattle.jsonptr.specs.Types.Index.{Index}
use Rattle.jsonptr.specs.Types.Index.TheVariants.{Num}
use Rattle.jsonptr.specs.Child.{IsChildError}
use Rattle.jsonptr.specs.Types.ChildError.{ChildError}
use Rattle.jsonptr.specs.Types.ChildError.TheVariants as child_error
use Rattle.jsonptr.specs.Types.ParseIndexError.{ParseIndexError}
use Rattle.jsonptr.specs.Types.OutOfBoundsError.{OutOfBoundsError}
use Rattle.jsonptr.specs.Resolve.{resolve_position_of, resolve_offset_of, resolve_cause_of, Refuses}
use Rattle.jsonptr.specs.declared.resolve.Error.{Error}

-- two prefixes of one list are equal if their lengths are
same_front : (xs ys us vs : List Text) → xs ++ us ≡ ys ++ vs → length xs ≡ length ys → (xs ≡ ys) × (us ≡ vs)
same_front [] [] us vs e h = (refl, e)
same_front [] (y ∷ ys) us vs e h = absurd (omega arith)
same_front (x ∷ xs) [] us vs e h = absurd (omega arith)
same_front (x ∷ xs) (y ∷ ys) us vs e h =
    let r = same_front xs ys us vs (cc) (omega arith) in
    let same : x ≡ y = cc in
    (ap₂ (λ z zs. z ∷ zs) same r.0, r.1)

pub scalar_label : (e : Data) → kind.Scalar ≡ kind_of e → (v : Scalar) × (label_of (content e) ≡ a_leaf v)
scalar_label json.null h = (of_json json.null, refl)
scalar_label (json.boolean b) h = (of_json (json.boolean b), refl)
scalar_label (json.number n) h = (of_json (json.number n), refl)
scalar_label (json.string s) h = (of_json (json.string s), refl)
scalar_label (json.array ds) h = absurd (cc)
scalar_label (json.object ms) h = absurd (cc)

pub object_label : (e : Data) → kind.Object ≡ kind_of e → label_of (content e) ≡ an_object
object_label json.null h = absurd (cc)
object_label (json.boolean b) h = absurd (cc)
object_label (json.number n) h = absurd (cc)
object_label (json.string s) h = absurd (cc)
object_label (json.array ds) h = absurd (cc)
object_label (json.object ms) h = refl

pub array_label : (e : Data) (len : ℕ) → kind.Array len ≡ kind_of e → label_of (content e) ≡ an_array len
array_label json.null len h = absurd (cc)
array_label (json.boolean b) len h = absurd (cc)
array_label (json.number n) len h = absurd (cc)
array_label (json.string s) len h = absurd (cc)
array_label (json.array ds) len h =
    let same : len ≡ json_search.items_count ds = cc in
    ap an_array (len_same ds ∙ sym same)
array_label (json.object ms) len h = absurd (cc)

-- `StopsAt d ts k position offset x`: evaluating ts in d stops at a value of kind k, before the token x
pub record StopsAt (d : Data) (ts : List Text) (k : Kind) (position offset : ℕ) (x : Text) : Type 0 where
  pub at : Data
  pub kind_is : k ≡ kind_of at
  pub stops : StopsBefore (nodes d) ts position offset (label_of (content at)) x

pub stops_at : (d : Data) (ts : List Text) (left : ℕ) (k : Kind) (position offset : ℕ) (front rest : List Text) (x : Text) (more : List Text) → StopsLeft d ts left k → position ≡ length ts - left → ts ≡ front ++ rest → length front ≡ position → rest ≡ x ∷ more → offset ≡ length (text front)
    → StopsAt d ts k position offset x
stops_at d ts left k position offset front rest x more s all split count first bytes =
    let len : length ts ≡ length s.front + length (s.token ∷ s.rest) = ap (λ (us : List Text). length us) s.split ∙ length-append s.front (s.token ∷ s.rest) in
    let many : left ≡ length (s.token ∷ s.rest) = s.left_is in
    let same_len : length s.front ≡ length front = omega arith in
    let same = same_front s.front front (s.token ∷ s.rest) rest (sym s.split ∙ split) same_len in
    let next : s.token ∷ s.rest ≡ x ∷ more = same.1 ∙ first in
    let token : s.token ≡ x = cc in
    let place : length s.front ≡ position = same_len ∙ count in
    let byte : length (text s.front) ≡ offset = ap (λ (us : List Text). length (text us)) same.0 ∙ sym bytes in
    record {
      at = s.at;
      kind_is = s.kind_is;
      stops = subst (λ (p : ℕ). StopsBefore (nodes d) ts p offset (label_of (content s.at)) x) place
          (subst (λ (o : ℕ). StopsBefore (nodes d) ts (length s.front) o (label_of (content s.at)) x) byte
          (subst (λ (t : Text). StopsBefore (nodes d) ts (length s.front) (length (text s.front)) (label_of (content s.at)) t) token s.stops));
    }

-- at least one token is left, and at most all of them
pub some_left : (d : Data) (ts : List Text) (left : ℕ) (k : Kind) → StopsLeft d ts left k → (0 < left) × (left ≤ length ts)
some_left d ts left k s =
    let len : length ts ≡ length s.front + length (s.token ∷ s.rest) = ap (λ (us : List Text). length us) s.split ∙ length-append s.front (s.token ∷ s.rest) in
    let many : left ≡ length (s.token ∷ s.rest) = s.left_is in
    (omega arith, omega arith)

-- the token is not an index below the length
pub no_index_below : (d : Data) (ts : List Text) (len p o : ℕ) (x : Text) (index : Index) (i : ℕ) → StopsAt d ts (kind.Array len) p o x → Reads x (Ok index) → IsWithin index len (Ok i) → ⊥
no_index_below d ts len p o x index i t reads within =
    let number : Reads x (Ok (Num i)) = subst (λ (j : Index). Reads x (Ok j)) within.0 reads in
    let stop : StopsBefore (nodes d) ts p o (an_array len) x = subst (λ (l : Label). StopsBefore (nodes d) ts p o l x) (array_label t.at len t.kind_is) t.stops in
    StopsBefore-array (nodes d) ts p o len i x (map_of-IsTree (content d)) stop within.1 number.0

module _ (d : Data) (ts : List Text) (p : ℕ) (x : Text) where
  pub refused_scalar : (e : Error) → StopsAt d ts kind.Scalar p (resolve_offset_of e) x → resolve_position_of e ≡ p → resolve_cause_of e ≡ child_error.Unreachable → Refuses (nodes d) ts e
  refused_scalar e t at why = record {
    label = label_of (content t.at);
    token = x;
    stops = subst (λ (n : ℕ). StopsBefore (nodes d) ts n (resolve_offset_of e) (label_of (content t.at)) x) (sym at) t.stops;
    why = subst (λ (c : ChildError). IsChildError (label_of (content t.at)) x c) (sym why) (scalar_label t.at t.kind_is);
  }

  pub refused_object : (e : Error) → StopsAt d ts kind.Object p (resolve_offset_of e) x → resolve_position_of e ≡ p → resolve_cause_of e ≡ child_error.NotFound → Refuses (nodes d) ts e
  refused_object e t at why = record {
    label = label_of (content t.at);
    token = x;
    stops = subst (λ (n : ℕ). StopsBefore (nodes d) ts n (resolve_offset_of e) (label_of (content t.at)) x) (sym at) t.stops;
    why = subst (λ (c : ChildError). IsChildError (label_of (content t.at)) x c) (sym why) (object_label t.at t.kind_is);
  }

  pub refused_index : (e : Error) (len : ℕ) (source : ParseIndexError) → StopsAt d ts (kind.Array len) p (resolve_offset_of e) x → resolve_position_of e ≡ p → resolve_cause_of e ≡ child_error.BadIndex source → Reads x (Err source) → Refuses (nodes d) ts e
  refused_index e len source t at why reads = record {
    label = label_of (content t.at);
    token = x;
    stops = subst (λ (n : ℕ). StopsBefore (nodes d) ts n (resolve_offset_of e) (label_of (content t.at)) x) (sym at) t.stops;
    why = subst (λ (c : ChildError). IsChildError (label_of (content t.at)) x c) (sym why) (len, array_label t.at len t.kind_is, reads);
  }

  pub refused_bounds : (e : Error) (len : ℕ) (index : Index) (source : OutOfBoundsError) → StopsAt d ts (kind.Array len) p (resolve_offset_of e) x → resolve_position_of e ≡ p → resolve_cause_of e ≡ child_error.OutOfBounds source → Reads x (Ok index) → IsWithin index len (Err source) → Refuses (nodes d) ts e
  refused_bounds e len index source t at why reads within = record {
    label = label_of (content t.at);
    token = x;
    stops = subst (λ (n : ℕ). StopsBefore (nodes d) ts n (resolve_offset_of e) (label_of (content t.at)) x) (sym at) t.stops;
    why = subst (λ (c : ChildError). IsChildError (label_of (content t.at)) x c) (sym why) (len, index, array_label t.at len t.kind_is, reads, within);
  }
