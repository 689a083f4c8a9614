-- The code of an addition: the parent of the new value, and the result.
use Rattle.std.proofs.Common.{Bool, true, false, not, IsTrue, ◌↔◌, true≢false, length-append, ◌≡◌, ℕ, ◌<◌, ◌≤◌, ◌^◌, ◌⊎◌, inl, inr, ⊎_elim, List, [], ◌∷◌, ◌++◌, length, Option, Some, None, Ok, Err, IsSome, refl, sym, ap, ◌∙◌, subst, append_assoc, arith}
use Rattle.serde_json.specs.Data.{Data, null}
use Rattle.jsonptr.specs.Text.{Text, text}
use Rattle.jsonptr.specs.Index.{Reads, IsWithinOrNext}
use Rattle.jsonptr.specs.Fault.{IfRefused}
use Rattle.jsonptr.specs.Types.Fault.{Fault}
use Rattle.jsonptr.specs.Types.Fault.TheVariants.{Refused, Memory}
use Rattle.jsonptr.specs.Types.Index.{Index}
use Rattle.jsonptr.specs.Types.OutOfBoundsError.{OutOfBoundsError}
use Rattle.jsonptr.specs.Types.ParseIndexError.{ParseIndexError}
use Rattle.jsonptr.specs.declared.resolve.Error.{Error as ResolveError}
use Rattle.jsonptr.specs.declared.resolve.Error.TheVariants.{Unreachable}
use Rattle.jsonptr.specs.declared.assign.Error.{Error as AssignError}
use Rattle.jsonptr.specs.declared.assign.Error.TheVariants.{FailedToParseIndex, OutOfBounds}
use Rattle.jsonptr.specs.Assign.{RefusesAssign}
use Rattle.jsonptr.specs.Resolve.{Refuses, resolve_position_of, resolve_offset_of}
use Rattle.jsonptr.specs.Node.{key, Path, Scalar, Label, an_object, an_array, a_leaf, NodeMap, NamesStep, Names}
use Rattle.jsonptr.specs.Following.{Finds, StopsAt, StopsBefore}
use Rattle.jsonptr.specs.Removing.{Deletes}
use Rattle.jsonptr.specs.Json.{nodes, FindsValue, HasSortedKeys}
use Rattle.jsonptr.specs.Landing.{LandsNowhere}
use Rattle.jsonptr_tree.proofs.NodeLemmas.{Names_one_path, Names-push}
use Rattle.jsonptr_tree.proofs.FollowingLemmas.{stops_before, stops_in, stops-lacks, lacks_at_leaf, lacks_at_object, lacks_at_array, Names-StopsBefore, cases_some}
use Rattle.jsonptr_tree.proofs.JsonLemmas.{FindsValue-Finds, ascends_part}
use Rattle.jsonptr_walk.specs.PrivatePutting.{HasNoIndex}
use Rattle.jsonptr_walk.proofs.AssignLemmas.{no_index_place, above_place}
use Rattle.jsonptr_patch.specs.Adding.{LacksTarget, LacksPlace}
use Rattle.jsonptr_patch.specs.Operating.{Takes, IsProperPrefix, RefusesAdd}
use Rattle.jsonptr_patch.specs.Failing.{fault_at}
use Rattle.jsonptr_patch.specs.declared.failed_operation.PatchPointer.TheVariants as pointer

-- evaluating tokens that lead to a path does not fail
pub named_refused : (n : NodeMap) (tokens : List Text) (w : Path) (e : ResolveError) → Names n tokens w → Refuses n tokens e → ⊥
named_refused n tokens w e h r = Names-StopsBefore n tokens w (resolve_position_of e) (resolve_offset_of e) r.label r.token h r.stops

-- an array

-- a token that does not refer to an index of it
pub nowhere : (n : NodeMap) (front : List Text) (x : Text) (w : Path) (len p o : ℕ) → Names n front w → n w ≡ Some (an_array len) → HasNoIndex len x → p ≡ length front → o ≡ length (text front) → LandsNowhere n (front ++ x ∷ []) p o len x
nowhere n front x w len p o named array none is_p is_o = record {
  stops = subst (λ (k : ℕ). StopsBefore n (front ++ x ∷ []) p k (an_array len) x) (sym is_o) (subst (λ (k : ℕ). StopsBefore n (front ++ x ∷ []) k (length (text front)) (an_array len) x) (sym is_p)
      (stops_before n (front ++ x ∷ []) front x [] w (an_array len) refl named array (lacks_at_array n w x len array (λ i b e. none.no_place i (within i b) e))));
  no_dash = none.no_dash;
  no_place = none.no_place;
}
  where
    within : (i : ℕ) → i < len → i ≤ len
    within i b = omega arith

pub no_index : (n : NodeMap) (front : List Text) (x : Text) (w : Path) (len p o : ℕ) (source : ParseIndexError) → len < 2 ^ 64 → Names n front w → n w ≡ Some (an_array len) → Reads x (Err source) → p ≡ length front → o ≡ length (text front) → RefusesAssign n (front ++ x ∷ []) (FailedToParseIndex p o source)
no_index n front x w len p o source short named array reads is_p is_o = record {
  len = len;
  token = x;
  nowhere = nowhere n front x w len p o named array (no_index_place len x source short reads) is_p is_o;
  why = reads;
}

pub above_length : (n : NodeMap) (front : List Text) (x : Text) (w : Path) (len p o : ℕ) (index : Index) (source : OutOfBoundsError) → Names n front w → n w ≡ Some (an_array len) → Reads x (Ok index) → IsWithinOrNext index len (Err source) → p ≡ length front → o ≡ length (text front) → RefusesAssign n (front ++ x ∷ []) (OutOfBounds p o source)
above_length n front x w len p o index source named array reads above is_p is_o = record {
  len = len;
  token = x;
  nowhere = nowhere n front x w len p o named array (above_place len x index source reads above) is_p is_o;
  why = (index, reads, above);
}

pub place_lacks : (n : NodeMap) (front : List Text) (x : Text) (w : Path) (len : ℕ) (e : AssignError) → Names n front w → n w ≡ Some (an_array len) → RefusesAssign n (front ++ x ∷ []) e → LacksPlace n (front ++ x ∷ []) e
place_lacks n front x w len e named array refused = (record { front = front; last = x; path = w; len = len; split = refl; named = named; array = array }, refused)

-- an object

-- the token is the key of a member, or evaluation stops there
pub cases_member : (n : NodeMap) (tokens front : List Text) (x : Text) (w : Path) → tokens ≡ front ++ x ∷ [] → Names n front w → n w ≡ Some an_object → Names n tokens (w ++ key x ∷ []) ⊎ StopsBefore n tokens (length front) (length (text front)) an_object x × StopsAt n tokens front w (x ∷ [])
cases_member n tokens front x w split named object = ⊎_elim
    (λ (h : IsSome (n (w ++ key x ∷ []))). inl (subst (λ (ts : List Text). Names n ts (w ++ key x ∷ [])) (sym split) (Names-push n front x w (key x) named (subst (λ (l : Option Label). NamesStep l x (key x)) (sym object) refl) h)))
    (λ (e : n (w ++ key x ∷ []) ≡ None).
    let lacks = lacks_at_object n w x object e in
    inr (stops_before n tokens front x [] w an_object split named object lacks, stops_in n tokens front x [] w split named lacks))
    (cases_some (n (w ++ key x ∷ [])))

-- a scalar, or nothing

pub scalar_lacks : (n : NodeMap) (tokens front : List Text) (x : Text) (w : Path) (a : Scalar) (p o : ℕ) → tokens ≡ front ++ x ∷ [] → Names n front w → n w ≡ Some (a_leaf a) → p ≡ length front → o ≡ length (text front) → LacksTarget n tokens (Unreachable p o)
scalar_lacks n tokens front x w a p o split named scalar is_p is_o = (
  record { front = front; last = x; split = split; scalar = λ u h. (a, ap n (Names_one_path n front u w h named) ∙ scalar) },
  record {
    label = a_leaf a;
    token = x;
    stops = subst (λ (k : ℕ). StopsBefore n tokens p k (a_leaf a) x) (sym is_o) (subst (λ (k : ℕ). StopsBefore n tokens k (length (text front)) (a_leaf a) x) (sym is_p) (stops_before n tokens front x [] w (a_leaf a) split named scalar (lacks_at_leaf n w x a scalar)));
    why = (a, refl);
  },
)

pub parent_lacks : (n : NodeMap) (tokens front : List Text) (x : Text) (e : ResolveError) → tokens ≡ front ++ x ∷ [] → Refuses n front e → LacksTarget n tokens e
parent_lacks n tokens front x e split r = (
  record { front = front; last = x; split = split; scalar = λ u h. absurd (named_refused n front u e h r) },
  record {
    label = r.label;
    token = r.token;
    stops = record {
      front = r.stops.front;
      path = r.stops.path;
      rest = r.stops.rest ++ x ∷ [];
      stops = stops_in n tokens r.stops.front r.token (r.stops.rest ++ x ∷ []) r.stops.path
          (split ∙ ap (λ (ts : List Text). ts ++ x ∷ []) r.stops.stops.split ∙ append_assoc r.stops.front (r.token ∷ r.stops.rest) (x ∷ []))
          r.stops.stops.named
          (stops-lacks n front r.stops.front r.token r.stops.rest r.stops.path r.stops.stops);
      label_is = r.stops.label_is;
      position_is = r.stops.position_is;
      offset_is = r.stops.offset_is;
    };
    why = r.why;
  },
)

-- so a fault of evaluating them, reported for an operation, is one of adding
pub parent_refused : (T U : Type 0) (n : NodeMap) (k : ℕ) (fault : Fault ResolveError) (tokens front : List Text) (x : Text) → tokens ≡ front ++ x ∷ [] → IfRefused {T = T} (Err fault) (Refuses n front) → IfRefused {T = U} (Err (fault_at k pointer.Path fault)) (RefusesAdd n k tokens)
parent_refused T U n k (Refused e) tokens front x split r = inl (e, refl, parent_lacks n tokens front x e split r)
parent_refused T U n k (Memory e) tokens front x split r = tt

-- a copy of what the tokens evaluate to
pub found_copy : (d v w : Data) (tokens : List Text) → FindsValue d tokens v → w ≡ v → Finds (nodes d) tokens (nodes w)
found_copy d v w tokens found same = subst (λ (e : Data). Finds (nodes d) tokens (nodes e)) (sym same) (FindsValue-Finds d tokens v found)

-- the keys of what they evaluate to are sorted if those of the document are
pub found_ascends : (d v : Data) (tokens : List Text) → FindsValue d tokens v → HasSortedKeys d → HasSortedKeys v
found_ascends d v tokens found a = ascends_part found.path d v a found.there

pub copy_ascends : (d v w : Data) (tokens : List Text) → FindsValue d tokens v → w ≡ v → HasSortedKeys d → HasSortedKeys w
copy_ascends d v w tokens found same a = subst HasSortedKeys (sym same) (found_ascends d v tokens found a)

-- what is removed
pub taken : (d e v : Data) (tokens : List Text) → FindsValue d tokens v → Deletes (nodes d) tokens (nodes null) (nodes e) → Takes (nodes d) tokens (nodes v) (nodes e)
taken d e v tokens found left = record { found = FindsValue-Finds d tokens v found; left = left }

-- a prefix is proper if there are more tokens after it
pub proper_front : (front path rest : List Text) (b : Bool) → path ≡ front ++ rest → IsTrue b ↔ (rest ≡ []) → IsTrue (not b) ↔ IsProperPrefix front path
proper_front front path [] b split root = (λ h. absurd (no_both b (root.1 refl) h), λ r. absurd (none r.0 r.1 (sym split ∙ r.2)))
  where
    no_both : (b : Bool) → IsTrue b → IsTrue (not b) → ⊥
    no_both true h k = true≢false (sym k)
    no_both false h k = true≢false (sym h)

    none : (x : Text) (more : List Text) → front ++ [] ≡ front ++ x ∷ more → ⊥
    none x more e = omega (arith, ap (λ (l : List Text). length l) e, length-append front [], length-append front (x ∷ more))
proper_front front path (x ∷ rest) b split root = (λ h. (x, rest, split), λ r. other b (λ h. apart (root.0 h)))
  where
    apart : x ∷ rest ≡ [] → ⊥
    apart e = cc

    other : (b : Bool) → (IsTrue b → ⊥) → IsTrue (not b)
    other true h = absurd (h refl)
    other false h = refl
