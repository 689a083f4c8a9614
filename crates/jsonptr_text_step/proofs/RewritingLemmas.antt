-- A document that is printed anew, and an assignment at a pointer that has more tokens than a document has levels.
use Rattle.std.proofs.Common.{◌≡◌, ℕ, suc, ◌+◌, ◌<◌, ◌≤◌, Bool, true, false, cond, List, [], ◌∷◌, ◌++◌, length, All, Option, Some, None, Result, Ok, Err, IfOk, IfErr, String, string_bytes, inl, inr, refl, sym, ap, ◌∙◌, subst, arith, append_assoc, length-append, append-nil}
use Rattle.std.specs.declared.alloc.Global.{Global}
use Rattle.serde_json.specs.Data.{Data, depth}
use Rattle.serde_json.specs.Read.{read, max_depth}
use Rattle.serde_json.proofs.Nesting.{depth-read}
use Rattle.jsonptr.specs.Text.{Text}
use Rattle.jsonptr.specs.Node.{Step, key, place, Path, Label, an_object, an_array, a_leaf, NodeMap}
use Rattle.jsonptr.specs.Following.{StopsAt}
use Rattle.jsonptr.specs.Json.{nodes, HasSortedKeys}
use Rattle.jsonptr.specs.Put.{put}
use Rattle.jsonptr.specs.Expansion.{is_append_index, with_one, expanded}
use Rattle.jsonptr.specs.Landing.{LandsFrom, Lands}
use Rattle.jsonptr.specs.Assigning.{with_room, found_at, Assigns}
use Rattle.jsonptr_tree.proofs.NodeLemmas.{Names-length}
use Rattle.jsonptr_tree.proofs.FollowingLemmas.{stops_in, stops-lacks}
use Rattle.jsonptr_tree.proofs.PutLemmas.{same_step-refl, put_behind}
use Rattle.jsonptr_value.specs.Nesting.{IsContainer, NestsWithin}
use Rattle.jsonptr_value.proofs.LevelLemmas.{NestsWithin-depth, depth-within}
use Rattle.jsonptr_value.proofs.NestingLemmas.{NestsWithin-more, Names-within}
use Rattle.jsonptr.specs.Assign.{RefusesAssign}
use Rattle.jsonptr.specs.declared.assign.Error.{Error}
use Rattle.jsonptr_patch.specs.Order.{OperationHasSortedKeys}
use Rattle.jsonptr_patch.specs.Patching.{PatchesBy}
use Rattle.jsonptr_patch.specs.declared.operation.Operation.{Operation}
use Rattle.jsonptr_patch.specs.declared.failed_operation.FailedOperation.{FailedOperation}
use Rattle.jsonptr_patch.specs.declared.comparison.Comparison.TheVariants.{Numeric}
use Rattle.jsonptr_text_step.specs.EditInText.{AssignsInText, IsAssignError}
use Rattle.jsonptr_text_step.specs.PatchInText.{PatchesInText, IsPatchError}
use Rattle.jsonptr_text_step.specs.PrivateRewriting.{IsShortened, IsPrintError}
use Rattle.jsonptr_text_step.specs.declared.stepped.StepError.{StepError}
use Rattle.jsonptr_text_step.specs.declared.stepped.StepError.TheVariants.{NotJson, Refused, TooDeep, Memory}

-- with more tokens, following stops at the same node, before the same token
StopsAt-more : (n : NodeMap) (tokens front : List Text) (x : Text) (rest more : List Text) (w : Path) → StopsAt n tokens front w (x ∷ rest) → StopsAt n (tokens ++ more) front w (x ∷ (rest ++ more))
StopsAt-more n tokens front x rest more w s =
    let split : tokens ++ more ≡ front ++ x ∷ (rest ++ more) = ap (λ (ts : List Text). ts ++ more) s.split ∙ append_assoc front (x ∷ rest) more in
    stops_in n (tokens ++ more) front x (rest ++ more) w split s.named (stops-lacks n tokens front x rest w s)

-- so an assignment fails for that token
RefusesAssign-more : (n : NodeMap) (tokens more : List Text) (e : Error) → RefusesAssign n tokens e → RefusesAssign n (tokens ++ more) e
RefusesAssign-more n tokens more e r =
    let before = r.nowhere.stops in
    record {
      len = r.len;
      token = r.token;
      nowhere = record {
        stops = record {
          front = before.front;
          path = before.path;
          rest = before.rest ++ more;
          stops = StopsAt-more n tokens before.front r.token before.rest more before.path before.stops;
          label_is = before.label_is;
          position_is = before.position_is;
          offset_is = before.offset_is;
        };
        no_dash = r.nowhere.no_dash;
        no_place = r.nowhere.no_place;
      };
      why = r.why;
    }

LandsFrom-more : (w : Path) (l : Option Label) (x : Text) (rest more : List Text) (p : Path) (left : List Text) → LandsFrom w l (x ∷ rest) p left → LandsFrom w l (x ∷ (rest ++ more)) p (left ++ more)
LandsFrom-more w None x rest more p left h = absurd h
LandsFrom-more w (Some an_object) x rest more p left h = (h.0, ap (λ (ts : List Text). ts ++ more) h.1)
LandsFrom-more w (Some (an_array len)) x rest more p left h = (h.0, h.1, ap (λ (ts : List Text). ts ++ more) h.2)
LandsFrom-more w (Some (a_leaf v)) x rest more p left h = (h.0, ap (λ (ts : List Text). ts ++ more) h.1)

-- where a value lands, if there are more tokens than levels: it is expanded by some of them
record LandsAbove (k : ℕ) (n : NodeMap) (tokens : List Text) (p : Path) (left : List Text) : Type 0 where
  pub x : Text
  pub xs : List Text
  pub some : left ≡ x ∷ xs
  pub levels : k < length p + length left
  pub more : (us : List Text) → Lands n (tokens ++ us) p (left ++ us)

left_over : (k : ℕ) (w : Path) (l : Option Label) (x : Text) (rest : List Text) (p : Path) (left : List Text) → (IsContainer l → length w < k) → length w ≤ k → k < length w + length (x ∷ rest) → LandsFrom w l (x ∷ rest) p left → (length p ≤ k) × (k < length p + length left)
left_over k w None x rest p left below le long h = absurd h
left_over k w (Some an_object) x rest p left below le long h =
    let low : length w < k = below tt in
    let path : length p ≡ length w + length (key x ∷ []) = ap length h.0 ∙ length-append w (key x ∷ []) in
    let same : length left ≡ length rest = ap length h.1 in
    (omega (arith, low, path), omega (arith, long, path, same))
left_over k w (Some (an_array len)) x rest p left below le long h =
    let low : length w < k = below tt in
    let path : length p ≡ length w + length (place len ∷ []) = ap length h.1 ∙ length-append w (place len ∷ []) in
    let same : length left ≡ length rest = ap length h.2 in
    (omega (arith, low, path), omega (arith, long, path, same))
left_over k w (Some (a_leaf v)) x rest p left below le long h =
    let path : length p ≡ length w = ap length h.0 in
    let same : length left ≡ length (x ∷ rest) = ap length h.1 in
    (omega (arith, le, path), omega (arith, long, path, same))

some_left : (k : ℕ) (p : Path) (left : List Text) → length p ≤ k → k < length p + length left → (x : Text) × (xs : List Text) × (left ≡ x ∷ xs)
some_left k p [] short long = absurd (omega (arith, short, long))
some_left k p (x ∷ xs) short long = (x, xs, refl)

lands_above : (k : ℕ) (n : NodeMap) (tokens : List Text) (p : Path) (left : List Text) → NestsWithin k n → k < length tokens → Lands n tokens p left → LandsAbove k n tokens p left
lands_above k n tokens p left h long lands = go lands.rest lands.stops lands.lands
  where
    go : (rest : List Text) → StopsAt n tokens lands.front lands.path rest → LandsFrom lands.path (n lands.path) rest p left → LandsAbove k n tokens p left
    go [] stops from =
        let few : length lands.front ≤ k = Names-within k n lands.front lands.path h stops.named in
        let all : length tokens ≡ length lands.front = ap length (stops.split ∙ append-nil lands.front) in
        absurd (omega (arith, few, all, long))
    go (x ∷ rest) stops from =
        let few : length lands.front ≤ k = Names-within k n lands.front lands.path h stops.named in
        let path : length lands.front ≡ length lands.path = Names-length n lands.front lands.path stops.named in
        let all : length tokens ≡ length lands.front + length (x ∷ rest) = ap length stops.split ∙ length-append lands.front (x ∷ rest) in
        let over = left_over k lands.path (n lands.path) x rest p left (λ c. h lands.path c) (omega (arith, few, path)) (omega (arith, long, all, path)) from in
        let some = some_left k p left over.0 over.1 in
        record {
          x = some.0;
          xs = some.1;
          some = some.2;
          levels = over.1;
          more = λ us. record {
            front = lands.front;
            path = lands.path;
            rest = x ∷ (rest ++ us);
            stops = StopsAt-more n tokens lands.front x rest us lands.path stops;
            lands = LandsFrom-more lands.path (n lands.path) x rest us p left from;
          };
        }

-- a value that is expanded has a container on each level above it

one_level : (l : Label) (s : Step) (m : NodeMap) (q : Path) → IsContainer (m q) → IsContainer (with_one l s m (s ∷ q))
one_level l s m q c = subst IsContainer (sym (ap (λ (b : Bool). cond b (m q) None) (same_step-refl s))) c

last_container : (x : Text) (xs : List Text) (v : NodeMap) → (q : Path) × (length q ≡ length xs) × IsContainer (expanded (x ∷ xs) v q)
last_container x [] v = ([], refl, go (is_append_index 0 x))
  where
    go : (b : Bool) → IsContainer (cond b (with_one (an_array 1) (place 0) v) (with_one an_object (key x) v) [])
    go true = tt
    go false = tt
last_container x (y ∷ ys) v = go (last_container y ys v) (is_append_index 0 x)
  where
    go : (q : Path) × (length q ≡ length ys) × IsContainer (expanded (y ∷ ys) v q) → (b : Bool) → (p : Path) × (length p ≡ length (y ∷ ys)) × IsContainer (cond b (with_one (an_array 1) (place 0) (expanded (y ∷ ys) v)) (with_one an_object (key x) (expanded (y ∷ ys) v)) p)
    go r true = (place 0 ∷ r.0, ap suc r.1, one_level (an_array 1) (place 0) (expanded (y ∷ ys) v) r.0 r.2)
    go r false = (key x ∷ r.0, ap suc r.1, one_level an_object (key x) (expanded (y ∷ ys) v) r.0 r.2)

put-deep : (k : ℕ) (n : NodeMap) (p : Path) (x : Text) (xs : List Text) (v : NodeMap) → k < length p + length (x ∷ xs) → NestsWithin k (put n p (expanded (x ∷ xs) v)) → ⊥
put-deep k n p x xs v long h =
    let last = last_container x xs v in
    let there : IsContainer (put n p (expanded (x ∷ xs) v) (p ++ last.0)) = subst IsContainer (sym (put_behind n p (expanded (x ∷ xs) v) last.0)) last.2 in
    let low : length (p ++ last.0) < k = h (p ++ last.0) there in
    let len : length (p ++ last.0) ≡ length p + length last.0 = length-append p last.0 in
    let same : length last.0 ≡ length xs = last.1 in
    omega (arith, long, low, len, same)

-- an assignment at more tokens than levels makes a document deeper, and so does one at still more tokens
Assigns-above : (k : ℕ) (n : NodeMap) (tokens : List Text) (v m : NodeMap) (old : Option NodeMap) → NestsWithin k n → k < length tokens → Assigns n tokens v m old → (more : List Text) → (m2 : NodeMap) × (r : Option NodeMap) × Assigns n (tokens ++ more) v m2 r × (NestsWithin k m2 → ⊥)
Assigns-above k n tokens v m old h long made more =
    let above = lands_above k n tokens made.path made.left h long made.lands in
    let left : made.left ++ more ≡ above.x ∷ (above.xs ++ more) = ap (λ (ts : List Text). ts ++ more) above.some in
    let all : length (made.left ++ more) ≡ length made.left + length more = length-append made.left more in
    let same : length (made.left ++ more) ≡ length (above.x ∷ (above.xs ++ more)) = ap length left in
    let levels : k < length made.path + length made.left = above.levels in (
      put (with_room n made.path) made.path (expanded (made.left ++ more) v),
      found_at n made.path,
      record { path = made.path; left = made.left ++ more; lands = above.more more; made = refl; replaced = refl },
      λ within. put-deep k (with_room n made.path) made.path above.x (above.xs ++ more) v
          (omega (arith, all, same, levels))
          (subst (λ (ts : List Text). NestsWithin k (put (with_room n made.path) made.path (expanded ts v))) left within),
    )

Assigns-deep : (k : ℕ) (n : NodeMap) (tokens : List Text) (v m : NodeMap) (old : Option NodeMap) → NestsWithin k n → k < length tokens → Assigns n tokens v m old → NestsWithin k m → ⊥
Assigns-deep k n tokens v m old h long made within =
    let above = lands_above k n tokens made.path made.left h long made.lands in
    let same : length made.left ≡ length (above.x ∷ above.xs) = ap length above.some in
    let levels : k < length made.path + length made.left = above.levels in
    put-deep k (with_room n made.path) made.path above.x above.xs v (omega (arith, levels, same))
    (subst (λ (ts : List Text). NestsWithin k (put (with_room n made.path) made.path (expanded ts v))) above.some (subst (NestsWithin k) made.made within))

-- a document that is read is not deeper than the levels of a text
read-within : (text : Text) (d : Data) → read text ≡ Some d → NestsWithin max_depth (nodes d)
read-within text d reads = NestsWithin-more (depth d) max_depth (nodes d) (depth-read text d reads) (NestsWithin-depth d)

-- what assigning at the shortened pointer says of the whole one

pub refused_whole : (old : Text) (tokens front : List Text) (d v : Data) (e : Error) → read old ≡ Some d → IsShortened tokens front → RefusesAssign (nodes d) front e → IsAssignError old tokens v (Refused e)
refused_whole old tokens front d v e reads (inl same) refused = (d, reads, subst (λ (ts : List Text). RefusesAssign (nodes d) ts e) same refused)
refused_whole old tokens front d v e reads (inr (rest, split, long)) refused = (d, reads, subst (λ (ts : List Text). RefusesAssign (nodes d) ts e) (sym split) (RefusesAssign-more (nodes d) front rest e refused))

pub assigned_whole : (old new : Text) (tokens front : List Text) (d d2 v : Data) (r : Option NodeMap) → read old ≡ Some d → IsShortened tokens front → Assigns (nodes d) front (nodes v) (nodes d2) r → read new ≡ Some d2 → AssignsInText old tokens (nodes v) new
assigned_whole old new tokens front d d2 v r reads (inl same) made reads2 = (d, d2, reads, reads2, r, subst (λ (ts : List Text). Assigns (nodes d) ts (nodes v) (nodes d2) r) same made)
assigned_whole old new tokens front d d2 v r reads (inr (rest, split, long)) made reads2 =
    absurd (Assigns-deep max_depth (nodes d) front (nodes v) (nodes d2) r (read-within old d reads) long made (read-within new d2 reads2))

pub too_deep_whole : (old : Text) (tokens front : List Text) (d d2 v : Data) (r : Option NodeMap) → read old ≡ Some d → IsShortened tokens front → Assigns (nodes d) front (nodes v) (nodes d2) r → (HasSortedKeys v → HasSortedKeys d2) → max_depth < depth d2 → IsAssignError old tokens v TooDeep
too_deep_whole old tokens front d d2 v r reads (inl same) made sorted deep =
    (d, nodes d2, r, reads, subst (λ (ts : List Text). Assigns (nodes d) ts (nodes v) (nodes d2) r) same made, λ s within. let le : depth d2 ≤ max_depth = depth-within d2 max_depth (sorted s) within in omega (arith, le, deep))
too_deep_whole old tokens front d d2 v r reads (inr (rest, split, long)) made sorted deep =
    let above = Assigns-above max_depth (nodes d) front (nodes v) (nodes d2) r (read-within old d reads) long made rest in
    (d, above.0, above.1, reads, subst (λ (ts : List Text). Assigns (nodes d) ts (nodes v) above.0 above.1) (sym split) above.2, λ s. above.3)

pub assigned_then : (old : Text) (tokens front : List Text) (d d2 v : Data) (r : Option NodeMap) (out : Result (String Global) (StepError Error)) → read old ≡ Some d → IsShortened tokens front → Assigns (nodes d) front (nodes v) (nodes d2) r → IfOk out (λ s. read (string_bytes s) ≡ Some d2) → IfOk out (λ s. AssignsInText old tokens (nodes v) (string_bytes s))
assigned_then old tokens front d d2 v r (Ok s) reads short made h = assigned_whole old (string_bytes s) tokens front d d2 v r reads short made h
assigned_then old tokens front d d2 v r (Err e) reads short made h = tt

assign_fault : (old : Text) (tokens front : List Text) (d d2 v : Data) (r : Option NodeMap) (e : StepError Error) → read old ≡ Some d → IsShortened tokens front → Assigns (nodes d) front (nodes v) (nodes d2) r → (HasSortedKeys v → HasSortedKeys d2) → IsPrintError d2 e → IsAssignError old tokens v e
assign_fault old tokens front d d2 v r NotJson reads short made sorted h = absurd h
assign_fault old tokens front d d2 v r (Refused e) reads short made sorted h = absurd h
assign_fault old tokens front d d2 v r TooDeep reads short made sorted h = too_deep_whole old tokens front d d2 v r reads short made sorted h
assign_fault old tokens front d d2 v r (Memory e) reads short made sorted h = tt

pub assign_fails_then : (old : Text) (tokens front : List Text) (d d2 v : Data) (r : Option NodeMap) (out : Result (String Global) (StepError Error)) → read old ≡ Some d → IsShortened tokens front → Assigns (nodes d) front (nodes v) (nodes d2) r → (HasSortedKeys v → HasSortedKeys d2) → IfErr out (IsPrintError d2) → IfErr out (IsAssignError old tokens v)
assign_fails_then old tokens front d d2 v r (Ok s) reads short made sorted h = tt
assign_fails_then old tokens front d d2 v r (Err e) reads short made sorted h = assign_fault old tokens front d d2 v r e reads short made sorted h

-- the same of a patch

pub patched_then : (old : Text) (os : List Operation) (d d2 : Data) (out : Result (String Global) (StepError FailedOperation)) → read old ≡ Some d → PatchesBy Numeric (nodes d) os (nodes d2) → IfOk out (λ s. read (string_bytes s) ≡ Some d2) → IfOk out (λ s. PatchesInText old os (string_bytes s))
patched_then old os d d2 (Ok s) reads made h = (d, d2, reads, h, made)
patched_then old os d d2 (Err e) reads made h = tt

patch_fault : (old : Text) (os : List Operation) (d d2 : Data) (e : StepError FailedOperation) → read old ≡ Some d → PatchesBy Numeric (nodes d) os (nodes d2) → (All OperationHasSortedKeys os → HasSortedKeys d2) → IsPrintError d2 e → IsPatchError old os e
patch_fault old os d d2 NotJson reads made sorted h = absurd h
patch_fault old os d d2 (Refused e) reads made sorted h = absurd h
patch_fault old os d d2 TooDeep reads made sorted h =
    (d, nodes d2, reads, made, λ s within. let le : depth d2 ≤ max_depth = depth-within d2 max_depth (sorted s) within in omega (arith, le, h))
patch_fault old os d d2 (Memory e) reads made sorted h = tt

pub patch_fails_then : (old : Text) (os : List Operation) (d d2 : Data) (out : Result (String Global) (StepError FailedOperation)) → read old ≡ Some d → PatchesBy Numeric (nodes d) os (nodes d2) → (All OperationHasSortedKeys os → HasSortedKeys d2) → IfErr out (IsPrintError d2) → IfErr out (IsPatchError old os)
patch_fails_then old os d d2 (Ok s) reads made sorted h = tt
patch_fails_then old os d d2 (Err e) reads made sorted h = patch_fault old os d d2 e reads made sorted h
