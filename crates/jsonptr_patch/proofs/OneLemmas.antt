-- An operation either makes exactly one map or fails with exactly one error.
use Rattle.std.proofs.Common.{◌≡◌, ℕ, ◌<◌, ◌≤◌, ◌⊎◌, inl, inr, ⊎_elim, List, [], ◌∷◌, ◌++◌, length, codes, Option, Some, None, IsSome, refl, sym, ap, ◌∙◌, subst, arith}
use Rattle.std.proofs.lemmas.Bool.{cases_lt}
use Rattle.serde_json.specs.Data.{null}
use Rattle.serde_json.specs.View.{view}
use Rattle.serde_json.specs.declared.value.Value.{Value}
use Rattle.jsonptr.specs.Text.{Text, text, dec}
use Rattle.jsonptr.specs.Assign.{RefusesAssign}
use Rattle.jsonptr.specs.Assign as assign
use Rattle.jsonptr.specs.Resolve.{Refuses, PutsAt}
use Rattle.jsonptr.specs.declared.resolve.Error.{Error as ResolveError}
use Rattle.jsonptr.specs.declared.assign.Error.{Error as AssignError}
use Rattle.jsonptr.specs.Node.{key, place, Path, Scalar, Label, an_object, an_array, a_leaf, NodeMap, sub, NamesStep, Names, IsTree, IsListed}
use Rattle.jsonptr.specs.Following.{Finds, StopsAt, StopsBefore}
use Rattle.jsonptr.specs.Json.{nodes, content}
use Rattle.jsonptr.specs.Put.{put}
use Rattle.jsonptr_tree.proofs.NodeLemmas.{dec_one, Names_one_path, Names-push, Names-here, IsTree-sub, sub-root}
use Rattle.jsonptr_tree.proofs.FollowingLemmas.{Finds_one, StopsBefore_one, Names-StopsBefore, stops_before}
use Rattle.jsonptr_tree.proofs.LandingLemmas.{dec_no_dash, lacks_at_end, means_end-dash, means_end-dec}
use Rattle.jsonptr_tree.proofs.ListedLemmas.{IsListed-sub, IsListed-put}
use Rattle.jsonptr_tree.proofs.TreeLemmas.{IsTree-put}
use Rattle.jsonptr_tree.proofs.ContentLemmas.{map_of-IsTree, map_of-finite}
use Rattle.jsonptr_tree.proofs.RemovingLemmas.{Deletes_one, Deletes-tree, Deletes-finite}
use Rattle.jsonptr_patch.specs.Inserting.{with_place}
use Rattle.jsonptr_patch.specs.Adding.{MeansPlace, AddsUnder, Adds, LacksParent, HasArray, LacksPlace}
use Rattle.jsonptr_patch.specs.Operating.{Takes, Moves, Compares, RefusesTarget, RefusesAdd, RefusesMove, RefusesCopy, AppliesBy, PassesBy, RefusesOperationBy, RefusesTestBy}
use Rattle.jsonptr_patch.specs.Testing.{IsEqualBy, IsEqual, HasFloat}
use Rattle.jsonptr_patch.specs.declared.operation.Operation.{Operation}
use Rattle.jsonptr_patch.specs.declared.operation.Operation.TheVariants.{Add, Remove, Replace, Move, Copy, Test}
use Rattle.jsonptr_patch.specs.declared.failed_operation.FailedOperation.{FailedOperation}
use Rattle.jsonptr_patch.specs.declared.failed_operation.PatchPointer.{PatchPointer}
use Rattle.jsonptr_patch.specs.declared.failed_operation.PatchPointer.TheVariants as pointer
use Rattle.jsonptr_patch.specs.Failing.{no_target, bad_place}
use Rattle.jsonptr_patch.proofs.InsertingLemmas.{IsTree-with_place, IsListed-with_place}
use Rattle.jsonptr_tree.proofs.AssigningLemmas.{Assigns_named, Assigns_object, Assigns-tree}
use Rattle.jsonptr_patch.proofs.AddingLemmas.{named_refused, cases_member}
use Rattle.jsonptr_patch.specs.declared.comparison.Comparison.{Comparison}
use Rattle.jsonptr_patch.specs.declared.comparison.Comparison.TheVariants.{Strict, Numeric}

-- the last token of a list

pub no_last : (front : List Text) (x : Text) → [] ≡ front ++ x ∷ [] → ⊥
no_last [] x e = cc
no_last (t ∷ front) x e = cc

pub last_one : (f g : List Text) (x y : Text) → f ++ x ∷ [] ≡ g ++ y ∷ [] → (f ≡ g) × (x ≡ y)
last_one [] [] x y e = (refl, cc)
last_one [] (b ∷ g) x y e =
    let tail : [] ≡ g ++ y ∷ [] = cc in
    absurd (no_last g y tail)
last_one (a ∷ f) [] x y e =
    let tail : f ++ x ∷ [] ≡ [] = cc in
    absurd (no_last f x (sym tail))
last_one (a ∷ f) (b ∷ g) x y e =
    let head : a ≡ b = cc in
    let tail : f ++ x ∷ [] ≡ g ++ y ∷ [] = cc in
    let r = last_one f g x y tail in
    (subst (λ (t : Text). a ∷ f ≡ t ∷ g) head (ap (λ (l : List Text). a ∷ l) r.0), r.1)

-- indices

pub place_one : (len : ℕ) (x : Text) (i j : ℕ) → MeansPlace len x i → MeansPlace len x j → i ≡ j
place_one len x i j h k = go h.1 k.1
  where
    go : (x ≡ dec i) ⊎ ((x ≡ codes "-") × (i ≡ len)) → (x ≡ dec j) ⊎ ((x ≡ codes "-") × (j ≡ len)) → i ≡ j
    go (inl a) (inl b) = dec_one i j (sym a ∙ b)
    go (inl a) (inr b) = absurd (dec_no_dash i (sym b.0 ∙ a))
    go (inr a) (inl b) = absurd (dec_no_dash j (sym a.0 ∙ b))
    go (inr a) (inr b) = a.1 ∙ sym b.1

-- adding

under_one : (n : NodeMap) (w : Path) (l : Option Label) (x : Text) (v m k : NodeMap) → AddsUnder n w l x v m → AddsUnder n w l x v k → m ≡ k
under_one n w None x v m k a b = absurd a
under_one n w (Some an_object) x v m k a b = a ∙ sym b
under_one n w (Some (an_array len)) x v m k a b = a.2 ∙ ap (λ (i : ℕ). put n w (with_place i v (sub n w))) (place_one len x a.0 b.0 a.1 b.1) ∙ sym b.2
under_one n w (Some (a_leaf s)) x v m k a b = absurd a

pub adds_one : (n : NodeMap) (tokens : List Text) (v m k : NodeMap) → Adds n tokens v m → Adds n tokens v k → m ≡ k
adds_one n tokens v m k (inl a) (inl b) = a.1 ∙ sym b.1
adds_one n tokens v m k (inl a) (inr b) = absurd (no_last b.front b.last (sym a.0 ∙ b.split))
adds_one n tokens v m k (inr a) (inl b) = absurd (no_last a.front a.last (sym b.0 ∙ a.split))
adds_one n tokens v m k (inr a) (inr b) =
    let same = last_one a.front b.front a.last b.last (sym a.split ∙ b.split) in
    let here : a.path ≡ b.path = Names_one_path n b.front a.path b.path (subst (λ (ts : List Text). Names n ts a.path) same.0 a.named) b.named in
    let made : AddsUnder n b.path (n b.path) b.last v m = subst (λ (w : Path). AddsUnder n w (n w) b.last v m) here (subst (λ (x : Text). AddsUnder n a.path (n a.path) x v m) same.1 a.made) in
    under_one n b.path (n b.path) b.last v m k made b.made

-- nothing is added below a scalar or a node that does not exist
under_scalar : (n : NodeMap) (w : Path) (l : Option Label) (x : Text) (v m : NodeMap) (s : Scalar) → l ≡ Some (a_leaf s) → AddsUnder n w l x v m → ⊥
under_scalar n w None x v m s e h = h
under_scalar n w (Some an_object) x v m s e h = cc
under_scalar n w (Some (an_array len)) x v m s e h = cc
under_scalar n w (Some (a_leaf a)) x v m s e h = h

pub adds_lacks_target : (n : NodeMap) (tokens : List Text) (v m : NodeMap) → Adds n tokens v m → LacksParent n tokens → ⊥
adds_lacks_target n tokens v m (inl a) b = no_last b.front b.last (sym a.0 ∙ b.split)
adds_lacks_target n tokens v m (inr a) b =
    let same = last_one a.front b.front a.last b.last (sym a.split ∙ b.split) in
    let s = b.scalar a.path (subst (λ (ts : List Text). Names n ts a.path) same.0 a.named) in
    under_scalar n a.path (n a.path) a.last v m s.0 s.1 a.made

-- a token that refers to an index of an array does not lack one
place_stops : (n : NodeMap) (tokens front : List Text) (x : Text) (w : Path) (len i : ℕ) (e : AssignError) → IsTree n → tokens ≡ front ++ x ∷ [] → Names n front w → n w ≡ Some (an_array len) → MeansPlace len x i → RefusesAssign n tokens e → ⊥
place_stops n tokens front x w len i e tree split named array means r = ⊎_elim
    (λ (b : i < len). inside b means.1)
    (λ (b : len ≤ i). let end : i ≡ len = omega (arith, means.0) in behind end)
    (cases_lt i len)
  where
    stops_at : StopsBefore n tokens (length front) (length (text front)) (an_array len) x → ⊥
    stops_at s =
        let same = StopsBefore_one n tokens (assign.assign_position_of e) (length front) (assign.assign_offset_of e) (length (text front)) (an_array r.len) (an_array len) r.token x r.nowhere.stops s in
        let long : r.len ≡ len = one same.2 in
        ⊎_elim
        (λ (d : x ≡ dec i). r.nowhere.no_place i (omega (arith, means.0, long)) (same.3 ∙ d))
        (λ (d : (x ≡ codes "-") × (i ≡ len)). r.nowhere.no_dash (same.3 ∙ d.0))
        means.1
      where
        one : an_array r.len ≡ an_array len → r.len ≡ len
        one h = cc

    behind : i ≡ len → ⊥
    behind end = ⊎_elim
        (λ (d : x ≡ dec i). stops_at (stops_before n tokens front x [] w (an_array len) split named array (lacks_at_end n w x len array (means_end-dec len x (d ∙ ap dec end)))))
        (λ (d : (x ≡ codes "-") × (i ≡ len)). stops_at (stops_before n tokens front x [] w (an_array len) split named array (lacks_at_end n w x len array (means_end-dash len x d.0))))
        means.1

    inside : i < len → (x ≡ dec i) ⊎ ((x ≡ codes "-") × (i ≡ len)) → ⊥
    inside b (inl d) = Names-StopsBefore n tokens (w ++ place i ∷ []) (assign.assign_position_of e) (assign.assign_offset_of e) (an_array r.len) r.token (subst (λ (ts : List Text). Names n ts (w ++ place i ∷ [])) (sym split) (Names-push n front x w (place i) named (subst (λ (l : Option Label). NamesStep l x (place i)) (sym array) (b, d)) (tree.full w len i array b))) r.nowhere.stops
    inside b (inr d) = absurd (omega (arith, d.1))

under_array : (n : NodeMap) (w : Path) (l : Option Label) (x : Text) (v m : NodeMap) (len : ℕ) → l ≡ Some (an_array len) → AddsUnder n w l x v m → (i : ℕ) × MeansPlace len x i
under_array n w None x v m len e h = absurd h
under_array n w (Some an_object) x v m len e h = let none : ⊥ = cc in absurd none
under_array n w (Some (an_array k)) x v m len e h = let same : k ≡ len = cc in (h.0, subst (λ (j : ℕ). MeansPlace j x h.0) same h.1)
under_array n w (Some (a_leaf a)) x v m len e h = absurd h

pub adds_lacks_place : (n : NodeMap) (tokens : List Text) (v m : NodeMap) (e : AssignError) → IsTree n → Adds n tokens v m → LacksPlace n tokens e → ⊥
adds_lacks_place n tokens v m e tree (inl a) r = let b = r.0 in no_last b.front b.last (sym a.0 ∙ b.split)
adds_lacks_place n tokens v m e tree (inr a) r =
    let b = r.0 in
    let same = last_one a.front b.front a.last b.last (sym a.split ∙ b.split) in
    let here : a.path ≡ b.path = Names_one_path n b.front a.path b.path (subst (λ (ts : List Text). Names n ts a.path) same.0 a.named) b.named in
    let array : n a.path ≡ Some (an_array b.len) = ap n here ∙ b.array in
    let means = under_array n a.path (n a.path) a.last v m b.len array a.made in
    place_stops n tokens a.front a.last a.path b.len means.0 e tree a.split a.named array means.1 r.1

pub adds_refused : (n : NodeMap) (k : ℕ) (tokens : List Text) (v m : NodeMap) (e : FailedOperation) → IsTree n → Adds n tokens v m → RefusesAdd n k tokens e → ⊥
adds_refused n k tokens v m e tree a (inl r) = adds_lacks_target n tokens v m a r.2.0
adds_refused n k tokens v m e tree a (inr r) = adds_lacks_place n tokens v m r.0 tree a r.2

-- a parent is not both an array and missing
target_or_place : (n : NodeMap) (tokens : List Text) → LacksParent n tokens → HasArray n tokens → ⊥
target_or_place n tokens a b =
    let same = last_one a.front b.front a.last b.last (sym a.split ∙ b.split) in
    let s = a.scalar b.path (subst (λ (ts : List Text). Names n ts b.path) (sym same.0) b.named) in
    apart s.0 (sym s.1 ∙ b.array)
  where
    apart : (s : Scalar) → Some (a_leaf s) ≡ Some (an_array b.len) → ⊥
    apart s e = cc

-- the two causes are equal

module _ (resolve_one : (n : NodeMap) (tokens : List Text) (e f : ResolveError) → Refuses n tokens e → Refuses n tokens f → e ≡ f) (assign_one : (n : NodeMap) (tokens : List Text) (e f : AssignError) → RefusesAssign n tokens e → RefusesAssign n tokens f → e ≡ f) where
  pub target_one : {at : PatchPointer} (n : NodeMap) (k : ℕ) (tokens : List Text) (e f : FailedOperation) → RefusesTarget n k at tokens e → RefusesTarget n k at tokens f → e ≡ f
  target_one {at} n k tokens e f a b = a.1 ∙ ap (no_target k at) (resolve_one n tokens a.0 b.0 a.2 b.2) ∙ sym b.1

  pub add_one : (n : NodeMap) (k : ℕ) (tokens : List Text) (e f : FailedOperation) → RefusesAdd n k tokens e → RefusesAdd n k tokens f → e ≡ f
  add_one n k tokens e f (inl a) (inl b) = a.1 ∙ ap (no_target k pointer.Path) (resolve_one n tokens a.0 b.0 a.2.1 b.2.1) ∙ sym b.1
  add_one n k tokens e f (inr a) (inr b) = a.1 ∙ ap (bad_place k) (assign_one n tokens a.0 b.0 a.2.1 b.2.1) ∙ sym b.1
  add_one n k tokens e f (inl a) (inr b) = absurd (target_or_place n tokens a.2.0 b.2.0)
  add_one n k tokens e f (inr a) (inl b) = absurd (target_or_place n tokens b.2.0 a.2.0)

-- removing

pub takes_one : (n : NodeMap) (tokens : List Text) (v u m k : NodeMap) → IsTree n → Takes n tokens v m → Takes n tokens u k → (v ≡ u) × (m ≡ k)
takes_one n tokens v u m k tree a b = (Finds_one n tokens v u a.found b.found, Deletes_one n (nodes null) tokens m k tree a.left b.left)

found_refused : {at : PatchPointer} (n : NodeMap) (tokens : List Text) (m : NodeMap) (k : ℕ) (e : FailedOperation) → Finds n tokens m → RefusesTarget n k at tokens e → ⊥
found_refused {at} n tokens m k e f h = named_refused n tokens f.path h.0 f.named h.2

-- documents

pub null_tree : IsTree (nodes null)
null_tree = map_of-IsTree (content null)

found_tree : (n : NodeMap) (tokens : List Text) (m : NodeMap) → IsTree n → Finds n tokens m → IsTree m
found_tree n tokens m tree f = subst IsTree (sym f.below) (IsTree-sub n f.path tree (Names-here n tokens f.path f.named))

found_listed : (n : NodeMap) (tokens : List Text) (m : NodeMap) → IsListed n → Finds n tokens m → IsListed m
found_listed n tokens m listed f = subst IsListed (sym f.below) (IsListed-sub n f.path listed)

pub takes_tree : (n : NodeMap) (tokens : List Text) (v m : NodeMap) → IsTree n → Takes n tokens v m → IsTree v × IsTree m
takes_tree n tokens v m tree a = (found_tree n tokens v tree a.found, Deletes-tree n (nodes null) tokens m tree null_tree a.left)

pub takes_listed : (n : NodeMap) (tokens : List Text) (v m : NodeMap) → IsTree n → IsListed n → Takes n tokens v m → IsListed v × IsListed m
takes_listed n tokens v m tree listed a = (found_listed n tokens v listed a.found, Deletes-finite n (nodes null) tokens m tree listed (map_of-finite (content null)) a.left)

-- whole operations

puts_one : (n : NodeMap) (tokens : List Text) (v m k : NodeMap) → PutsAt n tokens v m → PutsAt n tokens v k → m ≡ k
puts_one n tokens v m k a b = a.made ∙ ap (λ (w : Path). put n w v) (Names_one_path n tokens a.path b.path a.named b.named) ∙ sym b.made

pub applies_one : (by : Comparison) (n m l : NodeMap) (o : Operation) → IsTree n → AppliesBy by n o m → AppliesBy by n o l → m ≡ l
applies_one by n m l (Add path value) tree a b = adds_one n path (nodes (view value)) m l a b
applies_one by n m l (Remove path) tree a b = (takes_one n path a.0 b.0 m l tree a.1 b.1).1
applies_one by n m l (Replace path value) tree a b = puts_one n path (nodes (view value)) m l a b
applies_one by n m l (Move from path) tree a b =
    let same = takes_one n from a.node b.node a.left b.left tree a.taken b.taken in
    adds_one b.left path b.node m l (subst (λ (q : NodeMap). Adds q path b.node m) same.1 (subst (λ (q : NodeMap). Adds a.left path q m) same.0 a.added)) b.added
applies_one by n m l (Copy from path) tree a b =
    let same = Finds_one n from a.node b.node a.found b.found in
    adds_one n path b.node m l (subst (λ (q : NodeMap). Adds n path q m) same a.added) b.added
applies_one by n m l (Test path value) tree a b = a.1 ∙ sym b.1

test_refused : (by : Comparison) (n : NodeMap) (k : ℕ) (tokens : List Text) (v : NodeMap) (e : FailedOperation) → PassesBy by n tokens v → RefusesTestBy by n k tokens v e → ⊥
test_refused Strict n k tokens v e a (inl h) = named_refused n tokens a.1.found.path h.0 a.1.found.named h.2
test_refused Strict n k tokens v e a (inr (inl h)) =
    let same = Finds_one n tokens h.1 a.0 h.2 a.1.found in
    ⊎_elim (λ (f : HasFloat h.1). a.1.target_plain (subst HasFloat same f)) (λ (f : HasFloat v). a.1.value_plain f) h.3
test_refused Strict n k tokens v e a (inr (inr h)) =
    let same = Finds_one n tokens h.1 a.0 h.2.found a.1.found in
    h.3 (subst (λ (q : NodeMap). IsEqual q v) (sym same) a.2)
test_refused Numeric n k tokens v e a (inl h) = named_refused n tokens a.1.path h.0 a.1.named h.2
test_refused Numeric n k tokens v e a (inr h) =
    let same = Finds_one n tokens h.1 a.0 h.2 a.1 in
    h.3 (subst (λ (q : NodeMap). IsEqualBy Numeric q v) (sym same) a.2)

move_refused : (n m : NodeMap) (k : ℕ) (from path : List Text) (e : FailedOperation) → IsTree n → Moves n from path m → RefusesMove n k from path e → ⊥
move_refused n m k from path e tree a (inl h) = a.apart h.1
move_refused n m k from path e tree a (inr h) = go h.1
  where
    go : RefusesTarget n k pointer.From from e ⊎ ((node left : NodeMap) × Takes n from node left × RefusesAdd left k path e) → ⊥
    go (inl i) = found_refused n from a.node k e a.taken.found i
    go (inr i) =
        let same = takes_one n from a.node i.0 a.left i.1 tree a.taken i.2 in
        let left_tree = (takes_tree n from i.0 i.1 tree i.2).1 in
        adds_refused i.1 k path a.node m e left_tree (subst (λ (q : NodeMap). Adds q path a.node m) same.1 a.added) i.3

pub applies_refused : (by : Comparison) (n m : NodeMap) (k : ℕ) (o : Operation) (e : FailedOperation) → IsTree n → AppliesBy by n o m → RefusesOperationBy by n k o e → ⊥
applies_refused by n m k (Add path value) e tree a h = adds_refused n k path (nodes (view value)) m e tree a h
applies_refused by n m k (Remove path) e tree a h = found_refused n path a.0 k e a.1.found h
applies_refused by n m k (Replace path value) e tree a h = named_refused n path a.path h.0 a.named h.2
applies_refused by n m k (Move from path) e tree a h = move_refused n m k from path e tree a h
applies_refused by n m k (Copy from path) e tree a (inl h) = found_refused n from a.node k e a.found h
applies_refused by n m k (Copy from path) e tree a (inr h) = adds_refused n k path a.node m e tree a.added h.2
applies_refused by n m k (Test path value) e tree a h = test_refused by n k path (nodes (view value)) e a.0 h

-- the error is unique

float_and_plain : (n : NodeMap) (tokens : List Text) (v t u : NodeMap) → Finds n tokens t → (HasFloat t ⊎ HasFloat v) → Compares n tokens v u → ⊥
float_and_plain n tokens v t u f h c =
    let same = Finds_one n tokens t u f c.found in
    ⊎_elim (λ (g : HasFloat t). c.target_plain (subst HasFloat same g)) (λ (g : HasFloat v). c.value_plain g) h

module _ (resolve_one : (n : NodeMap) (tokens : List Text) (e f : ResolveError) → Refuses n tokens e → Refuses n tokens f → e ≡ f) (assign_one : (n : NodeMap) (tokens : List Text) (e f : AssignError) → RefusesAssign n tokens e → RefusesAssign n tokens f → e ≡ f) where
  test_one : (by : Comparison) (n : NodeMap) (k : ℕ) (tokens : List Text) (v : NodeMap) (e f : FailedOperation) → RefusesTestBy by n k tokens v e → RefusesTestBy by n k tokens v f → e ≡ f
  test_one Strict n k tokens v e f (inl a) (inl b) = target_one resolve_one assign_one n k tokens e f a b
  test_one Strict n k tokens v e f (inl a) (inr (inl b)) = absurd (found_refused n tokens b.1 k e b.2 a)
  test_one Strict n k tokens v e f (inl a) (inr (inr b)) = absurd (found_refused n tokens b.1 k e b.2.found a)
  test_one Strict n k tokens v e f (inr (inl a)) (inl b) = absurd (found_refused n tokens a.1 k f a.2 b)
  test_one Strict n k tokens v e f (inr (inl a)) (inr (inl b)) = a.0 ∙ sym b.0
  test_one Strict n k tokens v e f (inr (inl a)) (inr (inr b)) = absurd (float_and_plain n tokens v a.1 b.1 a.2 a.3 b.2)
  test_one Strict n k tokens v e f (inr (inr a)) (inl b) = absurd (found_refused n tokens a.1 k f a.2.found b)
  test_one Strict n k tokens v e f (inr (inr a)) (inr (inl b)) = absurd (float_and_plain n tokens v b.1 a.1 b.2 b.3 a.2)
  test_one Strict n k tokens v e f (inr (inr a)) (inr (inr b)) = a.0 ∙ sym b.0
  test_one Numeric n k tokens v e f (inl a) (inl b) = target_one resolve_one assign_one n k tokens e f a b
  test_one Numeric n k tokens v e f (inl a) (inr b) = absurd (found_refused n tokens b.1 k e b.2 a)
  test_one Numeric n k tokens v e f (inr a) (inl b) = absurd (found_refused n tokens a.1 k f a.2 b)
  test_one Numeric n k tokens v e f (inr a) (inr b) = a.0 ∙ sym b.0

  move_one : (n : NodeMap) (k : ℕ) (from path : List Text) (e f : FailedOperation) → IsTree n → RefusesMove n k from path e → RefusesMove n k from path f → e ≡ f
  move_one n k from path e f tree (inl h) (inl i) = h.0 ∙ sym i.0
  move_one n k from path e f tree (inl h) (inr i) = absurd (i.0 h.1)
  move_one n k from path e f tree (inr h) (inl i) = absurd (h.0 i.1)
  move_one n k from path e f tree (inr h) (inr i) = both h.1 i.1
    where
      both : RefusesTarget n k pointer.From from e ⊎ ((node left : NodeMap) × Takes n from node left × RefusesAdd left k path e) → RefusesTarget n k pointer.From from f ⊎ ((node left : NodeMap) × Takes n from node left × RefusesAdd left k path f) → e ≡ f
      both (inl a) (inl b) = target_one resolve_one assign_one n k from e f a b
      both (inl a) (inr b) = absurd (found_refused n from b.0 k e b.2.found a)
      both (inr a) (inl b) = absurd (found_refused n from a.0 k f a.2.found b)
      both (inr a) (inr b) =
          let same = takes_one n from a.0 b.0 a.1 b.1 tree a.2 b.2 in
          add_one resolve_one assign_one b.1 k path e f (subst (λ (q : NodeMap). RefusesAdd q k path e) same.1 a.3) b.3

  copy_one : (n : NodeMap) (k : ℕ) (from path : List Text) (e f : FailedOperation) → RefusesCopy n k from path e → RefusesCopy n k from path f → e ≡ f
  copy_one n k from path e f (inl a) (inl b) = target_one resolve_one assign_one n k from e f a b
  copy_one n k from path e f (inl a) (inr b) = absurd (found_refused n from b.0 k e b.1 a)
  copy_one n k from path e f (inr a) (inl b) = absurd (found_refused n from a.0 k f a.1 b)
  copy_one n k from path e f (inr a) (inr b) = add_one resolve_one assign_one n k path e f a.2 b.2

  pub refused_one : (by : Comparison) (n : NodeMap) (k : ℕ) (o : Operation) (e f : FailedOperation) → IsTree n → RefusesOperationBy by n k o e → RefusesOperationBy by n k o f → e ≡ f
  refused_one by n k (Add path value) e f tree h i = add_one resolve_one assign_one n k path e f h i
  refused_one by n k (Remove path) e f tree h i = target_one resolve_one assign_one n k path e f h i
  refused_one by n k (Replace path value) e f tree h i = target_one resolve_one assign_one n k path e f h i
  refused_one by n k (Move from path) e f tree h i = move_one n k from path e f tree h i
  refused_one by n k (Copy from path) e f tree h i = copy_one n k from path e f h i
  refused_one by n k (Test path value) e f tree h i = test_one by n k path (nodes (view value)) e f h i

-- the result is a document

object_tree : (n : NodeMap) (front : List Text) (x : Text) (w : Path) (v : NodeMap) → IsTree n → IsTree v → Names n front w → n w ≡ Some an_object → IsTree (put n (w ++ key x ∷ []) v)
object_tree n front x w v tree new named object = ⊎_elim
    (λ (h : Names n (front ++ x ∷ []) (w ++ key x ∷ [])). Assigns-tree n (front ++ x ∷ []) v (put n (w ++ key x ∷ []) v) (Some (sub n (w ++ key x ∷ []))) tree new (Assigns_named n (front ++ x ∷ []) v (w ++ key x ∷ []) h))
    (λ (r : StopsBefore n (front ++ x ∷ []) (length front) (length (text front)) an_object x × StopsAt n (front ++ x ∷ []) front w (x ∷ [])). Assigns-tree n (front ++ x ∷ []) v (put n (w ++ key x ∷ []) v) None tree new (Assigns_object n (front ++ x ∷ []) front x [] v w r.1 object))
    (cases_member n (front ++ x ∷ []) front x w refl named object)

under_tree : (n : NodeMap) (front : List Text) (w : Path) (l : Option Label) (x : Text) (v m : NodeMap) → IsTree n → IsTree v → Names n front w → n w ≡ l → AddsUnder n w l x v m → IsTree m
under_tree n front w None x v m tree new named is h = absurd h
under_tree n front w (Some an_object) x v m tree new named is h = subst IsTree (sym h) (object_tree n front x w v tree new named is)
under_tree n front w (Some (an_array len)) x v m tree new named is h =
    let here : IsSome (n w) = Names-here n front w named in
    subst IsTree (sym h.2) (IsTree-put n w (with_place h.0 v (sub n w)) tree here (IsTree-with_place (sub n w) h.0 len v (IsTree-sub n w tree here) (sub-root n w ∙ is) h.1.0 new))
under_tree n front w (Some (a_leaf a)) x v m tree new named is h = absurd h

under_listed : (n : NodeMap) (w : Path) (l : Option Label) (x : Text) (v m : NodeMap) → IsListed n → IsListed v → AddsUnder n w l x v m → IsListed m
under_listed n w None x v m a b h = absurd h
under_listed n w (Some an_object) x v m a b h = subst IsListed (sym h) (IsListed-put n (w ++ key x ∷ []) v a b)
under_listed n w (Some (an_array len)) x v m a b h = subst IsListed (sym h.2) (IsListed-put n w (with_place h.0 v (sub n w)) a (IsListed-with_place h.0 v (sub n w) (IsListed-sub n w a) b))
under_listed n w (Some (a_leaf s)) x v m a b h = absurd h

adds_tree : (n : NodeMap) (tokens : List Text) (v m : NodeMap) → IsTree n → IsTree v → Adds n tokens v m → IsTree m
adds_tree n tokens v m tree new (inl a) = subst IsTree (sym a.1) new
adds_tree n tokens v m tree new (inr a) = under_tree n a.front a.path (n a.path) a.last v m tree new a.named refl a.made

adds_listed : (n : NodeMap) (tokens : List Text) (v m : NodeMap) → IsListed n → IsListed v → Adds n tokens v m → IsListed m
adds_listed n tokens v m listed new (inl a) = subst IsListed (sym a.1) new
adds_listed n tokens v m listed new (inr a) = under_listed n a.path (n a.path) a.last v m listed new a.made

value_tree : (v : Value) → IsTree (nodes (view v))
value_tree v = map_of-IsTree (content (view v))

value_listed : (v : Value) → IsListed (nodes (view v))
value_listed v = map_of-finite (content (view v))

pub applies_tree : (by : Comparison) (n m : NodeMap) (o : Operation) → IsTree n → AppliesBy by n o m → IsTree m
applies_tree by n m (Add path value) tree a = adds_tree n path (nodes (view value)) m tree (value_tree value) a
applies_tree by n m (Remove path) tree a = (takes_tree n path a.0 m tree a.1).1
applies_tree by n m (Replace path value) tree a = subst IsTree (sym a.made) (IsTree-put n a.path (nodes (view value)) tree (Names-here n path a.path a.named) (value_tree value))
applies_tree by n m (Move from path) tree a =
    let r = takes_tree n from a.node a.left tree a.taken in
    adds_tree a.left path a.node m r.1 r.0 a.added
applies_tree by n m (Copy from path) tree a = adds_tree n path a.node m tree (found_tree n from a.node tree a.found) a.added
applies_tree by n m (Test path value) tree a = subst IsTree (sym a.1) tree

pub applies_listed : (by : Comparison) (n m : NodeMap) (o : Operation) → IsTree n → IsListed n → AppliesBy by n o m → IsListed m
applies_listed by n m (Add path value) tree listed a = adds_listed n path (nodes (view value)) m listed (value_listed value) a
applies_listed by n m (Remove path) tree listed a = (takes_listed n path a.0 m tree listed a.1).1
applies_listed by n m (Replace path value) tree listed a = subst IsListed (sym a.made) (IsListed-put n a.path (nodes (view value)) listed (value_listed value))
applies_listed by n m (Move from path) tree listed a =
    let r = takes_listed n from a.node a.left tree listed a.taken in
    adds_listed a.left path a.node m r.1 r.0 a.added
applies_listed by n m (Copy from path) tree listed a = adds_listed n path a.node m listed (found_listed n from a.node listed a.found) a.added
applies_listed by n m (Test path value) tree listed a = subst IsListed (sym a.1) listed
