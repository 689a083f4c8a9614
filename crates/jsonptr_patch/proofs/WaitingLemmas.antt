-- Additions at the location of a node that is removed later.
use Rattle.std.proofs.Common.{◌≡◌, ℕ, zero, suc, ◌<◌, length, slice_index_or, take, drop, remove, inl, inr, ⊎_elim, Contains, List, [], ◌∷◌, ◌++◌, Option, refl, sym, ap, subst, arith}
use Rattle.std.proofs.lemmas.List.Elements.{Contains-append_left, Contains-append_right}
use Rattle.serde_json.specs.View.{view}
use Rattle.serde_json.specs.declared.value.Value.{Value}
use Rattle.jsonptr.specs.Text.{Text}
use Rattle.jsonptr.specs.Node.{key, Label, NodeMap, IsTree}
use Rattle.jsonptr.specs.Following.{Finds}
use Rattle.jsonptr.specs.Json.{nodes, content}
use Rattle.jsonptr.specs.Put.{put}
use Rattle.jsonptr_tree.proofs.ContentLemmas.{map_of-IsTree}
use Rattle.jsonptr_tree.proofs.ListedLemmas.{Contains-cons}
use Rattle.jsonptr_patch.specs.Adding.{AddsUnder, Adds}
use Rattle.jsonptr_patch.specs.Apart.{AllDiverge, all_pointers}
use Rattle.jsonptr_patch.specs.Inverse.{HasObject}
use Rattle.jsonptr_patch.specs.Operating.{Takes, RefusesTarget, RefusesAdd, RefusesMove, RefusesCopy}
use Rattle.jsonptr_patch.specs.Patching.{Patches}
use Rattle.jsonptr_patch.specs.PrivateLater.{paths_of, removals, AreScattered, IsPending, IsWaitingAt, TakesPlace, Frees, StandsFor}
use Rattle.jsonptr_patch.specs.declared.later.Later.{Later}
use Rattle.jsonptr_patch.specs.declared.operation.Operation.{Operation}
use Rattle.jsonptr_patch.specs.declared.operation.Operation.TheVariants.{Add, Remove, Replace, Move, Copy, Test}
use Rattle.jsonptr_patch.specs.declared.failed_operation.FailedOperation.{FailedOperation}
use Rattle.jsonptr_patch.specs.declared.failed_operation.PatchPointer.TheVariants as pointer
use Rattle.jsonptr_patch.proofs.ApartLemmas.{Among, swap_one}
use Rattle.jsonptr_patch.proofs.InverseLemmas.{adds_where_gone}
use Rattle.jsonptr_patch.proofs.LaterLemmas.{first_in, in_parts, seen_later, diverges_later, scattered_after}
use Rattle.jsonptr_patch.proofs.LevelLemmas.{local_take}
use Rattle.jsonptr_patch.proofs.MemberLemmas.{diverges_turned, local_diamond}
use Rattle.jsonptr_patch.proofs.OneLemmas.{adds_refused, takes_tree}
use Rattle.jsonptr_patch.proofs.PatchLemmas.{patches_behind, patches_both}
use Rattle.jsonptr_patch.proofs.RefusalLemmas.{seen_finds, seen_has_object, seen_refuses_target, seen_after}
use Rattle.jsonptr_patch.specs.declared.comparison.Comparison.TheVariants.{Strict}

-- two lists of nodes

removals_append : (xs ys : List Later) → removals (xs ++ ys) ≡ removals xs ++ removals ys
removals_append [] ys = refl
removals_append (x ∷ xs) ys = ap (λ (os : List Operation). Remove x.path ∷ os) (removals_append xs ys)

paths_append : (xs ys : List Later) → paths_of (xs ++ ys) ≡ paths_of xs ++ paths_of ys
paths_append [] ys = refl
paths_append (x ∷ xs) ys = ap (λ (ps : List (List Text)). x.path ∷ ps) (paths_append xs ys)

removal_pointers : (ls : List Later) → all_pointers (removals ls) ≡ paths_of ls
removal_pointers [] = refl
removal_pointers (l ∷ ls) = ap (λ (ps : List (List Text)). l.path ∷ ps) (removal_pointers ls)

pub removals_among : (ls : List Later) → Among (paths_of ls) (removals ls)
removals_among ls xs i = subst (λ (ps : List (List Text)). Contains ps xs) (removal_pointers ls) i

pub both_apart : (d : NodeMap) (xss : List (List Text)) (xs ys : List Later) → AllDiverge d xss (paths_of xs) → AllDiverge d xss (paths_of ys) → AllDiverge d xss (paths_of (xs ++ ys))
both_apart d xss xs ys a b zs ws i j = ⊎_elim
    (λ (k : Contains (paths_of xs) ws). a zs ws i k)
    (λ (k : Contains (paths_of ys) ws). b zs ws i k)
    (in_parts (paths_of xs) (paths_of ys) ws (subst (λ (ps : List (List Text)). Contains ps ws) (paths_append xs ys) j))

-- one node between others

more_in : (xs ys : List Later) (l : Later) (w : List Text) → Contains (paths_of (xs ++ ys)) w → Contains (paths_of (xs ++ l ∷ ys)) w
more_in xs ys l w j = subst (λ (ps : List (List Text)). Contains ps w) (sym (paths_append xs (l ∷ ys)))
    (⊎_elim
    (λ (a : Contains (paths_of xs) w). Contains-append_left (paths_of xs) (l.path ∷ paths_of ys) w a)
    (λ (b : Contains (paths_of ys) w). Contains-append_right (paths_of xs) (l.path ∷ paths_of ys) w (Contains-cons l.path (paths_of ys) w b))
    (in_parts (paths_of xs) (paths_of ys) w (subst (λ (ps : List (List Text)). Contains ps w) (paths_append xs ys) j)))

node_in : (xs ys : List Later) (l : Later) (w : List Text) → Contains (l.path ∷ []) w → Contains (paths_of (xs ++ l ∷ ys)) w
node_in xs ys l w i = subst (λ (ps : List (List Text)). Contains ps w) (sym (paths_append xs (l ∷ ys)))
    (Contains-append_right (paths_of xs) (l.path ∷ paths_of ys) w (Contains-append_left (l.path ∷ []) (paths_of ys) w i))

scattered_behind : (d e : NodeMap) (xs ls : List Later) → AreScattered d (xs ++ ls) → Patches d (removals xs) e → AreScattered e ls
scattered_behind d e [] ls s a = subst (λ (z : NodeMap). AreScattered z ls) (sym a) s
scattered_behind d e (x ∷ xs) ls s a = scattered_behind a.0 e xs ls (scattered_after Strict d a.0 (Remove x.path) (x.path ∷ []) (xs ++ ls) (λ ts i. i) s.1 a.1 s.2) a.2

scattered_without : (d : NodeMap) (xs ys : List Later) (l : Later) → AreScattered d (xs ++ l ∷ ys) → AreScattered d (xs ++ ys)
scattered_without d [] ys l s = s.2
scattered_without d (x ∷ xs) ys l s = (s.0, λ zs ws i j. s.1 zs ws i (more_in xs ys l ws j), scattered_without d xs ys l s.2)

others_diverge : (d : NodeMap) (xs ys : List Later) (l : Later) → AreScattered d (xs ++ l ∷ ys) → AllDiverge d (l.path ∷ []) (paths_of (xs ++ ys))
others_diverge d [] ys l s zs ws i j = s.1 zs ws i j
others_diverge d (x ∷ xs) ys l s zs ws i j = ⊎_elim
    (λ (a : Contains (x.path ∷ []) ws). diverges_turned d ws zs (s.1 ws zs a (node_in xs ys l zs i)))
    (λ (b : Contains (paths_of (xs ++ ys)) ws). others_diverge d xs ys l s.2 zs ws i b)
    (in_parts (x.path ∷ []) (paths_of (xs ++ ys)) ws j)

-- the node is not removed: the others are
kept_waiting : (d n : NodeMap) (xs ys : List Later) (l : Later) → IsPending d (xs ++ l ∷ ys) n → (k v : NodeMap) × IsPending d (xs ++ ys) k × Takes k l.path v n
kept_waiting d n xs ys l p =
    let all : Patches d (removals xs ++ Remove l.path ∷ removals ys) n = subst (λ (os : List Operation). Patches d os n) (removals_append xs (l ∷ ys)) p.removed in
    let parts = patches_behind Strict d n (removals xs) (Remove l.path ∷ removals ys) all in
    let s : AreScattered parts.0 (l ∷ ys) = scattered_behind d parts.0 xs (l ∷ ys) p.scattered parts.1 in
    let r = swap_one parts.0 parts.2.0 n (Remove l.path) (removals ys) (l.path ∷ []) (paths_of ys) (λ ts i. i) (removals_among ys) s.1 parts.2.1 parts.2.2 in
    let whole : Patches d (removals (xs ++ ys)) r.0 = subst (λ (os : List Operation). Patches d os r.0) (sym (removals_append xs ys)) (patches_both Strict d parts.0 r.0 (removals xs) (removals ys) parts.1 r.1) in (
      r.0,
      r.2.0,
      record { removed = whole; scattered = scattered_without d xs ys l p.scattered },
      r.2.1,
    )

pub tree_later : (d n : NodeMap) (ls : List Later) → IsTree d → Patches d (removals ls) n → IsTree n
tree_later d n [] tree a = subst IsTree (sym a) tree
tree_later d n (l ∷ ls) tree a = tree_later a.0 n ls (takes_tree d l.path a.1.0 a.0 tree a.1.1).1 a.2

-- an addition to an object does not fail
never_refused : (n : NodeMap) (i : ℕ) (tokens : List Text) (e : FailedOperation) → IsTree n → HasObject n tokens → RefusesAdd n i tokens e → ⊥
never_refused n i tokens e tree h r = adds_refused n i tokens n (put n (h.path ++ key h.last ∷ []) n) e tree
    (inr (record {
      front = h.front;
      last = h.last;
      path = h.path;
      split = h.split;
      named = h.named;
      made = subst (λ (l : Option Label). AddsUnder n h.path l h.last n (put n (h.path ++ key h.last ∷ []) n)) (sym h.object) refl;
    }))
    r

-- an operation that adds at the location of a node

in_place : (k n v : NodeMap) (o : Operation) (tokens : List Text) → IsTree k → Takes k tokens v n → HasObject k tokens → TakesPlace k o tokens → StandsFor k n o
in_place k n v (Add path value) tokens tree t h p = record {
  applied = λ by m a. subst (λ (ts : List Text). Adds n ts (nodes (view value)) m) (sym p) (adds_where_gone k n v (nodes (view value)) m tokens tree t h (subst (λ (ts : List Text). Adds k ts (nodes (view value)) m) p a));
  refused = λ by i e r. absurd (never_refused k i tokens e tree h (subst (λ (ts : List Text). RefusesAdd k i ts e) p r));
}
in_place k n v (Remove path) tokens tree t h p = absurd p
in_place k n v (Replace path value) tokens tree t h p = absurd p
in_place k n v (Move from path) tokens tree t h p = record {
  applied = λ by m a.
      let both = local_diamond (λ n ts m. Takes n ts a.node m) (λ n ts m. Takes n ts v m) (local_take a.node) (local_take v) k a.left n from tokens p.1 a.taken t in
      let object : HasObject a.left tokens = seen_after (λ n ts m. Takes n ts a.node m) (local_take a.node) HasObject seen_has_object k a.left tokens from (diverges_turned k from tokens p.1) a.taken h in
      let left_tree : IsTree a.left = (takes_tree k from a.node a.left tree a.taken).1 in
      record {
        node = a.node;
        left = both.0;
        apart = a.apart;
        taken = both.2;
        added = subst (λ (ts : List Text). Adds both.0 ts a.node m) (sym p.0) (adds_where_gone a.left both.0 v a.node m tokens left_tree both.1 object (subst (λ (ts : List Text). Adds a.left ts a.node m) p.0 a.added));
      };
  refused = λ by. refused;
}
  where
    source : (i : ℕ) (e : FailedOperation) → RefusesTarget k i pointer.From from e → RefusesTarget n i pointer.From from e
    source i e q = seen_after (λ n ts m. Takes n ts v m) (local_take v) (λ n ts. RefusesTarget n i pointer.From ts e) (seen_refuses_target i pointer.From e) k n from tokens p.1 t q

    added : (i : ℕ) (e : FailedOperation) (node left : NodeMap) → Takes k from node left → RefusesAdd left i path e → ⊥
    added i e node left taken r =
        let object : HasObject left tokens = seen_after (λ n ts m. Takes n ts node m) (local_take node) HasObject seen_has_object k left tokens from (diverges_turned k from tokens p.1) taken h in
        never_refused left i tokens e (takes_tree k from node left tree taken).1 object (subst (λ (ts : List Text). RefusesAdd left i ts e) p.0 r)

    refused : (i : ℕ) (e : FailedOperation) → RefusesMove k i from path e → RefusesMove n i from path e
    refused i e (inl way) = inl way
    refused i e (inr (way, inl r)) = inr (way, inl (source i e r))
    refused i e (inr (way, inr r)) = absurd (added i e r.0 r.1 r.2 r.3)
in_place k n v (Copy from path) tokens tree t h p = record {
  applied = λ by m a. record {
    node = a.node;
    found = seen_after (λ n ts m. Takes n ts v m) (local_take v) (λ n ts. Finds n ts a.node) (seen_finds a.node) k n from tokens p.1 t a.found;
    added = subst (λ (ts : List Text). Adds n ts a.node m) (sym p.0) (adds_where_gone k n v a.node m tokens tree t h (subst (λ (ts : List Text). Adds k ts a.node m) p.0 a.added));
  };
  refused = λ by. refused;
}
  where
    refused : (i : ℕ) (e : FailedOperation) → RefusesCopy k i from path e → RefusesCopy n i from path e
    refused i e (inl r) = inl (seen_after (λ n ts m. Takes n ts v m) (local_take v) (λ n ts. RefusesTarget n i pointer.From ts e) (seen_refuses_target i pointer.From e) k n from tokens p.1 t r)
    refused i e (inr r) = absurd (never_refused k i tokens e tree h (subst (λ (ts : List Text). RefusesAdd k i ts e) p.0 r.2))
in_place k n v (Test path value) tokens tree t h p = absurd p

-- what takes the place of a node in the document does in what is left without the others
place_later : (d k : NodeMap) (o : Operation) (xs ys : List Later) (l : Later) → AreScattered d (xs ++ l ∷ ys) → Patches d (removals (xs ++ ys)) k → TakesPlace d o l.path → TakesPlace k o l.path
place_later d k (Add path value) xs ys l s a p = p
place_later d k (Remove path) xs ys l s a p = absurd p
place_later d k (Replace path value) xs ys l s a p = absurd p
place_later d k (Move from path) xs ys l s a p = (p.0, diverges_later d k from l.path (l.path ∷ []) (xs ++ ys) (first_in l.path []) (others_diverge d xs ys l s) p.1 a)
place_later d k (Copy from path) xs ys l s a p = (p.0, diverges_later d k from l.path (l.path ∷ []) (xs ++ ys) (first_in l.path []) (others_diverge d xs ys l s) p.1 a)
place_later d k (Test path value) xs ys l s a p = absurd p

replaced_at : (d n : NodeMap) (o : Operation) (xs ys : List Later) (l : Later) → HasObject d l.path → TakesPlace d o l.path → IsPending d (xs ++ l ∷ ys) n → (k : NodeMap) × IsPending d (xs ++ ys) k × Frees k n o
replaced_at d n o xs ys l h p pending =
    let r = kept_waiting d n xs ys l pending in
    let left : Patches d (removals (xs ++ ys)) r.0 = r.2.removed in (
      r.0,
      r.2,
      record {
        tokens = l.path;
        value = r.1;
        taken = r.3;
        object = seen_later HasObject seen_has_object d r.0 l.path (l.path ∷ []) (xs ++ ys) (first_in l.path []) (others_diverge d xs ys l pending.scattered) h left;
        place = place_later d r.0 o xs ys l pending.scattered left p;
      },
    )

pub freed_stands : (c : Value) (k n : NodeMap) (o : Operation) (ls : List Later) → IsPending (nodes (view c)) ls k → Frees k n o → StandsFor k n o
freed_stands c k n o ls p f = in_place k n f.value o f.tokens (tree_later (nodes (view c)) k ls (map_of-IsTree (content (view c))) p.removed) f.taken f.object f.place

-- a node of a list, and the others
split_node : (ls : List Later) (i : ℕ) (x : Later) → i < length ls → ls ≡ take i ls ++ slice_index_or ls i x ∷ drop (suc i) ls
split_node [] i x low = absurd (omega (arith, low))
split_node (l ∷ ls) zero x low = refl
split_node (l ∷ ls) (suc i) x low = ap (λ (ks : List Later). l ∷ ks) (split_node ls i x (omega (arith, low)))

pub place_taken : (c : Value) (n : NodeMap) (o : Operation) (ls : List Later) (i : ℕ) (x : Later) (tokens : List Text) → IsWaitingAt ls i tokens → HasObject (nodes (view c)) tokens → TakesPlace (nodes (view c)) o tokens → IsPending (nodes (view c)) ls n → (k : NodeMap) × IsPending (nodes (view c)) (remove ls i) k × Frees k n o
place_taken c n o ls i x tokens w h p pending =
    let l : Later = slice_index_or ls i x in
    let is : tokens ≡ l.path = sym (w.1 x) in
    replaced_at (nodes (view c)) n o (take i ls) (drop (suc i) ls) l
    (subst (λ (ts : List Text). HasObject (nodes (view c)) ts) is h)
    (subst (λ (ts : List Text). TakesPlace (nodes (view c)) o ts) is p)
    (subst (λ (ks : List Later). IsPending (nodes (view c)) ks n) (split_node ls i x w.0) pending)

pub itself : (n : NodeMap) (o : Operation) → StandsFor n n o
itself n o = record { applied = λ by m a. a; refused = λ by i e r. r }
