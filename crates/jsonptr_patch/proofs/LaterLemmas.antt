-- Operations on a document with nodes that are removed later.
use Rattle.std.proofs.Common.{◌≡◌, ℕ, zero, suc, ◌<◌, ◌≤◌, ◌+◌, length, slice_index_or, false, ◌⊎◌, inl, inr, ⊎_elim, Result, Ok, Err, IfOk, OnErr, Contains, List, [], ◌∷◌, ◌++◌, Option, Some, None, IsSome, MatchOption, option_map, refl, sym, ap, ◌∙◌, subst, append_assoc, append-nil, length-append, arith}
use mathlib.Core.Path.{fun_ext}
use Rattle.std.proofs.lemmas.Bool.{cases_lt}
use Rattle.std.proofs.lemmas.List.Elements.{Contains-append_left, Contains-append_right}
use Rattle.serde_json.specs.Data.{Data, null}
use Rattle.serde_json.specs.View.{view}
use Rattle.serde_json.specs.declared.value.Value.{Value, Null}
use Rattle.jsonptr.specs.Fault.{IfRefused}
use Rattle.jsonptr.proofs.Calling.{text-append, length-le-text}
use Rattle.jsonptr.specs.Text.{Text, HasNoTilde, text}
use Rattle.jsonptr.specs.Types.Fault.{Fault}
use Rattle.jsonptr.specs.Resolve.{PutsAt}
use Rattle.jsonptr.specs.Node.{Step, key, place, Path, Label, an_object, NodeMap, sub, NamesStep, Names, IsTree}
use Rattle.jsonptr.specs.Following.{Finds}
use Rattle.jsonptr.specs.Json.{nodes, content, FindsValue}
use Rattle.jsonptr.specs.Content.{Content, label_of, content_at, map_of, SortedContent}
use Rattle.jsonptr.specs.Put.{same_step, put}
use Rattle.jsonptr.specs.Removing.{place_before, without_key, without_place, without_step, Deletes}
use Rattle.jsonptr_tree.proofs.ContentLemmas.{map_of-IsTree}
use Rattle.jsonptr_tree.proofs.FollowingLemmas.{Finds_one}
use Rattle.jsonptr_tree.proofs.JsonLemmas.{FindsValue-Finds, null_is}
use Rattle.jsonptr_tree.proofs.ListedLemmas.{Contains-cons}
use Rattle.jsonptr_tree.proofs.NodeLemmas.{Names-push, Names-pop, Names_one_path}
use Rattle.jsonptr_tree.proofs.PutLemmas.{Names-put, put_none, put-put, put_below, sub-put, rest_after-other, cases_same}
use Rattle.jsonptr_tree.proofs.RemovingLemmas.{Deletes_child, Deletes_one, without_key-same, without_key-other}
use Rattle.jsonptr_patch_journal.specs.Location.{path_of, contents_of}
use Rattle.jsonptr_patch_journal.specs.Journal.{Undone}
use Rattle.jsonptr_patch_journal.specs.Writing.{At}
use Rattle.jsonptr_patch_journal.specs.declared.journal.Journal.{Journal}
use Rattle.jsonptr_patch_journal.specs.Changes.{IsThere, ReplacesContent, TakesAt}
use Rattle.jsonptr_patch_journal.specs.declared.location.Location.{Location}
use Rattle.jsonptr_patch.specs.Adding.{Adds}
use Rattle.jsonptr_patch.specs.Apart.{Diverges, AllDiverge, pointers}
use Rattle.jsonptr_patch.specs.Inverse.{HasObject}
use Rattle.jsonptr_patch.specs.Operating.{Takes, Moves, Applies, RefusesTarget, RefusesAdd, RefusesMove, RefusesOperation, AppliesBy, RefusesOperationBy}
use Rattle.jsonptr_patch.specs.Patching.{Patches, PatchesBy, FailsBy}
use Rattle.jsonptr_patch.specs.PrivateRecording.{Records}
use Rattle.jsonptr_patch.specs.Memory.{TestNeedsNoMemory}
use Rattle.jsonptr_patch.specs.PrivateLater.{paths_of, removals, IsKept, IsReached, AreScattered, IsPending, IsObjectAt, IsMemberAt, Forks, CanWait}
use Rattle.jsonptr_patch.specs.declared.later.Later.{Later}
use Rattle.jsonptr_patch.specs.declared.operation.Operation.{Operation}
use Rattle.jsonptr_patch.specs.declared.operation.Operation.TheVariants.{Add, Remove, Replace, Move, Copy, Test}
use Rattle.jsonptr_patch.specs.declared.failed_operation.FailedOperation.{FailedOperation}
use Rattle.jsonptr_patch.specs.declared.failed_operation.PatchPointer.TheVariants as pointer
use Rattle.jsonptr_patch.proofs.ApartLemmas.{AmongAll, all_turned, after_applied, diamond_applied, refused_applied, seen_applied}
use Rattle.jsonptr_patch.proofs.MemberLemmas.{diverges_turned, diverges_after, diverges_way, local_diamond}
use Rattle.jsonptr_patch.proofs.LevelLemmas.{local_take, local_put, local_add}
use Rattle.jsonptr_patch.proofs.AddingLemmas.{found_ascends}
use Rattle.jsonptr_patch.proofs.ChangeMapLemmas.{puts_value, takes_node}
use Rattle.jsonptr_patch.proofs.ChangeOrderLemmas.{sorted_with_value}
use Rattle.jsonptr_patch.proofs.InverseLemmas.{value_root}
use Rattle.jsonptr_patch.proofs.PlaceLemmas.{named_there}
use Rattle.jsonptr_patch.proofs.OperatingLemmas.{patches_push, refused_all, refused_next}
use Rattle.jsonptr_patch.proofs.RefusalLemmas.{IsSeen, seen_finds, seen_names, seen_refuses_add, seen_after}
use Rattle.jsonptr_patch.specs.declared.comparison.Comparison.{Comparison}
use Rattle.jsonptr_patch.specs.declared.comparison.Comparison.TheVariants.{Strict}

-- parts of lists that diverge

pub first_in : (xs : List Text) (xss : List (List Text)) → Contains (xs ∷ xss) xs
first_in xs xss = (0, omega arith, refl)

pub second_in : (xs ys : List Text) → Contains (xs ∷ ys ∷ []) ys
second_in xs ys = (1, omega arith, refl)

rest_diverges : (d : NodeMap) (xss : List (List Text)) (ys : List Text) (yss : List (List Text)) → AllDiverge d xss (ys ∷ yss) → AllDiverge d xss yss
rest_diverges d xss ys yss h xs zs i j = h xs zs i (Contains-cons ys yss zs j)

first_diverges : (d : NodeMap) (xss : List (List Text)) (ys : List Text) (yss : List (List Text)) → AllDiverge d xss (ys ∷ yss) → (xs : List Text) → Contains xss xs → Diverges d xs ys
first_diverges d xss ys yss h xs i = h xs ys i (first_in ys yss)

-- lists of two parts

in_parts_at : (xss yss : List (List Text)) (x : List Text) (k : ℕ) → k < length (xss ++ yss) → slice_index_or (xss ++ yss) k x ≡ x → Contains xss x ⊎ Contains yss x
in_parts_at [] yss x k low is = inr (k, low, is)
in_parts_at (xs ∷ xss) yss x zero low is = inl (0, omega arith, is)
in_parts_at (xs ∷ xss) yss x (suc k) low is = go (in_parts_at xss yss x k (omega (arith, low)) is)
  where
    go : Contains xss x ⊎ Contains yss x → Contains (xs ∷ xss) x ⊎ Contains yss x
    go (inl h) = inl (Contains-cons xs xss x h)
    go (inr h) = inr h

pub in_parts : (xss yss : List (List Text)) (x : List Text) → Contains (xss ++ yss) x → Contains xss x ⊎ Contains yss x
in_parts xss yss x h = in_parts_at xss yss x h.0 h.1 h.2

-- an operation on the document, seen in what is left without the nodes

removes_own : (p : List Text) (yss : List (List Text)) → AmongAll (p ∷ yss) (Remove p)
removes_own p yss ys i = Contains-append_left (p ∷ []) yss ys i

-- the operation's pointers still diverge after one of the removals
after_removal : (d next : NodeMap) (p : List Text) (xss yss : List (List Text)) → AllDiverge d xss (p ∷ yss) → Applies d (Remove p) next → AllDiverge next xss yss
after_removal d next p xss yss h a = rest_diverges next xss p yss (all_turned next (p ∷ yss) xss (after_applied Strict d next (Remove p) (p ∷ yss) xss (removes_own p yss) (all_turned d xss (p ∷ yss) h) a))

pub removed_after : (by : Comparison) (d e n : NodeMap) (o : Operation) (xss : List (List Text)) (ls : List Later) → AmongAll xss o → AllDiverge d xss (paths_of ls) → AppliesBy by d o e → Patches d (removals ls) n → (m : NodeMap) × AppliesBy by n o m × Patches e (removals ls) m
removed_after by d e n o xss [] among h a r = (e, subst (λ (z : NodeMap). AppliesBy by z o e) (sym r) a, refl)
removed_after by d e n o xss (l ∷ ls) among h a r =
    let m = diamond_applied by d e r.0 o (Remove l.path) xss (l.path ∷ paths_of ls) among (removes_own l.path (paths_of ls)) h a r.1 in
    let rest = removed_after by r.0 m.0 n o xss ls among (after_removal d r.0 l.path xss (paths_of ls) h r.1) m.2 r.2 in
    (rest.0, rest.1, (m.0, m.1, rest.2))

pub refused_later : (by : Comparison) (d n : NodeMap) (i : ℕ) (o : Operation) (e : FailedOperation) (xss : List (List Text)) (ls : List Later) → AmongAll xss o → AllDiverge d xss (paths_of ls) → RefusesOperationBy by d i o e → Patches d (removals ls) n → RefusesOperationBy by n i o e
refused_later by d n i o e xss [] among h a r = subst (λ (z : NodeMap). RefusesOperationBy by z i o e) (sym r) a
refused_later by d n i o e xss (l ∷ ls) among h a r = refused_later by r.0 n i o e xss ls among (after_removal d r.0 l.path xss (paths_of ls) h r.1) (refused_applied by d r.0 i o (Remove l.path) e xss (l.path ∷ paths_of ls) among (removes_own l.path (paths_of ls)) h r.1 a) r.2

pub seen_later : (P : NodeMap → List Text → Type 0) → IsSeen P → (d n : NodeMap) (xs : List Text) (xss : List (List Text)) (ls : List Later) → Contains xss xs → AllDiverge d xss (paths_of ls) → P d xs → Patches d (removals ls) n → P n xs
seen_later P seen d n xs xss [] at h a r = subst (λ (z : NodeMap). P z xs) (sym r) a
seen_later P seen d n xs xss (l ∷ ls) at h a r = seen_later P seen r.0 n xs xss ls at (after_removal d r.0 l.path xss (paths_of ls) h r.1) (seen_applied Strict P seen d r.0 (Remove l.path) xss (l.path ∷ paths_of ls) xs at (removes_own l.path (paths_of ls)) h r.1 a) r.2

pub diverges_later : (d n : NodeMap) (zs ys : List Text) (xss : List (List Text)) (ls : List Later) → Contains xss ys → AllDiverge d xss (paths_of ls) → Diverges d zs ys → Patches d (removals ls) n → Diverges n zs ys
diverges_later d n zs ys xss [] at h a r = subst (λ (z : NodeMap). Diverges z zs ys) (sym r) a
diverges_later d n zs ys xss (l ∷ ls) at h a r =
    let away : Diverges d l.path ys = diverges_turned d ys l.path (first_diverges d xss l.path (paths_of ls) h ys at) in
    diverges_later r.0 n zs ys xss ls at (after_removal d r.0 l.path xss (paths_of ls) h r.1) (diverges_after (λ n tokens m. Takes n tokens r.1.0 m) (local_take r.1.0) d r.0 l.path zs ys away a r.1.1) r.2

seen_kept : (kept : Option Location) → IsSeen (IsKept kept)
seen_kept None n k front u x more r h = (h.0, h.1, seen_names h.1 n k front u x more r h.2)
seen_kept (Some here) n k front u x more r h = seen_names (path_of here) n k front u x more r h

-- the nodes are still apart from one another, and where they were
pub scattered_after : (by : Comparison) (d e : NodeMap) (o : Operation) (xss : List (List Text)) (ls : List Later) → AmongAll xss o → AllDiverge d xss (paths_of ls) → AppliesBy by d o e → AreScattered d ls → AreScattered e ls
scattered_after by d e o xss [] among h a s = tt
scattered_after by d e o xss (l ∷ ls) among h a s =
    let more : List (List Text) = xss ++ l.path ∷ [] in
    let both : AllDiverge d more (paths_of ls) = λ xs ys i j. ⊎_elim
    (λ (k : Contains xss xs). rest_diverges d xss l.path (paths_of ls) h xs ys k j)
    (λ (k : Contains (l.path ∷ []) xs). s.1 xs ys k j)
    (in_parts xss (l.path ∷ []) xs i) in
    let after : AllDiverge e more (paths_of ls) = after_applied by d e o more (paths_of ls) (λ xs i. Contains-append_left xss (l.path ∷ []) xs (among xs i)) both a in (
      seen_applied by (IsKept l.location) (seen_kept l.location) d e o (l.path ∷ paths_of ls) xss l.path (first_in l.path (paths_of ls)) among (all_turned d xss (l.path ∷ paths_of ls) h) a s.0,
      λ xs ys i j. after xs ys (Contains-append_right xss (l.path ∷ []) xs i) j,
      scattered_after by d e o xss ls among (rest_diverges d xss l.path (paths_of ls) h) a s.2,
    )

pub pending_after : (by : Comparison) (d e n : NodeMap) (o : Operation) (ls : List Later) → AllDiverge d (pointers o) (paths_of ls) → AppliesBy by d o e → IsPending d ls n → (m : NodeMap) × AppliesBy by n o m × IsPending e ls m
pending_after by d e n o ls h a p =
    let r = removed_after by d e n o (pointers o) ls (λ xs i. i) h a p.removed in
    (r.0, r.1, record { removed = r.2; scattered = scattered_after by d e o (pointers o) ls (λ xs i. i) h a p.scattered })

pub pending_refused : (by : Comparison) (d n : NodeMap) (i : ℕ) (o : Operation) (e : FailedOperation) (ls : List Later) → AllDiverge d (pointers o) (paths_of ls) → IsPending d ls n → RefusesOperationBy by d i o e → RefusesOperationBy by n i o e
pending_refused by d n i o e ls h p a = refused_later by d n i o e (pointers o) ls (λ xs i. i) h a p.removed

-- one more node

removals_push : (ls : List Later) (l : Later) → removals (ls ++ l ∷ []) ≡ removals ls ++ Remove l.path ∷ []
removals_push [] l = refl
removals_push (k ∷ ls) l = ap (λ (os : List Operation). Remove k.path ∷ os) (removals_push ls l)

pub paths_push : (ls : List Later) (l : Later) → paths_of (ls ++ l ∷ []) ≡ paths_of ls ++ l.path ∷ []
paths_push [] l = refl
paths_push (k ∷ ls) l = ap (λ (ps : List (List Text)). k.path ∷ ps) (paths_push ls l)

none_in : (x : List Text) → Contains [] x → ⊥
none_in x h = omega (arith, h.1)

scattered_push : (d : NodeMap) (ls : List Later) (l : Later) → AreScattered d ls → IsReached d l → AllDiverge d (l.path ∷ []) (paths_of ls) → AreScattered d (ls ++ l ∷ [])
scattered_push d [] l s named h = (named, λ xs ys i j. absurd (none_in ys j), tt)
scattered_push d (k ∷ ls) l s named h = (
  s.0,
  λ xs ys i j. ⊎_elim
      (λ (a : Contains (paths_of ls) ys). s.1 xs ys i a)
      (λ (a : Contains (l.path ∷ []) ys). diverges_turned d ys xs (h ys xs a (Contains-append_left (k.path ∷ []) (paths_of ls) xs i)))
      (in_parts (paths_of ls) (l.path ∷ []) ys (subst (λ (ps : List (List Text)). Contains ps ys) (paths_push ls l) j)),
  scattered_push d ls l s.2 named (rest_diverges d (l.path ∷ []) k.path (paths_of ls) h),
)

pending_push : (d m k v : NodeMap) (ls : List Later) (l : Later) → Patches d (removals ls) m → Takes m l.path v k → AreScattered d ls → IsReached d l → AllDiverge d (l.path ∷ []) (paths_of ls) → IsPending d (ls ++ l ∷ []) k
pending_push d m k v ls l r taken s named h = record {
  removed = subst (λ (os : List Operation). Patches d os k) (sym (removals_push ls l)) (patches_push d m k (removals ls) (Remove l.path) r (v, taken));
  scattered = scattered_push d ls l s named h;
}

only_one : (p y : List Text) (k : ℕ) → k < 1 → slice_index_or (p ∷ []) k y ≡ y → p ≡ y
only_one p y zero low is = is
only_one p y (suc k) low is = absurd (omega (arith, low))

-- what holds of each node holds of their pointers
pub each_diverges : (d : NodeMap) (xss : List (List Text)) (ls : List Later) → ((k : ℕ) (x : Later) → k < length ls → (xs : List Text) → Contains xss xs → Diverges d xs (slice_index_or ls k x).path) → AllDiverge d xss (paths_of ls)
each_diverges d xss [] h xs ys i j = absurd (none_in ys j)
each_diverges d xss (l ∷ ls) h xs ys i j = ⊎_elim
    (λ (a : Contains (l.path ∷ []) ys). subst (λ (zs : List Text). Diverges d xs zs) (only_one l.path ys a.0 a.1 a.2) (h 0 l (omega arith) xs i))
    (λ (b : Contains (paths_of ls) ys). each_diverges d xss ls (λ k x low. h (suc k) x (omega (arith, low))) xs ys i b)
    (in_parts (l.path ∷ []) (paths_of ls) ys j)

-- one node less
pub pending_pop : (d e n v : NodeMap) (l : Later) (ls : List Later) → IsTree d → IsPending d (l ∷ ls) n → Takes d l.path v e → IsPending e ls n
pending_pop d e n v l ls tree p taken =
    let r = p.removed in
    let s = p.scattered in
    let same : e ≡ r.0 = Deletes_one d (nodes null) l.path e r.0 tree taken.left r.1.1.left in
    record {
      removed = subst (λ (z : NodeMap). Patches z (removals ls) n) (sym same) r.2;
      scattered = scattered_after Strict d e (Remove l.path) (l.path ∷ []) ls (λ xs i. i) s.1 (v, taken) s.2;
    }

-- null, and then its removal

away_before : (i j : ℕ) → same_step (place i) (place (place_before i j)) ≡ false
away_before zero j = refl
away_before (suc i) zero = refl
away_before (suc i) (suc j) = away_before i j

without_put : (n : NodeMap) (s : Step) (c : NodeMap) → without_step s (put n (s ∷ []) c) ≡ without_step s n
without_put n (key k) c = fun_ext go
  where
    go : (p : Path) → without_key k (put n (key k ∷ []) c) p ≡ without_key k n p
    go [] = refl
    go (t ∷ p) = ⊎_elim
        (λ (e : key k ≡ t). subst (λ (s : Step). without_key k (put n (key k ∷ []) c) (s ∷ p) ≡ without_key k n (s ∷ p)) e (without_key-same k (put n (key k ∷ []) c) p ∙ sym (without_key-same k n p)))
        (λ (e : same_step (key k) t ≡ false). without_key-other k (put n (key k ∷ []) c) t p e ∙ put_none n (key k ∷ []) c (t ∷ p) (rest_after-other (key k) t [] p e) ∙ sym (without_key-other k n t p e))
        (cases_same (key k) t)
without_put n (place i) c = fun_ext go
  where
    go : (p : Path) → without_place i (put n (place i ∷ []) c) p ≡ without_place i n p
    go [] = refl
    go (key k ∷ p) = refl
    go (place j ∷ p) = put_none n (place i ∷ []) c (place (place_before i j) ∷ p) (rest_after-other (place i) (place (place_before i j)) [] p (away_before i j))

pub null_removed : (n m c : NodeMap) (front : List Text) (x : Text) → IsSome (c []) → PutsAt n (front ++ x ∷ []) c m → (v k : NodeMap) × Takes n (front ++ x ∷ []) v k × Takes m (front ++ x ∷ []) c k
null_removed n m c front x some puts =
    let tokens : List Text = front ++ x ∷ [] in
    let r = Names-pop n front x puts.path puts.named in
    let w : Path = r.0 in
    let s : Step = r.1 in
    let named : Names n tokens (w ++ s ∷ []) = subst (λ (p : Path). Names n tokens p) r.2 puts.named in
    let made : m ≡ put n (w ++ s ∷ []) c = puts.made ∙ ap (λ (p : Path). put n p c) r.2 in
    let named_too : Names m tokens (w ++ s ∷ []) = subst (λ (z : NodeMap). Names z tokens (w ++ s ∷ [])) (sym made) (Names-put n tokens (w ++ s ∷ []) c named some) in
    let level : m ≡ put n w (put (sub n w) (s ∷ []) c) = made ∙ put_below n w (s ∷ []) c in
    let below : sub m w ≡ put (sub n w) (s ∷ []) c = ap (λ (z : NodeMap). sub z w) level ∙ sub-put n w (put (sub n w) (s ∷ []) c) in
    let k : NodeMap = put n w (without_step s (sub n w)) in
    let whole : put m w (without_step s (sub m w)) ≡ k =
    ap (λ (z : NodeMap). put m w (without_step s z)) below
    ∙ ap (put m w) (without_put (sub n w) s c)
    ∙ ap (λ (z : NodeMap). put z w (without_step s (sub n w))) level
    ∙ put-put n w (put (sub n w) (s ∷ []) c) (without_step s (sub n w)) in (
      sub n (w ++ s ∷ []),
      k,
      record { found = record { path = w ++ s ∷ []; named = named; below = refl }; left = Deletes_child n (nodes null) tokens w s named },
      record {
        found = record { path = w ++ s ∷ []; named = named_too; below = sym (sub-put n (w ++ s ∷ []) c) ∙ ap (λ (z : NodeMap). sub z (w ++ s ∷ [])) (sym made) };
        left = subst (λ (z : NodeMap). Deletes m tokens (nodes null) z) whole (Deletes_child m (nodes null) tokens w s named_too);
      },
    )

-- its pointer names it still
named_put : (d e : NodeMap) (tokens : List Text) (w : Path) (v : NodeMap) → Names d tokens w → PutsAt d tokens v e → IsSome (v []) → Names e tokens w
named_put d e tokens w v named puts some =
    let here : puts.path ≡ w = Names_one_path d tokens puts.path w puts.named named in
    subst (λ (z : NodeMap). Names z tokens w) (sym (puts.made ∙ ap (λ (p : Path). put d p v) here)) (Names-put d tokens w v named some)

kept_put : (d e : NodeMap) (kept : Option Location) (tokens : List Text) (v : NodeMap) → IsKept kept d tokens → PutsAt d tokens v e → IsSome (v []) → IsKept kept e tokens
kept_put d e None tokens v h puts some = (h.0, h.1, named_put d e tokens h.1 v h.2 puts some)
kept_put d e (Some here) tokens v h puts some = named_put d e tokens (path_of here) v h puts some

-- the path of a member

object_step : (o : Option Label) (x : Text) (s : Step) → o ≡ Some an_object → NamesStep o x s → s ≡ key x
object_step o x s object h = go s (subst (λ (l : Option Label). NamesStep l x s) object h)
  where
    go : (t : Step) → NamesStep (Some an_object) x t → t ≡ key x
    go (key k) e = ap key e
    go (place i) e = absurd e

-- the path that its tokens name
member_path : (n : NodeMap) (tokens : List Text) (u w : Path) → Names n tokens u → IsMemberAt n tokens w → Names n tokens w
member_path n tokens u w named m =
    let r = Names-pop n m.front m.last u (subst (λ (ts : List Text). Names n ts u) m.split named) in
    let up : r.0 ≡ m.path = Names_one_path n m.front r.0 m.path r.3 m.named in
    let object : n r.0 ≡ Some an_object = ap n up ∙ m.object in
    let step : r.1 ≡ key m.last = object_step (n r.0) m.last r.1 object r.4 in
    let same : u ≡ w = r.2 ∙ ap (λ (p : Path). p ++ r.1 ∷ []) up ∙ ap (λ (s : Step). m.path ++ s ∷ []) step ∙ sym m.below in
    subst (λ (p : Path). Names n tokens p) same named

-- they name it if the object has the member
pub member_named : (c v : Content) (tokens : List Text) (w : Path) → IsMemberAt (map_of c) tokens w → content_at w c ≡ Some v → Names (map_of c) tokens w
member_named c v tokens w m there =
    let n : NodeMap = map_of c in
    let last : Path = m.path ++ key m.last ∷ [] in
    let found : n last ≡ Some (label_of v) = ap (option_map label_of) (ap (λ (p : Path). content_at p c) (sym m.below) ∙ there) in
    let here : Names n (m.front ++ m.last ∷ []) last = Names-push n m.front m.last m.path (key m.last) m.named
    (subst (λ (o : Option Label). NamesStep o m.last (key m.last)) (sym m.object) refl)
    (subst (λ (o : Option Label). IsSome o) (sym found) refl) in
    subst (λ (p : Path). Names n tokens p) (sym m.below) (subst (λ (ts : List Text). Names n ts last) (sym m.split) here)

pub kept_names : (kept : Option Location) (n : NodeMap) (tokens : List Text) → IsKept kept n tokens → (w : Path) × Names n tokens w
kept_names None n tokens h = (h.1, h.2)
kept_names (Some here) n tokens h = (path_of here, h)

pub member_kept : (n : NodeMap) (tokens : List Text) (w : Path) (kept : Option Location) → Names n tokens w → MatchOption kept (HasNoTilde (text tokens)) (λ here. IsMemberAt n tokens (path_of here)) → IsKept kept n tokens
member_kept n tokens w None named h = (h, w, named)
member_kept n tokens w (Some here) named h = member_path n tokens w (path_of here) named h

pub none_diverges : (d : NodeMap) (xss : List (List Text)) (ls : List Later) → ls ≡ [] → AllDiverge d xss (paths_of ls)
none_diverges d xss ls is = subst (λ (ks : List Later). AllDiverge d xss (paths_of ks)) (sym is) (λ xs ys i j. absurd (none_in ys j))

-- a removal that is made later

-- a member that is named can be removed
can_take : (n : NodeMap) (front : List Text) (x : Text) (w : Path) → Names n (front ++ x ∷ []) w → (v k : NodeMap) × Takes n (front ++ x ∷ []) v k
can_take n front x w named =
    let tokens : List Text = front ++ x ∷ [] in
    let r = Names-pop n front x w named in
    let there : Names n tokens (r.0 ++ r.1 ∷ []) = subst (λ (p : Path). Names n tokens p) r.2 named in (
      sub n (r.0 ++ r.1 ∷ []),
      put n r.0 (without_step r.1 (sub n r.0)),
      record { found = record { path = r.0 ++ r.1 ∷ []; named = there; below = refl }; left = Deletes_child n (nodes null) tokens r.0 r.1 there },
    )

-- the document stays as it is
pub waits_removed : (d n : NodeMap) (ls ps : List Later) (l : Later) → HasObject d l.path → IsReached d l → AllDiverge d (l.path ∷ []) (paths_of ls) → ps ≡ ls ++ l ∷ [] → IsPending d ls n → (m v : NodeMap) × Takes n l.path v m × IsPending d ps m
waits_removed d n ls ps l member reached h more p =
    let here = kept_names l.location d l.path reached in
    let taken = can_take d member.front member.last here.0 (subst (λ (ts : List Text). Names d ts here.0) member.split here.1) in
    let now : Takes d l.path taken.0 taken.1 = subst (λ (ts : List Text). Takes d ts taken.0 taken.1) (sym member.split) taken.2 in
    let r = removed_after Strict d taken.1 n (Remove l.path) (l.path ∷ []) ls (λ xs i. i) h (taken.0, now) p.removed in
    let pending : IsPending d (ls ++ l ∷ []) r.0 = pending_push d n r.0 r.1.0 ls l p.removed r.1.1 p.scattered reached h in
    (r.0, r.1.0, r.1.1, subst (λ (qs : List Later). IsPending d qs r.0) (sym more) pending)

-- a move whose removal is made later: the source is null now, in what is left too
pub record NullAt (d e n : NodeMap) (from path : List Text) (ls : List Later) : Type 0 where
  pub next : NodeMap
  pub value : NodeMap
  pub left : NodeMap
  pub taken : Takes n from value left
  pub blank : Takes next from (nodes (view Null)) left
  pub removed : Patches e (removals ls) next
  pub diverge : Diverges next path from
  pub after : AllDiverge e (from ∷ path ∷ []) (paths_of ls)

pub null_at : (d e n : NodeMap) (from path front : List Text) (x : Text) (ls : List Later) → from ≡ front ++ x ∷ [] → AllDiverge d (from ∷ path ∷ []) (paths_of ls) → Diverges d from path → PutsAt d from (nodes (view Null)) e → IsPending d ls n → NullAt d e n from path ls
null_at d e n from path front x ls is h apart puts p =
    let o : Operation = Replace from Null in
    let xss : List (List Text) = from ∷ path ∷ [] in
    let among : AmongAll (from ∷ path ∷ []) (Replace from Null) = λ xs i. Contains-append_left (from ∷ []) (path ∷ []) xs i in
    let r = removed_after Strict d e n o xss ls among h puts p.removed in
    let gone = null_removed n r.0 (nodes (view Null)) front x (value_root Null) (subst (λ (ts : List Text). PutsAt n ts (nodes (view Null)) r.0) is r.1) in
    let in_n : Diverges n from path = diverges_later d n from path xss ls (second_in from path) h apart p.removed in
    record {
      next = r.0;
      value = gone.0;
      left = gone.1;
      taken = subst (λ (ts : List Text). Takes n ts gone.0 gone.1) (sym is) gone.2;
      blank = subst (λ (ts : List Text). Takes r.0 ts (nodes (view Null)) gone.1) (sym is) gone.3;
      removed = r.2;
      diverge = diverges_turned r.0 from path (diverges_after (λ n tokens m. PutsAt n tokens (nodes (view Null)) m) (local_put (nodes (view Null))) n r.0 from from path in_n in_n r.1);
      after = after_applied Strict d e o xss (paths_of ls) among h puts;
    }

pub pending_move : (d e f n : NodeMap) (value : Value) (path front : List Text) (x : Text) (ls : List Later) (l : Later) → l.path ≡ front ++ x ∷ [] → IsReached d l → AllDiverge d (l.path ∷ path ∷ []) (paths_of ls) → Diverges d l.path path → Finds d l.path (nodes (view value)) → PutsAt d l.path (nodes (view Null)) e → Adds e path (nodes (view value)) f → IsPending d ls n → (m : NodeMap) × Moves n l.path path m × IsPending f (ls ++ l ∷ []) m
pending_move d e f n value path front x ls l is named h apart found puts added p =
    let s = null_at d e n l.path path front x ls is h apart puts p in
    let xss : List (List Text) = l.path ∷ path ∷ [] in
    let o : Operation = Add path value in
    let among : AmongAll (l.path ∷ path ∷ []) (Add path value) = λ xs i. Contains-append_right (l.path ∷ []) (path ∷ []) xs i in
    let first : AmongAll (l.path ∷ path ∷ []) (Replace l.path Null) = λ xs i. Contains-append_left (l.path ∷ []) (path ∷ []) xs i in
    let r = removed_after Strict e f s.next o xss ls among s.after added s.removed in
    let both = local_diamond (λ n tokens m. Takes n tokens (nodes (view Null)) m) (λ n tokens m. Adds n tokens (nodes (view value)) m) (local_take (nodes (view Null))) (local_add (nodes (view value))) s.next s.left r.0 l.path path (diverges_turned s.next path l.path s.diverge) s.blank r.1 in
    let found_n : Finds n l.path (nodes (view value)) = seen_later (λ n tokens. Finds n tokens (nodes (view value))) (seen_finds (nodes (view value))) d n l.path xss ls (first_in l.path (path ∷ [])) h found p.removed in
    let value_is : s.value ≡ nodes (view value) = Finds_one n l.path s.value (nodes (view value)) s.taken.found found_n in
    let named_e : IsReached e l = kept_put d e l.location l.path (nodes (view Null)) named puts (value_root Null) in
    let apart_e : Diverges e l.path path = diverges_after (λ n tokens m. PutsAt n tokens (nodes (view Null)) m) (local_put (nodes (view Null))) d e l.path l.path path apart apart puts in
    let named_f : IsReached f l = seen_after (λ n tokens m. Adds n tokens (nodes (view value)) m) (local_add (nodes (view value))) (IsKept l.location) (seen_kept l.location) e f l.path path apart_e added named_e in
    let after : AllDiverge f xss (paths_of ls) = after_applied Strict e f o xss (paths_of ls) among s.after added in (
      both.0,
      record {
        node = nodes (view value);
        left = s.left;
        apart = diverges_way d l.path path apart;
        taken = subst (λ (v : NodeMap). Takes n l.path v s.left) value_is s.taken;
        added = both.1;
      },
      pending_push f r.0 both.0 (nodes (view Null)) ls l r.2 both.2
          (scattered_after Strict e f o xss ls among s.after added (scattered_after Strict d e (Replace l.path Null) xss ls first h puts p.scattered))
          named_f
          (λ xs ys i j. after xs ys (Contains-append_left (l.path ∷ []) (path ∷ []) xs i) j),
    )

pub pending_move_refused : (d e n : NodeMap) (i : ℕ) (from path front : List Text) (x : Text) (ls : List Later) (r : FailedOperation) → from ≡ front ++ x ∷ [] → AllDiverge d (from ∷ path ∷ []) (paths_of ls) → Diverges d from path → PutsAt d from (nodes (view Null)) e → IsPending d ls n → RefusesAdd e i path r → RefusesMove n i from path r
pending_move_refused d e n i from path front x ls r is h apart puts p refused =
    let s = null_at d e n from path front x ls is h apart puts p in
    let next : RefusesAdd s.next i path r = seen_later (λ n tokens. RefusesAdd n i tokens r) (seen_refuses_add i r) e s.next path (from ∷ path ∷ []) ls (second_in from path) s.after refused s.removed in
    let left : RefusesAdd s.left i path r = seen_after (λ n tokens m. Takes n tokens (nodes (view Null)) m) (local_take (nodes (view Null))) (λ n tokens. RefusesAdd n i tokens r) (seen_refuses_add i r) s.next s.left path from s.diverge s.blank next in
    inr (diverges_way d from path apart, inr (s.value, s.left, s.taken, left))

-- the same for values

pub null_sorted : SortedContent (contents_of Null)
null_sorted = subst SortedContent (sym null_is) tt

blank_puts : (w : Path) (v : Content) (c d : Value) (tokens : List Text) → At w (ReplacesContent v (contents_of Null)) (contents_of c) (contents_of d) → Names (nodes (view c)) tokens w → PutsAt (nodes (view c)) tokens (nodes (view Null)) (nodes (view d))
blank_puts w v c d tokens a named = puts_value w (contents_of Null) (contents_of c) (contents_of d) tokens (record { old = a.old; new = a.new; there = a.there; made = a.made; related = a.related.1 }) named

blank_finds : (w : Path) (v c d : Value) (tokens : List Text) → At w (ReplacesContent (contents_of v) (contents_of Null)) (contents_of c) (contents_of d) → Names (nodes (view c)) tokens w → FindsValue (view c) tokens (view v)
blank_finds w v c d tokens a named = record { path = w; named = named; there = a.there ∙ ap (λ (x : Content). Some x) a.related.0 }

pub blank_sorted : (w : Path) (v c d : Value) (tokens : List Text) → At w (ReplacesContent (contents_of v) (contents_of Null)) (contents_of c) (contents_of d) → Names (nodes (view c)) tokens w → SortedContent (contents_of c) → SortedContent (contents_of v) × SortedContent (contents_of d)
blank_sorted w v c d tokens a named s = (
  found_ascends (view c) (view v) tokens (blank_finds w v c d tokens a named) s,
  sorted_with_value w (contents_of Null) (contents_of c) (contents_of d) (record { old = a.old; new = a.new; there = a.there; made = a.made; related = a.related.1 }) null_sorted s,
)

pub waits_moved : (c d f value : Value) (path : List Text) (w : Path) (ls ps : List Later) (l : Later) → HasObject (nodes (view c)) l.path → Names (nodes (view c)) l.path w → IsReached (nodes (view c)) l → AllDiverge (nodes (view c)) (l.path ∷ path ∷ []) (paths_of ls) → Diverges (nodes (view c)) l.path path → At w (ReplacesContent (contents_of value) (contents_of Null)) (contents_of c) (contents_of d) → Adds (nodes (view d)) path (nodes (view value)) (nodes (view f)) → ps ≡ ls ++ l ∷ [] → (n : NodeMap) → IsPending (nodes (view c)) ls n → (m : NodeMap) × Moves n l.path path m × IsPending (nodes (view f)) ps m
waits_moved c d f value path w ls ps l member named reached h apart a added more n p =
    let puts : PutsAt (nodes (view c)) l.path (nodes (view Null)) (nodes (view d)) = blank_puts w (contents_of value) c d l.path a named in
    let found : Finds (nodes (view c)) l.path (nodes (view value)) = FindsValue-Finds (view c) l.path (view value) (blank_finds w value c d l.path a named) in
    let r = pending_move (nodes (view c)) (nodes (view d)) (nodes (view f)) n value path member.front member.last ls l member.split reached h apart found puts added p in
    (r.0, r.1, subst (λ (qs : List Later). IsPending (nodes (view f)) qs r.0) (sym more) r.2)

pub waits_move_refused : (c d value : Value) (i : ℕ) (from path : List Text) (w : Path) (ls : List Later) (e : FailedOperation) → HasObject (nodes (view c)) from → Names (nodes (view c)) from w → AllDiverge (nodes (view c)) (from ∷ path ∷ []) (paths_of ls) → Diverges (nodes (view c)) from path → At w (ReplacesContent (contents_of value) (contents_of Null)) (contents_of c) (contents_of d) → RefusesAdd (nodes (view d)) i path e → (n : NodeMap) → IsPending (nodes (view c)) ls n → RefusesMove n i from path e
waits_move_refused c d value i from path w ls e member named h apart a refused n p =
    pending_move_refused (nodes (view c)) (nodes (view d)) n i from path member.front member.last ls e member.split h apart (blank_puts w (contents_of value) c d from a named) p refused

-- a move of which the removal is made at once: after the addition, the node is still there

member_object : (n : NodeMap) (tokens : List Text) (w : Path) → IsMemberAt n tokens w → HasObject n tokens
member_object n tokens w m = record { front = m.front; last = m.last; path = m.path; split = m.split; named = m.named; object = m.object }

pub alone_pending : (c d f value : Value) (from path : List Text) (here : Location) → IsMemberAt (nodes (view c)) from (path_of here) → Diverges (nodes (view c)) from path → At (path_of here) (ReplacesContent (contents_of value) (contents_of Null)) (contents_of c) (contents_of d) → Adds (nodes (view d)) path (nodes (view value)) (nodes (view f)) → (m : NodeMap) × Moves (nodes (view c)) from path m × IsPending (nodes (view f)) (record { path = from; location = Some here } ∷ []) m
alone_pending c d f value from path here m apart a added =
    let l : Later = record { path = from; location = Some here } in
    let named : Names (nodes (view c)) from (path_of here) = member_named (contents_of c) a.old from (path_of here) m a.there in
    waits_moved c d f value path (path_of here) [] (l ∷ []) l (member_object (nodes (view c)) from (path_of here) m) named named (none_diverges (nodes (view c)) (from ∷ path ∷ []) [] refl) apart a added refl (nodes (view c)) (record { removed = refl; scattered = tt })

pub alone_there : (c d f value : Value) (from path : List Text) (here : Location) → IsMemberAt (nodes (view c)) from (path_of here) → Diverges (nodes (view c)) from path → At (path_of here) (ReplacesContent (contents_of value) (contents_of Null)) (contents_of c) (contents_of d) → Adds (nodes (view d)) path (nodes (view value)) (nodes (view f)) → IsThere (path_of here) (contents_of f)
alone_there c d f value from path here m apart a added =
    let r = alone_pending c d f value from path here m apart a added in
    named_there (contents_of f) from (path_of here) r.2.scattered.0

pub alone_moved : (c d f g value : Value) (v : Content) (from path : List Text) (here : Location) → IsMemberAt (nodes (view c)) from (path_of here) → Diverges (nodes (view c)) from path → At (path_of here) (ReplacesContent (contents_of value) (contents_of Null)) (contents_of c) (contents_of d) → Adds (nodes (view d)) path (nodes (view value)) (nodes (view f)) → TakesAt (path_of here) v (contents_of f) (contents_of g) → Moves (nodes (view c)) from path (nodes (view g))
alone_moved c d f g value v from path here m apart a added taken =
    let l : Later = record { path = from; location = Some here } in
    let r = alone_pending c d f value from path here m apart a added in
    let last : IsPending (nodes (view g)) [] r.0 = pending_pop (nodes (view f)) (nodes (view g)) r.0 (map_of v) l [] (map_of-IsTree (contents_of f)) r.2 (takes_node (path_of here) v (contents_of f) (contents_of g) from taken r.2.scattered.0) in
    subst (λ (k : NodeMap). Moves (nodes (view c)) from path k) last.removed r.1

pub alone_refused : (c d value : Value) (i : ℕ) (from path : List Text) (here : Location) (e : FailedOperation) → IsMemberAt (nodes (view c)) from (path_of here) → Diverges (nodes (view c)) from path → At (path_of here) (ReplacesContent (contents_of value) (contents_of Null)) (contents_of c) (contents_of d) → RefusesAdd (nodes (view d)) i path e → RefusesMove (nodes (view c)) i from path e
alone_refused c d value i from path here e m apart a refused = waits_move_refused c d value i from path (path_of here) [] e (member_object (nodes (view c)) from (path_of here) m) (member_named (contents_of c) a.old from (path_of here) m a.there) (none_diverges (nodes (view c)) (from ∷ path ∷ []) [] refl) apart a refused (nodes (view c)) (record { removed = refl; scattered = tt })

-- one node after another

pub next_reached : (d : Value) (ls rest : List Later) (l : Later) (n : NodeMap) → ls ≡ l ∷ rest → IsPending (nodes (view d)) ls n → IsReached (nodes (view d)) l
next_reached d ls rest l n is p =
    let q : IsPending (nodes (view d)) (l ∷ rest) n = subst (λ (ks : List Later). IsPending (nodes (view d)) ks n) is p in
    q.scattered.0

pub next_removed : (d e : Value) (v : NodeMap) (ls rest : List Later) (l : Later) (n : NodeMap) → ls ≡ l ∷ rest → Takes (nodes (view d)) l.path v (nodes (view e)) → IsPending (nodes (view d)) ls n → IsPending (nodes (view e)) rest n
next_removed d e v ls rest l n is taken p =
    let q : IsPending (nodes (view d)) (l ∷ rest) n = subst (λ (ks : List Later). IsPending (nodes (view d)) ks n) is p in
    pending_pop (nodes (view d)) (nodes (view e)) n v l rest (map_of-IsTree (contents_of d)) q taken

-- no node
pub none_left : (d n : NodeMap) (ls : List Later) → ls ≡ [] → IsPending d ls n → n ≡ d
none_left d n ls is p =
    let q : IsPending d [] n = subst (λ (ks : List Later). IsPending d ks n) is p in
    q.removed

pub none_pending : (d n : NodeMap) (ls : List Later) → ls ≡ [] → n ≡ d → IsPending d ls n
none_pending d n ls is same = subst (λ (ks : List Later). IsPending d ks n) (sym is) (record { removed = same; scattered = tt })

-- a loop over the nodes

any_default : (ls : List Later) (i : ℕ) (x y : Later) → i < length ls → slice_index_or ls i x ≡ slice_index_or ls i y
any_default [] i x y low = absurd (omega (arith, low))
any_default (l ∷ ls) zero x y low = refl
any_default (l ∷ ls) (suc i) x y low = any_default ls i x y (omega (arith, low))

-- an operation that is made now

pub now_removed : (c d : Value) (tokens : List Text) (ls : List Later) → AllDiverge (nodes (view c)) (tokens ∷ []) (paths_of ls) → (v : NodeMap) × Takes (nodes (view c)) tokens v (nodes (view d)) → (n : NodeMap) → IsPending (nodes (view c)) ls n → (m v : NodeMap) × Takes n tokens v m × IsPending (nodes (view d)) ls m
now_removed c d tokens ls h a n p =
    let r = pending_after Strict (nodes (view c)) (nodes (view d)) n (Remove tokens) ls h a p in
    (r.0, r.1.0, r.1.1, r.2)

pub now_moved : (c d : Value) (from path : List Text) (ls : List Later) → AllDiverge (nodes (view c)) (from ∷ path ∷ []) (paths_of ls) → Moves (nodes (view c)) from path (nodes (view d)) → (n : NodeMap) → IsPending (nodes (view c)) ls n → (m : NodeMap) × Moves n from path m × IsPending (nodes (view d)) ls m
now_moved c d from path ls h a n p = pending_after Strict (nodes (view c)) (nodes (view d)) n (Move from path) ls h a p

pub now_move_refused : (c : Value) (i : ℕ) (from path : List Text) (ls : List Later) → AllDiverge (nodes (view c)) (from ∷ path ∷ []) (paths_of ls) → (e : FailedOperation) → RefusesMove (nodes (view c)) i from path e → (n : NodeMap) → IsPending (nodes (view c)) ls n → RefusesMove n i from path e
now_move_refused c i from path ls h e a n p = pending_refused Strict (nodes (view c)) n i (Move from path) e ls h p a

pub now_applied : (by : Comparison) (c d : Value) (o : Operation) (ls : List Later) → AllDiverge (nodes (view c)) (pointers o) (paths_of ls) → AppliesBy by (nodes (view c)) o (nodes (view d)) → (n : NodeMap) → IsPending (nodes (view c)) ls n → (m : NodeMap) × AppliesBy by n o m × IsPending (nodes (view d)) ls m
now_applied by c d o ls h a n p = pending_after by (nodes (view c)) (nodes (view d)) n o ls h a p

pub now_refused : (by : Comparison) (c : Value) (i : ℕ) (o : Operation) (ls : List Later) → AllDiverge (nodes (view c)) (pointers o) (paths_of ls) → (e : FailedOperation) → RefusesOperationBy by (nodes (view c)) i o e → (n : NodeMap) → IsPending (nodes (view c)) ls n → RefusesOperationBy by n i o e
now_refused by c i o ls h e a n p = pending_refused by (nodes (view c)) n i o e ls h p a

pub removed_refused : {T : Type 0} (c : Value) (i : ℕ) (tokens path : List Text) (ls : List Later) (r : Result T (Fault FailedOperation)) → tokens ≡ path → AllDiverge (nodes (view c)) (path ∷ []) (paths_of ls) → IfRefused r (RefusesTarget (nodes (view c)) i pointer.Path tokens) → IfRefused r (λ e. (n : NodeMap) → IsPending (nodes (view c)) ls n → RefusesOperation n i (Remove path) e)
removed_refused c i tokens path ls r is h a = refused_all r (RefusesTarget (nodes (view c)) i pointer.Path path) (λ e. (n : NodeMap) → IsPending (nodes (view c)) ls n → RefusesOperation n i (Remove path) e)
    (λ e q n p. pending_refused Strict (nodes (view c)) n i (Remove path) e ls h p q)
    (subst (λ (ts : List Text). IfRefused r (RefusesTarget (nodes (view c)) i pointer.Path ts)) is a)

pub moved_refused : {T : Type 0} (c : Value) (i : ℕ) (f p from path : List Text) (ls : List Later) (r : Result T (Fault FailedOperation)) → f ≡ from → p ≡ path → IfRefused r (λ e. (n : NodeMap) → IsPending (nodes (view c)) ls n → RefusesMove n i f p e) → IfRefused r (λ e. (n : NodeMap) → IsPending (nodes (view c)) ls n → RefusesOperation n i (Move from path) e)
moved_refused c i f p from path ls r is_from is_path a =
    subst (λ (ts : List Text). IfRefused r (λ e. (n : NodeMap) → IsPending (nodes (view c)) ls n → RefusesMove n i from ts e)) is_path
    (subst (λ (ts : List Text). IfRefused r (λ e. (n : NodeMap) → IsPending (nodes (view c)) ls n → RefusesMove n i ts p e)) is_from a)

pub moved_applied : {T E : Type 0} (c d : Value) (f p from path : List Text) (ls ps : List Later) (r : Result T E) → f ≡ from → p ≡ path → IfOk r (λ _. (n : NodeMap) → IsPending (nodes (view c)) ls n → (m : NodeMap) × Moves n f p m × IsPending (nodes (view d)) ps m) → IfOk r (λ _. (n : NodeMap) → IsPending (nodes (view c)) ls n → (m : NodeMap) × Applies n (Move from path) m × IsPending (nodes (view d)) ps m)
moved_applied c d f p from path ls ps r is_from is_path a =
    subst (λ (ts : List Text). IfOk r (λ _. (n : NodeMap) → IsPending (nodes (view c)) ls n → (m : NodeMap) × Moves n from ts m × IsPending (nodes (view d)) ps m)) is_path
    (subst (λ (ts : List Text). IfOk r (λ _. (n : NodeMap) → IsPending (nodes (view c)) ls n → (m : NodeMap) × Moves n ts p m × IsPending (nodes (view d)) ps m)) is_from a)

-- a document that is unchanged is undone by what undid it
pub unchanged_records : {T E : Type 0} (d e : Value) (j : Journal) (r : Result T E) → OnErr r (view e ≡ view d) → OnErr r (Records j d j e)
unchanged_records d e j (Ok t) h = tt
unchanged_records d e j (Err t) h = λ k u. subst (λ (x : Data). Undone j k (content x)) (sym h) u

-- after an error the journal records what it did before, and then what was done since
pub records_both : {T E : Type 0} (c d e : Value) (i j k : Journal) (r : Result T E) → Records i c j d → OnErr r (Records j d k e) → OnErr r (Records i c k e)
records_both c d e i j k (Ok t) one two = tt
records_both c d e i j k (Err x) one two = λ was u. two was (one was u)

pub refused_last : (by : Comparison) (n m : NodeMap) (os : List Operation) (o : Operation) (i : ℕ) (e : FailedOperation) → i ≡ length os → PatchesBy by n os m → RefusesOperationBy by m i o e → FailsBy by n (os ++ o ∷ []) e
refused_last by n m os o i e is done refused = refused_next by n m (os ++ o ∷ []) os [] o e refl done (subst (λ (k : ℕ). RefusesOperationBy by m k o e) is refused)

pub refused_here : (by : Comparison) (n m : NodeMap) (all os rest : List Operation) (o : Operation) (i : ℕ) (e : FailedOperation) → os ++ o ∷ rest ≡ all → i ≡ length os → PatchesBy by n os m → RefusesOperationBy by m i o e → FailsBy by n all e
refused_here by n m all os rest o i e split is done refused = refused_next by n m all os rest o e (sym split) done (subst (λ (k : ℕ). RefusesOperationBy by m k o e) is refused)

-- one pointer

pub one_diverges : (d : NodeMap) (xs : List Text) (ls : List Later) → ((k : ℕ) (x : Later) → k < length ls → Diverges d xs (slice_index_or ls k x).path) → AllDiverge d (xs ∷ []) (paths_of ls)
one_diverges d xs ls h = each_diverges d (xs ∷ []) ls (λ k x low zs at. subst (λ (ts : List Text). Diverges d ts (slice_index_or ls k x).path) (only_one xs zs at.0 at.1 at.2) (h k x low))

pub more_diverges : (d : NodeMap) (xs : List Text) (ls : List Later) (i : ℕ) (e : Later) → i < length ls → e ≡ slice_index_or ls i e → Diverges d xs e.path → ((k : ℕ) (x : Later) → k < i → Diverges d xs (slice_index_or ls k x).path) → (k : ℕ) (x : Later) → k < i + 1 → Diverges d xs (slice_index_or ls k x).path
more_diverges d xs ls i e low is here before k x below = ⊎_elim
    (λ (b : k < i). before k x b)
    (λ (b : i ≤ k).
    let end : k ≡ i = omega (arith, below, b) in
    let same : e ≡ slice_index_or ls k x = is ∙ any_default ls i e x low ∙ ap (λ (j : ℕ). slice_index_or ls j x) (sym end) in
    subst (λ (l : Later). Diverges d xs l.path) same here)
    (cases_lt k i)

-- an object at the root
pub root_object : (n : NodeMap) (ts : List Text) → ts ≡ [] → n [] ≡ Some an_object → IsObjectAt n ts
root_object n ts root object = ([], subst (λ (xs : List Text). Names n xs []) (sym root) (subst (λ (l : Option Label). IsSome l) (sym object) refl), object)

-- a pointer that is not longer than its prefix
pub no_longer : (xs front rest : List Text) → length (text xs) ≤ length (text front) → xs ≡ front ++ rest → xs ≡ front
no_longer xs front [] h e = e ∙ append-nil front
no_longer xs front (r ∷ rest) h e = absurd (omega (arith, h, ap (λ (ts : List Text). length (text ts)) e, ap length (text-append front (r ∷ rest)), length-append (text front) (text (r ∷ rest)), length-le-text (r ∷ rest)))

-- a pointer that goes on from the parent of another one, and does not begin with that one
pub beside_forks : (xs ys front rest : List Text) (last : Text) → xs ≡ front ++ last ∷ [] → ys ≡ front ++ rest → (rest ≡ [] → ⊥) → ((more : List Text) → ys ≡ xs ++ more → ⊥) → Forks xs ys front
beside_forks xs ys front [] last one other some apart = absurd (some refl)
beside_forks xs ys front (y ∷ more) last one other some apart = record {
  here = last;
  more = [];
  there = y;
  others = more;
  first = one;
  second = other;
  differ = λ e. apart more (other ∙ ap (λ (t : Text). front ++ t ∷ more) (sym e) ∙ sym (append_assoc front (last ∷ []) more) ∙ ap (λ (ts : List Text). ts ++ more) (sym one));
}

pub fork_diverges : (d : NodeMap) (xs ys front : List Text) → Forks xs ys front → IsObjectAt d front → Diverges d xs ys
fork_diverges d xs ys front f o = record {
  front = front;
  path = o.0;
  here = f.here;
  more = f.more;
  there = f.there;
  others = f.others;
  first = f.first;
  second = f.second;
  differ = f.differ;
  named = o.1;
  object = o.2;
}

pub both_pointers : (d : NodeMap) (xs ys : List Text) (yss : List (List Text)) → AllDiverge d (xs ∷ []) yss → AllDiverge d (ys ∷ []) yss → AllDiverge d (xs ∷ ys ∷ []) yss
both_pointers d xs ys yss a b zs ws i j = ⊎_elim
    (λ (k : Contains (xs ∷ []) zs). a zs ws k j)
    (λ (k : Contains (ys ∷ []) zs). b zs ws k j)
    (in_parts (xs ∷ []) (ys ∷ []) zs i)

pub waits_no_test : (n : NodeMap) (o : Operation) → CanWait n o → TestNeedsNoMemory o → ⊥
waits_no_test n (Add path value) w t = absurd w
waits_no_test n (Remove path) w t = t
waits_no_test n (Replace path value) w t = absurd w
waits_no_test n (Move from path) w t = t
waits_no_test n (Copy from path) w t = absurd w
waits_no_test n (Test path value) w t = absurd w

-- an operation whose removal waits is no test
pub waits_applied : (by : Comparison) (c : Value) (n m : NodeMap) (o : Operation) → CanWait (nodes (view c)) o → Applies n o m → AppliesBy by n o m
waits_applied by c n m (Add path value) w a = absurd w
waits_applied by c n m (Remove path) w a = a
waits_applied by c n m (Replace path value) w a = absurd w
waits_applied by c n m (Move from path) w a = a
waits_applied by c n m (Copy from path) w a = absurd w
waits_applied by c n m (Test path value) w a = absurd w

pub waits_refused : (by : Comparison) (c : Value) (n : NodeMap) (i : ℕ) (o : Operation) (e : FailedOperation) → CanWait (nodes (view c)) o → RefusesOperation n i o e → RefusesOperationBy by n i o e
waits_refused by c n i (Add path value) e w r = absurd w
waits_refused by c n i (Remove path) e w r = r
waits_refused by c n i (Replace path value) e w r = absurd w
waits_refused by c n i (Move from path) e w r = r
waits_refused by c n i (Copy from path) e w r = absurd w
waits_refused by c n i (Test path value) e w r = absurd w
