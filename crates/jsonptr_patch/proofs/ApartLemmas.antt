-- Operations that are apart commute, and so do patches.
use Rattle.std.proofs.Common.{◌≡◌, ℕ, inl, inr, Contains, List, [], ◌∷◌, ◌++◌, refl, sym, subst, arith}
use Rattle.std.proofs.lemmas.List.Elements.{Contains-append_left, Contains-append_right}
use Rattle.serde_json.specs.View.{view}
use Rattle.jsonptr.specs.Text.{Text}
use Rattle.jsonptr.specs.Resolve.{PutsAt}
use Rattle.jsonptr.specs.Node.{NodeMap}
use Rattle.jsonptr.specs.Following.{Finds}
use Rattle.jsonptr.specs.Json.{nodes}
use Rattle.jsonptr_patch.specs.Adding.{Adds}
use Rattle.jsonptr_patch.specs.Operating.{IsProperPrefix, Takes, Applies, RefusesTarget, RefusesAdd, RefusesOperation, AppliesBy, PassesBy, RefusesOperationBy, RefusesTestBy}
use Rattle.jsonptr_patch.specs.Patching.{Patches}
use Rattle.jsonptr_patch.specs.declared.operation.Operation.{Operation}
use Rattle.jsonptr_patch.specs.declared.operation.Operation.TheVariants.{Add, Remove, Replace, Move, Copy, Test}
use Rattle.jsonptr_patch.specs.declared.failed_operation.FailedOperation.{FailedOperation}
use Rattle.jsonptr_patch.specs.declared.failed_operation.PatchPointer.TheVariants as pointer
use Rattle.jsonptr_patch.proofs.PatchLemmas.{patches_behind, patches_both}
use Rattle.jsonptr_patch.specs.Apart.{AllDiverge, pointers, all_pointers, AreApart, PatchesAreApart}
use Rattle.jsonptr_patch.proofs.MemberLemmas.{IsLocal, diverges_turned, local_swap, local_diamond, diverges_after}
use Rattle.jsonptr_patch.proofs.LevelLemmas.{local_idle, local_add, local_take, local_put, local_find, local_test}
use Rattle.jsonptr_patch.proofs.RefusalLemmas.{IsSeen, seen_refuses_target, seen_refuses_add, seen_finds, seen_refuses_test, seen_after}
use Rattle.jsonptr_patch.specs.declared.comparison.Comparison.{Comparison}
use Rattle.jsonptr_patch.specs.declared.comparison.Comparison.TheVariants.{Strict}

-- an operation as two local steps, at two pointers, which share a value

-- the pointer of the first step
abbrev source : Operation → List Text
source (Add path value) = path
source (Remove path) = path
source (Replace path value) = path
source (Move from path) = from
source (Copy from path) = from
source (Test path value) = path

-- the pointer of the second step
abbrev target : Operation → List Text
target (Add path value) = path
target (Remove path) = path
target (Replace path value) = path
target (Move from path) = path
target (Copy from path) = path
target (Test path value) = path

abbrev first_part : Operation → NodeMap → NodeMap → List Text → NodeMap → Type 0
first_part (Add path value) v n tokens m = m ≡ n
first_part (Remove path) v n tokens m = m ≡ n
first_part (Replace path value) v n tokens m = m ≡ n
first_part (Move from path) v n tokens m = Takes n tokens v m
first_part (Copy from path) v n tokens m = Finds n tokens v × (m ≡ n)
first_part (Test path value) v n tokens m = m ≡ n

abbrev second_part : Comparison → Operation → NodeMap → NodeMap → List Text → NodeMap → Type 0
second_part by (Add path value) v n tokens m = Adds n tokens (nodes (view value)) m
second_part by (Remove path) v n tokens m = Takes n tokens v m
second_part by (Replace path value) v n tokens m = PutsAt n tokens (nodes (view value)) m
second_part by (Move from path) v n tokens m = Adds n tokens v m
second_part by (Copy from path) v n tokens m = Adds n tokens v m
second_part by (Test path value) v n tokens m = PassesBy by n tokens (nodes (view value)) × (m ≡ n)

-- what does not depend on the document
abbrev allowed : Operation → Type 0
allowed (Add path value) = Unit {0}
allowed (Remove path) = Unit {0}
allowed (Replace path value) = Unit {0}
allowed (Move from path) = IsProperPrefix from path → ⊥
allowed (Copy from path) = Unit {0}
allowed (Test path value) = Unit {0}

local_first : (o : Operation) (v : NodeMap) → IsLocal (first_part o v)
local_first (Add path value) v = local_idle
local_first (Remove path) v = local_idle
local_first (Replace path value) v = local_idle
local_first (Move from path) v = local_take v
local_first (Copy from path) v = local_find v
local_first (Test path value) v = local_idle

local_second : (by : Comparison) (o : Operation) (v : NodeMap) → IsLocal (second_part by o v)
local_second by (Add path value) v = local_add (nodes (view value))
local_second by (Remove path) v = local_take v
local_second by (Replace path value) v = local_put (nodes (view value))
local_second by (Move from path) v = local_add v
local_second by (Copy from path) v = local_add v
local_second by (Test path value) v = local_test by (nodes (view value))

record InParts (by : Comparison) (n : NodeMap) (o : Operation) (m : NodeMap) : Type 0 where
  value : NodeMap
  between : NodeMap
  way : allowed o
  one : first_part o value n (source o) between
  two : second_part by o value between (target o) m

parts_of : (by : Comparison) (n : NodeMap) (o : Operation) (m : NodeMap) → AppliesBy by n o m → InParts by n o m
parts_of by n (Add path value) m h = record { value = n; between = n; way = tt; one = refl; two = h }
parts_of by n (Remove path) m h = record { value = h.0; between = n; way = tt; one = refl; two = h.1 }
parts_of by n (Replace path value) m h = record { value = n; between = n; way = tt; one = refl; two = h }
parts_of by n (Move from path) m h = record { value = h.node; between = h.left; way = h.apart; one = h.taken; two = h.added }
parts_of by n (Copy from path) m h = record { value = h.node; between = n; way = tt; one = (h.found, refl); two = h.added }
parts_of by n (Test path value) m h = record { value = n; between = n; way = tt; one = refl; two = h }

of_parts : (by : Comparison) (n : NodeMap) (o : Operation) (m : NodeMap) → InParts by n o m → AppliesBy by n o m
of_parts by n (Add path value) m r = subst (λ (z : NodeMap). Adds z path (nodes (view value)) m) r.one r.two
of_parts by n (Remove path) m r = (r.value, subst (λ (z : NodeMap). Takes z path r.value m) r.one r.two)
of_parts by n (Replace path value) m r = subst (λ (z : NodeMap). PutsAt z path (nodes (view value)) m) r.one r.two
of_parts by n (Move from path) m r = record { node = r.value; left = r.between; apart = r.way; taken = r.one; added = r.two }
of_parts by n (Copy from path) m r = record { node = r.value; found = r.one.0; added = subst (λ (z : NodeMap). Adds z path r.value m) r.one.1 r.two }
of_parts by n (Test path value) m r = subst (λ (z : NodeMap). PassesBy by z path (nodes (view value)) × (m ≡ z)) r.one r.two

-- their pointers

in_one : (x : List Text) → Contains (x ∷ []) x
in_one x = (0, omega arith, refl)

in_first : (x y : List Text) → Contains (x ∷ y ∷ []) x
in_first x y = (0, omega arith, refl)

in_second : (x y : List Text) → Contains (x ∷ y ∷ []) y
in_second x y = (1, omega arith, refl)

source_in : (o : Operation) → Contains (pointers o) (source o)
source_in (Add path value) = in_one path
source_in (Remove path) = in_one path
source_in (Replace path value) = in_one path
source_in (Move from path) = in_first from path
source_in (Copy from path) = in_first from path
source_in (Test path value) = in_one path

target_in : (o : Operation) → Contains (pointers o) (target o)
target_in (Add path value) = in_one path
target_in (Remove path) = in_one path
target_in (Replace path value) = in_one path
target_in (Move from path) = in_second from path
target_in (Copy from path) = in_second from path
target_in (Test path value) = in_one path

-- lists of pointers that diverge still do after a step at one of them

pub all_turned : (n : NodeMap) (xss yss : List (List Text)) → AllDiverge n xss yss → AllDiverge n yss xss
all_turned n xss yss d ys xs i j = diverges_turned n xs ys (d xs ys j i)

after_step : (F : NodeMap → List Text → NodeMap → Type 0) → IsLocal F → (n m : NodeMap) (xss yss : List (List Text)) (xs : List Text) → Contains xss xs → AllDiverge n xss yss → F n xs m → AllDiverge m xss yss
after_step F f n m xss yss xs among d h zs ys i j = diverges_after F f n m xs zs ys (d xs ys among j) (d zs ys i j) h

after_other : (F : NodeMap → List Text → NodeMap → Type 0) → IsLocal F → (n m : NodeMap) (xss yss : List (List Text)) (ys : List Text) → Contains yss ys → AllDiverge n xss yss → F n ys m → AllDiverge m xss yss
after_other F f n m xss yss ys among d h = all_turned m yss xss (after_step F f n m yss xss ys among (all_turned n xss yss d) h)

-- `AmongAll xss o`: the pointers of operation `o` are among `xss`
abbrev pub AmongAll : List (List Text) → Operation → Type 0
AmongAll xss o = (xs : List Text) → Contains (pointers o) xs → Contains xss xs

after_parts : (by : Comparison) (n m : NodeMap) (o : Operation) (xss yss : List (List Text)) → AmongAll xss o → AllDiverge n xss yss → InParts by n o m → AllDiverge m xss yss
after_parts by n m o xss yss among d r =
    after_step (second_part by o r.value) (local_second by o r.value) r.between m xss yss (target o) (among (target o) (target_in o))
    (after_step (first_part o r.value) (local_first o r.value) n r.between xss yss (source o) (among (source o) (source_in o)) d r.one)
    r.two

pub after_applied : (by : Comparison) (n m : NodeMap) (o : Operation) (xss yss : List (List Text)) → AmongAll xss o → AllDiverge n xss yss → AppliesBy by n o m → AllDiverge m xss yss
after_applied by n m o xss yss among d h = after_parts by n m o xss yss among d (parts_of by n o m h)

-- two operations

swap_parts : (by : Comparison) (n m k : NodeMap) (o p : Operation) (xss yss : List (List Text)) → AmongAll xss o → AmongAll yss p → AllDiverge n xss yss → InParts by n o m → InParts by m p k → (l : NodeMap) × InParts by n p l × InParts by l o k
swap_parts by n m k o p xss yss among other d a b =
    let xi = among (source o) (source_in o) in
    let xj = among (target o) (target_in o) in
    let yi = other (source p) (source_in p) in
    let yj = other (target p) (target_in p) in
    let f1 = local_first o a.value in
    let f2 = local_second by o a.value in
    let g1 = local_first p b.value in
    let g2 = local_second by p b.value in
    let at_a = after_step (first_part o a.value) f1 n a.between xss yss (source o) xi d a.one in
    let s1 = local_swap (second_part by o a.value) (first_part p b.value) f2 g1 a.between m b.between (target o) (source p) (at_a (target o) (source p) xj yi) a.two b.one in
    let s2 = local_swap (first_part o a.value) (first_part p b.value) f1 g1 n a.between s1.0 (source o) (source p) (d (source o) (source p) xi yi) a.one s1.1 in
    let at_s1 = after_other (first_part p b.value) g1 a.between s1.0 xss yss (source p) yi at_a s1.1 in
    let s3 = local_swap (second_part by o a.value) (second_part by p b.value) f2 g2 s1.0 b.between k (target o) (target p) (at_s1 (target o) (target p) xj yj) s1.2 b.two in
    let at_s2 = after_other (first_part p b.value) g1 n s2.0 xss yss (source p) yi d s2.1 in
    let s4 = local_swap (first_part o a.value) (second_part by p b.value) f1 g2 s2.0 s1.0 s3.0 (source o) (target p) (at_s2 (source o) (target p) xi yj) s2.2 s3.1 in (
      s4.0,
      record { value = b.value; between = s2.0; way = b.way; one = s2.1; two = s4.1 },
      record { value = a.value; between = s3.0; way = a.way; one = s4.2; two = s3.2 },
    )

pub swap_applied : (by : Comparison) (n m k : NodeMap) (o p : Operation) (xss yss : List (List Text)) → AmongAll xss o → AmongAll yss p → AllDiverge n xss yss → AppliesBy by n o m → AppliesBy by m p k → (l : NodeMap) × AppliesBy by n p l × AppliesBy by l o k
swap_applied by n m k o p xss yss among other d a b =
    let r = swap_parts by n m k o p xss yss among other d (parts_of by n o m a) (parts_of by m p k b) in
    (r.0, of_parts by n p r.0 r.1, of_parts by r.0 o k r.2)

pub apart_swap : (n m : NodeMap) (o p : Operation) → AreApart n o p → (l : NodeMap) × Applies n o l × Applies l p m → (l : NodeMap) × Applies n p l × Applies l o m
apart_swap n m o p d h = swap_applied Strict n h.0 m o p (pointers o) (pointers p) (λ xs i. i) (λ ys i. i) d h.1 h.2

pub apart_after : (n m : NodeMap) (o p : Operation) → AreApart n o p → Applies n o m → AreApart m o p
apart_after n m o p d h = after_applied Strict n m o (pointers o) (pointers p) (λ xs i. i) d h

-- two operations that apply to one map

diamond_parts : (by : Comparison) (n a b : NodeMap) (o p : Operation) (xss yss : List (List Text)) → AmongAll xss o → AmongAll yss p → AllDiverge n xss yss → InParts by n o a → InParts by n p b → (m : NodeMap) × InParts by a p m × InParts by b o m
diamond_parts by n a b o p xss yss among other d r s =
    let xi = among (source o) (source_in o) in
    let xj = among (target o) (target_in o) in
    let yi = other (source p) (source_in p) in
    let yj = other (target p) (target_in p) in
    let f1 = local_first o r.value in
    let f2 = local_second by o r.value in
    let g1 = local_first p s.value in
    let g2 = local_second by p s.value in
    let at_a = after_step (first_part o r.value) f1 n r.between xss yss (source o) xi d r.one in
    let at_b = after_other (first_part p s.value) g1 n s.between xss yss (source p) yi d s.one in
    let d1 = local_diamond (first_part o r.value) (first_part p s.value) f1 g1 n r.between s.between (source o) (source p) (d (source o) (source p) xi yi) r.one s.one in
    let d2 = local_diamond (second_part by o r.value) (first_part p s.value) f2 g1 r.between a d1.0 (target o) (source p) (at_a (target o) (source p) xj yi) r.two d1.1 in
    let d3 = local_diamond (first_part o r.value) (second_part by p s.value) f1 g2 s.between d1.0 b (source o) (target p) (at_b (source o) (target p) xi yj) d1.2 s.two in
    let at_c = after_other (first_part p s.value) g1 r.between d1.0 xss yss (source p) yi at_a d1.1 in
    let d4 = local_diamond (second_part by o r.value) (second_part by p s.value) f2 g2 d1.0 d2.0 d3.0 (target o) (target p) (at_c (target o) (target p) xj yj) d2.2 d3.1 in (
      d4.0,
      record { value = s.value; between = d2.0; way = s.way; one = d2.1; two = d4.1 },
      record { value = r.value; between = d3.0; way = r.way; one = d3.2; two = d4.2 },
    )

pub diamond_applied : (by : Comparison) (n a b : NodeMap) (o p : Operation) (xss yss : List (List Text)) → AmongAll xss o → AmongAll yss p → AllDiverge n xss yss → AppliesBy by n o a → AppliesBy by n p b → (m : NodeMap) × AppliesBy by a p m × AppliesBy by b o m
diamond_applied by n a b o p xss yss among other d r s =
    let m = diamond_parts by n a b o p xss yss among other d (parts_of by n o a r) (parts_of by n p b s) in
    (m.0, of_parts by a p m.0 m.1, of_parts by b o m.0 m.2)

pub apart_diamond : (n a b : NodeMap) (o p : Operation) → AreApart n o p → Applies n o a → Applies n p b → (m : NodeMap) × Applies a p m × Applies b o m
apart_diamond n a b o p d = diamond_applied Strict n a b o p (pointers o) (pointers p) (λ xs i. i) (λ ys i. i) d

-- how an operation fails

-- what an operation sees at one pointer is not changed by another one
seen_parts : (by : Comparison) (P : NodeMap → List Text → Type 0) → IsSeen P → (n b : NodeMap) (p : Operation) (xss yss : List (List Text)) (xs : List Text) → Contains xss xs → AmongAll yss p → AllDiverge n xss yss → InParts by n p b → P n xs → P b xs
seen_parts by P seen n b p xss yss xs at other d s h =
    let yi = other (source p) (source_in p) in
    let yj = other (target p) (target_in p) in
    let g1 = local_first p s.value in
    let g2 = local_second by p s.value in
    let still = after_other (first_part p s.value) g1 n s.between xss yss (source p) yi d s.one in
    seen_after (second_part by p s.value) g2 P seen s.between b xs (target p) (still xs (target p) at yj) s.two
    (seen_after (first_part p s.value) g1 P seen n s.between xs (source p) (d xs (source p) at yi) s.one h)

pub seen_applied : (by : Comparison) (P : NodeMap → List Text → Type 0) → IsSeen P → (n b : NodeMap) (p : Operation) (xss yss : List (List Text)) (xs : List Text) → Contains xss xs → AmongAll yss p → AllDiverge n xss yss → AppliesBy by n p b → P n xs → P b xs
seen_applied by P seen n b p xss yss xs at other d h = seen_parts by P seen n b p xss yss xs at other d (parts_of by n p b h)

-- nor is a removal
take_parts : (by : Comparison) (v n a b : NodeMap) (p : Operation) (xss yss : List (List Text)) (xs : List Text) → Contains xss xs → AmongAll yss p → AllDiverge n xss yss → Takes n xs v a → InParts by n p b → (m : NodeMap) × Takes b xs v m × InParts by a p m
take_parts by v n a b p xss yss xs at other d taken s =
    let yi = other (source p) (source_in p) in
    let yj = other (target p) (target_in p) in
    let g1 = local_first p s.value in
    let g2 = local_second by p s.value in
    let d1 = local_diamond (λ n tokens m. Takes n tokens v m) (first_part p s.value) (local_take v) g1 n a s.between xs (source p) (d xs (source p) at yi) taken s.one in
    let still = after_other (first_part p s.value) g1 n s.between xss yss (source p) yi d s.one in
    let d2 = local_diamond (λ n tokens m. Takes n tokens v m) (second_part by p s.value) (local_take v) g2 s.between d1.0 b xs (target p) (still xs (target p) at yj) d1.2 s.two in
    (d2.0, d2.2, record { value = s.value; between = d1.0; way = s.way; one = d1.1; two = d2.1 })

refused_parts : (by : Comparison) (n b : NodeMap) (i : ℕ) (o p : Operation) (e : FailedOperation) (xss yss : List (List Text)) → AmongAll xss o → AmongAll yss p → AllDiverge n xss yss → InParts by n p b → RefusesOperationBy by n i o e → RefusesOperationBy by b i o e
refused_parts by n b i (Add path value) p e xss yss among other d s h = seen_parts by (λ n tokens. RefusesAdd n i tokens e) (seen_refuses_add i e) n b p xss yss path (among path (in_one path)) other d s h
refused_parts by n b i (Remove path) p e xss yss among other d s h = seen_parts by (λ n tokens. RefusesTarget n i pointer.Path tokens e) (seen_refuses_target i pointer.Path e) n b p xss yss path (among path (in_one path)) other d s h
refused_parts by n b i (Replace path value) p e xss yss among other d s h = seen_parts by (λ n tokens. RefusesTarget n i pointer.Path tokens e) (seen_refuses_target i pointer.Path e) n b p xss yss path (among path (in_one path)) other d s h
refused_parts by n b i (Move from path) p e xss yss among other d s (inl h) = inl h
refused_parts by n b i (Move from path) p e xss yss among other d s (inr (way, inl h)) = inr (way, inl (seen_parts by (λ n tokens. RefusesTarget n i pointer.From tokens e) (seen_refuses_target i pointer.From e) n b p xss yss from (among from (in_first from path)) other d s h))
refused_parts by n b i (Move from path) p e xss yss among other d s (inr (way, inr h)) =
    let taken = take_parts by h.0 n h.1 b p xss yss from (among from (in_first from path)) other d h.2 s in
    let still = after_step (λ n tokens m. Takes n tokens h.0 m) (local_take h.0) n h.1 xss yss from (among from (in_first from path)) d h.2 in
    inr (way, inr (h.0, taken.0, taken.1, seen_parts by (λ n tokens. RefusesAdd n i tokens e) (seen_refuses_add i e) h.1 taken.0 p xss yss path (among path (in_second from path)) other still taken.2 h.3))
refused_parts by n b i (Copy from path) p e xss yss among other d s (inl h) = inl (seen_parts by (λ n tokens. RefusesTarget n i pointer.From tokens e) (seen_refuses_target i pointer.From e) n b p xss yss from (among from (in_first from path)) other d s h)
refused_parts by n b i (Copy from path) p e xss yss among other d s (inr h) = inr (
  h.0,
  seen_parts by (λ n tokens. Finds n tokens h.0) (seen_finds h.0) n b p xss yss from (among from (in_first from path)) other d s h.1,
  seen_parts by (λ n tokens. RefusesAdd n i tokens e) (seen_refuses_add i e) n b p xss yss path (among path (in_second from path)) other d s h.2,
)
refused_parts by n b i (Test path value) p e xss yss among other d s h = seen_parts by (λ n tokens. RefusesTestBy by n i tokens (nodes (view value)) e) (seen_refuses_test by i (nodes (view value)) e) n b p xss yss path (among path (in_one path)) other d s h

pub refused_applied : (by : Comparison) (n b : NodeMap) (i : ℕ) (o p : Operation) (e : FailedOperation) (xss yss : List (List Text)) → AmongAll xss o → AmongAll yss p → AllDiverge n xss yss → AppliesBy by n p b → RefusesOperationBy by n i o e → RefusesOperationBy by b i o e
refused_applied by n b i o p e xss yss among other d h = refused_parts by n b i o p e xss yss among other d (parts_of by n p b h)

pub apart_refused : (n b : NodeMap) (i : ℕ) (o p : Operation) (e : FailedOperation) → AreApart n o p → Applies n p b → RefusesOperation n i o e → RefusesOperation b i o e
apart_refused n b i o p e d = refused_applied Strict n b i o p e (pointers o) (pointers p) (λ xs i. i) (λ ys i. i) d

-- two patches

-- `Among xss os`: the pointers of the operations `os` are among `xss`
abbrev pub Among : List (List Text) → List Operation → Type 0
Among xss os = (xs : List Text) → Contains (all_pointers os) xs → Contains xss xs

among_first : (xss : List (List Text)) (o : Operation) (os : List Operation) → Among xss (o ∷ os) → AmongAll xss o
among_first xss o os among xs i = among xs (Contains-append_left (pointers o) (all_pointers os) xs i)

among_rest : (xss : List (List Text)) (o : Operation) (os : List Operation) → Among xss (o ∷ os) → Among xss os
among_rest xss o os among xs i = among xs (Contains-append_right (pointers o) (all_pointers os) xs i)

-- one operation, and then some
pub swap_one : (n m k : NodeMap) (o : Operation) (ps : List Operation) (xss yss : List (List Text)) → AmongAll xss o → Among yss ps → AllDiverge n xss yss → Applies n o m → Patches m ps k → (l : NodeMap) × Patches n ps l × Applies l o k
swap_one n m k o [] xss yss among other d a b = (n, refl, subst (λ (z : NodeMap). Applies n o z) (sym b) a)
swap_one n m k o (p ∷ ps) xss yss among other d a b =
    let first = among_first yss p ps other in
    let r = swap_applied Strict n m b.0 o p xss yss among first d a b.1 in
    let still = all_turned r.0 yss xss (after_applied Strict n r.0 p yss xss first (all_turned n xss yss d) r.1) in
    let s = swap_one r.0 b.0 k o ps xss yss among (among_rest yss p ps other) still r.2 b.2 in
    (s.0, (r.0, r.1, s.1), s.2)

swap_all : (n m k : NodeMap) (os ps : List Operation) (xss yss : List (List Text)) → Among xss os → Among yss ps → AllDiverge n xss yss → Patches n os m → Patches m ps k → (l : NodeMap) × Patches n ps l × Patches l os k
swap_all n m k [] ps xss yss among other d a b = (k, subst (λ (z : NodeMap). Patches z ps k) a b, refl)
swap_all n m k (o ∷ os) ps xss yss among other d a b =
    let first = among_first xss o os among in
    let still = after_applied Strict n a.0 o xss yss first d a.1 in
    let r = swap_all a.0 m k os ps xss yss (among_rest xss o os among) other still a.2 b in
    let s = swap_one n a.0 r.0 o ps xss yss first other d a.1 r.1 in
    (s.0, s.1, (r.0, s.2, r.2))

pub patches_swap : (n m : NodeMap) (os ps : List Operation) → PatchesAreApart n os ps → Patches n (os ++ ps) m → Patches n (ps ++ os) m
patches_swap n m os ps d h =
    let r = patches_behind Strict n m os ps h in
    let s = swap_all n r.0 m os ps (all_pointers os) (all_pointers ps) (λ xs i. i) (λ ys i. i) d r.1 r.2 in
    patches_both Strict n s.0 m ps os s.1 s.2
