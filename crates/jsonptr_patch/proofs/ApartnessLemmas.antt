-- Whether pointers, operations and patches are apart.
use Rattle.std.proofs.Common.{◌≡◌, ◌≢◌, ◌↔◌, ℕ, zero, suc, ◌<◌, ◌≤◌, ◌+◌, length, slice_index_or, Bool, true, false, true≢false, IsTrue, Result, Ok, Err, IfOk, ⊎_elim, Contains, List, [], ◌∷◌, ◌++◌, Some, option_map, refl, sym, ap, ap₂, ◌∙◌, subst, append_assoc, arith, length-append}
use Rattle.std.proofs.lemmas.Bool.{cases_lt}
use Rattle.std.proofs.lemmas.List.Elements.{Contains-append_left, Contains-append_right}
use Rattle.jsonptr.specs.Text.{Text}
use Rattle.jsonptr.specs.Parts.{BeginsWith, IsLongestCommonPrefix}
use Rattle.serde_json.specs.Data.{Data}
use Rattle.jsonptr.specs.Node.{Label, an_object, NodeMap, Names}
use Rattle.jsonptr.specs.Content.{label_of}
use Rattle.jsonptr.specs.Json.{nodes, FindsValue}
use Rattle.jsonptr_tree.proofs.NodeLemmas.{Names_one_path}
use Rattle.jsonptr_patch.specs.Apart.{Diverges, AllDiverge, pointers, all_pointers}
use Rattle.jsonptr_patch.specs.PrivateLater.{IsObjectAt, Forks}
use Rattle.jsonptr_patch.specs.declared.operation.Operation.{Operation}
use Rattle.jsonptr_patch.proofs.LaterLemmas.{first_in, in_parts, fork_diverges}

-- results that are exact

pub exact_all : {E : Type 0} (r : Result Bool E) (P Q : Type 0) → P ↔ Q → IfOk r (λ b. IsTrue b ↔ P) → IfOk r (λ b. IsTrue b ↔ Q)
exact_all (Ok b) P Q f h = (λ t. f.0 (h.0 t), λ q. h.1 (f.1 q))
exact_all (Err e) P Q f h = tt

pub exact_false : (P : Type 0) → (P → ⊥) → IsTrue false ↔ P
exact_false P h = (λ t. absurd (true≢false (sym t)), λ p. absurd (h p))

pub exact_true : (P : Type 0) → P → IsTrue true ↔ P
exact_true P p = (λ t. p, λ q. refl)

-- a test that fails shows that its fact does not hold
pub fails : (b : Bool) (P : Type 0) → IsTrue b ↔ P → b ≡ false → P → ⊥
fails b P h not p = true≢false (sym (h.1 p) ∙ not)

-- where two pointers diverge

cut_same : (front : List Text) (here there : Text) (more others rest : List Text) → (front ++ here ∷ more) ++ rest ≡ front ++ there ∷ others → here ≡ there
cut_same [] here there more others rest e = cc
cut_same (x ∷ front) here there more others rest e =
    let tail : (front ++ here ∷ more) ++ rest ≡ front ++ there ∷ others = cc in
    cut_same front here there more others rest tail

-- a prefix does not diverge
prefix_stays : (xs ys front : List Text) → BeginsWith ys xs → Forks xs ys front → ⊥
prefix_stays xs ys front b f = f.differ (cut_same front f.here f.there f.more f.others b.0 (ap (λ (zs : List Text). zs ++ b.0) (sym f.first) ∙ sym b.1 ∙ f.second))

turned : (xs ys front : List Text) → Forks xs ys front → Forks ys xs front
turned xs ys front f = record { here = f.there; more = f.others; there = f.here; others = f.more; first = f.second; second = f.first; differ = λ e. f.differ (sym e) }

pub left_ends : (xs ys common rest : List Text) → IsLongestCommonPrefix xs ys common → xs ≡ common ++ rest → rest ≡ [] → (front : List Text) → Forks xs ys front → ⊥
left_ends xs ys common rest l is none front f =
    let whole : xs ≡ common = is ∙ ap (λ (r : List Text). common ++ r) none ∙ append_nil common in
    prefix_stays xs ys front (subst (λ (zs : List Text). BeginsWith ys zs) (sym whole) l.second) f
  where
    append_nil : (zs : List Text) → zs ++ [] ≡ zs
    append_nil [] = refl
    append_nil (z ∷ zs) = ap (λ (r : List Text). z ∷ r) (append_nil zs)

pub right_ends : (xs ys common rest : List Text) → IsLongestCommonPrefix xs ys common → ys ≡ common ++ rest → rest ≡ [] → (front : List Text) → Forks xs ys front → ⊥
right_ends xs ys common rest l is none front f = left_ends ys xs common rest (record { first = l.second; second = l.first; longest = λ o a b. l.longest o b a }) is none front (turned xs ys front f)

pub same_ends : (xs ys common more others : List Text) (x y : Text) → IsLongestCommonPrefix xs ys common → xs ≡ common ++ x ∷ more → ys ≡ common ++ y ∷ others → x ≡ y → ⊥
same_ends xs ys common more others x y l first second same =
    let longer : List Text = common ++ x ∷ [] in
    let at_xs : BeginsWith xs longer = (more, first ∙ sym (append_assoc common (x ∷ []) more)) in
    let at_ys : BeginsWith ys longer = (others, second ∙ ap (λ (t : Text). common ++ t ∷ others) (sym same) ∙ sym (append_assoc common (x ∷ []) others)) in
    let low : length longer ≤ length common = l.longest longer at_xs at_ys in
    let one_more : length longer ≡ length common + 1 = length-append common (x ∷ []) in
    omega (arith, low, one_more)

one_way : (f g : List Text) (a b c d : Text) (ps qs rs ss : List Text) → f ++ a ∷ ps ≡ g ++ c ∷ rs → f ++ b ∷ qs ≡ g ++ d ∷ ss → a ≢ b → c ≢ d → f ≡ g
one_way [] [] a b c d ps qs rs ss p q ne me = refl
one_way [] (t ∷ g) a b c d ps qs rs ss p q ne me =
    let first : a ≡ t = cc in
    let second : b ≡ t = cc in
    absurd (ne (first ∙ sym second))
one_way (t ∷ f) [] a b c d ps qs rs ss p q ne me =
    let first : t ≡ c = cc in
    let second : t ≡ d = cc in
    absurd (me (sym first ∙ second))
one_way (t ∷ f) (u ∷ g) a b c d ps qs rs ss p q ne me =
    let head : t ≡ u = cc in
    let left : f ++ a ∷ ps ≡ g ++ c ∷ rs = cc in
    let right : f ++ b ∷ qs ≡ g ++ d ∷ ss = cc in
    ap₂ (λ (x : Text) (xs : List Text). x ∷ xs) head (one_way f g a b c d ps qs rs ss left right ne me)

one_fork : (xs ys f g : List Text) → Forks xs ys f → Forks xs ys g → f ≡ g
one_fork xs ys f g p q = one_way f g p.here p.there q.here q.there p.more p.others q.more q.others (sym p.first ∙ q.first) (sym p.second ∙ q.second) p.differ q.differ

only : (p y : List Text) (k : ℕ) → k < 1 → slice_index_or (p ∷ []) k y ≡ y → p ≡ y
only p y zero low is = is
only p y (suc k) low is = absurd (omega (arith, low))

pub alone : (n : NodeMap) (xs ys : List Text) → Diverges n xs ys → AllDiverge n (xs ∷ []) (ys ∷ [])
alone n xs ys d zs ws i j = subst (λ (ts : List Text). Diverges n ts ws) (only xs zs i.0 i.1 i.2) (subst (λ (ts : List Text). Diverges n xs ts) (only ys ws j.0 j.1 j.2) d)

pub both_alone : (n : NodeMap) (xs ys : List Text) → AllDiverge n (xs ∷ []) (ys ∷ []) → Diverges n xs ys
both_alone n xs ys h = h xs ys (first_in xs []) (first_in ys [])

forked : (n : NodeMap) (xs ys : List Text) → (d : Diverges n xs ys) → Forks xs ys d.front
forked n xs ys d = record { here = d.here; more = d.more; there = d.there; others = d.others; first = d.first; second = d.second; differ = d.differ }

pub fork_decides : (n : NodeMap) (xs ys common : List Text) → Forks xs ys common → IsObjectAt n common ↔ AllDiverge n (xs ∷ []) (ys ∷ [])
fork_decides n xs ys common f = (λ o. alone n xs ys (fork_diverges n xs ys common f o), back)
  where
    back : AllDiverge n (xs ∷ []) (ys ∷ []) → IsObjectAt n common
    back h =
        let d : Diverges n xs ys = both_alone n xs ys h in
        let same : d.front ≡ common = one_fork xs ys d.front common (forked n xs ys d) f in
        (d.path, subst (λ (ts : List Text). Names n ts d.path) same d.named, d.object)

pub no_fork : (n : NodeMap) (xs ys : List Text) → ((front : List Text) → Forks xs ys front → ⊥) → AllDiverge n (xs ∷ []) (ys ∷ []) → ⊥
no_fork n xs ys none h =
    let d : Diverges n xs ys = both_alone n xs ys h in
    none d.front (forked n xs ys d)

-- several pointers

pub more_right : (n : NodeMap) (xss yss zss : List (List Text)) → AllDiverge n xss yss → AllDiverge n xss zss → AllDiverge n xss (yss ++ zss)
more_right n xss yss zss a b xs ws i j = ⊎_elim (λ (k : Contains yss ws). a xs ws i k) (λ (k : Contains zss ws). b xs ws i k) (in_parts yss zss ws j)

pub first_right : (n : NodeMap) (xss yss zss : List (List Text)) → AllDiverge n xss (yss ++ zss) → AllDiverge n xss yss
first_right n xss yss zss h xs ws i j = h xs ws i (Contains-append_left yss zss ws j)

pub second_right : (n : NodeMap) (xss yss zss : List (List Text)) → AllDiverge n xss (yss ++ zss) → AllDiverge n xss zss
second_right n xss yss zss h xs ws i j = h xs ws i (Contains-append_right yss zss ws j)

pub more_left : (n : NodeMap) (xss yss zss : List (List Text)) → AllDiverge n xss zss → AllDiverge n yss zss → AllDiverge n (xss ++ yss) zss
more_left n xss yss zss a b xs ws i j = ⊎_elim (λ (k : Contains xss xs). a xs ws k j) (λ (k : Contains yss xs). b xs ws k j) (in_parts xss yss xs i)

pub first_left : (n : NodeMap) (xss yss zss : List (List Text)) → AllDiverge n (xss ++ yss) zss → AllDiverge n xss zss
first_left n xss yss zss h xs ws i j = h xs ws (Contains-append_left xss yss xs i) j

pub second_left : (n : NodeMap) (xss yss zss : List (List Text)) → AllDiverge n (xss ++ yss) zss → AllDiverge n yss zss
second_left n xss yss zss h xs ws i j = h xs ws (Contains-append_right xss yss xs i) j

-- two tests

pub both_right : (n : NodeMap) (xss yss zss : List (List Text)) (a : Bool) → IsTrue a ↔ AllDiverge n xss yss → a ≡ true → AllDiverge n xss zss ↔ AllDiverge n xss (yss ++ zss)
both_right n xss yss zss a h passed = (λ b. more_right n xss yss zss (h.0 passed) b, second_right n xss yss zss)

pub both_left : (n : NodeMap) (xss yss zss : List (List Text)) (a : Bool) → IsTrue a ↔ AllDiverge n xss zss → a ≡ true → AllDiverge n yss zss ↔ AllDiverge n (xss ++ yss) zss
both_left n xss yss zss a h passed = (λ b. more_left n xss yss zss (h.0 passed) b, second_left n xss yss zss)

-- the operations of a list

any_default : (os : List Operation) (i : ℕ) (x y : Operation) → i < length os → slice_index_or os i x ≡ slice_index_or os i y
any_default [] i x y low = absurd (omega (arith, low))
any_default (o ∷ os) zero x y low = refl
any_default (o ∷ os) (suc i) x y low = any_default os i x y (omega (arith, low))

pub one_more : (P : Operation → Type 0) (os : List Operation) (i : ℕ) (e : Operation) → i < length os → e ≡ slice_index_or os i e → P e → ((k : ℕ) (x : Operation) → k < i → P (slice_index_or os k x)) → (k : ℕ) (x : Operation) → k < i + 1 → P (slice_index_or os k x)
one_more P os i e low is here before k x below = ⊎_elim
    (λ (b : k < i). before k x b)
    (λ (b : i ≤ k).
    let end : k ≡ i = omega (arith, below, b) in
    let same : e ≡ slice_index_or os k x = is ∙ any_default os i e x low ∙ ap (λ (j : ℕ). slice_index_or os j x) (sym end) in
    subst P same here)
    (cases_lt k i)

empty : (x : List Text) → Contains [] x → ⊥
empty x h = omega (arith, h.1)

pub each_right : (n : NodeMap) (xss : List (List Text)) (os : List Operation) → ((k : ℕ) (x : Operation) → k < length os → AllDiverge n xss (pointers (slice_index_or os k x))) → AllDiverge n xss (all_pointers os)
each_right n xss [] h = λ xs ws i j. absurd (empty ws j)
each_right n xss (o ∷ os) h = more_right n xss (pointers o) (all_pointers os) (h 0 o (omega arith)) (each_right n xss os (λ k x low. h (suc k) x (omega (arith, low))))

pub each_left : (n : NodeMap) (os : List Operation) (yss : List (List Text)) → ((k : ℕ) (x : Operation) → k < length os → AllDiverge n (pointers (slice_index_or os k x)) yss) → AllDiverge n (all_pointers os) yss
each_left n [] yss h = λ xs ws i j. absurd (empty xs i)
each_left n (o ∷ os) yss h = more_left n (pointers o) (all_pointers os) yss (h 0 o (omega arith)) (each_left n os yss (λ k x low. h (suc k) x (omega (arith, low))))

one_right : (n : NodeMap) (xss : List (List Text)) (os : List Operation) (i : ℕ) (e : Operation) → i < length os → AllDiverge n xss (all_pointers os) → AllDiverge n xss (pointers (slice_index_or os i e))
one_right n xss [] i e low h = absurd (omega (arith, low))
one_right n xss (o ∷ os) zero e low h = first_right n xss (pointers o) (all_pointers os) h
one_right n xss (o ∷ os) (suc i) e low h = one_right n xss os i e (omega (arith, low)) (second_right n xss (pointers o) (all_pointers os) h)

one_left : (n : NodeMap) (os : List Operation) (yss : List (List Text)) (i : ℕ) (e : Operation) → i < length os → AllDiverge n (all_pointers os) yss → AllDiverge n (pointers (slice_index_or os i e)) yss
one_left n [] yss i e low h = absurd (omega (arith, low))
one_left n (o ∷ os) yss zero e low h = first_left n (pointers o) (all_pointers os) yss h
one_left n (o ∷ os) yss (suc i) e low h = one_left n os yss i e (omega (arith, low)) (second_left n (pointers o) (all_pointers os) yss h)

pub fails_right : (n : NodeMap) (xss : List (List Text)) (os : List Operation) (i : ℕ) (e : Operation) (b : Bool) → i < length os → e ≡ slice_index_or os i e → IsTrue b ↔ AllDiverge n xss (pointers e) → b ≡ false → AllDiverge n xss (all_pointers os) → ⊥
fails_right n xss os i e b low is h not all = fails b (AllDiverge n xss (pointers e)) h not (subst (λ (o : Operation). AllDiverge n xss (pointers o)) (sym is) (one_right n xss os i e low all))

pub fails_left : (n : NodeMap) (os : List Operation) (yss : List (List Text)) (i : ℕ) (e : Operation) (b : Bool) → i < length os → e ≡ slice_index_or os i e → IsTrue b ↔ AllDiverge n (pointers e) yss → b ≡ false → AllDiverge n (all_pointers os) yss → ⊥
fails_left n os yss i e b low is h not all = fails b (AllDiverge n (pointers e) yss) h not (subst (λ (o : Operation). AllDiverge n (pointers o) yss) (sym is) (one_left n os yss i e low all))

-- the same for the pointers of an operation

pub one_pointer : {E : Type 0} (r : Result Bool E) (n : NodeMap) (xss : List (List Text)) (p path : List Text) → p ≡ path → IfOk r (λ b. IsTrue b ↔ AllDiverge n xss (p ∷ [])) → IfOk r (λ b. IsTrue b ↔ AllDiverge n xss (path ∷ []))
one_pointer r n xss p path is h = subst (λ (ts : List Text). IfOk r (λ b. IsTrue b ↔ AllDiverge n xss (ts ∷ []))) is h

pub two_pointers : {E : Type 0} (r : Result Bool E) (n : NodeMap) (xss : List (List Text)) (f p from path : List Text) → f ≡ from → p ≡ path → IfOk r (λ b. IsTrue b ↔ AllDiverge n xss (f ∷ p ∷ [])) → IfOk r (λ b. IsTrue b ↔ AllDiverge n xss (from ∷ path ∷ []))
two_pointers r n xss f p from path is too h =
    subst (λ (ts : List Text). IfOk r (λ b. IsTrue b ↔ AllDiverge n xss (from ∷ ts ∷ []))) too
    (subst (λ (ts : List Text). IfOk r (λ b. IsTrue b ↔ AllDiverge n xss (ts ∷ p ∷ []))) is h)

pub pointer_of : {E : Type 0} (r : Result Bool E) (n : NodeMap) (yss : List (List Text)) (p path : List Text) → p ≡ path → IfOk r (λ b. IsTrue b ↔ AllDiverge n (p ∷ []) yss) → IfOk r (λ b. IsTrue b ↔ AllDiverge n (path ∷ []) yss)
pointer_of r n yss p path is h = subst (λ (ts : List Text). IfOk r (λ b. IsTrue b ↔ AllDiverge n (ts ∷ []) yss)) is h

pub pointers_of : {E : Type 0} (r : Result Bool E) (n : NodeMap) (yss : List (List Text)) (f p from path : List Text) → f ≡ from → p ≡ path → IfOk r (λ b. IsTrue b ↔ AllDiverge n (f ∷ p ∷ []) yss) → IfOk r (λ b. IsTrue b ↔ AllDiverge n (from ∷ path ∷ []) yss)
pointers_of r n yss f p from path is too h =
    subst (λ (ts : List Text). IfOk r (λ b. IsTrue b ↔ AllDiverge n (from ∷ ts ∷ []) yss)) too
    (subst (λ (ts : List Text). IfOk r (λ b. IsTrue b ↔ AllDiverge n (ts ∷ p ∷ []) yss)) is h)

-- a value that is no object

pub not_object : (d v : Data) (ts : List Text) (l : Label) → FindsValue d ts v → nodes v [] ≡ Some l → (l ≡ an_object → ⊥) → IsObjectAt (nodes d) ts → ⊥
not_object d v ts l f is differ o =
    let same : o.0 ≡ f.path = Names_one_path (nodes d) ts o.0 f.path o.1 f.named in
    let here : nodes d f.path ≡ Some l = ap (option_map label_of) f.there ∙ is in
    let there : nodes d f.path ≡ Some an_object = ap (nodes d) (sym same) ∙ o.2 in
    let both : Some l ≡ Some an_object = sym here ∙ there in
    let label : l ≡ an_object = cc in
    differ label
