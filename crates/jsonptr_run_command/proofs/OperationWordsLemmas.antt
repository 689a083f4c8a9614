-- Operations as words: words are those of at most one list of operations, and such lists are read, checked and
-- converted one operation after the other.
use Rattle.std.proofs.Common.{◌≡◌, ℕ, ◌+◌, ◌<◌, All, Contains, List, [], ◌∷◌, ◌++◌, length, take, drop, get_or, map, flat_map, option_map, Option, Some, None, codes, alloc_error, refl, sym, ap, subst, ◌∙◌, append_assoc, append-nil, take-append-drop, Bool, true, false, if◌then◌else◌, ◌⊎◌, inl, inr}
use Rattle.std.specs.Bool.{◌==◌}
use Rattle.std.specs.Str.{bytes_eq}
use Rattle.std.proofs.lemmas.Slice.Eq.{slice_eq-Decides}
use Rattle.std.proofs.lemmas.Bool.Decides.{Decides-eqb}
use Rattle.std.proofs.lemmas.List.{map-append, take_more, drop_more, take_at, drop_at}
use Rattle.std.proofs.lemmas.Grind.{flat_map-append}
use Rattle.std.proofs.lemmas.List.Elements.{All-nil, All-cons, All-append, All-take, All-drop, Contains-append_left, Contains-append_right}
use Rattle.jsonptr.specs.Text.{Text}
use Rattle.jsonptr.specs.Grammar.{IsPointer}
use Rattle.jsonptr.specs.ParseError.{IsParseErrorOf}
use Rattle.jsonptr.specs.Types.ParseError.{ParseError}
use Rattle.jsonptr_run_command.specs.Operations.{OperationWords, add, remove, replace, move, copy, test, operation_words, words_of, operation_pointers, operation_values, pointers_of, values_of, OperationData, IsOperationOf, AreOperationsOf}
use Rattle.jsonptr_run_command.specs.PrivateOperations.{cut_of, cut_two, with_two, IsFirstFault, RefusesOneOf}
use Rattle.jsonptr_run_command.specs.declared.fault.RunFault.{RunFault}
use Rattle.jsonptr_run_command.specs.declared.fault.RunFault.TheVariants.{Memory}

-- the first operation of an operation's words and others after them is that one, and the others are left
cut_words : (f : OperationWords) (rest : List Text) → cut_of (operation_words f ++ rest) ≡ Some (f, rest)
cut_words (add pointer value) rest = refl
cut_words (remove pointer) rest = refl
cut_words (replace pointer value) rest = refl
cut_words (move from pointer) rest = refl
cut_words (copy from pointer) rest = refl
cut_words (test pointer value) rest = refl

-- an operation has words
words_not_nil : (f : OperationWords) (rest : List Text) → operation_words f ++ rest ≡ [] → ⊥
words_not_nil (add pointer value) rest e = cc
words_not_nil (remove pointer) rest e = cc
words_not_nil (replace pointer value) rest e = cc
words_not_nil (move from pointer) rest e = cc
words_not_nil (copy from pointer) rest e = cc
words_not_nil (test pointer value) rest e = cc

-- the first operation of words, and the words after it
abbrev Cut : Type 0
Cut = Option (OperationWords × List Text)

abbrev found : OperationWords → List Text → Cut
found f rest = Some (f, rest)

abbrev nothing : Cut
nothing = None

abbrev cut_or : OperationWords × List Text → Cut → OperationWords × List Text
cut_or d None = d
cut_or d (Some p) = p

none_found : (f : OperationWords) (left : List Text) → nothing ≡ found f left → ⊥
none_found f left e = cc

same_cut : (f g : OperationWords) (rest other : List Text) → found f rest ≡ found g other → (f ≡ g) × (rest ≡ other)
same_cut f g rest other e =
    let both : (f, rest) ≡ (g, other) = ap (cut_or (f, rest)) e in
    (ap (λ (p : OperationWords × List Text). p.0) both, ap (λ (p : OperationWords × List Text). p.1) both)

same_first : (f g : OperationWords) (rest other : List Text) → operation_words f ++ rest ≡ operation_words g ++ other → (f ≡ g) × (rest ≡ other)
same_first f g rest other e = same_cut f g rest other (sym (cut_words f rest) ∙ ap cut_of e ∙ cut_words g other)

-- two lists of operations with the same words are the same
pub operations_one : (fs gs : List OperationWords) → words_of fs ≡ words_of gs → fs ≡ gs
operations_one [] [] e = refl
operations_one [] (g ∷ gs) e = absurd (words_not_nil g (words_of gs) (sym e))
operations_one (f ∷ fs) [] e = absurd (words_not_nil f (words_of fs) e)
operations_one (f ∷ fs) (g ∷ gs) e =
    let first = same_first f g (words_of fs) (words_of gs) e in
    let rest : fs ≡ gs = operations_one fs gs first.1 in
    cc

-- if the words of operations and others after them are those of operations, so are the others
words_front : (fs gs : List OperationWords) (rest : List Text) → words_of fs ++ rest ≡ words_of gs → (hs : List OperationWords) × (rest ≡ words_of hs)
words_front [] gs rest e = (gs, e)
words_front (f ∷ fs) [] rest e = absurd (words_not_nil f (words_of fs ++ rest) (sym (append_assoc (operation_words f) (words_of fs) rest) ∙ e))
words_front (f ∷ fs) (g ∷ gs) rest e =
    words_front fs gs rest (same_first f g (words_of fs ++ rest) (words_of gs) (sym (append_assoc (operation_words f) (words_of fs) rest) ∙ e)).1

-- a text that a comparison finds to be a word
is_name : (name word : Text) → bytes_eq name word ≡ true → name ≡ word
is_name name word same = (slice_eq-Decides Decides-eqb name word true (sym same)).0 refl

if_is : {X : Type 0} (b : Bool) (x y z : X) → (if b then x else y) ≡ z → ((b ≡ true) × (x ≡ z)) ⊎ ((b ≡ false) × (y ≡ z))
if_is true x y z e = inl (refl, e)
if_is false x y z e = inr (refl, e)

abbrev some_operation : OperationWords → Option OperationWords
some_operation f = Some f

abbrev operation_or : OperationWords → Option OperationWords → OperationWords
operation_or d None = d
operation_or d (Some f) = f

some_is : (f g : OperationWords) → some_operation f ≡ some_operation g → f ≡ g
some_is f g e = ap (operation_or f) e

none_is : (ws : List Text) (f : OperationWords) → None ≡ some_operation f → ws ≡ operation_words f
none_is ws f e = cc

mapped : (o : Option OperationWords) (f : OperationWords) (rest left : List Text) → option_map (λ (g : OperationWords). (g, rest)) o ≡ found f left → (o ≡ some_operation f) × (rest ≡ left)
mapped None f rest left e = absurd (none_found f left e)
mapped (Some g) f rest left e =
    let both = same_cut g f rest left e in
    (ap some_operation both.0, both.1)

-- if a comparison of the name with a word decides between the operation `made` and another, the name and the two
-- texts are the words of the result
named : (name word a b : Text) (made : OperationWords) (other : Option OperationWords) (f : OperationWords) → operation_words made ≡ word ∷ a ∷ b ∷ [] → (other ≡ some_operation f → name ∷ a ∷ b ∷ [] ≡ operation_words f)
    → (if bytes_eq name word then Some made else other) ≡ some_operation f → name ∷ a ∷ b ∷ [] ≡ operation_words f
named name word a b made other f words next e = by (if_is (bytes_eq name word) (some_operation made) other (some_operation f) e)
  where
    by : ((bytes_eq name word ≡ true) × (some_operation made ≡ some_operation f)) ⊎ ((bytes_eq name word ≡ false) × (other ≡ some_operation f)) → name ∷ a ∷ b ∷ [] ≡ operation_words f
    by (inl h) =
        let name_is : name ≡ word = is_name name word h.0 in
        let made_is : made ≡ f = some_is made f h.1 in
        rw name_is (sym words ∙ ap operation_words made_is)
    by (inr h) = next h.1

with_two_is : (name a b : Text) (f : OperationWords) → with_two name a b ≡ some_operation f → name ∷ a ∷ b ∷ [] ≡ operation_words f
with_two_is name a b f e =
    named name (codes "add") a b (add a b) _ f refl (λ h. named name (codes "replace") a b (replace a b) _ f refl (λ i. named name (codes "move") a b (move a b) _ f refl
    (λ j. named name (codes "copy") a b (copy a b) _ f refl (λ k. named name (codes "test") a b (test a b) None f refl (λ l. none_is (name ∷ a ∷ b ∷ []) f l) k) j) i) h) e

-- the words of the first operation are those before the ones that are left
cut_is : (ws : List Text) (f : OperationWords) (left : List Text) → cut_of ws ≡ found f left → ws ≡ operation_words f ++ left
cut_is [] f left e = cc
cut_is (name ∷ []) f left e = cc
cut_is (name ∷ a ∷ rest) f left e = by (if_is (bytes_eq name (codes "remove")) (found (remove a) rest) (cut_two name a rest) (found f left) e)
  where
    by_two : (ws : List Text) → cut_two name a ws ≡ found f left → name ∷ a ∷ ws ≡ operation_words f ++ left
    by_two [] h = cc
    by_two (b ∷ ws) h =
        let both = mapped (with_two name a b) f ws left h in
        rw both.1 (ap (λ (l : List Text). l ++ left) (with_two_is name a b f both.0))

    by : ((bytes_eq name (codes "remove") ≡ true) × (found (remove a) rest ≡ found f left)) ⊎ ((bytes_eq name (codes "remove") ≡ false) × (cut_two name a rest ≡ found f left))
        → name ∷ a ∷ rest ≡ operation_words f ++ left
    by (inl h) =
        let name_is : name ≡ codes "remove" = is_name name (codes "remove") h.0 in
        let both = same_cut (remove a) f rest left h.1 in
        rw (name_is, both.1) (ap (λ (g : OperationWords). operation_words g ++ left) both.0)
    by (inr h) = by_two rest h.1

-- words without a first operation are not those of operations
no_operations : (ws : List Text) (w : Text) (rest : List Text) → ws ≡ w ∷ rest → cut_of ws ≡ None → (gs : List OperationWords) → ws ≡ words_of gs → ⊥
no_operations ws w rest is none [] e =
    let empty : w ∷ rest ≡ [] = sym is ∙ e in
    cc
no_operations ws w rest is none (g ∷ gs) e =
    let cut : nothing ≡ found g (words_of gs) = sym none ∙ ap cut_of e ∙ cut_words g (words_of gs) in
    cc

-- nor are they with the words of operations before them
pub refused_behind : {A B : Type 0} (of : A → OperationWords) (word : B → Text) (fs : List A) (all rest : List B) → map word all ≡ words_of (map of fs) ++ map word rest
    → false ≡ (length rest == 0) → cut_of (map word rest) ≡ None → (gs : List OperationWords) → map word all ≡ words_of gs → ⊥
refused_behind of word fs all [] held some none gs e = cc
refused_behind of word fs all (w ∷ rest) held some none gs e =
    let behind = words_front (map of fs) gs (map word (w ∷ rest)) (sym held ∙ e) in
    no_operations (map word (w ∷ rest)) (word w) (map word rest) refl none behind.0 behind.1

-- ---- the first fault

-- of texts that begin with it, and of two if it is the second one's
pub fault_first : (pointer : Text) (after : List Text) (e : ParseError) → IsParseErrorOf pointer e → IsFirstFault (pointer ∷ after) e
fault_first pointer after e tells = ([], pointer, after, refl, All-nil IsPointer, tells)

pub fault_second : (from pointer : Text) (e : ParseError) → IsPointer from → IsParseErrorOf pointer e → IsFirstFault (from ∷ pointer ∷ []) e
fault_second from pointer e is tells = (from ∷ [], pointer, [], refl, All-cons IsPointer from [] is (All-nil IsPointer), tells)

-- the first error of an operation is that of all, if the pointers of those before it are valid
fault_behind : (fs : List OperationWords) (f : OperationWords) (gs : List OperationWords) (e : ParseError) → All IsPointer (pointers_of fs) → IsFirstFault (operation_pointers f) e → IsFirstFault (pointers_of (fs ++ (f ∷ gs))) e
fault_behind fs f gs e done (before, pointer, after, are, all, tells) = (
  pointers_of fs ++ before,
  pointer,
  after ++ pointers_of gs,
  rw (flat_map-append operation_pointers fs (f ∷ gs)) (rw are (simp append_assoc)),
  All-append IsPointer (pointers_of fs) before done all,
  tells,
)

-- ---- operations one by one

-- the words of the operations so far, and of one more that the rest begins with
pub words_more : {A B : Type 0} (of : A → OperationWords) (word : B → Text) (fs : List A) (f : A) (all rest left : List B) → map word all ≡ words_of (map of fs) ++ map word rest
    → cut_of (map word rest) ≡ found (of f) (map word left) → map word all ≡ words_of (map of (fs ++ (f ∷ []))) ++ map word left
words_more of word fs f all rest left held cut =
    let split : words_of (map of (fs ++ (f ∷ []))) ≡ words_of (map of fs) ++ operation_words (of f) =
    ap words_of (map-append of fs (f ∷ [])) ∙ flat_map-append operation_words (map of fs) (of f ∷ []) ∙ ap (λ (l : List Text). words_of (map of fs) ++ l) (append-nil (operation_words (of f))) in
    held ∙ ap (λ (l : List Text). words_of (map of fs) ++ l) (cut_is (map word rest) (of f) (map word left) cut) ∙ sym (append_assoc (words_of (map of fs)) (operation_words (of f)) (map word left))
    ∙ sym (ap (λ (l : List Text). l ++ map word left) split)

-- the pointers of the operations so far, and of one more
pub pointers_more : {A : Type 0} (of : A → OperationWords) (fs : List A) (k : ℕ) (d : A) → k < length fs → All IsPointer (pointers_of (map of (take k fs)))
    → All IsPointer (operation_pointers (of (get_or fs k d))) → All IsPointer (pointers_of (map of (take (k + 1) fs)))
pointers_more of fs k d lt done all =
    rw (take_more fs k d lt) (rw (map-append of (take k fs) (get_or fs k d ∷ [])) (rw (flat_map-append operation_pointers (map of (take k fs)) (of (get_or fs k d) ∷ []))
    (rw append-nil (All-append IsPointer (pointers_of (map of (take k fs))) (operation_pointers (of (get_or fs k d))) done all))))

-- the first error of the operation at a position is that of all operations, if all pointers before it are valid
pub fault_at : {A : Type 0} (of : A → OperationWords) (fs : List A) (k : ℕ) (d : A) (e : ParseError) → k < length fs → All IsPointer (pointers_of (map of (take k fs)))
    → IsFirstFault (operation_pointers (of (get_or fs k d))) e → IsFirstFault (pointers_of (map of fs)) e
fault_at of fs k d e lt done first =
    let split : fs ≡ take k fs ++ (get_or fs k d ∷ drop (k + 1) fs) = sym (take-append-drop k fs) ∙ ap (λ l. take k fs ++ l) (drop_more fs k d lt) in
    let whole : map of fs ≡ map of (take k fs) ++ (of (get_or fs k d) ∷ map of (drop (k + 1) fs)) = ap (map of) split ∙ map-append of (take k fs) (get_or fs k d ∷ drop (k + 1) fs) in
    rw whole (fault_behind (map of (take k fs)) (of (get_or fs k d)) (map of (drop (k + 1) fs)) e done first)

-- a vector after a push that did not fail
pub pushed : {X : Type 0} (now old : List X) (x : X) (done : Bool) → now ≡ (if done then old ++ (x ∷ []) else old) → true ≡ done → now ≡ old ++ (x ∷ [])
pushed now old x done is so = is ∙ ap (λ (b : Bool). if b then old ++ (x ∷ []) else old) (sym so)

-- ---- operations as data

means_more : (fs : List OperationWords) (f : OperationWords) (os : List OperationData) (o : OperationData) → AreOperationsOf fs os → IsOperationOf f o → AreOperationsOf (fs ++ (f ∷ [])) (os ++ (o ∷ []))
means_more [] f [] o h m = (m, tt)
means_more [] f (p ∷ os) o h m = absurd h
means_more (g ∷ fs) f [] o h m = absurd h
means_more (g ∷ fs) f (p ∷ os) o h m = (h.0, means_more fs f os o h.1 m)

-- the meanings of the operations so far, and of one more
pub means_next : {A B : Type 0} (of : A → OperationWords) (does : B → OperationData) (fs : List A) (f : A) (os : List B) (o : B) → AreOperationsOf (map of fs) (map does os) → IsOperationOf (of f) (does o)
    → AreOperationsOf (map of (fs ++ (f ∷ []))) (map does (os ++ (o ∷ [])))
means_next of does fs f os o h m =
    let last = means_more (map of fs) (of f) (map does os) (does o) h m in
    let whole = subst (λ (l : List OperationData). AreOperationsOf (map of fs ++ (of f ∷ [])) l) (sym (map-append does os (o ∷ []))) last in
    subst (λ (l : List OperationWords). AreOperationsOf l (map does (os ++ (o ∷ [])))) (sym (map-append of fs (f ∷ []))) whole

-- the words of the operations, in three parts
split_at : {A : Type 0} (part : OperationWords → List Text) (of : A → OperationWords) (fs : List A) (f : A) (gs all : List A) → fs ++ (f ∷ gs) ≡ all
    → flat_map part (map of all) ≡ flat_map part (map of fs) ++ (part (of f) ++ flat_map part (map of gs))
split_at {A = A} part of fs f gs all are =
    ap (λ (l : List A). flat_map part (map of l)) (sym are) ∙ ap (flat_map part) (map-append of fs (f ∷ gs)) ∙ flat_map-append part (map of fs) (of f ∷ map of gs)

all_left : {X : Type 0} (P : X → Type 0) (xs ys : List X) → All P (xs ++ ys) → All P xs
all_left P xs ys h = subst (All P) (take_at xs ys (length xs) refl) (All-take P (length xs) (xs ++ ys) h)

all_right : {X : Type 0} (P : X → Type 0) (xs ys : List X) → All P (xs ++ ys) → All P ys
all_right P xs ys h = subst (All P) (drop_at xs ys (length xs) refl) (All-drop P (length xs) (xs ++ ys) h)

-- if all pointers are valid, those of one operation are
pub pointers_within : {A : Type 0} (of : A → OperationWords) (fs : List A) (f : A) (gs all : List A) → fs ++ (f ∷ gs) ≡ all → All IsPointer (pointers_of (map of all)) → All IsPointer (operation_pointers (of f))
pointers_within of fs f gs all are h =
    let split = subst (All IsPointer) (split_at operation_pointers of fs f gs all are) h in
    all_left IsPointer (operation_pointers (of f)) (pointers_of (map of gs)) (all_right IsPointer (pointers_of (map of fs)) (operation_pointers (of f) ++ pointers_of (map of gs)) split)

-- an error of one operation is one of all
pub refused_within : {A : Type 0} (of : A → OperationWords) (fs : List A) (f : A) (gs all : List A) (e : RunFault) → fs ++ (f ∷ gs) ≡ all
    → RefusesOneOf (operation_values (of f)) e ⊎ (e ≡ Memory alloc_error) → RefusesOneOf (values_of (map of all)) e ⊎ (e ≡ Memory alloc_error)
refused_within of fs f gs all e are (inl h) =
    let behind = Contains-append_right (values_of (map of fs)) (operation_values (of f) ++ values_of (map of gs)) h.0 (Contains-append_left (operation_values (of f)) (values_of (map of gs)) h.0 h.1) in
    inl (h.0, subst (λ (l : List Text). Contains l h.0) (sym (split_at operation_values of fs f gs all are)) behind, h.2, h.3)
refused_within of fs f gs all e are (inr h) = inr h
