-- A search for a float, step by step.
use Rattle.std.proofs.Common.{◌≡◌, ℕ, zero, suc, ◌+◌, ◌<◌, List, [], ◌∷◌, ◌++◌, length, get_or, Vec, Global, true, false, true≢false, refl, sym, ap, ◌∙◌, subst, append_assoc, arith}
use Rattle.std.specs.List.Sorted.{IsStrictlySortedBy}
use Rattle.std.specs.Map.{keys_of}
use Rattle.std.specs.String.{string_cmp}
use Rattle.serde_json.specs.declared.value.Value.{Value, Array, Object}
use Rattle.serde_json.proofs.Views.{Entry}
use Rattle.jsonptr_patch.specs.PrivateTesting.{FloatIn, FloatAmong, FloatUnder}
use Rattle.jsonptr_patch.specs.PrivateTesting as tested
use Rattle.jsonptr_patch.specs.PrivateSearching.{ElementsLeadTo, MembersLeadTo, LeadsTo, AllLeadTo, ElementsLack, MembersLack, Lacks, AllLack, left_length, stack_length}
use Rattle.jsonptr_patch.specs.declared.float_search.Left.{Left}
use Rattle.jsonptr_patch.proofs.TestingLemmas.{NoFloats, elements_float, members_float, float_under, float_under_none}

pub all_lead-push : (v : Value) (ls : List Left) (l : Left) → AllLeadTo v ls → LeadsTo v l → AllLeadTo v (ls ++ l ∷ [])
all_lead-push v [] l before last = (last, tt)
all_lead-push v (m ∷ ls) l before last = (before.0, all_lead-push v ls l before.1 last)

pub all_lead-pop : (v : Value) (ls : List Left) (l : Left) → AllLeadTo v (ls ++ l ∷ []) → AllLeadTo v ls × LeadsTo v l
all_lead-pop v [] l all = (tt, all.0)
all_lead-pop v (m ∷ ls) l all = let rest = all_lead-pop v ls l all.1 in ((all.0, rest.0), rest.1)

pub all_lack-push : (ls : List Left) (l : Left) → AllLack ls → Lacks l → AllLack (ls ++ l ∷ [])
all_lack-push [] l before last = (last, tt)
all_lack-push (m ∷ ls) l before last = (before.0, all_lack-push ls l before.1 last)

pub all_lack-pop : (ls : List Left) (l : Left) → AllLack (ls ++ l ∷ []) → AllLack ls × Lacks l
all_lack-pop [] l all = (tt, all.0)
all_lack-pop (m ∷ ls) l all = let rest = all_lack-pop ls l all.1 in ((all.0, rest.0), rest.1)

pub stack_length-push : (ls : List Left) (l : Left) → stack_length (ls ++ l ∷ []) ≡ stack_length ls + left_length l
stack_length-push [] l = omega arith
stack_length-push (m ∷ ls) l = let rest = stack_length-push ls l in omega (arith, rest)

-- a float in an element is one in the array
elements_lead_from : (v : Value) (all : List Value) (n : ℕ) (xs : List Value) → (FloatAmong all → FloatIn v) → ((i : ℕ) (d : Value) → i < length xs → get_or all (n + i) d ≡ get_or xs i d) → n + length xs ≡ length all → ElementsLeadTo v xs
elements_lead_from v all n [] to at len = tt
elements_lead_from v all n (x ∷ xs) to at len = (
  λ f. to (n, x, omega (arith, len), subst FloatIn (sym (ap (λ i. get_or all i x) (zero_more n) ∙ at 0 x (omega arith))) f),
  elements_lead_from v all (n + 1) xs to (λ i d low. ap (λ j. get_or all j d) (one_more n i) ∙ at (suc i) d (omega (arith, low))) (omega (arith, len)),
)
  where
    zero_more : (n : ℕ) → n ≡ n + 0
    zero_more n = omega arith

    one_more : (n i : ℕ) → n + 1 + i ≡ n + suc i
    one_more n i = omega arith

pub elements_lead : (v : Value) (xs : Vec Value Global) → (FloatIn (Array xs) → FloatIn v) → ElementsLeadTo v xs.items
elements_lead v xs to = elements_lead_from v xs.items 0 xs.items (λ f. to ((elements_float xs).0 f)) (λ i d low. ap (λ j. get_or xs.items j d) (none_more i)) (none_more (length xs.items))
  where
    none_more : (n : ℕ) → 0 + n ≡ n
    none_more n = omega arith

lacking : (xs : List Value) → ElementsLack xs → (i : ℕ) (x : Value) → i < length xs → FloatIn (get_or xs i x) → ⊥
lacking [] lack i x low f = omega (arith, low)
lacking (y ∷ xs) lack zero x low f = lack.0 f
lacking (y ∷ xs) lack (suc i) x low f = lacking xs lack.1 i x (omega (arith, low)) f

pub elements_lack : (xs : Vec Value Global) → ElementsLack xs.items → FloatIn (Array xs) → ⊥
elements_lack xs lack f = let h = (elements_float xs).1 f in lacking xs.items lack h.0 h.1 h.2 h.3

-- a float in a member is one in the object
members_lead_from : (v : Value) (m : tested.Object) (done es : List Entry) → (FloatUnder m → FloatIn v) → m.entries ≡ done ++ es → IsStrictlySortedBy string_cmp (keys_of m.entries) → MembersLeadTo v es
members_lead_from v m done [] to all sorted = tt
members_lead_from v m done (e ∷ es) to all sorted = (
  λ f. to ((float_under m done e es all sorted f).0 refl),
  members_lead_from v m (done ++ e ∷ []) es to (all ∙ sym (append_assoc done (e ∷ []) es)) sorted,
)

pub members_lead : (v : Value) (m : tested.Object) → IsStrictlySortedBy string_cmp (keys_of m.entries) → (FloatIn (Object m) → FloatIn v) → MembersLeadTo v m.entries
members_lead v m sorted to = members_lead_from v m [] m.entries (λ f. to ((members_float m).0 f)) refl sorted

no_floats : (es : List Entry) → MembersLack es → NoFloats es
no_floats [] lack = tt
no_floats (e ∷ es) lack = (lack.0, no_floats es lack.1)

pub members_lack : (m : tested.Object) → MembersLack m.entries → FloatIn (Object m) → ⊥
members_lack m lack f = let no : false ≡ true = (float_under_none m m.entries refl (no_floats m.entries lack)).1 ((members_float m).1 f) in absurd (true≢false (sym no))
