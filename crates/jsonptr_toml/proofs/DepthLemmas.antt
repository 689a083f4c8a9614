-- How deep the elements and members of a value nest.
use Rattle.std.proofs.Common.{◌≡◌, ℕ, zero, suc, ◌<◌, ◌≤◌, max, List, [], ◌∷◌, ◌++◌, length, get_or, sym, arith, String}
use Rattle.std.specs.declared.alloc.Global.{Global}
use Rattle.toml.specs.Data.{depth, items_depth, members_depth}
use Rattle.toml.specs.View.{view, items_view, members_view}
use Rattle.toml.specs.declared.value.Value.{Value}

abbrev pub Entry : Type 0
Entry = String Global × Value

pub all_within : (vs : List Value) (n : ℕ) → ((i : ℕ) (x : Value) → i < length vs → depth (view (get_or vs i x)) ≤ n) → items_depth (items_view vs) ≤ n
all_within [] n h = omega arith
all_within (v ∷ vs) n h =
    let first = h 0 v (omega arith) in
    let rest = all_within vs n (λ i x low. h (suc i) x (omega (arith, low))) in
    omega (arith, first, rest)

pub one_deeper : (vs : List Value) (n i : ℕ) (x : Value) → i < length vs → n < depth (view (get_or vs i x)) → n < items_depth (items_view vs)
one_deeper [] n i x low h = absurd (omega (arith, low))
one_deeper (v ∷ vs) n zero x low h = omega (arith, h)
one_deeper (v ∷ vs) n (suc i) x low h = let later = one_deeper vs n i x (omega (arith, low)) h in omega (arith, later)

zero_max : (n : ℕ) → max 0 n ≡ n
zero_max n = omega arith

member_depth : (done : List Entry) (e : Entry) (rest : List Entry) → members_depth (members_view (done ++ e ∷ rest)) ≡ max (members_depth (members_view done)) (max (depth (view e.1)) (members_depth (members_view rest)))
member_depth [] e rest = sym (zero_max (max (depth (view e.1)) (members_depth (members_view rest))))
member_depth (d ∷ done) e rest = let below = member_depth done e rest in omega (arith, below)

-- the entries are those before, and the next one is within the levels
pub member_within : (done : List Entry) (e : Entry) (n : ℕ) → members_depth (members_view done) ≤ n → depth (view e.1) ≤ n → members_depth (members_view (done ++ e ∷ [])) ≤ n
member_within done e n h k = let all = member_depth done e [] in omega (arith, all, h, k)

pub member_deeper : (done : List Entry) (e : Entry) (rest : List Entry) (n : ℕ) → n < depth (view e.1) → n < members_depth (members_view (done ++ e ∷ rest))
member_deeper done e rest n h = let all = member_depth done e rest in omega (arith, all, h)

pub below_or_above : (n m : ℕ) → (m ≤ n → ⊥) → n < m
below_or_above n m h = omega (arith, h)
