-- One more requirement, and when none fails.
use Rattle.std.proofs.Common.{◌≡◌, inl, inr, ℕ, ◌+◌, ◌<◌, List, [], ◌∷◌, ◌++◌, length, get_or, take, refl, sym, ap, subst, ◌∙◌}
use Rattle.std.specs.List.{All}
use Rattle.std.proofs.lemmas.List.{take_more}
use Rattle.std.proofs.lemmas.List.Elements.{All-nil, All-cons, All-head, All-tail}
use Rattle.jsonptr_uses.specs.Checking.{AreFailing}

-- one more, for which P holds
pub failing_more_met : {X : Type 0} (P : X → Type 0) (xs ys : List X) (x : X) → AreFailing P xs ys → P x → AreFailing P (xs ++ x ∷ []) ys
failing_more_met P [] ys x none met = inl (met, none)
failing_more_met P (z ∷ xs) ys x failing met = elim failing [
  | inl h ↦ inl (h.0, failing_more_met P xs ys x h.1 met)
  | inr h ↦ inr (h.0, (h.1.0, h.1.1, failing_more_met P xs h.1.0 x h.1.2 met))
]

-- one more, for which it does not hold
pub failing_more : {X : Type 0} (P : X → Type 0) (xs ys : List X) (x : X) → AreFailing P xs ys → (P x → ⊥) → AreFailing P (xs ++ x ∷ []) (ys ++ x ∷ [])
failing_more P [] ys x none fails = inr (fails, ([], ap (λ l. l ++ x ∷ []) none, refl))
failing_more P (z ∷ xs) ys x failing fails = elim failing [
  | inl h ↦ inl (h.0, failing_more P xs ys x h.1 fails)
  | inr h ↦ inr (h.0, (h.1.0 ++ x ∷ [], ap (λ l. l ++ x ∷ []) h.1.1, failing_more P xs h.1.0 x h.1.2 fails))
]

-- the next of a list
pub next : {X : Type 0} (xs : List X) (i : ℕ) (x : X) → i < length xs → x ≡ get_or xs i x → take i xs ++ x ∷ [] ≡ take (i + 1) xs
next xs i x inside read = ap (λ y. take i xs ++ y ∷ []) read ∙ sym (take_more xs i x inside)

-- P holds for the next of a list, so no more fail
pub failing_met_at : {X : Type 0} (P : X → Type 0) (xs : List X) (i : ℕ) (x : X) (ys zs : List X) → i < length xs → x ≡ get_or xs i x → AreFailing P (take i xs) ys → P x → zs ≡ ys → AreFailing P (take (i + 1) xs) zs
failing_met_at P xs i x ys zs inside read failing met same =
    subst (λ l. AreFailing P l zs) (next xs i x inside read) (failing_more_met P (take i xs) zs x (subst (λ l. AreFailing P (take i xs) l) (sym same) failing) met)

-- it does not, so one more fails
pub failing_at : {X : Type 0} (P : X → Type 0) (xs : List X) (i : ℕ) (x : X) (ys zs : List X) → i < length xs → x ≡ get_or xs i x → AreFailing P (take i xs) ys → (P x → ⊥) → zs ≡ ys ++ x ∷ [] → AreFailing P (take (i + 1) xs) zs
failing_at P xs i x ys zs inside read failing fails same =
    subst (λ l. AreFailing P l zs) (next xs i x inside read) (subst (λ l. AreFailing P (take i xs ++ x ∷ []) l) (sym same) (failing_more P (take i xs) ys x failing fails))

-- none fails exactly if it holds for all
pub none_failing : {X : Type 0} (P : X → Type 0) (xs ys : List X) → AreFailing P xs ys → (ys ≡ [] → All P xs) × (All P xs → ys ≡ [])
none_failing P [] ys none = (λ _. All-nil P, λ _. none)
none_failing P (x ∷ xs) ys failing = elim failing [
  | inl h ↦
      let rest = none_failing P xs ys h.1 in
      (λ e. All-cons P x xs h.0 (rest.0 e), λ all. rest.1 (All-tail P x xs all))
  | inr h ↦ (λ e. absurd (apart e h.1.1), λ all. absurd (h.0 (All-head P x xs all)))
]
  where
    apart : {zs : List _} → ys ≡ [] → ys ≡ x ∷ zs → ⊥
    apart e f = cc
