use Rattle.std.proofs.Common.{◌≡◌, true, false, List, [], ◌∷◌, ◌++◌, ℕ, refl, ap, ◌∙◌, length, arith}
use Rattle.jptr_tasks.proofs.laws.replacement_law.Goals as goal

pub returns-clause-twice : goal.returns-clause-twice
returns-clause-twice c h =
    let reads = (h [] (0 ∷ []) (0 ∷ [])).1 refl in
    let long : 1 ≡ 2 = ap length (reads.2 ∙ ap (λ (s : List ℕ). s ++ 0 ∷ []) (reads.1.2 ∙ ap (λ (s : List ℕ). s ++ 0 ∷ []) reads.1.1)) in
    omega (arith, long)

pub returns-clause-not_at_all : goal.returns-clause-not_at_all
returns-clause-not_at_all c h =
    let empty : 1 ≡ 0 = ap length ((h [] (0 ∷ []) (0 ∷ [])).1 refl) in
    omega (arith, empty)

pub returns-clause-in_part : goal.returns-clause-in_part
returns-clause-in_part c h =
    let more : 0 ≡ 1 = ap length ((h [] (0 ∷ []) []).0 ([], [], refl, refl)) in
    omega (arith, more)

pub returns-clause-late : goal.returns-clause-late
returns-clause-late c true h =
    let more : 2 ≡ 1 = ap length ((h [] (0 ∷ []) (0 ∷ 0 ∷ [])).0 (0 ∷ [], ([], refl, refl), refl)) in
    omega (arith, more)
returns-clause-late c false h =
    let more : 2 ≡ 1 = ap length ((h [] (0 ∷ []) (0 ∷ 0 ∷ [])).0 (0 ∷ [], 0 ∷ [], ([], refl, refl), refl)) in
    omega (arith, more)

pub returns-clause-removed : goal.returns-clause-removed
returns-clause-removed c h = (h.0 [] []).0.1

pub returns-clause-not_synced : goal.returns-clause-not_synced
returns-clause-not_synced c h =
    let any : 1 ≡ 0 = ap length ((h [] [] (0 ∷ [])).0 tt) in
    omega (arith, any)

pub returns-clause-open_to_all : goal.returns-clause-open_to_all
returns-clause-open_to_all c h = h.0
