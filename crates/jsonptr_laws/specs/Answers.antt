-- When two results are the same.
use Rattle.std.specs.Prelude.{◌≡◌, Option, None, MatchOption}
use Rattle.jsonptr.specs.Pointer.{tokens}
use Rattle.jsonptr.specs.declared.pointer.Pointer.{Pointer}

-- `SamePointer r q`: both are `None`, or both are pointers with the same tokens
abbrev pub SamePointer : Option Pointer → Option Pointer → Type 0
SamePointer r q = MatchOption r (q ≡ None) (λ p. MatchOption q ⊥ (λ u. tokens p ≡ tokens u))

-- `SamePointers r q`: both are `None`, or both are pairs of pointers with the same tokens
abbrev pub SamePointers : Option (Pointer × Pointer) → Option (Pointer × Pointer) → Type 0
SamePointers r q =
    MatchOption r (q ≡ None) (λ p. MatchOption q ⊥ (λ u. (tokens p.0 ≡ tokens u.0) × (tokens p.1 ≡ tokens u.1)))
