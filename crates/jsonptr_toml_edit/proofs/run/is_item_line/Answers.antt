use Rattle.std.proofs.Common.{◌≡◌, ◌==◌, ℕ, List, [], ◌∷◌, length, true, inr, sym, ◌∙◌, arith}
use Rattle.std.proofs.lemmas.Bool.Decides.{nat_tests}
use Rattle.toml_parser.specs.Lexical.{skip_ws}
use Rattle.jsonptr_toml_edit.proofs.run.is_item_line.Goals as goal

empty_is : (xs ys : List ℕ) → xs ≡ ys → true ≡ (length xs == 0) → ys ≡ []
empty_is [] ys same h = sym same
empty_is (x ∷ xs) ys same h = absurd (none xs h)
  where
    none : (zs : List ℕ) → true ≡ (length (x ∷ zs) == 0) → ⊥
    none zs k = grind (arith, nat_tests)

pub returns-in_ok-is_rest_of_line : goal.returns-in_ok-is_rest_of_line
returns-in_ok-is_rest_of_line c =
    let cut = c.in-Some.cut in
    let blank : skip_ws cut.before.now ≡ [] = empty_is c.skip_ws-2.result.now (skip_ws cut.before.now) c.skip_ws-2.ensures.rest c.if-not-is_empty.ensures in
    λ holds. inr (cut.before.now, cut.middle.now, cut.after.now, sym c.in-Some.ensures ∙ cut.whole, blank, c.in_ok-is_some_pair.ensures c.if-branch.true, c.in_ok-is_rest_of_line.ensures holds)
