-- The text of one key, by the grammar of TOML.
use Rattle.std.proofs.Common.{rules, ◌≡◌, ◌==◌, ℕ, List, [], ◌∷◌, length, true, Some, String, Global, Vec, refl, ap, ◌∙◌, arith}
use Rattle.std.specs.Vec.{vec_len}
use Rattle.std.proofs.lemmas.Bool.Decides.{nat_tests}
use Rattle.toml_parser.specs.Strings.{key}
use Rattle.toml_parser.specs.Reading.{path_view}
use Rattle.jsonptr.specs.Text.{Text}

pub no_text : (t : Text) → true ≡ (length t == 0) → t ≡ []
no_text [] h = refl
no_text (b ∷ t) h = absurd (none t b h)
  where
    none : (u : Text) (c : ℕ) → true ≡ (length (c ∷ u) == 0) → ⊥
    none u c k = grind (arith, nat_tests)

pub no_part : (v : Vec (String Global) Global) → true ≡ (vec_len v == 0) → path_view v.items ≡ []
no_part v h = at v.items (search (rules, h))
  where
    at : (parts : List (String Global)) → true ≡ (length parts == 0) → path_view parts ≡ []
    at [] k = refl
    at (part ∷ parts) k = absurd (none parts part k)
      where
        none : (ps : List (String Global)) (p : String Global) → true ≡ (length (p ∷ ps) == 0) → ⊥
        none ps p k = grind (arith, nat_tests)

pub one_key : (t rest k last : Text) (path : List Text) → key t ≡ Some ((path, last), rest) → path ≡ [] → rest ≡ [] → last ≡ k → key t ≡ Some (([], k), [])
one_key t rest k last path read none over same =
    read
    ∙ ap (λ (p : List Text). Some ((p, last), rest)) none
    ∙ ap (λ (l : Text). Some (([], l), rest)) same
    ∙ ap (λ (r : Text). Some (([], k), r)) over
