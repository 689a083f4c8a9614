-- The text of a child, cut around its value.
use Rattle.std.proofs.Common.{◌≡◌, ℕ, List, ◌++◌, Option, Some, None, refl, ap, ◌∙◌, append_assoc}
use Rattle.serde_json.specs.Data.{Data}
use Rattle.jsonptr_text_check.specs.Child.{IsValueText, HaveOneComma}
use Rattle.jsonptr_text_check.specs.PrivateChild.{IsNameIf, IsCutChild}

pub child_parts : (k : Option (List ℕ)) (e : Data) (t lead name value trail : List ℕ) → t ≡ lead ++ ((name ++ value) ++ trail) → HaveOneComma lead trail → IsNameIf k name → IsValueText e value → IsCutChild k e t value trail
child_parts None e t lead name value trail is beside named whole = record {
  one = record { lead = lead; child = value; trail = trail; is = is ∙ ap (λ (n : List ℕ). lead ++ ((n ++ value) ++ trail)) named; whole = whole; beside = beside };
  value_is = refl;
  trail_is = refl;
}
child_parts (Some k) e t lead name value trail is beside named whole = record {
  one = record {
    lead = lead;
    child = name ++ value;
    trail = trail;
    is = is;
    whole = record { name = named.0; colon = named.1; value = value; is = ap (λ (n : List ℕ). n ++ value) named.2 ∙ append_assoc named.0 named.1 value; named = named.3; spaced = named.4; whole = whole };
    beside = beside;
  };
  value_is = refl;
  trail_is = refl;
}
