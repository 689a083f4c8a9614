-- Values that exist, and that do not.
use Rattle.std.proofs.Common.{◌≡◌, Bool, true, false, not, is_some, [], Option, Some, None, IsTrue, ◌↔◌, refl, sym, ap, ◌∙◌, true≢false}
use Rattle.std.specs.Borrow.{Bor}
use Rattle.serde_json.specs.View.{view}
use Rattle.serde_json.specs.Data as json
use Rattle.serde_json.specs.declared.value.Value.{Value}
use Rattle.jsonptr.specs.Node.{NodeMap}
use Rattle.jsonptr.specs.Json.{nodes}
use Rattle.jsonptr_merge.specs.Values.{no_value}
use Rattle.jsonptr_merge.specs.PrivateObjects.{side_map}

pub not_nowhere : (d : json.Data) → nodes d ≡ no_value → ⊥
not_nowhere d same = true≢false (ap (λ (n : NodeMap). is_some (n [])) same)

pub one_there : (l r : Option (Bor Value)) (v : Bor Value) → l ≡ Some v → r ≡ None → IsTrue false ↔ (side_map l ≡ side_map r)
one_there l r v is other = (
  λ h. absurd (true≢false (sym h)),
  λ same. absurd (not_nowhere (view v.now) (sym (ap side_map is) ∙ same ∙ ap side_map other)),
)

pub none_there : (l r : Option (Bor Value)) (b : Bool) → l ≡ None → is_some r ≡ not b → IsTrue b ↔ (side_map l ≡ side_map r)
none_there l None true is test = (λ h. ap side_map is, λ same. refl)
none_there l None false is test = absurd (true≢false (sym test))
none_there l (Some v) true is test = absurd (true≢false test)
none_there l (Some v) false is test = (
  λ h. absurd (true≢false (sym h)),
  λ same. absurd (not_nowhere (view v.now) (sym same ∙ ap side_map is)),
)
