use Rattle.std.proofs.Common.{◌≡◌, Some, sym, ◌∙◌, subst}
use Rattle.serde_json.specs.Data.{Data}
use Rattle.jsonptr.specs.Json.{nodes, FindsValue}
use Rattle.jsonptr.specs.Resolve.{Refuses}
use Rattle.jsonptr_text_resolve.proofs.laws.in_text_law.Goals as goal

one_document : (d e : Data) → Some d ≡ Some e → d ≡ e
one_document d e h = cc

pub returns-clause-value : goal.returns-clause-value
returns-clause-value c = λ text tokens d v h.
    (λ f. subst (λ (x : Data). FindsValue x tokens v) (one_document f.0 d (sym f.1 ∙ h)) f.2, λ f. (d, h, f))

pub returns-clause-error : goal.returns-clause-error
returns-clause-error c = λ text tokens d e h.
    (λ f. subst (λ (x : Data). Refuses (nodes x) tokens e) (one_document f.0 d (sym f.1 ∙ h)) f.2, λ f. (d, h, f))
