-- Texts that are laid out anew, and the outcomes of a pointer in a text.
use Rattle.std.proofs.Common.{◌≡◌, List, Some, None, refl, sym, ap, ◌∙◌, subst}
use Rattle.std.specs.Prelude.{◌↔◌}
use Rattle.serde_json.specs.Data.{Data}
use Rattle.serde_json.specs.Read.{read}
use Rattle.jsonptr.specs.Text.{Text}
use Rattle.jsonptr.specs.Json.{nodes, FindsValue}
use Rattle.jsonptr_tree.proofs.JsonLemmas.{FindsValue-Finds, FindsValue_one}
use Rattle.jsonptr.specs.declared.resolve.Error.{Error}
use Rattle.jsonptr.proofs.Calling.{Refuses-NamesNothing}
use Rattle.jsonptr_text_resolve.specs.Format.{IsFormatted, HasTokensOf, laid_out}
use Rattle.jsonptr_text_resolve.specs.InText.{FindsInText, RefusesInText}
use Rattle.jsonptr_text_resolve.specs.declared.format.Format.{Format}
use Rattle.jsonptr_text_resolve.proofs.FormatLemmas.{is_form}

pub one_form : (format : Format) (text new other : Text) → IsFormatted format text new → IsFormatted format text other → new ≡ other
one_form format text new other h k = h.layout ∙ sym k.layout

pub own_form : (format : Format) (text new : Text) → IsFormatted format text new → IsFormatted format new new
own_form format text new h = record {
  document = h.document;
  from = h.reads;
  same = refl;
  layout = h.layout ∙ ap (laid_out format) (sym h.same);
  reads = h.reads;
}

pub form_again : (first second : Format) (text new out : Text) → IsFormatted first text new → (IsFormatted second new out ↔ IsFormatted second text out)
form_again first second text new out h = (
  λ k. record {
    document = h.document;
    from = h.from;
    same = k.same ∙ h.same;
    layout = k.layout ∙ ap (laid_out second) h.same;
    reads = k.reads ∙ (sym k.from ∙ h.reads);
  },
  λ k. record {
    document = h.document;
    from = h.reads;
    same = k.same ∙ sym h.same;
    layout = k.layout ∙ ap (laid_out second) (sym h.same);
    reads = k.reads ∙ (sym k.from ∙ h.from);
  },
)

pub same_values : (format : Format) (text new : Text) (tokens : List Text) (v : Data) → IsFormatted format text new → (FindsInText text tokens v ↔ FindsInText new tokens v)
same_values format text new tokens v h =
    (λ x. (x.0, h.reads ∙ (sym h.from ∙ x.1), x.2), λ x. (x.0, h.from ∙ (sym h.reads ∙ x.1), x.2))

pub same_errors : (format : Format) (text new : Text) (tokens : List Text) (e : Error) → IsFormatted format text new → (RefusesInText text tokens e ↔ RefusesInText new tokens e)
same_errors format text new tokens e h =
    (λ x. (x.0, h.reads ∙ (sym h.from ∙ x.1), x.2), λ x. (x.0, h.from ∙ (sym h.reads ∙ x.1), x.2))

pub form_of_tokens : (format : Format) (text new : Text) (d : Data) → read text ≡ Some d → (HasTokensOf format text new ↔ IsFormatted format text new)
form_of_tokens format text new d is =
    (λ h. is_form format text new d is h, λ k. record { same = k.same; layout = k.layout })

-- ---- outcomes

one_document : (text : Text) (d e : Data) → read text ≡ Some d → read text ≡ Some e → d ≡ e
one_document text d e h k =
    let whole : Some d ≡ Some e = sym h ∙ k in
    let same : d ≡ e = cc in
    same

no_document : (text : Text) (d : Data) → read text ≡ Some d → read text ≡ None → ⊥
no_document text d h k =
    let whole : Some d ≡ None = sym h ∙ k in
    let wrong : ⊥ = cc in
    wrong

pub one_value : (text : Text) (tokens : List Text) (v w : Data) → FindsInText text tokens v → FindsInText text tokens w → v ≡ w
one_value text tokens v w h k =
    FindsValue_one k.0 tokens v w (subst (λ (d : Data). FindsValue d tokens v) (one_document text h.0 k.0 h.1 k.1) h.2) k.2

pub not_both : (text : Text) (tokens : List Text) (v : Data) (e : Error) → FindsInText text tokens v → RefusesInText text tokens e → ⊥
not_both text tokens v e h k =
    let found = FindsValue-Finds k.0 tokens v (subst (λ (d : Data). FindsValue d tokens v) (one_document text h.0 k.0 h.1 k.1) h.2) in
    Refuses-NamesNothing (nodes k.0) tokens e k.2 found.path found.named

pub value_in_json : (text : Text) (tokens : List Text) (v : Data) → FindsInText text tokens v → read text ≡ None → ⊥
value_in_json text tokens v h none = no_document text h.0 h.1 none

pub error_in_json : (text : Text) (tokens : List Text) (e : Error) → RefusesInText text tokens e → read text ≡ None → ⊥
error_in_json text tokens e h none = no_document text h.0 h.1 none
