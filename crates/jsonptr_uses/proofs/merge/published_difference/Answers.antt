use Rattle.std.proofs.Common.{string_bytes, subst}
use Rattle.serde_json.specs.Data.{Data}
use Rattle.jsonptr_value.specs.JsonText.{IsCompact}
use Rattle.jsonptr_uses.proofs.merge.published_difference.Goals as goal

pub returns : goal.returns
returns c =
    let text = string_bytes c.in_ok-text.text in
    let printed : IsCompact _ text = record {
      exact = c.in_ok-text.ensures.text;
      compact = c.in_ok-text.ensures.compact;
      order = c.in_ok-text.ensures.order;
      reads_back = c.in_ok-text.ensures.reads_back;
    } in
    (c.in_ok-patch.patch.items, c.in_ok-patch.ensures.applied, subst (λ (d : Data). IsCompact d text) c.in_ok-document.ensures.document printed)
