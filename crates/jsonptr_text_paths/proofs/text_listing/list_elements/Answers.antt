use Rattle.std.proofs.Common.{string_bytes}
use Rattle.serde_json.specs.Data.{no_items}
use Rattle.jsonptr_text_search.specs.PrivateReading.{with_items_before}
use Rattle.jsonptr_text_paths.specs.declared.listing.Lister.{Lister}
use Rattle.jsonptr_text_paths.proofs.ElementsLemmas.{elements_listed, full_shown}
use Rattle.jsonptr_text_paths.proofs.text_listing.list_elements.Goals as goal

pub returns-clause-listed : goal.returns-clause-listed
returns-clause-listed c =
    let r = c.in_ok-len.ensures.listed in (
      with_items_before r.0 no_items,
      r.1,
      elements_listed (λ (l : Lister). l.which) (λ (l : Lister). string_bytes l.out) r.0 _ c.visit_elements.new.visitor
          (full_shown r.0 c.in_ok-len.len c.args.which _ r.2 c.if-len-eq0.false c.in_ok-root_line.ensures)
          r.3,
    )
