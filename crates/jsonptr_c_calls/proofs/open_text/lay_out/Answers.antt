use Rattle.std.proofs.Common.{◌++◌, List, ℕ, ap, ◌∙◌}
use Rattle.jsonptr_text_relayout.specs.Relaying.{text_of_relaid}
use Rattle.jsonptr_c_calls.proofs.OpenTextLemmas.{kept_text}
use Rattle.jsonptr_c_calls.proofs.open_text.lay_out.Goals as goal

pub returns-clause-made : goal.returns-clause-made
returns-clause-made c =
    let parts = c.parts_of-parts.result in
    let relaid = c.in-Ok.relaid in
    record {
      mark = parts.mark.now;
      old = parts.body.now;
      body = text_of_relaid relaid;
      is_mark = c.parts_of-parts.ensures.mark;
      old_parts = c.parts_of-parts.ensures.parts;
      new_parts = c.in_ok-text.ensures ∙ ap (λ (t : List ℕ). parts.mark.now ++ t) c.into_string.ensures;
      reads = c.in-Ok.ensures.reads;
      kept = λ d new old. kept_text relaid parts.body.now c.is_kept-is_in_place.result c.is_kept-is_in_place.ensures (c.in-Ok.ensures.kept d new old);
    }
