use Rattle.std.proofs.lemmas.Str.{IsUtf8-past_char}
use Rattle.jsonptr_diagnostic.proofs.RenderingLemmas.{text_step, text_end}
use Rattle.jsonptr_diagnostic.proofs.rendering.push_text.Goals as goal

pub loop-c-preserved : goal.loop-c-preserved
loop-c-preserved c = record {
  utf8 = IsUtf8-past_char _ _ _ c.loop-c.invariant.utf8 c.in-Some.ensures.steps.0;
  left = text_step _ _ _ _ _ _ c.loop-c.invariant.utf8 c.in-Some.ensures.steps.0 c.in_ok-push_shown.ensures c.loop-c.invariant.left;
}

pub returns : goal.returns
returns c = text_end _ _ _ c.in-None.ensures.steps.0.0 c.loop-c.invariant.left
