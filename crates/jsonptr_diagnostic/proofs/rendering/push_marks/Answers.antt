use Rattle.std.proofs.Common.{true, false}
use Rattle.std.proofs.lemmas.Str.{IsUtf8-past_char}
use Rattle.jsonptr_diagnostic.specs.PrivateRendering.{is_in_part}
use Rattle.jsonptr_diagnostic.proofs.RenderingLemmas.{marks_step, marks_skip, marks_end, next_place, tested}
use Rattle.jsonptr_diagnostic.proofs.rendering.push_marks.Goals as goal

pub loop-begin-preserved-in-Continue-1 : goal.loop-begin-preserved-in-Continue-1
loop-begin-preserved-in-Continue-1 c =
    let read = c.in-Some.ensures.steps.1 in
    let place = next_place _ _ _ _ _ _ c.in-Some.ensures.steps.1 c.in-Some.ensures.steps.2 c.loop-begin.invariant.inside in
    record {
      utf8 = IsUtf8-past_char _ _ _ c.loop-begin.invariant.utf8 read;
      inside = place.1;
      left = marks_step (is_in_part c.args.part) _ _ _ _ _ _ _ _ _ c.loop-begin.invariant.utf8 read place.0 (tested (is_in_part c.args.part) c.in-Some.begin c.len_utf8.result _ _ c.in-Some.c true c.if-is_in_part.ensures c.in-Some.ensures.steps.0 c.len_utf8.ensures.value place.0) c.in_ok-push_mark.ensures c.loop-begin.invariant.left;
    }

pub loop-begin-preserved : goal.loop-begin-preserved
loop-begin-preserved c =
    let read = c.in-Some.ensures.steps.1 in
    let place = next_place _ _ _ _ _ _ c.in-Some.ensures.steps.1 c.in-Some.ensures.steps.2 c.loop-begin.invariant.inside in
    record {
      utf8 = IsUtf8-past_char _ _ _ c.loop-begin.invariant.utf8 read;
      inside = place.1;
      left = marks_skip (is_in_part c.args.part) _ _ _ _ _ _ _ _ c.loop-begin.invariant.utf8 read place.0 (tested (is_in_part c.args.part) c.in-Some.begin c.len_utf8.result _ _ c.in-Some.c false c.if-is_in_part.ensures c.in-Some.ensures.steps.0 c.len_utf8.ensures.value place.0) c.loop-begin.invariant.left;
    }

pub returns : goal.returns
returns c = marks_end (is_in_part c.args.part) _ _ _ _ _ c.in-None.ensures.steps.0 c.loop-begin.invariant.left
