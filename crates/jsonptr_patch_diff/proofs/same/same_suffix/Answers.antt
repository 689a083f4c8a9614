use Rattle.std.proofs.Common.{◌≤◌, ◌-◌, length, arith}
use Rattle.jsonptr_patch_diff.proofs.ElementLemmas.{suffix_more}
use Rattle.jsonptr_patch_diff.proofs.same.same_suffix.Goals as goal
use Rattle.jsonptr_patch_diff.proofs.same.same_suffix.Goals.{then-count-other, else-count-other}

pub returns-then-not-is_small_same : goal.returns-then-not-is_small_same
returns-then-not-is_small_same c =
    let bound : (c.if-count-other.both ≤ length c.args.left.now.items) × (c.if-count-other.both ≤ length c.args.right.now.items) = elim c.if-count-other.branch [
      | then-count-other w ↦ (omega (arith, w.both-is, w.if-count-other.true, c.len-count.ensures, c.len-other.ensures), omega (arith, w.both-is, w.if-count-other.true, c.len-count.ensures, c.len-other.ensures))
      | else-count-other w ↦ (omega (arith, w.both-is, w.if-count-other.false, c.len-count.ensures, c.len-other.ensures), omega (arith, w.both-is, w.if-count-other.false, c.len-count.ensures, c.len-other.ensures))
    ] in
    record {
      within_first = omega (arith, c.loop-done-test.true, bound.0);
      within_second = omega (arith, c.loop-done-test.true, bound.1);
      same = c.loop-done.invariant;
    }

pub loop-done-preserved : goal.loop-done-preserved
loop-done-preserved c =
    let bound : (c.if-count-other.both ≤ length c.args.left.now.items) × (c.if-count-other.both ≤ length c.args.right.now.items) = elim c.if-count-other.branch [
      | then-count-other w ↦ (omega (arith, w.both-is, w.if-count-other.true, c.len-count.ensures, c.len-other.ensures), omega (arith, w.both-is, w.if-count-other.true, c.len-count.ensures, c.len-other.ensures))
      | else-count-other w ↦ (omega (arith, w.both-is, w.if-count-other.false, c.len-count.ensures, c.len-other.ensures), omega (arith, w.both-is, w.if-count-other.false, c.len-count.ensures, c.len-other.ensures))
    ] in
    suffix_more c.args.left.now.items c.args.right.now.items c.loop-done.done ((c.len-count.result - c.loop-done.done) - 1) ((c.len-other.result - c.loop-done.done) - 1) c.index.result.now c.index-in-loop-done.result.now c.index.ensures c.index-in-loop-done.ensures
    (omega (arith, c.loop-done-test.true, bound.0, c.len-count.ensures)) (omega (arith, c.loop-done-test.true, bound.1, c.len-other.ensures)) (c.is_small_same.ensures c.if-not-is_small_same.false) c.loop-done.invariant

pub returns : goal.returns
returns c =
    let bound : (c.if-count-other.both ≤ length c.args.left.now.items) × (c.if-count-other.both ≤ length c.args.right.now.items) = elim c.if-count-other.branch [
      | then-count-other w ↦ (omega (arith, w.both-is, w.if-count-other.true, c.len-count.ensures, c.len-other.ensures), omega (arith, w.both-is, w.if-count-other.true, c.len-count.ensures, c.len-other.ensures))
      | else-count-other w ↦ (omega (arith, w.both-is, w.if-count-other.false, c.len-count.ensures, c.len-other.ensures), omega (arith, w.both-is, w.if-count-other.false, c.len-count.ensures, c.len-other.ensures))
    ] in
    record {
      within_first = bound.0;
      within_second = bound.1;
      same = λ j a b x h e f. c.loop-done.invariant j a b x (omega (arith, h, c.loop-done-test.false)) e f;
    }
