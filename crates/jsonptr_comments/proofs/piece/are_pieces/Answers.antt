use Rattle.std.proofs.Common.{drop, sym, ◌∙◌}
use Rattle.jsonptr_comments.proofs.PartLemmas.{run_more}
use Rattle.jsonptr_comments.proofs.piece.are_pieces.Goals as goal

pub loop-at-preserved : goal.loop-at-preserved
loop-at-preserved c =
    let text = c.args.text.now in
    let piece = c.in-Some.ensures.piece in
    record {
      run = run_more c.args.allowed text (drop c.loop-at.at text) (drop c.in-Some.next text) c.loop-at.invariant.run piece (sym (c.allows.ensures piece.0 piece.1 piece.2) ∙ c.if-not-allows.false);
      within = c.in-Some.ensures.within;
    }
