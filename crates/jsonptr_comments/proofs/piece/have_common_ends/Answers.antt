use Rattle.std.proofs.Common.{ℕ, drop, sym, subst}
use Rattle.jsonptr_comments.specs.Parts.{BeginsWithPiece}
use Rattle.jsonptr_comments.proofs.PartLemmas.{same_more}
use Rattle.jsonptr_comments.proofs.piece.have_common_ends.Goals as goal

pub loop-at-preserved : goal.loop-at-preserved
loop-at-preserved c =
    let text = c.args.text.now in
    let other = c.args.other.now in
    let at = c.loop-at.at in
    let twin = subst (λ (k : ℕ). BeginsWithPiece (drop at other) (drop k other)) (sym c.if-next-twin.false) c.in-Some-piece_end.ensures.piece in
    record {
      run = same_more text other at c.in-Some.next c.args.end c.in-Some.ensures.forward c.if-next-end.false c.requires.within c.requires.within_other c.requires.same c.loop-at.invariant.run c.in-Some.ensures.piece twin;
      within = c.if-next-end.false;
    }
