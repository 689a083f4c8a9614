use Rattle.std.proofs.Common.{sym, ◌∙◌, arith}
use Rattle.jsonptr_comments.proofs.PartLemmas.{line_piece, block_found, block_open, slash_piece}
use Rattle.jsonptr_comments.proofs.piece.slash_end.Goals as goal

pub returns-then-next-eq47-clause-piece : goal.returns-then-next-eq47-clause-piece
returns-then-next-eq47-clause-piece c =
    line_piece c.args.text.now c.args.at c.line_end.result (omega arith) c.requires.byte (sym c.byte_at-next.ensures.byte ∙ c.if-next-eq47.true) c.line_end.ensures.after

pub returns-then-next-eq42-clause-piece : goal.returns-then-next-eq42-clause-piece
returns-then-next-eq42-clause-piece c =
    block_found c.args.text.now c.args.at c.block_end.result (omega arith) c.requires.byte (sym c.byte_at-next.ensures.byte ∙ c.if-next-eq42.true) c.block_end.ensures

pub returns-then-next-eq42-clause-open : goal.returns-then-next-eq42-clause-open
returns-then-next-eq42-clause-open c =
    block_open c.args.text.now c.args.at c.block_end.result (omega arith) c.requires.byte (sym c.byte_at-next.ensures.byte ∙ c.if-next-eq42.true) c.block_end.ensures

pub returns-else-next-eq42-clause-piece : goal.returns-else-next-eq42-clause-piece
returns-else-next-eq42-clause-piece c =
    slash_piece c.args.text.now c.args.at c.requires.within c.requires.byte (λ e. c.if-next-eq47.false (c.byte_at-next.ensures.byte ∙ e)) (λ e. c.if-next-eq42.false (c.byte_at-next.ensures.byte ∙ e))
