use Rattle.jsonptr_comments.proofs.PartLemmas.{string_piece, other_piece}
use Rattle.jsonptr_comments.proofs.piece.piece_end.Goals as goal

pub returns-then-byte-eq34-clause-piece : goal.returns-then-byte-eq34-clause-piece
returns-then-byte-eq34-clause-piece c =
    string_piece c.args.text.now c.args.at c.string_end.result c.requires c.if-byte-eq34.true c.string_end.ensures.after

pub returns-else-byte-eq47-clause-piece : goal.returns-else-byte-eq47-clause-piece
returns-else-byte-eq47-clause-piece c = other_piece c.args.text.now c.args.at c.requires c.if-byte-eq34.false c.if-byte-eq47.false
