use Rattle.std.proofs.Common.{◌∷◌}
use Rattle.jsonptr_syntax.proofs.Edits.{front_text, holds, list_is}
use Rattle.jsonptr_syntax.proofs.pointer_text_buf.PointerTextBuf.push_front.Goals as goal

pub invariant_of-self-2 : goal.invariant_of-self-2
invariant_of-self-2 c =
    holds _ (c.args.token.now ∷ c.args.self.now) (front_text _ _ c.self.invariant c.self.view_is c.args.token.now _ _ c.encoded.ensures c.in_ok-insert_segment.ensures.inserted)

pub returns-clause-pushed : goal.returns-clause-pushed
returns-clause-pushed c =
    list_is _ (c.args.token.now ∷ c.args.self.now) (front_text _ _ c.self.invariant c.self.view_is c.args.token.now _ _ c.encoded.ensures c.in_ok-insert_segment.ensures.inserted)
