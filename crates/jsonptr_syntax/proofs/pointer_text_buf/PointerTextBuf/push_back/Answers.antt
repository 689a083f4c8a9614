use Rattle.std.proofs.Common.{[], ◌∷◌, ◌++◌}
use Rattle.jsonptr_syntax.proofs.Edits.{back_text, holds, list_is}
use Rattle.jsonptr_syntax.proofs.pointer_text_buf.PointerTextBuf.push_back.Goals as goal

pub invariant_of-self-2 : goal.invariant_of-self-2
invariant_of-self-2 c =
    holds _ (c.args.self.now ++ c.args.token.now ∷ []) (back_text _ _ c.self.invariant c.self.view_is c.args.token.now _ _ c.encoded.ensures c.in_ok-push_segment.ensures.pushed)

pub returns-clause-pushed : goal.returns-clause-pushed
returns-clause-pushed c =
    list_is _ (c.args.self.now ++ c.args.token.now ∷ []) (back_text _ _ c.self.invariant c.self.view_is c.args.token.now _ _ c.encoded.ensures c.in_ok-push_segment.ensures.pushed)
