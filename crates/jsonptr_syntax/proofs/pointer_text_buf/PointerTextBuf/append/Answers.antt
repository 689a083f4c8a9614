use Rattle.std.proofs.Common.{◌++◌}
use Rattle.jsonptr_syntax.specs.PointerText.{tokens}
use Rattle.jsonptr_syntax.proofs.Edits.{joined_text, holds, list_is}
use Rattle.jsonptr_syntax.proofs.pointer_text_buf.PointerTextBuf.append.Goals as goal

pub invariant_of-self-2 : goal.invariant_of-self-2
invariant_of-self-2 c =
    holds _ (c.args.self.now ++ tokens c.args.other) (joined_text _ _ c.self.invariant c.self.view_is _ _ _ c.as_str.ensures.tokens c.in_ok-push_str.ensures.bytes)

pub returns-clause-joined : goal.returns-clause-joined
returns-clause-joined c =
    list_is _ (c.args.self.now ++ tokens c.args.other) (joined_text _ _ c.self.invariant c.self.view_is _ _ _ c.as_str.ensures.tokens c.in_ok-push_str.ensures.bytes)
