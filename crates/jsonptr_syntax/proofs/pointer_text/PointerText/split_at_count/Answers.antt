use Rattle.jsonptr_syntax.proofs.CutCount.{count_front, count_rest, count_tokens}
use Rattle.jsonptr_syntax.proofs.pointer_text.PointerText.split_at_count.Goals as goal

pub returns : goal.returns
returns c = count_tokens _ _ _ _ _ c.args.self.now.valid c.in_ok-at.ensures c.split_at.ensures.front c.split_at.ensures.back

pub invariant_of-result : goal.invariant_of-result
invariant_of-result c = record { valid = count_front _ _ _ _ _ c.args.self.now.valid c.in_ok-at.ensures c.split_at.ensures.front c.split_at.ensures.back }

pub invariant_of-result-2 : goal.invariant_of-result-2
invariant_of-result-2 c = record { valid = count_rest _ _ _ _ _ c.args.self.now.valid c.in_ok-at.ensures c.split_at.ensures.front c.split_at.ensures.back }
