use Rattle.jsonptr_syntax.proofs.CutFirst.{cut_token, cut_rest, cut_tokens, begins_valid}
use Rattle.jsonptr_syntax.proofs.pointer_text.PointerText.split_front.Goals as goal

pub split_first-requires : goal.split_first-requires
split_first-requires c = begins_valid _ c.args.self.now.valid

pub from_encoded_unchecked-token-requires : goal.from_encoded_unchecked-token-requires
from_encoded_unchecked-token-requires c = cut_token _ _ _ c.args.self.now.valid c.in_ok-first.ensures

pub returns : goal.returns
returns c =
    cut_tokens _ _ _ c.args.self.now.valid c.in_ok-first.ensures c.from_encoded_unchecked-token.result c.from_encoded_unchecked-token.ensures

pub invariant_of-result : goal.invariant_of-result
invariant_of-result c = record { valid = cut_rest _ _ _ c.args.self.now.valid c.in_ok-first.ensures }
