use Rattle.jsonptr_syntax.proofs.CutFirst.{begins_valid}
use Rattle.jsonptr_syntax.proofs.CutLast.{back_front, back_token, back_tokens}
use Rattle.jsonptr_syntax.proofs.pointer_text.PointerText.split_back.Goals as goal

pub split_last-requires : goal.split_last-requires
split_last-requires c = begins_valid _ c.args.self.now.valid

pub from_encoded_unchecked-token-requires : goal.from_encoded_unchecked-token-requires
from_encoded_unchecked-token-requires c = back_token _ _ _ c.args.self.now.valid c.in_ok-front.ensures

pub returns : goal.returns
returns c =
    back_tokens _ _ _ c.args.self.now.valid c.in_ok-front.ensures c.from_encoded_unchecked-token.result c.from_encoded_unchecked-token.ensures

pub invariant_of-result : goal.invariant_of-result
invariant_of-result c = record { valid = back_front _ _ _ c.args.self.now.valid c.in_ok-front.ensures }
