use Rattle.jsonptr_syntax.proofs.CutCommon.{begins_bytes, common_valid_at, common_front_at}
use Rattle.jsonptr_syntax.proofs.pointer_text.PointerText.intersection.Goals as goal

pub common_boundary-seam-requires-clause-begins : goal.common_boundary-seam-requires-clause-begins
common_boundary-seam-requires-clause-begins c = begins_bytes _ _ c.as_bytes.ensures.value c.args.self.now.valid

pub common_boundary-seam-requires-clause-other_begins : goal.common_boundary-seam-requires-clause-other_begins
common_boundary-seam-requires-clause-other_begins c = begins_bytes _ _ c.as_bytes-2.ensures.value c.args.other.valid

pub returns : goal.returns
returns c =
    common_front_at _ _ _ _ _ _ c.args.self.now.valid c.args.other.valid c.as_bytes.ensures.value c.as_bytes-2.ensures.value c.common_boundary-seam.ensures c.split_at.ensures.front

pub invariant_of-result : goal.invariant_of-result
invariant_of-result c = record { valid = common_valid_at _ _ _ _ _ _ c.args.self.now.valid c.args.other.valid c.as_bytes.ensures.value c.as_bytes-2.ensures.value c.common_boundary-seam.ensures c.split_at.ensures.front }
