use Rattle.std.proofs.Common.{subst}
use Rattle.std.specs.Prelude.{IsUtf8}
use Rattle.jsonptr_syntax.proofs.CutToken.{end_boundary, start_boundary, between_token, between_stands}
use Rattle.jsonptr_syntax.proofs.pointer_text.PointerText.token_between.Goals as goal

pub split_at-requires : goal.split_at-requires
split_at-requires c = rw c.as_str.ensures.text (end_boundary _ c.args.start c.args.end c.args.self.now.valid c.requires)

pub split_at-requires-2 : goal.split_at-requires-2
split_at-requires-2 c =
    start_boundary _ c.args.start c.args.end c.args.self.now.valid c.requires _ (rw c.as_str.ensures.text at c.split_at.ensures.front) (subst IsUtf8 c.as_str.ensures.text c.as_str.utf8)

pub from_encoded_unchecked-requires : goal.from_encoded_unchecked-requires
from_encoded_unchecked-requires c =
    between_token _ c.args.start c.args.end c.args.self.now.valid c.requires _ (rw c.as_str.ensures.text at c.split_at.ensures.front) _ c.split_at-2.ensures.back

pub returns : goal.returns
returns c =
    between_stands _ c.args.start c.args.end c.args.self.now.valid c.requires _ (rw c.as_str.ensures.text at c.split_at.ensures.front) _ c.split_at-2.ensures.back c.from_encoded_unchecked.result c.from_encoded_unchecked.ensures
