use Rattle.std.proofs.Common.{arith, sym, subst}
use Rattle.jsonptr_comments.specs.Comments.{IsPlain}
use Rattle.jsonptr_comments.proofs.comments.without_comments.Goals as goal

pub returns-clause-borrowed : goal.returns-clause-borrowed
returns-clause-borrowed c = (
  λ b. absurd b,
  λ e.
      let plain = (c.unchanged_law.ensures c.args.text.now _ c.in_ok-new.ensures.without).0 e in
      absurd (c.plain_end-at.ensures.stops (omega arith) (subst IsPlain (sym c.as_bytes.ensures.value) plain)),
)
