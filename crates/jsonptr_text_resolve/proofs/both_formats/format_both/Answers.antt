use Rattle.std.proofs.Common.{subst}
use Rattle.jsonptr_text_resolve.specs.PrivateFormat.{HasBad}
use Rattle.jsonptr_text_resolve.proofs.FormatLemmas.{not_read}
use Rattle.jsonptr_text_resolve.proofs.both_formats.format_both.Goals as goal

pub returns-then-not-whole-clause-refused : goal.returns-then-not-whole-clause-refused
returns-then-not-whole-clause-refused c = λ none.
    not_read c.args.text.now (subst HasBad c.in_ok-reader.ensures.ok (c.in_ok-whole.ensures.bad c.if-not-whole.true))
