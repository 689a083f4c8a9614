use Rattle.std.proofs.Common.{◌∙◌}
use Rattle.jsonptr_base.proofs.IndexLemmas.{first_nondigit-bytes}
use Rattle.jsonptr_base.proofs.index.first_nondigit.Goals as goal

pub returns : goal.returns
returns c = c.first_nondigit_byte.ensures ∙ first_nondigit-bytes _ c.utf8.s
