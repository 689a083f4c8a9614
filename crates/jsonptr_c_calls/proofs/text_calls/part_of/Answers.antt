use Rattle.std.proofs.Common.{ℕ, List, ap, ◌∙◌}
use Rattle.jsonptr_c_calls.specs.TextCalls.{part}
use Rattle.jsonptr_c_calls.proofs.OpenTextLemmas.{part_same}
use Rattle.jsonptr_c_calls.proofs.text_calls.part_of.Goals as goal

pub returns : goal.returns
returns c =
    part_same c.as_bytes-bytes.result.now c.args.start c.args.end c.min-end.result c.min.result c.min-end.ensures c.min.ensures
    ∙ ap (λ (t : List ℕ). part c.args.start c.args.end t) c.as_bytes-bytes.ensures.value
