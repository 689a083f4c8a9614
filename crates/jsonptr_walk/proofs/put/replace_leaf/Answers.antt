use Rattle.std.proofs.Common.{ap, ◌∙◌}
use Rattle.jsonptr_syntax.specs.PointerText.{tokens}
use Rattle.jsonptr_walk.proofs.AssignLemmas.{expanded_around}
use Rattle.jsonptr_walk.proofs.put.replace_leaf.Goals as goal

pub returns-clause-replaced : goal.returns-clause-replaced
returns-clause-replaced g c =
    let nodes = g.N.Document.nodes in
    ap nodes c.replace.ensures.after ∙ c.in_ok-expanded.ensures.map ∙ expanded_around c.args.token.now (tokens c.args.rest) (nodes c.args.value) (nodes c.in_ok-below.below) c.in_ok-below.ensures.map
