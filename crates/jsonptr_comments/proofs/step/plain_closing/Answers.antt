use Rattle.std.proofs.Common.{None}
use Rattle.jsonptr_comments.proofs.ReadLemmas.{read_bracket, bracket_stops}
use Rattle.jsonptr_comments.proofs.step.plain_closing.Goals as goal

pub returns-in-None-clause-goes : goal.returns-in-None-clause-goes
returns-in-None-clause-goes c = λ all r.
    read_bracket all c.args.text.now c.args.at None c.requires.within c.requires.byte c.in-None.ensures r

pub returns-in-Some-clause-stops : goal.returns-in-Some-clause-stops
returns-in-Some-clause-stops c = λ r p.
    bracket_stops c.args.text.now c.args.at c.in-Some.field-0 c.requires.within c.requires.byte c.in-Some.ensures r p
