use Rattle.std.proofs.Common.{sym, ◌∙◌}
use Rattle.jsonptr_walk.proofs.AssignLemmas.{expands_array, expands_object}
use Rattle.jsonptr_walk.proofs.put.expand_one.Goals as goal

pub returns-then-creates_array-clause-map : goal.returns-then-creates_array-clause-map
returns-then-creates_array-clause-map g c = expands_array g.N.Document.nodes c.args.token.now (g.N.Document.nodes c.args.value) c.array_of.result (sym c.creates_array.ensures ∙ c.if-creates_array.true) c.array_of.ensures.map

pub returns-in-Ok-clause-map : goal.returns-in-Ok-clause-map
returns-in-Ok-clause-map g c = expands_object g.N.Document.nodes c.args.token.now (g.N.Document.nodes c.args.value) c.object_of.result _ (sym c.creates_array.ensures ∙ c.if-creates_array.false) c.in-Ok.ensures c.object_of.ensures.map
