use Rattle.std.proofs.Common.{rules, sym, subst}
use Rattle.std.proofs.lemmas.List.{take_all}
use Rattle.std.proofs.lemmas.List.Elements.{All-more, All-same}
use Rattle.jsonptr.specs.Pointer.{tokens}
use Rattle.jsonptr_uses.proofs.SettingsLemmas.{highest_here}
use Rattle.jsonptr_uses.proofs.settings.get.Goals as goal

pub returns-in-Ok-clause-answer : goal.returns-in-Ok-clause-answer
returns-in-Ok-clause-answer g c = highest_here _ _ c.args.layers.now c.loop-layer.layer-index c.layer-item.result c.in-Ok.value.now c.loop-layer-test.true c.layer-item.is c.loop-layer.invariant c.in-Ok.ensures.found

pub loop-layer-preserved : goal.loop-layer-preserved
loop-layer-preserved g c =
    let refused : g.D.Resolve.refuses c.layer-item.result (tokens c.args.pointer) c.in_ok-refused-in-Err.field-0 = search rules in
    let lacks : g.row.D.Denot → Type 0 = λ layer. (e : g.row.D-Error.Denot) × g.D.Resolve.refuses layer (tokens c.args.pointer) e in
    All-more lacks c.args.layers.now c.loop-layer.layer-index c.layer-item.result c.loop-layer-test.true c.loop-layer.invariant
    (subst lacks c.layer-item.is (c.in_ok-refused-in-Err.field-0, refused))

pub returns-clause-answer : goal.returns-clause-answer
returns-clause-answer g c =
    let lacks : g.row.D.Denot → Type 0 = λ layer. (e : g.row.D-Error.Denot) × g.D.Resolve.refuses layer (tokens c.args.pointer) e in
    All-same lacks c.args.layers.now _ (sym (take_all c.loop-layer.layer-index c.args.layers.now c.loop-layer-test.false)) c.loop-layer.invariant
