use Rattle.std.proofs.Common.{refl, arith}
use Rattle.percent_encoding.specs.Percent.{percent_decode}
use Rattle.jsonptr_fragment.proofs.UnitLemmas.{at_start, at_byte, at_next, at_offset, at_within}
use Rattle.jsonptr_fragment.proofs.units.offset_of.Goals as goal

pub loop-turn-init : goal.loop-turn-init
loop-turn-init c = at_start c.args.fragment.now (percent_decode c.args.fragment.now) c.requires.encodes

pub skip_unit-left-requires : goal.skip_unit-left-requires
skip_unit-left-requires c =
    at_byte c.args.fragment.now (percent_decode c.args.fragment.now) c.loop-turn.left.now c.loop-turn._turn c.loop-turn.invariant (omega (arith, c.loop-turn-test.true, c.requires.within))

pub loop-turn-preserved : goal.loop-turn-preserved
loop-turn-preserved c = at_next c.args.fragment.now (percent_decode c.args.fragment.now) c.loop-turn.left.now c.skip_unit-left.result.now c.loop-turn._turn c.loop-turn.invariant c.skip_unit-left.ensures

pub overflow_sub-result : goal.overflow_sub-result
overflow_sub-result c = at_within c.args.fragment.now (percent_decode c.args.fragment.now) c.loop-turn.left.now c.loop-turn._turn c.loop-turn.invariant

pub returns : goal.returns
returns c =
    at_offset c.args.fragment.now (percent_decode c.args.fragment.now) c.loop-turn.left.now c.loop-turn._turn c.args.count _ c.loop-turn.invariant (omega (arith, c.loop-turn-test.false, c.loop-turn.auto._turn-end)) refl
