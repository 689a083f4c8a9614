use Rattle.std.proofs.Common.{refl}
use Rattle.jsonptr_fragment.proofs.UnitLemmas.{left_all, left_more, fault_is}
use Rattle.jsonptr_fragment.proofs.units.first_fault.Goals as goal

pub loop-byte-init : goal.loop-byte-init
loop-byte-init c = left_all c.args.fragment.now

pub returns-in_default-after_unit : goal.returns-in_default-after_unit
returns-in_default-after_unit c =
    fault_is c.args.fragment.now c.loop-byte.left.now c.in-Some.field-0-1.now c.in-Some.field-0-0.now _ c.fault_of.result c.loop-byte.invariant c.in-Some.ensures.cases.0 c.in_default-after_unit.ensures refl c.fault_of.ensures.escape c.fault_of.ensures.other

pub loop-byte-preserved : goal.loop-byte-preserved
loop-byte-preserved c = left_more c.args.fragment.now c.loop-byte.left.now c.in-Some-after_unit.after.now c.loop-byte.invariant c.in-Some-after_unit.ensures
