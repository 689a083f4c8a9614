use Rattle.std.proofs.Common.{◌∙◌, ◌∷◌, sym, ap}
use Rattle.jsonptr_fragment.proofs.UnitLemmas.{unit_digits, byte_no_unit, byte_unit}
use Rattle.jsonptr_fragment.proofs.units.after_unit.Goals as goal

pub returns-then-byte-eq37 : goal.returns-then-byte-eq37
returns-then-byte-eq37 c =
    let rest = c.in_ok-byte.after.now in
    unit_digits c.args.bytes.now rest (c.in_ok-byte.ensures.cases.0 ∙ ap (λ n. n ∷ rest) c.if-byte-eq37.true) c.after_digits.result c.after_digits.ensures

pub returns-then-should_percent_encode : goal.returns-then-should_percent_encode
returns-then-should_percent_encode c =
    byte_no_unit c.args.bytes.now c.in_ok-byte.after.now c.in_ok-byte.field-0-0.now c.in_ok-byte.ensures.cases.0 c.if-byte-eq37.false (sym c.if-should_percent_encode.ensures)

pub returns : goal.returns
returns c = byte_unit c.args.bytes.now c.in_ok-byte.after.now c.in_ok-byte.field-0-0.now c.in_ok-byte.ensures.cases.0 (sym c.if-should_percent_encode.ensures)
