use Rattle.std.proofs.Common.{◌≡◌, true, Some, inr, refl, ◌∙◌, rules}
use Rattle.std.specs.Float.{float_is_finite}
use Rattle.serde_json.specs.Data.{float}
use Rattle.serde_json.specs.Read.{number_of}
use Rattle.serde_json.proofs.Numbers.{number_of-plus}
use Rattle.jsonptr_text_digits.proofs.kept.is_kept_float.Goals as goal

pub returns-clause-kept : goal.returns-clause-kept
returns-clause-kept c t is =
    let printed = c.format_finite_with_plus.result.now in
    let reads = number_of-plus 16 4 printed c.args.double c.format_finite_with_plus.ensures.layout c.format_finite_with_plus.ensures.parses (search rules) in
    (float c.args.double, is, (printed, record { form = c.format_finite_with_plus.ensures.layout; reads = reads }, c.have_same_value.ensures.short t, c.have_same_value.ensures.same t))

pub returns-clause-lost : goal.returns-clause-lost
returns-clause-lost c t is =
    let printed = c.format_finite_with_plus.result.now in
    let finite : float_is_finite c.args.double ≡ true = search rules in
    let reads = number_of-plus 16 4 printed c.args.double c.format_finite_with_plus.ensures.layout c.format_finite_with_plus.ensures.parses finite in
    let read : number_of c.args.text.now ≡ Some (float c.args.double) = is ∙ rw finite refl in
    inr (c.args.double, printed, read, record { form = c.format_finite_with_plus.ensures.layout; reads = reads }, c.have_same_value.ensures.differ t)
