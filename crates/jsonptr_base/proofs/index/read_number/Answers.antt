use Rattle.std.proofs.Common.{rules, ◌∙◌, ap, subst}
use Rattle.std.specs.Str.Parse.{IsNumeral, digits_value}
use Rattle.jsonptr_base.proofs.IndexLemmas.{reads_numeral}
use Rattle.jsonptr_base.proofs.index.read_number.Goals as goal

pub returns-in-Some : goal.returns-in-Some
returns-in-Some c =
    let same = c.as_bytes.ensures.value in
    let numeral : IsNumeral 10 c.args.s.now = subst (IsNumeral 10) same c.in-Some.ensures.0 in
    reads_numeral c.args.s.now c.requires.no_leading_zeros c.in-Some.number numeral (c.in-Some.ensures.1 ∙ ap (digits_value 10) same) (search rules)
