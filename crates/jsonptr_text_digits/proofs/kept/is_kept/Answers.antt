use Rattle.std.proofs.Common.{◌≡◌, true, false, Some, sym, ◌∙◌, true≢false}
use Rattle.fast_float.specs.Text.{digits_of, with_sign, IsInteger}
use Rattle.serde_json.specs.Data.{unsigned, negative}
use Rattle.serde_json.specs.Read.{number_from, float_of}
use Rattle.jsonptr_text_digits.specs.Decimal.{is_negative}
use Rattle.jsonptr_text_digits.proofs.KeptLemmas.{kept_unsigned, kept_negative, read_float, read_maybe}
use Rattle.jsonptr_text_digits.proofs.kept.is_kept.Goals as goal

pub returns-then-is_negative : goal.returns-then-is_negative
returns-then-is_negative c =
    let p = c.numeral_of-numeral.result in
    let h : IsInteger p × (number_from true p ≡ Some (negative (with_sign true (digits_of p)))) = c.if-is_negative.ensures {u = tt} in
    record {
      kept = λ t. kept_negative c.args.text.now p (sym (c.if-has_minus.ensures {u = tt})) c.numeral_of-numeral.ensures h.0 h.1;
      lost = λ t. absurd (true≢false (sym c.if-is_negative.true ∙ t));
    }

pub returns-else-is_negative : goal.returns-else-is_negative
returns-else-is_negative c =
    let p = c.numeral_of-numeral.result in
    let h : number_from true p ≡ float_of true p = c.if-is_negative.ensures {u = tt} in
    let sign : is_negative c.args.text.now ≡ true = sym (c.if-has_minus.ensures {u = tt}) in
    record {
      kept = λ t. c.is_kept_float.ensures.kept t (read_float c.args.text.now p true c.to_float.result sign c.numeral_of-numeral.ensures h c.to_float.ensures (c.is_kept_float.ensures.finite t));
      lost = λ t. c.is_kept_float.ensures.lost t (read_maybe c.args.text.now p true c.to_float.result sign c.numeral_of-numeral.ensures h c.to_float.ensures);
    }

pub returns-then-is_unsigned : goal.returns-then-is_unsigned
returns-then-is_unsigned c =
    let p = c.numeral_of-numeral.result in
    let h : IsInteger p × (number_from false p ≡ Some (unsigned (digits_of p))) = c.if-is_unsigned.ensures {u = tt} in
    record {
      kept = λ t. kept_unsigned c.args.text.now p (sym (c.if-has_minus.ensures {u = tt})) c.numeral_of-numeral.ensures h.0 h.1;
      lost = λ t. absurd (true≢false (sym c.if-is_unsigned.true ∙ t));
    }

pub returns-else-is_unsigned : goal.returns-else-is_unsigned
returns-else-is_unsigned c =
    let p = c.numeral_of-numeral.result in
    let h : number_from false p ≡ float_of false p = c.if-is_unsigned.ensures {u = tt} in
    let sign : is_negative c.args.text.now ≡ false = sym (c.if-has_minus.ensures {u = tt}) in
    record {
      kept = λ t. c.is_kept_float-else-is_unsigned.ensures.kept t (read_float c.args.text.now p false c.to_float-else-is_unsigned.result sign c.numeral_of-numeral.ensures h c.to_float-else-is_unsigned.ensures (c.is_kept_float-else-is_unsigned.ensures.finite t));
      lost = λ t. c.is_kept_float-else-is_unsigned.ensures.lost t (read_maybe c.args.text.now p false c.to_float-else-is_unsigned.result sign c.numeral_of-numeral.ensures h c.to_float-else-is_unsigned.ensures);
    }
