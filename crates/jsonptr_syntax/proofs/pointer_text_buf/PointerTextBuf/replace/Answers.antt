use Rattle.std.proofs.Common.{◌≡◌, ℕ, ◌∷◌, ◌++◌, ◌+◌, ◌-◌, length, sym, ap, ◌∙◌, arith, length-append, Some}
use Rattle.std.specs.Prelude.{string_bytes}
use Rattle.std.proofs.lemmas.Str.{IsUtf8-string_bytes}
use Rattle.jsonptr_grammar.specs.Text.{esc, text, tokens_of}
use Rattle.jsonptr_syntax.proofs.CutFirst.{begins_valid}
use Rattle.jsonptr_syntax.proofs.Edits.{around, around_len, before_rest, point_at, point_behind, replaced_text, holds, list_is, was_there, was_that, is_set}
use Rattle.jsonptr_syntax.proofs.pointer_text_buf.PointerTextBuf.replace.Goals as goal
use Rattle.jsonptr_syntax.proofs.pointer_text_buf.PointerTextBuf.replace.Goals.{In_ok-old, In_ok-replace_range}

list : (c : In_ok-old) → c.args.self.now ≡ tokens_of c.in-Some.front.inner.now ++ c.in-Some.old ∷ tokens_of c.in-Some.rest.inner.now
list c = sym c.self.view_is ∙ ap tokens_of (sym c.as_str.ensures.value) ∙ ap tokens_of (sym c.new.ensures) ∙ c.in-Some.ensures.0

parts : (c : In_ok-old) → string_bytes c.self.inside.inner ≡ c.in-Some.front.inner.now ++ (47 ∷ (esc c.in-Some.old ++ c.in-Some.rest.inner.now))
parts c = around _ _ c.self.invariant c.self.view_is _ c.in-Some.old c.in-Some.rest.inner.now c.in-Some.front.valid c.in-Some.rest.valid (list c)

pub overflow_sub-end : goal.overflow_sub-end
overflow_sub-end c = omega (arith, around_len _ c.in-Some.front.inner.now c.in-Some.rest.inner.now c.in-Some.old (parts (goal.at.overflow_sub-end c).In_ok-old), c.len.ensures, c.len-2.ensures.text)

pub replace_range-requires-clause-start_le_end : goal.replace_range-requires-clause-start_le_end
replace_range-requires-clause-start_le_end c =
    omega (arith, around_len _ c.in-Some.front.inner.now c.in-Some.rest.inner.now c.in-Some.old (parts (goal.at.replace_range-requires-clause-start_le_end c).In_ok-old), c.len.ensures, c.len-2.ensures.text)

pub replace_range-requires-clause-end_boundary : goal.replace_range-requires-clause-end_boundary
replace_range-requires-clause-end_boundary c =
    let front = c.in-Some.front.inner.now in
    let rest = c.in-Some.rest.inner.now in
    let cut = parts (goal.at.replace_range-requires-clause-end_boundary c).In_ok-old in
    let len = around_len _ front rest c.in-Some.old cut in
    let point : c.len.result - c.len-2.result ≡ length (front ++ 47 ∷ esc c.in-Some.old) = omega (arith, len, c.len.ensures, c.len-2.ensures.text, length-append front (47 ∷ esc c.in-Some.old)) in
    point_at _ (front ++ 47 ∷ esc c.in-Some.old) rest (before_rest _ front rest c.in-Some.old cut) _ point (begins_valid _ c.in-Some.rest.valid)

pub replace_range-requires-clause-start_boundary : goal.replace_range-requires-clause-start_boundary
replace_range-requires-clause-start_boundary c =
    let front = c.in-Some.front.inner.now in
    let cut = parts (goal.at.replace_range-requires-clause-start_boundary c).In_ok-old in
    point_behind _ front (esc c.in-Some.old ++ c.in-Some.rest.inner.now) _ cut (ap (λ (k : ℕ). k + 1) c.len-start.ensures.text) (IsUtf8-string_bytes c.self.inside.inner)

new_text : (c : In_ok-replace_range) → string_bytes c.replace_range.new.self ≡ text (tokens_of c.in-Some.front.inner.now ++ c.args.token.now ∷ tokens_of c.in-Some.rest.inner.now)
new_text c =
    let front = c.in-Some.front.inner.now in
    let rest = c.in-Some.rest.inner.now in
    let cut = parts (goal.at.In_ok-replace_range c).In_ok-old in
    let end : (c.len.result - c.len-2.result) + length rest ≡ length (string_bytes c.self.inside.inner) = omega (arith, around_len _ front rest c.in-Some.old cut, c.len.ensures, c.len-2.ensures.text) in
    replaced_text _ front rest c.in-Some.old cut _ _ (ap (λ (k : ℕ). k + 1) c.len-start.ensures.text) end c.args.token.now _ _ c.in-Some.front.valid c.in-Some.rest.valid c.encoded.ensures c.in_ok-replace_range.ensures.bytes

pub returns-clause-old : goal.returns-clause-old
returns-clause-old c =
    ap Some c.in_ok-old.ensures ∙ sym (was_that _ _ _ c.in-Some.old (list (goal.at.returns-clause-old c).In_ok-old) _ c.in-Some.ensures.1)

pub returns-clause-replaced : goal.returns-clause-replaced
returns-clause-replaced c = (
  was_there _ _ _ c.in-Some.old (list (goal.at.returns-clause-replaced c).In_ok-old) _ c.in-Some.ensures.1,
  list_is _ (tokens_of c.in-Some.front.inner.now ++ c.args.token.now ∷ tokens_of c.in-Some.rest.inner.now) (new_text (goal.at.returns-clause-replaced c).In_ok-replace_range)
      ∙ sym (is_set _ _ _ c.in-Some.old (list (goal.at.returns-clause-replaced c).In_ok-old) _ c.in-Some.ensures.1 c.args.token.now),
)

pub invariant_of-self-2 : goal.invariant_of-self-2
invariant_of-self-2 c =
    holds _ (tokens_of c.in-Some.front.inner.now ++ c.args.token.now ∷ tokens_of c.in-Some.rest.inner.now) (new_text (goal.at.invariant_of-self-2 c).In_ok-replace_range)
