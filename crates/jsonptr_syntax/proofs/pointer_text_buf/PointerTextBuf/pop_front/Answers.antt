use Rattle.std.proofs.Common.{◌≡◌, ◌∷◌, ◌++◌, length, sym, ap, ◌∙◌, arith, length-append}
use Rattle.std.specs.Prelude.{string_bytes}
use Rattle.jsonptr_grammar.specs.Text.{esc, tokens_of}
use Rattle.jsonptr_syntax.proofs.CutFirst.{begins_valid}
use Rattle.jsonptr_syntax.proofs.Edits.{behind_first, point_at}
use Rattle.jsonptr_syntax.proofs.pointer_text_buf.PointerTextBuf.pop_front.Goals as goal
use Rattle.jsonptr_syntax.proofs.pointer_text_buf.PointerTextBuf.pop_front.Goals.{In_ok-first}

parts : (c : In_ok-first) → string_bytes c.self.inside.inner ≡ (47 ∷ esc c.in-Some.first) ++ c.in-Some.rest.inner.now
parts c = behind_first _ _ c.self.invariant c.self.view_is c.in-Some.first _ c.in-Some.rest.valid (sym c.self.view_is ∙ ap tokens_of (sym c.as_str.ensures.value) ∙ ap tokens_of (sym c.new.ensures) ∙ c.in-Some.ensures)

pub replace_range-requires-clause-end_boundary : goal.replace_range-requires-clause-end_boundary
replace_range-requires-clause-end_boundary c =
    let cut = parts (goal.at.replace_range-requires-clause-end_boundary c).In_ok-first in
    point_at _ (47 ∷ esc c.in-Some.first) _ cut _ (omega (arith, c.len.ensures, c.len-2.ensures.text, ap length cut, length-append (47 ∷ esc c.in-Some.first) c.in-Some.rest.inner.now)) (begins_valid _ c.in-Some.rest.valid)
