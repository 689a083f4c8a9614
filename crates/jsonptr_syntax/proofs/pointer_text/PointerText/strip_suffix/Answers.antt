use Rattle.std.proofs.Common.{sym, ap, ◌∙◌, ◌++◌}
use Rattle.jsonptr_grammar.specs.Text.{Text}
use Rattle.jsonptr_syntax.specs.Private.{IsSplit}
use Rattle.jsonptr_syntax.proofs.CutBetween.{text_of_end, split_before_pointer, split_front_valid, split_tokens}
use Rattle.jsonptr_syntax.proofs.pointer_text.PointerText.strip_suffix.Goals as goal
use Rattle.jsonptr_syntax.proofs.pointer_text.PointerText.strip_suffix.Goals.{In_ok-front}

cut : (c : In_ok-front) → IsSplit c.args.self.now.inner.now c.in_ok-front.front.now c.args.suffix.inner.now
cut c =
    let strips = c.in_ok-front.ensures.cases in
    split_before_pointer _ _ _ c.args.suffix.valid (strips.1.1 ∙ ap (λ (x : Text). x ++ c.args.suffix.inner.now) (sym strips.2))

pub returns-in_err-front : goal.returns-in_err-front
returns-in_err-front c = rw c.from_residual.ensures (λ b. c.in_err-front.ensures.cases _ (text_of_end _ _ c.args.self.now.valid c.args.suffix.valid b))

pub returns : goal.returns
returns c = split_tokens _ _ _ c.args.self.now.valid (cut (goal.at.returns c).In_ok-front)

pub invariant_of-result : goal.invariant_of-result
invariant_of-result c = record { valid = split_front_valid _ _ _ c.args.self.now.valid (cut (goal.at.invariant_of-result c).In_ok-front) }
