use Rattle.std.proofs.Common.{◌≤◌, ◌⊎◌, ◌∙◌, length, sym, ap₂, inl, inr, ⊎_elim, arith}
use Rattle.std.proofs.lemmas.Bool.{cases_lt}
use Rattle.std.specs.Cmp.Lexicographic.{slice_cmp}
use Rattle.std.specs.Ordering.{nat_cmp}
use Rattle.jsonptr_grammar.specs.Text.{Text}
use Rattle.jsonptr_syntax.proofs.CompareLemmas.{order_by_byte, order_by_length}
use Rattle.jsonptr_syntax.proofs.compare.order.Goals as goal

pub returns-then-at-shorter : goal.returns-then-at-shorter
returns-then-at-shorter c =
    let same = ap₂ (λ (s u : Text). slice_cmp nat_cmp s u) c.as_bytes-bytes.ensures.value c.as_bytes-others.ensures.value in
    c.cmp-then-at-shorter.ensures
    ∙ sym (order_by_byte _ _ _ c.common_len_by_blocks-at.ensures (omega (arith, c.min-shorter.ensures, c.if-at-shorter.true)) (omega (arith, c.min-shorter.ensures, c.if-at-shorter.true)))
    ∙ same

pub returns-else-at-shorter : goal.returns-else-at-shorter
returns-else-at-shorter c =
    let same = ap₂ (λ (s u : Text). slice_cmp nat_cmp s u) c.as_bytes-bytes.ensures.value c.as_bytes-others.ensures.value in
    let end : (length c.as_bytes-bytes.result.now ≤ c.common_len_by_blocks-at.result) ⊎ (length c.as_bytes-others.result.now ≤ c.common_len_by_blocks-at.result) =
    ⊎_elim
    (λ below. inl (omega (arith, below, c.min-shorter.ensures, c.if-at-shorter.false)))
    (λ over. inr (omega (arith, over, c.min-shorter.ensures, c.if-at-shorter.false)))
    (cases_lt (length c.as_bytes-bytes.result.now) (length c.as_bytes-others.result.now))
    in
    c.cmp-else-at-shorter.ensures ∙ sym (order_by_length _ _ _ c.common_len_by_blocks-at.ensures end) ∙ same
