use Rattle.std.proofs.Common.{◌≡◌, ◌+◌, ℕ, List, drop, ap, sym, ◌∙◌, arith}
use Rattle.std.proofs.lemmas.List.{drop-drop}
use Rattle.jsonptr_c_calls.proofs.ChangeLemmas.{not_before, one_more}
use Rattle.jsonptr_c_calls.proofs.change.character_ends.Goals as goal

pub loop-i-preserved : goal.loop-i-preserved
loop-i-preserved c =
    let i = c.loop-i.i in
    let j = c.loop-i.j in
    let old = c.args.old.now in
    let new = c.args.new.now in
    let known = c.loop-i.invariant in
    let same : drop (i + 1) old ≡ drop (j + 1) new = sym (drop-drop 1 i old) ∙ (ap (λ (t : List ℕ). drop 1 t) known.4 ∙ drop-drop 1 j new) in
    (omega (arith, known.0), omega (arith, c.loop-i-test.true), omega (arith, known.2), omega (arith, c.if-j-new.true), same, one_more old c.args.ends.old i c.is_inside.result known.5 c.is_inside.ensures c.if-is_inside.true)

pub returns-else-is_inside-clause-longest : goal.returns-else-is_inside-clause-longest
returns-else-is_inside-clause-longest c = λ i le between. not_before c.loop-i.i i (λ lt. c.loop-i.invariant.5 i le lt between)

pub returns-else-j-new-clause-longest : goal.returns-else-j-new-clause-longest
returns-else-j-new-clause-longest c = λ i le between. not_before c.loop-i.i i (λ lt. c.loop-i.invariant.5 i le lt between)

pub returns-after-loop-i-clause-longest : goal.returns-after-loop-i-clause-longest
returns-after-loop-i-clause-longest c = λ i le between. not_before c.loop-i.i i (λ lt. c.loop-i.invariant.5 i le lt between)
