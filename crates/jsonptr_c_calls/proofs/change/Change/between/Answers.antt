use Rattle.std.proofs.Common.{List, ℕ, arith, subst}
use Rattle.jsonptr_c_calls.proofs.ChangeLemmas.{Splices, splices}
use Rattle.jsonptr_c_calls.proofs.change.Change.between.Goals as goal

pub returns-clause-change : goal.returns-clause-change
returns-clause-change c =
    let s = c.character_start-start.result in
    let i = c.character_ends-ends.result.old in
    let j = c.character_ends-ends.result.new in
    let old = c.as_bytes-old.result.now in
    let new = c.as_bytes-new.result.now in
    let first = c.same_ends.ensures in
    let last = c.character_ends-ends.ensures in
    let made = splices old new s i j c.character_start-start.ensures.same last.same (omega (arith, first.old.0, last.old.0)) last.old.1 (omega (arith, first.new.0, last.new.0)) last.new.1 in
    subst (λ (t : List ℕ). Splices t c.args.new.now s i j) c.as_bytes-old.ensures.value
    (subst (λ (t : List ℕ). Splices old t s i j) c.as_bytes-new.ensures.value made)
