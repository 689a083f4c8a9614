use Rattle.std.proofs.Common.{rules, ◌≡◌, ◌≤◌, inr, inl, ℕ, List, IsUtf8, length, take, sym, subst, ◌∙◌}
use Rattle.jsonptr.specs.Text.{text}
use Rattle.jsonptr_c_calls.specs.Failures.{IsNotExtended, LacksRoom}
use Rattle.jsonptr_c_calls.specs.Pointers.{Extends}
use Rattle.jsonptr_c_calls.proofs.CopyLemmas.{if_short}
use Rattle.jsonptr_c_calls.proofs.pointers.push.Goals as goal

pub returns-in-Ok-clause-refused : goal.returns-in-Ok-clause-refused
returns-in-Ok-clause-refused c =
    let buffer = c.args.buffer.now in
    let low : c.args.length ≤ length buffer = search rules in
    let is : c.in-Some.pointer.now ≡ take c.args.length buffer = search rules in
    let longer : Extends c.in-Some.pointer.now c.args.token.now (text c.in-Ok.longer) = c.in-Ok.ensures.pushed in
    let written : c.as_bytes.result.now ≡ text c.in-Ok.longer = search rules in
    if_short c.copy_to.result _ _ _ (length c.as_bytes.result.now) (length buffer) c.copy_to.ensures.copied
    (λ e short. inr (
      low,
      inr (
        longer.0,
        (subst IsUtf8 is c.in-Ok.ensures.pointer_utf8, longer.1 ∙ is),
        c.in-Ok.ensures.token_utf8,
        subst (λ (l : List ℕ). LacksRoom (length l) (length buffer) e) (written ∙ sym longer.2) short,
      ),
    ))

pub returns-in-Err-clause-refused : goal.returns-in-Err-clause-refused
returns-in-Err-clause-refused c =
    let low : c.args.length ≤ length c.args.buffer.now = search rules in
    let is : c.in-Some.pointer.now ≡ take c.args.length c.args.buffer.now = search rules in
    inr (low, inl (subst (λ (b : List ℕ). IsNotExtended b c.args.token.now c.in-Err.call_error) is c.in-Err.ensures.refused))
