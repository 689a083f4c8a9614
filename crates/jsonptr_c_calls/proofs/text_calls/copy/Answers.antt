use Rattle.std.proofs.Common.{◌≡◌, ℕ, List, ap, inr, length, string_bytes, sym, subst, ◌∙◌}
use Rattle.jsonptr_c_calls.specs.Failures.{LacksRoom}
use Rattle.jsonptr_c_calls.specs.TextCalls.{part}
use Rattle.jsonptr_c_calls.specs.TextHandle.{HoldsText}
use Rattle.jsonptr_c_calls.proofs.CopyLemmas.{if_short}
use Rattle.jsonptr_c_calls.proofs.OpenTextLemmas.{if_matched}
use Rattle.jsonptr_c_calls.proofs.text_calls.copy.Goals as goal

pub returns-clause-copied : goal.returns-clause-copied
returns-clause-copied c =
    let t = c.deref.result.now in
    let held : HoldsText c.args.text.now t = subst (HoldsText c.args.text.now) (sym c.deref.ensures) c.in-Some.ensures.taken in
    let same : c.part_of.result.now ≡ part c.args.start c.args.end (string_bytes t.text) =
    c.part_of.ensures ∙ ap (λ (s : List ℕ). part c.args.start c.args.end s) c.as_str.ensures.value in
    if_matched c.copy_to-copied.result _ _ _ (λ n h. (t, held, h.2 ∙ same)) c.copy_to-copied.ensures.copied

pub returns-clause-refused : goal.returns-clause-refused
returns-clause-refused c =
    let t = c.deref.result.now in
    let held : HoldsText c.args.text.now t = subst (HoldsText c.args.text.now) (sym c.deref.ensures) c.in-Some.ensures.taken in
    let same : c.part_of.result.now ≡ part c.args.start c.args.end (string_bytes t.text) =
    c.part_of.ensures ∙ ap (λ (s : List ℕ). part c.args.start c.args.end s) c.as_str.ensures.value in
    if_short c.copy_to-copied.result _ _ _ _ _ c.copy_to-copied.ensures.copied
    (λ e lacks. inr (t, held, subst (λ (n : ℕ). LacksRoom n (length c.args.out.now) e) (ap length same) lacks))
