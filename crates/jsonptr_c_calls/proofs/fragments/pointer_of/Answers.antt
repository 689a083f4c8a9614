use Rattle.std.proofs.Common.{◌≡◌, inl, inr, subst}
use Rattle.jsonptr_fragment.specs.Fragment.{IsFragment}
use Rattle.jsonptr_c_calls.proofs.FragmentLemmas.{no_memory}
use Rattle.jsonptr_c_calls.proofs.fragments.pointer_of.Goals as goal

pub returns-in-Err-Memory-clause-refused : goal.returns-in-Err-Memory-clause-refused
returns-in-Err-Memory-clause-refused c =
    let is : c.in_ok-text.text.now ≡ c.args.fragment.now = c.in_ok-text.ensures.text in
    let failed = c.in-Err-Memory in
    inr (inl (tt, λ none. no_memory c.from_fragment.result failed.field-0 failed.error failed.is failed.field-0-is (c.from_fragment.ensures.memory (λ formed. none (subst IsFragment is formed)))))
