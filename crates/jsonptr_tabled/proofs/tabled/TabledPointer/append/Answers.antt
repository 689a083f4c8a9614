use Rattle.std.proofs.Common.{◌++◌, ◌∙◌, ap, List, ℕ}
use Rattle.jsonptr.specs.Pointer.{tokens}
use Rattle.jsonptr_tabled.specs.Private.{offsets_up_to}
use Rattle.jsonptr_tabled.proofs.TableLemmas.{joined, end_within}
use Rattle.jsonptr_tabled.proofs.tabled.TabledPointer.append.Goals as goal

pub extend-requires-clause-within : goal.extend-requires-clause-within
extend-requires-clause-within c = end_within c.self.inside.plain (tokens c.args.other) c.join.new.plain c.len_of.result c.in_ok-join.ensures.joined c.len_of.ensures

pub invariant_of-self-2 : goal.invariant_of-self-2
invariant_of-self-2 c =
    joined c.self.inside.offsets.items _ c.self.inside.plain (tokens c.args.other) c.join.new.plain c.len_of.result c.self.invariant c.in_ok-join.ensures.joined c.len_of.ensures
    (c.extend.ensures ∙ ap (λ (l : List ℕ). l ++ offsets_up_to c.len_of.result (tokens c.args.other)) c.reserve.ensures.items)
