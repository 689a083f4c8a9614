use Rattle.std.proofs.Common.{◌∙◌, ap, List, ℕ, length, arith}
use Rattle.jsonptr.specs.Text.{text}
use Rattle.jsonptr.proofs.Calling.{length-le-text}
use Rattle.jsonptr_tabled.proofs.TableLemmas.{can_move_behind, replaced, written_whole}
use Rattle.jsonptr_tabled.proofs.tabled.TabledPointer.replace.Goals as goal

pub overflow_add-index : goal.overflow_add-index
overflow_add-index c = let within = c.in_ok-old.ensures.replaced.0 in omega (arith, within, length-le-text c.self.inside.plain, c.len_of-before.ensures)

pub move_offsets-requires : goal.move_offsets-requires
move_offsets-requires c =
    can_move_behind c.deref_mut.result.now c.self.inside.plain c.args.index c.args.token c.len_of-before.result c.len_of.result (c.deref_mut.ensures.value ∙ c.self.invariant) c.len_of-before.ensures
    (c.len_of.ensures ∙ ap (λ (l : List (List ℕ)). length (text l)) c.in_ok-old.ensures.replaced.2)

pub invariant_of-self-2 : goal.invariant_of-self-2
invariant_of-self-2 c =
    written_whole c.self.inside.offsets.items c.move_offsets.new.offsets _ (c.move_offsets.ensures.len ∙ c.deref_mut.ensures.len)
    ∙ replaced c.deref_mut.result.now _ c.self.inside.plain _ c.args.index c.args.token c.len_of-before.result c.len_of.result (c.deref_mut.ensures.value ∙ c.self.invariant) c.in_ok-old.ensures.replaced.0 c.in_ok-old.ensures.replaced.2 c.len_of-before.ensures c.len_of.ensures c.move_offsets.ensures
