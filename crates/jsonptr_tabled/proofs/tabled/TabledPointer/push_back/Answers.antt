use Rattle.std.proofs.Common.{ap, ◌∙◌, ◌++◌, ◌∷◌, [], List, ℕ}
use Rattle.jsonptr_tabled.proofs.TableLemmas.{pushed_back}
use Rattle.jsonptr_tabled.proofs.tabled.TabledPointer.push_back.Goals as goal

pub invariant_of-self-2 : goal.invariant_of-self-2
invariant_of-self-2 c =
    pushed_back c.self.inside.offsets.items _ c.self.inside.plain _ c.args.token c.len_of-before.result c.self.invariant c.len_of-before.ensures
    (c.push_reserved.ensures.items ∙ ap (λ (l : List ℕ). l ++ c.len_of-before.result ∷ []) c.make_room.ensures.items)
    c.in_ok-push_back.ensures.pushed
