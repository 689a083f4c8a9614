use Rattle.std.proofs.Common.{true≢false, [], refl, sym, ◌∙◌}
use Rattle.jsonptr.specs.Pointer.{tokens}
use Rattle.jsonptr_patch.proofs.LaterLemmas.{beside_forks}
use Rattle.jsonptr_patch.proofs.later.is_beside_at_root.Goals as goal

pub returns : goal.returns
returns c = λ t. beside_forks (tokens c.args.pointer) (tokens c.args.other) [] (tokens c.args.other) c.requires.0 c.requires.1 refl
    (λ e. true≢false (sym (c.is_root.ensures.1 e) ∙ c.if-is_root.false))
    (c.lacks_prefix.ensures t)
