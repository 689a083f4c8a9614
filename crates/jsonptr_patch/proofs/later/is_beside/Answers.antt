use Rattle.std.proofs.Common.{true≢false, List, sym, ◌∙◌, subst}
use Rattle.jsonptr.specs.Text.{Text}
use Rattle.jsonptr.specs.Pointer.{tokens}
use Rattle.jsonptr_patch.specs.PrivateLater.{Forks}
use Rattle.jsonptr_patch.proofs.LaterLemmas.{beside_forks}
use Rattle.jsonptr_patch.proofs.later.is_beside.Goals as goal

pub returns : goal.returns
returns c = λ t. beside_forks (tokens c.args.pointer) (tokens c.args.other) (tokens c.args.front) (tokens c.in-Some.rest) c.requires.0 c.requires.1 c.in-Some.ensures
    (λ e. true≢false (sym (c.is_root-2.ensures.1 e) ∙ c.if-is_root-2.false))
    (c.lacks_prefix.ensures t)

pub returns-then-is_root : goal.returns-then-is_root
returns-then-is_root c = λ t. subst (λ (front : List Text). Forks (tokens c.args.pointer) (tokens c.args.other) front) (sym (c.is_root.ensures.0 c.if-is_root.true)) (c.is_beside_at_root.ensures t)
