use Rattle.std.proofs.Common.{List, ◌∷◌, ◌++◌, length, refl, sym, ap, ◌∙◌, arith}
use Rattle.jsonptr.specs.Text.{Text}
use Rattle.jsonptr.specs.Pointer.{tokens}
use Rattle.jsonptr_walk.specs.PrivateDescend.{Begins}
use Rattle.jsonptr_walk.proofs.DescendLemmas.{begins_nowhere, next_of}
use Rattle.jsonptr_patch_journal.proofs.TokenLemmas.{token_found}
use Rattle.jsonptr_patch_journal.proofs.token_step.token_at.Goals as goal

pub returns-in-None : goal.returns-in-None
returns-in-None c = begins_nowhere (tokens c.args.pointer) c.args.offset c.in-None.ensures.split

pub overflow_sub-result : goal.overflow_sub-result
overflow_sub-result c =
    let front = tokens c.in-Some._front in let x = c.in-Some-split_front.token in let rest = tokens c.in-Some-split_front.after in
    let b : Begins (tokens c.args.pointer) c.args.offset front (x ∷ rest) = (c.in-Some.ensures.split.split ∙ ap (λ (ts : List Text). front ++ ts) c.in-Some-split_front.ensures, sym c.in-Some.ensures.split.place) in
    (next_of (tokens c.args.pointer) c.args.offset front x rest b _ _ (ap (λ (t : Text). length t) c.as_str.ensures.tokens) (ap (λ (t : Text). length t) c.as_str-in-Some-split_front.ensures.tokens)).0

pub returns-in-Some-split_front : goal.returns-in-Some-split_front
returns-in-Some-split_front c =
    let front = tokens c.in-Some._front in let x = c.in-Some-split_front.token in let rest = tokens c.in-Some-split_front.after in
    let b : Begins (tokens c.args.pointer) c.args.offset front (x ∷ rest) = (c.in-Some.ensures.split.split ∙ ap (λ (ts : List Text). front ++ ts) c.in-Some-split_front.ensures, sym c.in-Some.ensures.split.place) in
    token_found (tokens c.args.pointer) c.args.offset front x rest b _ _ _ (ap (λ (t : Text). length t) c.as_str.ensures.tokens) (ap (λ (t : Text). length t) c.as_str-in-Some-split_front.ensures.tokens) refl (omega (arith, c.as_str.type_inv))
