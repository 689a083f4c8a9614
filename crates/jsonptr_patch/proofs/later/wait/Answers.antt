use Rattle.std.proofs.Common.{List, [], ◌∷◌, refl, sym, subst}
use Rattle.serde_json.specs.View.{view}
use Rattle.jsonptr.specs.Json.{nodes}
use Rattle.jsonptr.specs.Text.{Text}
use Rattle.jsonptr_patch.specs.Apart.{AllDiverge}
use Rattle.jsonptr_patch.specs.PrivateLater.{paths_of}
use Rattle.jsonptr_patch.proofs.LaterLemmas.{removed_refused, moved_refused}
use Rattle.jsonptr_patch.proofs.later.wait.Goals as goal

pub move_later-requires-clause-apart : goal.move_later-requires-clause-apart
move_later-requires-clause-apart c =
    let d = nodes (view c.args.document.now) in
    let yss = paths_of c.args.run.now.later.items in
    let apart = rw c.in-Move.is at c.requires.apart in
    subst (λ (ts : List Text). AllDiverge d (c.in-Move.from ∷ ts ∷ []) yss) (sym c.as_ptr.ensures.tokens) apart

pub returns-in-Remove-clause-refused : goal.returns-in-Remove-clause-refused
returns-in-Remove-clause-refused c =
    let apart = rw c.in-Remove.is at c.requires.apart in
    rw c.in-Remove.is (removed_refused c.args.document.now c.args.turn.number c.in-Remove.path c.in-Remove.path c.args.run.now.later.items c.remove_later.result refl apart c.remove_later.ensures.refused)

pub returns-in-Move-clause-refused : goal.returns-in-Move-clause-refused
returns-in-Move-clause-refused c = rw c.in-Move.is (moved_refused c.args.document.now c.args.turn.number c.in-Move.from _ c.in-Move.from c.in-Move.path c.args.run.now.later.items c.move_later.result refl c.as_ptr.ensures.tokens c.move_later.ensures.refused)
