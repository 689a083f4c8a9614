use Rattle.jsonptr_uses.proofs.UndoingLemmas.{opened_pop, not_refused}
use Rattle.jsonptr_uses.proofs.editor.Editor.undo_last.Goals as goal

pub returns-in-Ok-clause-opened : goal.returns-in-Ok-clause-opened
returns-in-Ok-clause-opened c = λ start. opened_pop start c.args.self.now _ c.in-Some.last c.in-Some.ensures.items c.in-Ok.ensures.undone c.in-Ok.ensures.sorted

pub returns-in-Err-clause-never_refused : goal.returns-in-Err-clause-never_refused
returns-in-Err-clause-never_refused c = λ start opened. not_refused (Unit {0}) start c.args.self.now c.pop.new.self.items c.in-Some.last c.in-Err.refused.cause c.in-Some.ensures.items c.in-Err.ensures.refused opened
