use Rattle.jsonptr_tree.proofs.UndoingLemmas.{landing_named, put_back, deleted_again}
use Rattle.jsonptr_tree.proofs.writing.undoing_law.Goals as goal

pub returns-clause-named : goal.returns-clause-named
returns-clause-named c = landing_named

pub returns-clause-replaced : goal.returns-clause-replaced
returns-clause-replaced c = put_back

pub returns-clause-new : goal.returns-clause-new
returns-clause-new c = deleted_again
