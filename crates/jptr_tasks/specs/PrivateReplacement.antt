-- The calls of a replacement, step by step. Used only by private clauses.
use Rattle.std.specs.Prelude.{List, [], ◌∷◌, true}
use Rattle.jptr_tasks.specs.Replacement.{AtEachMoment, IsGuarded, IsUnchanged}
use Rattle.jptr_tasks.specs.declared.replacement.Event.{Event}
use Rattle.jptr_tasks.specs.declared.replacement.Event.TheVariants.{Create, Write, TakeRights, Sync, Look, Rename}

-- `all_calls`: all calls up to the rename
abbrev pub all_calls : List Event
all_calls = Rename true ∷ Look true ∷ Sync true ∷ TakeRights true ∷ Write true ∷ Create true ∷ []

-- `IsSafe es`: the calls `es` leave the old text
abbrev pub IsSafe : List Event → Type 0
IsSafe es = AtEachMoment es × IsUnchanged es × IsGuarded es
