-- How an assignment is undone.
use Rattle.std.specs.Prelude.{List, Option, Some, None, option_map, ⊤}
use Rattle.jsonptr.specs.Text.{Text}
use Rattle.jsonptr.specs.Node.{Path, NodeMap, Names}
use Rattle.jsonptr.specs.Assigning.{Assigns}
use Rattle.jsonptr.specs.Removing.{Deletes}
use Rattle.jsonptr.specs.Resolve.{Refuses, PutsAt}
use Rattle.jsonptr.specs.Types.Fault.{Fault}
use Rattle.jsonptr.specs.Types.Fault.TheVariants.{Refused, Memory}
use Rattle.jsonptr.specs.declared.resolve.Error.{Error}
use Rattle.jsonptr_session.specs.declared.undo.Undo.{Undo}
use Rattle.jsonptr_session.specs.declared.undo.Undo.TheVariants.{Put, Remove}

-- `tokens_at u`: the tokens of the location that undo `u` changes
abbrev pub tokens_at : {V : Type 0} → Undo V → List Text
tokens_at (Put p v) = p
tokens_at (Remove p) = p

-- `put_by u`: the value that undo `u` puts there, or `None` if it removes the one there
abbrev pub put_by : {V : Type 0} → Undo V → Option V
put_by (Put p v) = Some v
put_by (Remove p) = None

-- `IfPut u P`: the value that undo `u` puts there, if any, has the property `P`
abbrev pub IfPut : {V : Type 0} → Undo V → (V → Type 0) → Type 0
IfPut (Put p v) P = P v
IfPut (Remove p) P = ⊤

-- `IsUndoError n tokens e`: if `e` is not a failed allocation, evaluating `tokens` in `n` fails, and `e` reports why
abbrev pub IsUndoError : NodeMap → List Text → Fault Error → Type 0
IsUndoError n tokens (Refused e) = Refuses n tokens e
IsUndoError n tokens (Memory e) = ⊤

module _ {V : Type 0} (nodes : V → NodeMap) where
  -- `AssignsWithUndo n tokens v m u`: assigning `v` at `tokens` turns `n` into `m`. The undo `u` has the replaced
  -- value, or removes the new one, and its tokens evaluate to the location of `v` in `m`
  pub record AssignsWithUndo (n : NodeMap) (tokens : List Text) (v m : NodeMap)
      (u : Undo V) : Type 0 where
    pub assigned : Assigns n tokens v m (option_map nodes (put_by u))
    pub landing : Names m (tokens_at u) assigned.path

  -- `Undoes blank n u m`: undo `u` turns `n` into `m`, by replacing or deleting the node at its tokens. Deleting the
  -- root leaves `blank`
  abbrev pub Undoes : NodeMap → NodeMap → Undo V → NodeMap → Type 0
  Undoes blank n (Put p v) m = PutsAt n p (nodes v) m
  Undoes blank n (Remove p) m = ((w : Path) × Names n p w) × Deletes n p blank m
