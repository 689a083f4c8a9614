-- The machine that every session is a run of (RFC 6901). Its state is a list of tokens and the node map of a
-- document. Each command has an answer and a next state.
use Rattle.std.specs.Prelude.{◌≡◌, ℕ, ◌<◌, ◌≤◌, List, [], ◌∷◌, ◌++◌, length, slice_get, slice_set, Option, Some, None, ⊤}
use Rattle.jsonptr.specs.Text.{Text, HasNoTilde, text}
use Rattle.jsonptr.specs.Grammar.{IsPointer}
use Rattle.jsonptr.specs.Node.{NodeMap}
use Rattle.jsonptr.specs.Following.{Finds}
use Rattle.jsonptr.specs.Assigning.{Assigns}
use Rattle.jsonptr.specs.Removing.{Deletes}
use Rattle.jsonptr.specs.Ends.{PopsFront, PopsBack}
use Rattle.jsonptr.specs.ParseError.{IsParseErrorOf}
use Rattle.jsonptr.specs.Resolve.{Refuses, PutsAt}
use Rattle.jsonptr.specs.Assign.{RefusesAssign, NeedsNothing}
use Rattle.jsonptr.specs.Delete.{NamesNothing}
use Rattle.jsonptr.specs.Types.ParseError.{ParseError}
use Rattle.jsonptr.specs.declared.pointer.buf.ReplaceError.{ReplaceError}
use Rattle.jsonptr.specs.declared.resolve.Error.{Error as ResolveError}
use Rattle.jsonptr.specs.declared.assign.Error.{Error as AssignError}

-- `tokens`: the tokens of a pointer. `nodes`: the map of a document
pub record State : Type 0 where
  pub tokens : List Text
  pub nodes : NodeMap

-- The commands of the machine: the calls of a session, with texts, lists of tokens and maps as arguments
pub data Command : Type 0 where
  parse : Text → Command
  push_back : Text → Command
  push_front : Text → Command
  pop_back : Command
  pop_front : Command
  replace : ℕ → Text → Command
  append : List Text → Command
  clear : Command
  resolve : Command
  write : NodeMap → Command
  assign : NodeMap → Command
  delete : Command

-- The answers of the machine: the replies of a session, except the one to a failed allocation
pub data Answer : Type 0 where
  done : Answer
  bad_pointer : ParseError → Text → Answer
  token : Option Text → Answer
  bad_position : ReplaceError → Answer
  value : NodeMap → Answer
  no_value : ResolveError → Answer
  assigned : Option NodeMap → Answer
  bad_place : AssignError → Answer
  deleted : Option NodeMap → Answer

-- `Transition blank old c a new`: in state `old` the machine answers command `c` by `a`, and its next state is `new`.
-- `blank` is the map that is left after the root is deleted
abbrev pub Transition : NodeMap → State → Command → Answer → State → Type 0
Transition blank old (parse s) done new = (text new.tokens ≡ s) × (new.nodes ≡ old.nodes)
Transition blank old (parse s) (bad_pointer e t) new = IsParseErrorOf s e × (t ≡ s) × (new ≡ old)
Transition blank old (push_back s) done new = new ≡ record old { tokens = old.tokens ++ s ∷ [] }
Transition blank old (push_front s) done new = new ≡ record old { tokens = s ∷ old.tokens }
Transition blank old pop_back (token t) new =
    PopsBack old.tokens t new.tokens × (new.nodes ≡ old.nodes)
Transition blank old pop_front (token t) new =
    PopsFront old.tokens t new.tokens × (new.nodes ≡ old.nodes)
Transition blank old (replace i s) (token t) new =
    (i < length old.tokens)
    × (t ≡ slice_get old.tokens i)
    × (new ≡ record old { tokens = slice_set old.tokens i s })
Transition blank old (replace i s) (bad_position e) new =
    (length old.tokens ≤ i) × (e.index ≡ i) × (e.count ≡ length old.tokens) × (new ≡ old)
Transition blank old (append p) done new = new ≡ record old { tokens = old.tokens ++ p }
Transition blank old clear done new = new ≡ record old { tokens = [] }
Transition blank old resolve (value m) new = Finds old.nodes old.tokens m × (new ≡ old)
Transition blank old resolve (no_value e) new = Refuses old.nodes old.tokens e × (new ≡ old)
Transition blank old (write v) (value m) new =
    Finds old.nodes old.tokens m
    × PutsAt old.nodes old.tokens v new.nodes
    × (new.tokens ≡ old.tokens)
Transition blank old (write v) (no_value e) new = Refuses old.nodes old.tokens e × (new ≡ old)
Transition blank old (assign v) (assigned was) new =
    Assigns old.nodes old.tokens v new.nodes was × (new.tokens ≡ old.tokens)
Transition blank old (assign v) (bad_place e) new =
    RefusesAssign old.nodes old.tokens e × (new ≡ old)
Transition blank old delete (deleted (Some m)) new =
    Finds old.nodes old.tokens m
    × Deletes old.nodes old.tokens blank new.nodes
    × (new.tokens ≡ old.tokens)
Transition blank old delete (deleted None) new = NamesNothing old.nodes old.tokens × (new ≡ old)
Transition blank old c a new = ⊥

-- `NeedsNoMemory old c`: command `c` needs no memory in state `old`. That is so for `clear`, and for a pop if there are
-- no tokens. It is so for `parse` if the text is not a pointer, and for `replace` if there is no token at the position.
-- If the text of the tokens has no `~`, which is byte 126, it is so for `write` and `delete`. Then it is also so for
-- `resolve` if the tokens do not resolve, and for `assign` if they do or if no value can be assigned
abbrev pub NeedsNoMemory : State → Command → Type 0
NeedsNoMemory old (parse s) = IsPointer s → ⊥
NeedsNoMemory old pop_back = old.tokens ≡ []
NeedsNoMemory old pop_front = old.tokens ≡ []
NeedsNoMemory old (replace i s) = length old.tokens ≤ i
NeedsNoMemory old clear = ⊤
NeedsNoMemory old resolve = HasNoTilde (text old.tokens) × NamesNothing old.nodes old.tokens
NeedsNoMemory old (write v) = HasNoTilde (text old.tokens)
NeedsNoMemory old (assign v) = NeedsNothing old.nodes old.tokens
NeedsNoMemory old delete = HasNoTilde (text old.tokens)
NeedsNoMemory old c = ⊥

-- `IsStep blank old c a new`: one step of a session, which is a transition, or, if an allocation fails, has no answer
-- and leaves the state unchanged. A command that needs no memory always has an answer
abbrev pub IsStep : NodeMap → State → Command → Option Answer → State → Type 0
IsStep blank old c (Some a) new = Transition blank old c a new
IsStep blank old c None new = (NeedsNoMemory old c → ⊥) × (new ≡ old)

-- `Runs blank old cs answers new`: the commands `cs` lead from state `old` to `new`, one step for each command, in
-- order
abbrev pub Runs : NodeMap → State → List Command → List (Option Answer) → State → Type 0
Runs blank old [] [] new = new ≡ old
Runs blank old (c ∷ cs) (a ∷ answers) new =
    (next : State) × IsStep blank old c a next × Runs blank next cs answers new
Runs blank old [] (a ∷ answers) new = ⊥
Runs blank old (c ∷ cs) [] new = ⊥
