-- Which states and commands of the machine are those of a session.
use Rattle.std.specs.Prelude.{All, IsUtf8, ⊤}
use Rattle.jsonptr.specs.Documents.{IsDocument}
use Rattle.jsonptr_session.specs.Machine.{State, Command, parse, push_back, push_front, replace, append, write, assign}

-- `IsState s`: the tokens of `s` are UTF-8, and its map is that of a document
pub record IsState (s : State) : Type 0 where
  pub tokens : All IsUtf8 s.tokens
  pub nodes : IsDocument s.nodes

-- `IsCommand c`: the texts in `c` are UTF-8, and its values are documents
abbrev pub IsCommand : Command → Type 0
IsCommand (parse s) = IsUtf8 s
IsCommand (push_back s) = IsUtf8 s
IsCommand (push_front s) = IsUtf8 s
IsCommand (replace i s) = IsUtf8 s
IsCommand (append p) = All IsUtf8 p
IsCommand (write v) = IsDocument v
IsCommand (assign v) = IsDocument v
IsCommand c = ⊤
