-- How deep pointers and operations may nest a document.
use Rattle.std.specs.Prelude.{ℕ, ◌+◌, ◌-◌, ◌<◌, ◌≤◌, List, All, length, ⊤}
use Rattle.std.specs.List.{sum_by}
use Rattle.serde_json.specs.Data.{Data, depth}
use Rattle.serde_json.specs.Read.{max_depth}
use Rattle.serde_json.specs.View.{view}
use Rattle.jsonptr.specs.Json.{HasSortedKeys}
use Rattle.jsonptr.specs.Text.{Text}
use Rattle.jsonptr_patch.specs.declared.operation.Operation.{Operation}
use Rattle.jsonptr_patch.specs.declared.operation.Operation.TheVariants.{Add, Remove, Replace, Move, Copy, Test}

-- `max_levels`: the most levels that pointers may add to the `max_depth` of a text that is read
abbrev pub max_levels : ℕ
max_levels = 10000

-- `IsParsed d`: the value `d` is as one that is read from a text: its keys are sorted, and it nests at most `max_depth`
-- levels deep
abbrev pub IsParsed : Data → Type 0
IsParsed d = HasSortedKeys d × (depth d ≤ max_depth)

-- `IsBounded d`: the keys of the document `d` are sorted, and it nests at most 10,127 levels deep
abbrev pub IsBounded : Data → Type 0
IsBounded d = HasSortedKeys d × (depth d ≤ max_depth + max_levels)

-- `AddsParsed o`: the value of the operation `o`, if it has one, is as one that is read from a text
abbrev pub AddsParsed : Operation → Type 0
AddsParsed (Add path value) = IsParsed (view value)
AddsParsed (Remove path) = ⊤
AddsParsed (Replace path value) = IsParsed (view value)
AddsParsed (Move from path) = ⊤
AddsParsed (Copy from path) = ⊤
AddsParsed (Test path value) = ⊤

-- `HasFewTokens tokens`: a value at a pointer with these tokens is at most `max_levels` deep in its document
abbrev pub HasFewTokens : List Text → Type 0
HasFewTokens tokens = length tokens ≤ max_levels

-- `level_of o`: how deep in its document the operation `o` puts its own value, if it adds one
abbrev pub level_of : Operation → ℕ
level_of (Add path value) = length path
level_of (Remove path) = 0
level_of (Replace path value) = length path
level_of (Move from path) = 0
level_of (Copy from path) = 0
level_of (Test path value) = 0

-- `descent_of o`: by how many levels the operation `o` moves or copies a value down
abbrev pub descent_of : Operation → ℕ
descent_of (Add path value) = 0
descent_of (Remove path) = 0
descent_of (Replace path value) = 0
descent_of (Move from path) = length path - length from
descent_of (Copy from path) = length path - length from
descent_of (Test path value) = 0

-- `descent os`: by how many levels the operations `os` can move or copy a value down, all together
abbrev pub descent : List Operation → ℕ
descent os = sum_by descent_of os

-- `StaysShallow d os`: after any number of the operations `os`, no value of theirs and no value of the document `d` can be
-- more than `max_levels` deeper than in a text that is read. If no operation moves a value down, that says nothing of `d`
pub record StaysShallow (d : Data) (os : List Operation) : Type 0 where
  pub moved : descent os ≤ max_levels
  pub added : All (λ o. level_of o + descent os ≤ max_levels) os
  pub held : 0 < descent os → depth d + descent os ≤ max_depth + max_levels
