-- The document that lines build, and why a line adds no value.
use Rattle.std.specs.Prelude.{◌≡◌, ◌≢◌, ◌⊎◌, ℕ, ◌+◌, ◌≤◌, List, [], ◌∷◌, ◌++◌, length, All, Option, Some, None, ⊤}
use Rattle.serde_json.specs.Data.{Data, null, string, depth}
use Rattle.serde_json.specs.Read.{read, max_depth}
use Rattle.jsonptr.specs.Text.{Text, text}
use Rattle.jsonptr.specs.Node.{NodeMap}
use Rattle.jsonptr.specs.Json.{nodes}
use Rattle.jsonptr.specs.Assigning.{Assigns}
use Rattle.jsonptr.specs.Assign.{RefusesAssign}
use Rattle.jsonptr_io.specs.Lines.{AreLines}
use Rattle.jsonptr_text_paths.specs.declared.build.LineError.{LineError}
use Rattle.jsonptr_text_paths.specs.declared.build.LineError.TheVariants.{NoTab, NotPointer, NotJson, TooDeep, Assign}
use Rattle.jsonptr_text_paths.specs.declared.build.BuildError.{BuildError}
use Rattle.jsonptr_text_paths.specs.declared.build.BuildError.TheVariants.{Line, Memory}

-- `CutsAt c s front back`: `front` and `back` are the parts of `s` before and after its first byte `c`
abbrev pub CutsAt : ℕ → Text → Text → Text → Type 0
CutsAt c s front back = All (λ b. b ≢ c) front × (s ≡ front ++ c ∷ back)

-- `ReadsField field ts`: `field` is the pointer with the tokens `ts`, or a JSON string of it
abbrev pub ReadsField : Text → List Text → Type 0
ReadsField field ts = (field ≡ text ts) ⊎ (read field ≡ Some (string (text ts)))

-- `ReadsLine line ts v`: `line` is a pointer with the tokens `ts`, a tab, and a JSON text of the value `v`
abbrev pub ReadsLine : Text → List Text → Data → Type 0
ReadsLine line ts v =
    (field json : Text) × CutsAt 9 line field json × ReadsField field ts × (read json ≡ Some v)

-- `FitsDepth ts v`: the value `v`, at a pointer with the tokens `ts`, nests no deeper in its document than a text that is read
abbrev pub FitsDepth : List Text → Data → Type 0
FitsDepth ts v = length ts + depth v ≤ max_depth

-- `AssignsLine n line m`: assigning the value of `line` at its pointer, where it fits, turns the map `n` into `m`
abbrev pub AssignsLine : NodeMap → Text → NodeMap → Type 0
AssignsLine n line m =
    (ts : List Text) × (v : Data) × (old : Option NodeMap)
    × ReadsLine line ts v
    × FitsDepth ts v
    × Assigns n ts (nodes v) m old

-- `AssignsLines n lines m`: assigning the values of `lines`, in order, turns the map `n` into `m`
abbrev pub AssignsLines : NodeMap → List Text → NodeMap → Type 0
AssignsLines n [] m = m ≡ n
AssignsLines n (l ∷ ls) m = (k : NodeMap) × AssignsLine n l k × AssignsLines k ls m

-- `Builds text m`: assigning the values of the lines of `text`, in order, turns `null` into `m`
abbrev pub Builds : Text → NodeMap → Type 0
Builds text m = (ls : List Text) × AreLines text ls × AssignsLines (nodes null) ls m

-- `IsLineError n line e`: `e` is the first reason why `line` adds no value to the map `n`
abbrev pub IsLineError : NodeMap → Text → LineError → Type 0
IsLineError n line NoTab = All (λ b. b ≢ 9) line
IsLineError n line NotPointer =
    (field json : Text) × CutsAt 9 line field json × ((ts : List Text) → ReadsField field ts → ⊥)
IsLineError n line NotJson =
    (field json : Text) × (ts : List Text) × CutsAt 9 line field json × ReadsField field ts × (read json ≡ None)
IsLineError n line TooDeep = (ts : List Text) × (v : Data) × ReadsLine line ts v × (FitsDepth ts v → ⊥)
IsLineError n line (Assign e) =
    (ts : List Text) × (v : Data) × ReadsLine line ts v × FitsDepth ts v × RefusesAssign n ts e

-- `StopsBuilding text e`: `e` is why the lines of `text` build no document, unless an allocation failed. The line with
-- this number, from 1, adds no value after those before it
abbrev pub StopsBuilding : Text → BuildError → Type 0
StopsBuilding text (Line number e) =
    (before after : List Text) × (l : Text) × (n : NodeMap)
    × AreLines text (before ++ l ∷ after)
    × (number ≡ length before + 1)
    × AssignsLines (nodes null) before n
    × IsLineError n l e
StopsBuilding text (Memory f) = ⊤
