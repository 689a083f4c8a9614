-- The path of a location, and what a value contains.
use Rattle.std.specs.Prelude.{◌≡◌, ℕ, List, [], ◌∷◌, ◌++◌, length, Some, None, string_bytes}
use Rattle.serde_json.specs.View.{view}
use Rattle.serde_json.specs.declared.value.Value.{Value}
use Rattle.jsonptr.specs.Node.{Step, key, place, Path}
use Rattle.jsonptr.specs.Content.{Content, child, content_at}
use Rattle.jsonptr.specs.Json.{content}
use Rattle.jsonptr_patch_journal.specs.declared.location.LocationStep.{LocationStep}
use Rattle.jsonptr_patch_journal.specs.declared.location.LocationStep.TheVariants as step
use Rattle.jsonptr_patch_journal.specs.declared.location.Location.{Location}

-- `path_step s`: `s` as a step of a path
abbrev pub path_step : LocationStep → Step
path_step (step.Key k) = key (string_bytes k)
path_step (step.Index i) = place i

-- `steps_of ss`: the path of the steps `ss`
abbrev pub steps_of : List LocationStep → Path
steps_of [] = []
steps_of (s ∷ ss) = path_step s ∷ steps_of ss

-- `path_of l`: the path of the location `l`
abbrev pub path_of : Location → Path
path_of l = steps_of l.steps.items

-- `contents_of v`: what the value `v` contains
abbrev pub contents_of : Value → Content
contents_of v = content (view v)

-- `LeadsNowhereAt w c position`: the steps of the path `w` before `position` lead to a content in `c`, which has no
-- child at the step at `position`
abbrev pub LeadsNowhereAt : Path → Content → ℕ → Type 0
LeadsNowhereAt w c position =
    (front : Path) × (s : Step) × (rest : Path) × (reached : Content)
    × (w ≡ front ++ s ∷ rest)
    × (length front ≡ position)
    × (content_at front c ≡ Some reached)
    × (child s reached ≡ None)
