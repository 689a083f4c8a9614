-- A line for a node of a document of any kind. Used only by private contracts; no public contract depends on this file.
use Rattle.std.specs.Prelude.{◌≡◌, [], ◌∷◌, ◌++◌}
use Rattle.jsonptr.specs.Text.{Text}
use Rattle.jsonptr_text_paths.specs.Listing.{IsField}

-- `IsLine p short line`: `line` is the pointer with the text `p`, a tab, the text `short`, and a line feed
abbrev pub IsLine : Text → Text → Text → Type 0
IsLine p short line = (field : Text) × IsField p field × (line ≡ field ++ 9 ∷ (short ++ 10 ∷ []))
