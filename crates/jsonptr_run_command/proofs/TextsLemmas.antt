-- The line of a list of texts.
use Rattle.std.proofs.Common.{◌≡◌, List, [], ◌∷◌, ◌++◌, map, false, refl, ap, ◌∙◌}
use Rattle.serde_json.specs.Data.{string}
use Rattle.serde_json.specs.View.{items_of}
use Rattle.serde_json.specs.Written.{items_have_float, compact_text}
use Rattle.jsonptr.specs.Text.{Text}
use Rattle.jsonptr_run_command.specs.JsonText.{IsJsonLine}
use Rattle.jsonptr_run_command.specs.Run.{texts_value}

-- texts contain no float
no_float : (ts : List Text) → items_have_float (items_of (map string ts)) ≡ false
no_float [] = refl
no_float (t ∷ ts) = no_float ts

pub texts_written : (ts : List Text) (line : Text) → IsJsonLine (texts_value ts) line → line ≡ compact_text (texts_value ts) ++ 10 ∷ []
texts_written ts line h = h.2 ∙ ap (λ (t : Text). t ++ 10 ∷ []) (h.1.exact (no_float ts))
