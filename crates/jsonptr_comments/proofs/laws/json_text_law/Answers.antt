use Rattle.std.proofs.Common.{◌≡◌, List, ℕ, false, Option, Some, None, option_and_then, refl}
use Rattle.json.specs.Json.{Json, max_depth, if_last, value}
use Rattle.json.specs.Lex.{fresh, tokens}
use Rattle.serde_json.specs.Data.{Data}
use Rattle.serde_json.specs.Read.{of_json, max_depth as depth_read}
use Rattle.jsonptr_comments.specs.Comments.{IsPlain}
use Rattle.jsonptr_comments.proofs.JsonLemmas.{Clean, json_clean}
use Rattle.jsonptr_comments.proofs.laws.json_text_law.Goals as goal

is_plain : (text : List ℕ) → Clean fresh text → IsPlain text
is_plain text c = (c.0, c.1, c.2 false)

some_json : (o : Option Json) (d : Data) → option_and_then of_json o ≡ Some d → (j : Json) × (o ≡ Some j)
some_json None d e = absurd (let wrong : ⊥ = cc in wrong)
some_json (Some j) d e = (j, refl)

pub returns : goal.returns
returns c = record {
  json = λ text j e. is_plain text (json_clean text max_depth j e);
  read = λ text d e. let j = some_json (option_and_then (λ p. if_last p.0 p.1) (value depth_read (tokens text))) d e in is_plain text (json_clean text depth_read j.0 j.1);
}
