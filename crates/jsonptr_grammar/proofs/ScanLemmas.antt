-- What a pass over a text by offsets knows.
use Rattle.std.proofs.Common.{◌≡◌, ℕ, ◌≤◌, length, get_or, sym, ◌∙◌}
use Rattle.std.proofs.lemmas.List.{get_or_past}
use Rattle.jsonptr_grammar.specs.Text.{Text}

-- past the end there is no byte
pub past_end : (s : Text) (k c : ℕ) → length s ≤ k → get_or s k 0 ≡ c → 0 ≡ c
past_end s k c beyond is = sym (get_or_past s k 0 beyond) ∙ is
