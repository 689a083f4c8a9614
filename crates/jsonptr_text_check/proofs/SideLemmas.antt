-- One scalar in two texts.
use Rattle.std.proofs.Common.{◌≡◌, ℕ, List, ◌∷◌, Bool, true, false, Option, Some, None, option_map, Bor, true≢false, refl, sym, ◌∙◌}
use Rattle.std.specs.Prelude.{is_some}
use Rattle.json.specs.Token.{Token}
use Rattle.json.specs.Json.{read_key}
use Rattle.json.specs.Reads.{token_of}
use Rattle.json.specs.declared.token.Token as Read
use Rattle.serde_json.specs.Data.{Data}
use Rattle.jsonptr_text_search.specs.Reading.{ReadsTokens}
use Rattle.jsonptr_text_search.specs.PrivateReading.{scalar_of}
use Rattle.jsonptr_text_search.proofs.ReadingLemmas.{scalar_reads}

pub both_scalar : (one two : ℕ) (old new old2 new2 : List Token) (t : Read.Token) → old ≡ token_of t ∷ new → old2 ≡ token_of t ∷ new2 → (t ≡ Read.TheVariants.BeginArray → ⊥) → (t ≡ Read.TheVariants.BeginObject → ⊥) → is_some (scalar_of (token_of t)) ≡ true
    → (d : Data) × ReadsTokens one old d new × ReadsTokens two old2 d new2
both_scalar one two old new old2 new2 t e e2 a o some = at (scalar_of (token_of t)) refl some
  where
    at : (c : Option Data) → scalar_of (token_of t) ≡ c → is_some c ≡ true → (d : Data) × ReadsTokens one old d new × ReadsTokens two old2 d new2
    at None is h = absurd (cc)
    at (Some d) is h = (d, scalar_reads one old new t d e a o is, scalar_reads two old2 new2 t d e2 a o is)

pub no_name : (k : Option (Bor (List ℕ))) (old new : List Token) (some : Bool) → read_key old ≡ Some (option_map (λ s. s.now) k, new) → some ≡ is_some k → some ≡ false → read_key old ≡ Some (None, new)
no_name None old new some h is off = h
no_name (Some s) old new some h is off = absurd (true≢false (sym is ∙ off))
