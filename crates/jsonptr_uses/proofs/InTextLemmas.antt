-- Numbers in the document that a text is read as.
use Rattle.std.proofs.Common.{◌≡◌, ℕ, List, Option, Some, None, sym, ◌∙◌, subst}
use Rattle.serde_json.specs.Data.{Data}
use Rattle.serde_json.specs.Read.{read}
use Rattle.jsonptr.specs.Text.{Text}
use Rattle.jsonptr_uses.specs.InText.{IsNumberAt, IsRangeAt}

-- `IsNumberIn text ts n`: the text is read as a document with the number
abbrev pub IsNumberIn : Text → List Text → Option ℕ → Type 0
IsNumberIn text ts n = (d : Data) × (read text ≡ Some d) × IsNumberAt d ts n

one_document : (d e : Data) → Some d ≡ Some e → d ≡ e
one_document d e h = cc

-- two numbers in one text are in one document
pub both_numbers : (text : Text) (ts us : List Text) (m n : Option ℕ) → IsNumberIn text ts m → IsNumberIn text us n → (d : Data) × (read text ≡ Some d) × IsNumberAt d ts m × IsNumberAt d us n
both_numbers text ts us m n g h =
    (g.0, g.1, g.2, subst (λ (d : Data). IsNumberAt d us n) (one_document h.0 g.0 (sym h.1 ∙ g.1)) h.2)

-- a range without its first end
pub no_first : (text : Text) (ts us : List Text) (n : Option ℕ) → IsNumberIn text ts None → IsNumberIn text us n → (d : Data) × (read text ≡ Some d) × IsRangeAt d ts us None
no_first text ts us n g h =
    let b = both_numbers text ts us None n g h in
    (b.0, b.1, (None, n, b.2, b.3, λ i j e f le. absurd (cc e)))
