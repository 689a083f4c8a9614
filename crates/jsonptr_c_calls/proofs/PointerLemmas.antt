-- Lemmas on the texts of pointers.
use Rattle.std.proofs.Common.{◌≡◌, ℕ, List, [], ◌∷◌, ◌++◌, length, take, sym, ap, ◌∙◌}
use Rattle.std.proofs.lemmas.List.{take_at}
use Rattle.jsonptr.specs.Text.{Text, text}
use Rattle.jsonptr.proofs.Calling.{text-append}
use Rattle.jsonptr_c_calls.specs.Pointers.{HasTokens, Shortens}

-- the text of the tokens without the last one is that many bytes of the whole text
pub shortens : (bytes short : List ℕ) (tokens front : List Text) (last : Text) → HasTokens bytes tokens → tokens ≡ front ++ last ∷ [] → short ≡ text front → Shortens bytes (length short)
shortens bytes short tokens front last whole parts is =
    let again : text (front ++ last ∷ []) ≡ bytes = ap text (sym parts) ∙ whole in
    let joined : bytes ≡ text front ++ text (last ∷ []) = sym again ∙ text-append front (last ∷ []) in
    let taken : take (length short) bytes ≡ text front =
    ap (λ b. take (length short) b) joined ∙ take_at (text front) (text (last ∷ [])) (length short) (ap length (sym is)) in
    (last, (front, sym taken, again))
