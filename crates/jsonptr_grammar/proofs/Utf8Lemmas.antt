-- The tokens of a pointer in UTF-8 are UTF-8.
use Rattle.std.proofs.Common.{◌≡◌, ℕ, true, false, List, [], ◌∷◌, ◌++◌, map, All, encode_utf8_all, refl, sym, ap, ◌∙◌, subst}
use Rattle.std.specs.Prelude.{IsUtf8}
use Rattle.std.proofs.lemmas.Bool.{and_parts, and_from}
use Rattle.std.proofs.lemmas.List.Elements.{All-nil, All-cons}
use lib.Utf8.{scalar, scalars}
use Rattle.jsonptr_grammar.specs.Text.{Text, esc, text, tokens_of}
use Rattle.jsonptr_grammar.specs.Grammar.{IsPointer}
use Rattle.jsonptr_grammar.proofs.EscapeLemmas.{unesc-esc, scalars-unesc_after}
use Rattle.jsonptr_grammar.proofs.PointerLemmas.{tokens_of-text, text-tokens_of, text-encodes}
use Rattle.jsonptr_grammar.proofs.FaultLemmas.{IsPointer-characters}

-- two lists side by side hold characters where each does
scalars-parts : (cs ds : List ℕ) → scalars (cs ++ ds) ≡ true → (scalars cs ≡ true) × (scalars ds ≡ true)
scalars-parts [] ds e = (refl, e)
scalars-parts (c ∷ cs) ds e =
    let p = and_parts (scalar c) (scalars (cs ++ ds)) e in
    let rest = scalars-parts cs ds p.1 in
    (and_from (scalar c) (scalars cs) p.0 rest.0, rest.1)

-- the tokens of a pointer's characters, in bytes
tokens_encoded : (us : List (List ℕ)) → scalars (text us) ≡ true → All IsUtf8 (map encode_utf8_all us)
tokens_encoded [] e = All-nil IsUtf8
tokens_encoded (u ∷ us) e =
    let slash = and_parts (scalar 47) (scalars (esc u ++ text us)) e in
    let p = scalars-parts (esc u) (text us) slash.1 in
    let first : scalars u ≡ true = subst (λ (t : Text). scalars t ≡ true) (unesc-esc u) (scalars-unesc_after false (esc u) p.0) in
    All-cons IsUtf8 (encode_utf8_all u) (map encode_utf8_all us) (u, (first, refl)) (tokens_encoded us p.1)

pub IsUtf8-tokens_of : (s : Text) → IsPointer s → IsUtf8 s → All IsUtf8 (tokens_of s)
IsUtf8-tokens_of s p u =
    let pointer : IsPointer u.0 = IsPointer-characters u.0 (subst IsPointer (sym u.1.1) p) in
    let us : List Text = tokens_of u.0 in
    let chars_are : text us ≡ u.0 = text-tokens_of pointer in
    let bytes_are : text (map encode_utf8_all us) ≡ s = text-encodes us ∙ ap encode_utf8_all chars_are ∙ u.1.1 in
    let tokens_are : tokens_of s ≡ map encode_utf8_all us = ap tokens_of (sym bytes_are) ∙ tokens_of-text (map encode_utf8_all us) in
    subst (λ (ts : List Text). All IsUtf8 ts) (sym tokens_are) (tokens_encoded us (subst (λ (t : Text). scalars t ≡ true) (sym chars_are) u.1.0))
