-- The offsets of a value in its text.
use Rattle.std.proofs.Common.{◌≡◌, ℕ, ◌+◌, ◌-◌, ◌≤◌, List, ◌++◌, length, ap, refl, arith, length-append}
use Rattle.jsonptr.specs.Text.{Text}
use Rattle.jsonptr_text_step.specs.Locating.{IsLocated}
use Rattle.jsonptr_c_calls.specs.Locations.{LocatesInText}
use Rattle.jsonptr_c_calls.specs.Pointers.{HasTokens}

-- the lengths of the parts of a text
lengths : (t before piece after : Text) → t ≡ before ++ (piece ++ after) → length t ≡ length before + (length piece + length after)
lengths t before piece after is =
    let all : length t ≡ length (before ++ (piece ++ after)) = ap length is in
    let first : length (before ++ (piece ++ after)) ≡ length before + length (piece ++ after) = length-append before (piece ++ after) in
    let rest : length (piece ++ after) ≡ length piece + length after = length-append piece after in
    omega (arith, all, first, rest)

-- what is after a value is not longer than the text
pub after_fits : (t : Text) (tokens : List Text) (before piece after : Text) → IsLocated t tokens before piece after → length after ≤ length t
after_fits t tokens before piece after is = omega (arith, lengths t before piece after is.parts)

-- a value ends where what is after it begins
pub locates : (t bytes : List ℕ) (tokens : List Text) (before piece after : Text) → HasTokens bytes tokens → IsLocated t tokens before piece after → LocatesInText t bytes (length before) (length t - length after)
locates t bytes tokens before piece after has is =
    let end : length t - length after ≡ length before + length piece = omega (arith, lengths t before piece after is.parts) in
    (tokens, before, piece, after, has, is, refl, end)
