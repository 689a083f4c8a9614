-- The bytes of a value in a text, and an offset that no value has.
use Rattle.std.proofs.Common.{◌≡◌, inl, inr, ℕ, ◌+◌, ◌-◌, ◌≤◌, List, ◌++◌, length, take, drop, ap, sym, ◌∙◌, subst, arith, length-append}
use Rattle.std.proofs.Math.Seq.{drop-append_seam, take-append_seam}
use Rattle.serde_json.specs.Data.{Data}
use Rattle.jsonptr.specs.Text.{Text}
use Rattle.jsonptr_text_resolve.specs.InText.{FindsInText}
use Rattle.jsonptr_text_check.specs.Child.{IsValueText}
use Rattle.jsonptr_text_step.specs.Locating.{IsOutside}
use Rattle.jsonptr_c_calls.specs.Locations.{IsNotPointedAt, LocatesInText}
use Rattle.jsonptr_c_calls.specs.Pointers.{HasTokens}
use Rattle.jsonptr_c_calls.specs.declared.call_error.Argument.TheVariants as argument
use Rattle.jsonptr_c_calls.specs.declared.call_error.CallError.TheVariants.{NoRoom, NotUtf8, NotJson, Resolve, NotLocated, NoValue}

-- the bytes of a value are bytes of the text
pub ends_in : (t bytes : List ℕ) (start end : ℕ) → LocatesInText t bytes start end → (start ≤ end) × (end ≤ length t)
ends_in t bytes start end (ts, before, piece, after, has, is, at, to) =
    let all : length t ≡ length (before ++ (piece ++ after)) = ap length is.parts in
    let first : length (before ++ (piece ++ after)) ≡ length before + length (piece ++ after) = length-append before (piece ++ after) in
    let rest : length (piece ++ after) ≡ length piece + length after = length-append piece after in
    (omega (arith, at, to), omega (arith, all, first, rest, to))

-- they are a text of the value
pub piece_of : (t bytes : List ℕ) (start end : ℕ) → LocatesInText t bytes start end → (ts : List Text) × (v : Data) × HasTokens bytes ts × FindsInText t ts v × IsValueText v (take (end - start) (drop start t))
piece_of t bytes start end (ts, before, piece, after, has, is, at, to) =
    let size : end - start ≡ length piece = omega (arith, at, to) in
    let left : drop start t ≡ piece ++ after = ap (λ n. drop n t) at ∙ (ap (λ x. drop (length before) x) is.parts ∙ drop-append_seam before (piece ++ after)) in
    let cut : take (end - start) (drop start t) ≡ piece = ap (λ n. take n (drop start t)) size ∙ (ap (λ x. take (length piece) x) left ∙ take-append_seam piece after) in
    (ts, is.value, has, is.found, subst (λ (x : List ℕ). IsValueText is.value x) (sym cut) is.whole)

-- where no value is, the byte is none of the document's
pub outside : (t : List ℕ) (k j room : ℕ) → IsNotPointedAt t k room (NoValue j) → IsOutside t k
outside t k j room (inl h) = absurd (let no : NoValue j ≡ NotUtf8 argument.Text _ = h.1 in cc)
outside t k j room (inr (u, inl (inl h))) = absurd h
outside t k j room (inr (u, inl (inr (inl (inl h))))) = absurd (let no : NoValue j ≡ NotJson h.0 = h.2 in cc)
outside t k j room (inr (u, inl (inr (inl (inr h))))) = absurd (let no : NoValue j ≡ Resolve h.0 = h.2 in cc)
outside t k j room (inr (u, inl (inr (inr h)))) = absurd (let no : NoValue j ≡ NotLocated = h.2 in cc)
outside t k j room (inr (u, inr (inl h))) = h.0
outside t k j room (inr (u, inr (inr h))) = absurd (let no : NoValue j ≡ NoRoom _ = h.5.1 in cc)
