-- The two texts of a token, and the text of a list of tokens (RFC 6901, sections 3 and 4).
--
-- A text is the list of its bytes. Each definition here also makes sense for a list of characters:
-- it compares with `/` (47), `~` (126), `0` (48) and `1` (49) only, which are characters of one
-- byte.
use Rattle.std.specs.Prelude.{◌≢◌, ℕ, ◌+◌, ◌==◌, All, Bool, true, false, if◌then◌else◌, List, [], ◌∷◌, ◌++◌, map, drop}
use Rattle.std.specs.List.{slice_split}
use Rattle.std.specs.Int.Digits.{digits_of}

-- `Text`: a list of bytes, or of characters
abbrev pub Text : Type 0
Text = List ℕ

-- `is_slash b`: the byte `b` is `/`
abbrev pub is_slash : ℕ → Bool
is_slash b = b == 47

-- `escape_of b` is the byte `b` in encoded text: `~0` for `~`, `~1` for `/`, and itself for any
-- other
abbrev pub escape_of : ℕ → Text
escape_of b = if b == 126 then 126 ∷ 48 ∷ [] else (if b == 47 then 126 ∷ 49 ∷ [] else b ∷ [])

-- `esc t` is the encoded text of the token with the decoded text `t`
abbrev pub esc : Text → Text
esc [] = []
esc (b ∷ bs) = escape_of b ++ esc bs

-- `escaped_by b` is the byte that `~` and then `b` encode: `/` if `b` is `1`, and `~` otherwise
abbrev pub escaped_by : ℕ → ℕ
escaped_by b = if b == 49 then 47 else 126

-- `unesc_after escaped t` decodes `t` in one pass; `escaped` says whether the byte before `t` is a
-- `~`. For a `t` that is not a token, the result has no meaning
abbrev pub unesc_after : Bool → Text → Text
unesc_after escaped [] = []
unesc_after false (b ∷ bs) = if b == 126 then unesc_after true bs else (b ∷ unesc_after false bs)
unesc_after true (b ∷ bs) = escaped_by b ∷ unesc_after false bs

-- `unesc t` is the decoded text of the token with the encoded text `t`
abbrev pub unesc : Text → Text
unesc = unesc_after false

-- `text ts` is the text of the pointer of the decoded tokens `ts`: a `/` and the encoded text, for
-- each
abbrev pub text : List Text → Text
text [] = []
text (t ∷ ts) = 47 ∷ esc t ++ text ts

-- `HasNoTilde s`: the text `s` has no `~`. If it is an encoded text, nothing in it has to be
-- decoded
abbrev pub HasNoTilde : Text → Type 0
HasNoTilde s = All (λ b. b ≢ 126) s

-- `encoded_tokens s` are the texts between the slashes of `s`, from the first `/` on
abbrev pub encoded_tokens : Text → List Text
encoded_tokens s = drop 1 (slice_split is_slash s)

-- `tokens_of s` are the decoded tokens of the pointer with the text `s`
abbrev pub tokens_of : Text → List Text
tokens_of s = map unesc (encoded_tokens s)

-- `dec n` is the decimal text of the number `n`, without leading zeros
abbrev pub dec : ℕ → Text
dec n = if n == 0 then 48 ∷ [] else map (λ d. 48 + d) (digits_of 10 n)
