-- The grammar of RFC 6901, section 3, rule by rule.
use Rattle.std.specs.Prelude.{ℕ, ◌≢◌, [], ◌∷◌, ◌++◌}
use Rattle.jsonptr_grammar.specs.Text.{Text}

-- `IsToken t`: the text `t` is a reference token, which consists of characters other than `/` and
-- `~` and of the escape sequences `~0` and `~1`
pub data IsToken : Text → Type 0 where
  end : IsToken []
  plain : {b : ℕ} {bs : Text} → b ≢ 126 → b ≢ 47 → IsToken bs → IsToken (b ∷ bs)
  tilde : {bs : Text} → IsToken bs → IsToken (126 ∷ 48 ∷ bs)
  slash : {bs : Text} → IsToken bs → IsToken (126 ∷ 49 ∷ bs)

-- `IsPointer s`: the text `s` is a JSON Pointer, which consists of tokens with a `/` before each
pub data IsPointer : Text → Type 0 where
  root : IsPointer []
  segment : {token rest : Text} → IsToken token → IsPointer rest → IsPointer (47 ∷ token ++ rest)
