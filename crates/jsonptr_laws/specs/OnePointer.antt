-- Which pointers the nodes of a document have.
use Rattle.std.specs.Prelude.{◌≡◌, [], ◌∷◌, IsUtf8, ⊤}
use Rattle.jsonptr.specs.Text.{Text, tokens_of}
use Rattle.jsonptr.specs.Grammar.{IsPointer}
use Rattle.jsonptr.specs.Node.{key, place, Path, NodeMap, Names}

-- `HasUtf8Keys w`: each key on path `w` is UTF-8
abbrev pub HasUtf8Keys : Path → Type 0
HasUtf8Keys [] = ⊤
HasUtf8Keys (key k ∷ w) = IsUtf8 k × HasUtf8Keys w
HasUtf8Keys (place i ∷ w) = HasUtf8Keys w

-- `HasOnePointer n w`: there is a UTF-8 pointer text whose tokens evaluate to path `w` in `n`, and no other pointer
-- text does
pub record HasOnePointer (n : NodeMap) (w : Path) : Type 0 where
  pub text : Text
  pub utf8 : IsUtf8 text
  pub pointer : IsPointer text
  pub named : Names n (tokens_of text) w
  pub only : (s : Text) → IsPointer s → Names n (tokens_of s) w → s ≡ text
