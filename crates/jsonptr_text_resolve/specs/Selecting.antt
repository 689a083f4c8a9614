-- Selectors that are made of tokens, and where a search stops, in the words of node maps.
use Rattle.std.specs.Prelude.{◌≡◌, ℕ, ◌<◌, ◌^◌, List, [], ◌∷◌, ◌++◌, length, Some, ⊤}
use Rattle.serde_json.specs.Data.{Data}
use Rattle.jsonptr_text_search.specs.Search.{Choice, kind_of}
use Rattle.jsonptr_text_search.specs.declared.outcome.Kind.{Kind}
use Rattle.jsonptr.specs.Text.{Text, dec, text}
use Rattle.jsonptr.specs.Following.{StopsBefore}
use Rattle.jsonptr.specs.Content.{label_of}
use Rattle.jsonptr.specs.Json.{content, nodes}

-- `IsChoiceOf x w`: the selector `w` has the token `x` as its key, and the index whose decimal text `x` is, if it fits 64 bits
pub record IsChoiceOf (x : Text) (w : Choice) : Type 0 where
  pub key_is : w.0 ≡ x
  pub index_is : (i : ℕ) → w.1 ≡ Some i → x ≡ dec i
  pub each_index : (i : ℕ) → i < 2 ^ 64 → x ≡ dec i → w.1 ≡ Some i

-- `AreChoicesOf xs ws`: the same of each token and each selector, in order
abbrev pub AreChoicesOf : List Text → List Choice → Type 0
AreChoicesOf [] [] = ⊤
AreChoicesOf [] (w ∷ ws) = ⊥
AreChoicesOf (x ∷ xs) [] = ⊥
AreChoicesOf (x ∷ xs) (w ∷ ws) = IsChoiceOf x w × AreChoicesOf xs ws

-- `StopsLeft d tokens left k`: evaluating `tokens` in `d` stops with `left` tokens left, at a value of kind `k`
pub record StopsLeft (d : Data) (tokens : List Text) (left : ℕ) (k : Kind) : Type 0 where
  pub front : List Text
  pub token : Text
  pub rest : List Text
  pub at : Data
  pub split : tokens ≡ front ++ token ∷ rest
  pub left_is : left ≡ length (token ∷ rest)
  pub kind_is : k ≡ kind_of at
  pub stops : StopsBefore (nodes d) tokens (length front) (length (text front)) (label_of (content at)) token
