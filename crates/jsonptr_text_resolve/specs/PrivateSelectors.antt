-- Words of private clauses: the index that a token is.
use Rattle.std.specs.Prelude.{◌≡◌, ℕ, ◌<◌, ◌^◌, List, [], ◌∷◌, ◌++◌, Option, Some}
use Rattle.jsonptr.specs.Text.{Text, dec}
use Rattle.jsonptr_text_search.specs.Search.{Choice}
use Rattle.jsonptr_text_resolve.specs.Selecting.{AreChoicesOf}

-- `NamesIndex x o`: `o` is the number of 64 bits whose decimal text is `x`, if there is one
pub record NamesIndex (x : Text) (o : Option ℕ) : Type 0 where
  pub index_is : (i : ℕ) → o ≡ Some i → x ≡ dec i
  pub each_index : (i : ℕ) → i < 2 ^ 64 → x ≡ dec i → o ≡ Some i

-- `HasChild tokens cs`: `cs` are the selectors of `tokens`, and one more
pub record HasChild (tokens : List Text) (cs : List Choice) : Type 0 where
  pub above : List Choice
  pub child : Choice
  pub split : cs ≡ above ++ child ∷ []
  pub are : AreChoicesOf tokens above
