-- The pair of a key and a value, by the grammar of TOML.
use Rattle.std.proofs.Common.{◌≡◌, [], ◌∷◌, ◌++◌, List, Bool, Some, Result, Ok, Err, IfOk, IsTrue, drop, refl}
use Rattle.std.specs.declared.alloc.AllocError.{AllocError}
use Rattle.toml_parser.specs.Lexical.{first, skip_ws}
use Rattle.toml_parser.specs.Strings.{Key, key}
use Rattle.toml.specs.Data.{Data}
use Rattle.toml.specs.Parse.{parse_value, key_equals}
use Rattle.jsonptr.specs.Text.{Text}
use Rattle.jsonptr_toml_edit.specs.Bytes.{IsTomlPair}

-- an equals sign follows the key
pub equals_after : (t rest : Text) (k : Key) → key t ≡ Some (k, rest) → first rest ≡ 61 → key_equals t ≡ Some (k, skip_ws (drop 1 rest))
unfolding key_equals
equals_after t rest k read sign = rw (read, sign) refl

pair_is : (t text : Text) (ts front path : List Text) (x last : Text) (v : Data) → ts ≡ front ++ x ∷ [] → key_equals t ≡ Some ((path, last), text) → last ≡ x → parse_value text ≡ Some v → IsTomlPair ts v t
pair_is t text ts front path x last v is read same value = (front, path, x, text, is, rw same at read, value)

pub pair_if : (t text : Text) (ts front path : List Text) (x last : Text) (v : Data) (r : Result Bool AllocError) → ts ≡ front ++ x ∷ [] → key_equals t ≡ Some ((path, last), text) → last ≡ x → IfOk r (λ is. IsTrue is → parse_value text ≡ Some v) → IfOk r (λ is. IsTrue is → IsTomlPair ts v t)
pair_if t text ts front path x last v (Ok is) whole read same h = λ holds. pair_is t text ts front path x last v whole read same (h holds)
pair_if t text ts front path x last v (Err f) whole read same h = tt
