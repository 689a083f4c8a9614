-- The value that tokens identify in the text of a document: its type, its length, its keys, and what it equals.
use Rattle.std.specs.Prelude.{◌≡◌, ℕ, List, [], ◌∷◌, map, Bool, IsTrue, ◌↔◌, ◌-◌, Option, Some, None, MatchOption, Vec, String, string_bytes, ⊤}
use Rattle.std.specs.declared.alloc.Global.{Global}
use Rattle.json.specs.Json.{read_key}
use Rattle.json.specs.Lex as lex
use Rattle.json.specs.Token.{Token, begin_object}
use Rattle.serde_json.specs.Data.{Data}
use Rattle.serde_json.specs.Read.{max_depth, read}
use Rattle.jsonptr.specs.Text.{Text}
use Rattle.jsonptr.specs.Json.{nodes}
use Rattle.jsonptr_text_search.specs.Reading.{ReadsTokens}
use Rattle.jsonptr_text_resolve.specs.InText.{FindsInText, RefusesInText}
use Rattle.jsonptr_patch.specs.Testing.{IsEqualBy}
use Rattle.jsonptr_patch.specs.declared.comparison.Comparison.TheVariants.{Numeric}
use Rattle.jsonptr_text_step.specs.Locating.{IsLocated}
use Rattle.jptr_tasks.specs.declared.task_error.TaskError.{TaskError}
use Rattle.jptr_tasks.specs.declared.task_error.TaskError.TheVariants.{NotJson, Resolve, NotLocated, Memory}
use Rattle.jsonptr_value.specs.NodeTypes.{type_of, length_of}
use Rattle.jsonptr_value.specs.declared.types.NodeType.{NodeType}

-- `HasType text ts t`: the value that the tokens `ts` identify in the document of `text` has the type `t`
abbrev pub HasType : Text → List Text → NodeType → Type 0
HasType text ts t = (d : Data) × FindsInText text ts d × (t ≡ type_of d)

-- `ValueHasLength text ts n`: that value has the length `n`, or there is none
abbrev pub ValueHasLength : Text → List Text → Option ℕ → Type 0
ValueHasLength text ts n = (d : Data) × FindsInText text ts d × (n ≡ length_of d)

-- `AreMembers ts ks rest`: the tokens `ts` are members with the keys `ks`, in this order, and then `rest`
abbrev pub AreMembers : List Token → List Text → List Token → Type 0
AreMembers ts [] rest = rest ≡ ts
AreMembers ts (k ∷ ks) rest =
    (at next : List Token) × (d : Data) × (read_key ts ≡ Some (Some k, at)) × ReadsTokens (max_depth - 1) at d next × AreMembers next ks rest

-- `ListsKeys piece ks`: `piece` is an object, and `ks` are the keys of its members, in their order
abbrev pub ListsKeys : Text → List Text → Type 0
ListsKeys piece ks =
    (ts last rest : List Token)
    × (lex.tokens piece ≡ begin_object ∷ ts) × AreMembers ts ks last × (read_key last ≡ Some (None, rest))

-- `IsNoObject piece`: `piece` does not begin as an object
abbrev pub IsNoObject : Text → Type 0
IsNoObject piece = (ts : List Token) → lex.tokens piece ≡ begin_object ∷ ts → ⊥

-- `HasKeysAt text ts found`: `found` are the keys of the object that the tokens `ts` identify in the document of `text`, in the
-- order of its own text. They identify no object if there are none
abbrev pub HasKeysAt : Text → List Text → Option (Vec (String Global) Global) → Type 0
HasKeysAt text ts found =
    (before piece after : Text) × IsLocated text ts before piece after
    × MatchOption found (IsNoObject piece) (λ v. ListsKeys piece (map string_bytes v.items))

-- `Tests text ts v b`: `b` is whether the value that the tokens `ts` identify in the document of `text` equals `v`, as a test of
-- a patch compares numbers by their values (RFC 6902, section 4.6)
abbrev pub Tests : Text → List Text → Data → Bool → Type 0
Tests text ts v b = (d : Data) × FindsInText text ts d × (IsTrue b ↔ IsEqualBy Numeric (nodes d) (nodes v))

-- `FailsToFind text ts e`: `e` is why no value is found, unless an allocation failed
abbrev pub FailsToFind : Text → List Text → TaskError → Type 0
FailsToFind text ts NotJson = read text ≡ None
FailsToFind text ts (Resolve f) = RefusesInText text ts f
FailsToFind text ts (Memory f) = ⊤
FailsToFind text ts e = ⊥

-- `FailsToListKeys text ts e`: `e` is why no keys are listed, unless an allocation failed. With `NotLocated` the value
-- is there
abbrev pub FailsToListKeys : Text → List Text → TaskError → Type 0
FailsToListKeys text ts NotLocated = (d : Data) × FindsInText text ts d
FailsToListKeys text ts e = FailsToFind text ts e
