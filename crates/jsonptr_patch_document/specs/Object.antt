-- When a JSON value is an operation, and why it is not (RFC 6902, section 4).
use Rattle.std.specs.Prelude.{◌≡◌, ◌≢◌, ℕ, ◌⊎◌, List, Some, None, codes}
use Rattle.serde_json.specs.Data.{Data, string, object, Members}
use Rattle.serde_json.specs.Find.{get}
use Rattle.serde_json.specs.View.{view}
use Rattle.serde_json.specs.declared.value.Value as json
use Rattle.jsonptr.specs.Text.{Text, text}
use Rattle.jsonptr.specs.ParseError.{IsParseErrorOf}
use Rattle.jsonptr.specs.Types.ParseError.{ParseError}
use Rattle.jsonptr_patch.specs.declared.operation.Operation.{Operation}
use Rattle.jsonptr_patch.specs.declared.operation.Operation.TheVariants.{Add, Remove, Replace, Move, Copy, Test}
use Rattle.jsonptr_patch_document.specs.declared.member.Member.{Member}
use Rattle.jsonptr_patch_document.specs.declared.member.Member.TheVariants.{Op, Path, From, Value}
use Rattle.jsonptr_patch_document.specs.declared.error.PatchDocumentError.{PatchDocumentError}
use Rattle.jsonptr_patch_document.specs.declared.error.PatchDocumentError.TheVariants.{NotObject, MissingMember, NotString, UnknownOp, NotPointer}

-- `member_key m`: the key of the member `m`
abbrev pub member_key : Member → Text
member_key Op = codes "op"
member_key Path = codes "path"
member_key From = codes "from"
member_key Value = codes "value"

-- `HasText d m s`: `d` is an object whose member `m` is the string `s`
abbrev pub HasText : Data → Member → Text → Type 0
HasText d m s = get (member_key m) d ≡ Some (string s)

-- `HasPointer d m tokens`: `d` is an object whose member `m` is a string, the JSON Pointer with these tokens
abbrev pub HasPointer : Data → Member → List Text → Type 0
HasPointer d m tokens = HasText d m (text tokens)

-- `HasValue d v`: `d` is an object whose member `value` is `v`
abbrev pub HasValue : Data → json.Value → Type 0
HasValue d v = get (member_key Value) d ≡ Some (view v)

-- `IsOperationObject d o`: `d` is an object, and its members say the operation `o`. Members that are not named here are
-- ignored
abbrev pub IsOperationObject : Data → Operation → Type 0
IsOperationObject d (Add path value) =
    HasText d Op (codes "add") × HasPointer d Path path × HasValue d value
IsOperationObject d (Remove path) = HasText d Op (codes "remove") × HasPointer d Path path
IsOperationObject d (Replace path value) =
    HasText d Op (codes "replace") × HasPointer d Path path × HasValue d value
IsOperationObject d (Move from path) =
    HasText d Op (codes "move") × HasPointer d Path path × HasPointer d From from
IsOperationObject d (Copy from path) =
    HasText d Op (codes "copy") × HasPointer d Path path × HasPointer d From from
IsOperationObject d (Test path value) =
    HasText d Op (codes "test") × HasPointer d Path path × HasValue d value

-- `RequiresValue op`: an operation of this name requires the member `value`
abbrev pub RequiresValue : Text → Type 0
RequiresValue op = (op ≡ codes "add") ⊎ ((op ≡ codes "replace") ⊎ (op ≡ codes "test"))

-- `RequiresFrom op`: an operation of this name requires the member `from`
abbrev pub RequiresFrom : Text → Type 0
RequiresFrom op = (op ≡ codes "move") ⊎ (op ≡ codes "copy")

-- `IsOp op`: it is the name of an operation
abbrev pub IsOp : Text → Type 0
IsOp op = RequiresValue op ⊎ (RequiresFrom op ⊎ (op ≡ codes "remove"))

-- `IsJsonObject d`: the value `d` is an object
abbrev pub IsJsonObject : Data → Type 0
IsJsonObject d = (members : Members) × (d ≡ object members)

-- `LacksNamedMember d m k e`: `d` has no member `m`, and `e` reports that, for operation number `k`
abbrev pub LacksNamedMember : Data → Member → ℕ → PatchDocumentError → Type 0
LacksNamedMember d m k e = (get (member_key m) d ≡ None) × (e ≡ MissingMember k m)

-- `LacksText d m k e`: `d` has no member `m` that is a string, and `e` reports why
abbrev pub LacksText : Data → Member → ℕ → PatchDocumentError → Type 0
LacksText d m k e =
    LacksNamedMember d m k e
    ⊎ ((v : Data) × (get (member_key m) d ≡ Some v) × ((s : Text) → v ≢ string s) × (e ≡ NotString k m))

-- `LacksPointer d m k e`: `d` has no member `m` that is a string and a JSON Pointer, and `e` reports why
abbrev pub LacksPointer : Data → Member → ℕ → PatchDocumentError → Type 0
LacksPointer d m k e =
    LacksText d m k e
    ⊎ ((s : Text) × (cause : ParseError) × HasText d m s × IsParseErrorOf s cause × (e ≡ NotPointer k m cause))

-- `LacksOp d k e`: `d` has no member `op` that is the name of an operation, and `e` reports why
abbrev pub LacksOp : Data → ℕ → PatchDocumentError → Type 0
LacksOp d k e =
    LacksText d Op k e
    ⊎ ((op : Text) × HasText d Op op × (IsOp op → ⊥) × (e ≡ UnknownOp k))

-- `LacksRest d op k e`: `d` lacks the `from` or `value` that the operation `op` requires, and `e` reports why
abbrev pub LacksRest : Data → Text → ℕ → PatchDocumentError → Type 0
LacksRest d op k e =
    (RequiresFrom op × LacksPointer d From k e) ⊎ (RequiresValue op × LacksNamedMember d Value k e)

-- `IsNoOperationObject d k e`: `d` is not an operation, and `e` reports the first reason, for operation number `k`. The
-- order of the reasons is: `d` is not an object, then its members `op`, `path`, and `from` or `value`
abbrev pub IsNoOperationObject : Data → ℕ → PatchDocumentError → Type 0
IsNoOperationObject d k e =
    ((IsJsonObject d → ⊥) × (e ≡ NotObject k))
    ⊎ ((IsJsonObject d × LacksOp d k e)
    ⊎ (((op : Text) × HasText d Op op × IsOp op × LacksPointer d Path k e)
    ⊎ ((op : Text) × (path : List Text) × HasText d Op op × IsOp op × HasPointer d Path path × LacksRest d op k e)))
