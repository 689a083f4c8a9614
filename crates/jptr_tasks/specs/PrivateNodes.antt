-- The rest of an object, key by key. Used only by private contracts.
use Rattle.std.specs.Prelude.{◌≡◌, List, Some, None}
use Rattle.json.specs.Json.{read_key}
use Rattle.json.specs.Token.{Token}
use Rattle.jsonptr.specs.Text.{Text}
use Rattle.jptr_tasks.specs.Nodes.{AreMembers}

-- `ListsRest ts ks`: the tokens `ts` are members with the keys `ks`, in this order, and then the end of an object
abbrev pub ListsRest : List Token → List Text → Type 0
ListsRest ts ks = (last rest : List Token) × AreMembers ts ks last × (read_key last ≡ Some (None, rest))
