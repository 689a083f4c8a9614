-- What tokens resolve to in a document that is laid over another one.
use Rattle.std.specs.Prelude.{◌⊎◌, List}
use Rattle.serde_json.specs.Data.{Data}
use Rattle.jsonptr.specs.Text.{Text}
use Rattle.jsonptr.specs.Json.{nodes, FindsValue}
use Rattle.jsonptr.specs.Delete.{NamesNothing}
use Rattle.jsonptr.specs.Resolve.{Refuses}
use Rattle.jsonptr.specs.declared.resolve.Error.{Error}

-- `FindsInLayers upper lower ts value`: `ts` resolve to `value` in `upper`, or to nothing there and to `value` in `lower`
abbrev pub FindsInLayers : Data → Data → List Text → Data → Type 0
FindsInLayers upper lower ts value =
    FindsValue upper ts value ⊎ (NamesNothing (nodes upper) ts × FindsValue lower ts value)

-- `RefusesIn upper lower ts e`: `ts` resolve to nothing in either, and `e` reports why for `lower`
abbrev pub RefusesIn : Data → Data → List Text → Error → Type 0
RefusesIn upper lower ts e = NamesNothing (nodes upper) ts × Refuses (nodes lower) ts e
