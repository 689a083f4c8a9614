-- References inside a JSON document, and where they lead.
use Rattle.std.specs.Prelude.{◌≡◌, ◌≤◌, ◌<◌, ◌==◌, ℕ, zero, suc, List, [], ◌∷◌, Option, Some, None, option_and_then, codes, if◌then◌else◌}
use Rattle.serde_json.specs.Data.{Data}
use Rattle.serde_json.specs.Find.{get, as_str}
use Rattle.jsonptr.specs.Text.{Text}
use Rattle.jsonptr.specs.Json.{nodes, FindsValue}
use Rattle.jsonptr.specs.Resolve.{Refuses}
use Rattle.jsonptr_fragment.specs.Fragment.{IsFragmentOf}
use Rattle.jsonptr_fragment.specs.FragmentError.{IsFragmentErrorOf}
use Rattle.jsonptr_uses.specs.declared.references.ReferenceError.{ReferenceError}
use Rattle.jsonptr_uses.specs.declared.references.ReferenceError.TheVariants.{NotAPointer, Missing, TooLong}

-- `if_hash s`: the text `s`, if it begins with `#`
abbrev pub if_hash : Text → Option Text
if_hash [] = None
if_hash (b ∷ bs) = if b == 35 then Some (b ∷ bs) else None

-- `reference_of d`: the text of the member `$ref` of an object, whatever its other members are, if it begins with `#`.
-- A value without such a member is not a reference
abbrev pub reference_of : Data → Option Text
reference_of d = option_and_then if_hash (option_and_then as_str (get (codes "$ref") d))

-- `Refers document ts s`: `ts` resolve to a reference in the document, and `s` is its text
abbrev pub Refers : Data → List Text → Text → Type 0
Refers document ts s = (d : Data) × FindsValue document ts d × (reference_of d ≡ Some s)

-- `Follows document ts n us`: `n` references, one after the other, lead from the tokens `ts` to the tokens `us`. The text
-- of a reference is the fragment of a pointer (RFC 6901, section 6)
abbrev pub Follows : Data → List Text → ℕ → List Text → Type 0
Follows document ts zero us = us ≡ ts
Follows document ts (suc n) us =
    (vs : List Text) × (s : Text) × Follows document ts n vs × Refers document vs s × IsFragmentOf s us

-- `EndsAt document ts n value`: `n` references lead from `ts` to `value`, which is not a reference
abbrev pub EndsAt : Data → List Text → ℕ → Data → Type 0
EndsAt document ts n value =
    (us : List Text) × Follows document ts n us × FindsValue document us value × (reference_of value ≡ None)

-- `RefusesReference document ts steps e`: `ts` do not lead to a value by at most `steps` references, and `e` reports
-- why. A reference is not the fragment of a pointer, or does not resolve, or there are more of them
abbrev pub RefusesReference : Data → List Text → ℕ → ReferenceError → Type 0
RefusesReference document ts steps (NotAPointer e) =
    (n : ℕ) × (us : List Text) × (s : Text) × (n < steps)
    × Follows document ts n us × Refers document us s × IsFragmentErrorOf s e
RefusesReference document ts steps (Missing e) =
    (n : ℕ) × (us : List Text) × (n ≤ steps) × Follows document ts n us × Refuses (nodes document) us e
RefusesReference document ts steps TooLong =
    (us : List Text) × (s : Text) × Follows document ts steps us × Refers document us s
