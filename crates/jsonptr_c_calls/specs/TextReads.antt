-- Where values are in an open text, and the text without its comments.
use Rattle.std.specs.Prelude.{◌≡◌, ◌⊎◌, ◌+◌, ◌++◌, ◌<◌, ℕ, List, length, string_bytes}
use Rattle.jsonptr.specs.Text.{Text}
use Rattle.jsonptr_comments.specs.Comments.{IsUnterminated, IsWithoutComments}
use Rattle.jsonptr_c_calls.specs.ErrorNumbers.{capped}
use Rattle.jsonptr_c_calls.specs.Failures.{IsOutOfMemory}
use Rattle.jsonptr_c_calls.specs.Locations.{IsNotLocated, IsNotPointedAt, LocatesInText, PointsAt}
use Rattle.jsonptr_c_calls.specs.Marks.{IsMark}
use Rattle.jsonptr_c_calls.specs.declared.call_error.CallError.{CallError}
use Rattle.jsonptr_c_calls.specs.declared.call_error.CallError.TheVariants.{NoValue, OpenComment, OtherFormat}
use Rattle.jsonptr_c_calls.specs.declared.open_text.OpenText.{OpenText}
use Rattle.jsonptr_c_calls.specs.declared.text_format.TextFormat.{TextFormat}
use Rattle.jsonptr_c_calls.specs.declared.text_format.TextFormat.TheVariants.{Json, Commented, Toml}

-- `IsJsonOf format body json`: `json` is the text `body` without its comments. Of a TOML text there is none
abbrev pub IsJsonOf : TextFormat → Text → Text → Type 0
IsJsonOf Json body json = json ≡ body
IsJsonOf Commented body json = IsWithoutComments body json
IsJsonOf Toml body json = ⊥

-- `FailsToStrip format body e`: a block comment is not closed, or the text is TOML, or an allocation failed, and `e` reports that
abbrev pub FailsToStrip : TextFormat → Text → CallError → Type 0
FailsToStrip Json body e = ⊥
FailsToStrip Commented body e = IsOutOfMemory e ⊎ ((n : ℕ) × IsUnterminated body n × (e ≡ OpenComment n))
FailsToStrip Toml body e = e ≡ OtherFormat

-- `IsIn t mark body json`: the text `t` is the byte order mark `mark`, or none, and `body`, which is `json` without its comments
abbrev pub IsIn : OpenText → Text → Text → Text → Type 0
IsIn t mark body json = IsMark mark × (string_bytes t.text ≡ mark ++ body) × IsJsonOf t.format body json

-- `IsNotBare format text e`: a block comment of the text is not closed, or the text is TOML, or an allocation failed, and `e` reports
-- that
abbrev pub IsNotBare : TextFormat → Text → CallError → Type 0
IsNotBare format text e =
    IsOutOfMemory e ⊎ ((mark body : Text) × IsMark mark × (text ≡ mark ++ body) × FailsToStrip format body e)

-- `IsNotStripped t e`: the same of an open text
abbrev pub IsNotStripped : OpenText → CallError → Type 0
IsNotStripped t e = IsNotBare t.format (string_bytes t.text) e

-- `LocatesIn t bytes start end`: the pointer `bytes` resolves to a value in the text `t`, and the bytes from the offset `start` up to
-- `end` are the text of that value
abbrev pub LocatesIn : OpenText → List ℕ → ℕ → ℕ → Type 0
LocatesIn t bytes start end =
    (mark body json : Text) × (from to : ℕ) × IsIn t mark body json × LocatesInText json bytes from to
    × (start ≡ capped (from + length mark)) × (end ≡ capped (to + length mark))

-- `IsNotLocatedIn t bytes e`: the bytes of the value are not found in the text, and `e` reports why
abbrev pub IsNotLocatedIn : OpenText → List ℕ → CallError → Type 0
IsNotLocatedIn t bytes e =
    IsNotStripped t e ⊎ ((mark body json : Text) × IsIn t mark body json × IsNotLocated json bytes e)

-- `PointsAtIn t k bytes`: `bytes` are the pointer of a value of the text `t`, and the byte at the offset `k` is one of its text
abbrev pub PointsAtIn : OpenText → ℕ → List ℕ → Type 0
PointsAtIn t k bytes =
    (mark body json : Text) × (at : ℕ) × IsIn t mark body json × (k ≡ at + length mark) × PointsAt json at bytes

-- `ReportsAt k e f`: `f` is the error `e`, with the offset `k` if it is that of a byte without a value
abbrev pub ReportsAt : ℕ → CallError → CallError → Type 0
ReportsAt k (NoValue at) f = f ≡ NoValue k
ReportsAt k e f = f ≡ e

-- `IsNotPointedAtIn t k room e`: no pointer of a value at the offset `k` of the text can be copied to `room` bytes, and `e` reports why
abbrev pub IsNotPointedAtIn : OpenText → ℕ → ℕ → CallError → Type 0
IsNotPointedAtIn t k room e =
    IsNotStripped t e
    ⊎ (((mark body : Text) × IsMark mark × (string_bytes t.text ≡ mark ++ body) × (k < length mark) × (e ≡ NoValue k))
    ⊎ ((mark body json : Text) × (at : ℕ) × (f : CallError) × IsIn t mark body json × (k ≡ at + length mark)
    × IsNotPointedAt json at room f × ReportsAt k f e))

-- `IsBare format text s`: `s` is the text without its comments
abbrev pub IsBare : TextFormat → Text → Text → Type 0
IsBare format text s =
    (mark body json : Text) × IsMark mark × (text ≡ mark ++ body) × IsJsonOf format body json × (s ≡ mark ++ json)

-- `IsBareText t u`: the text `u` is the text `t` without its comments, and its format is JSON
abbrev pub IsBareText : OpenText → OpenText → Type 0
IsBareText t u = IsBare t.format (string_bytes t.text) (string_bytes u.text) × (u.format ≡ Json)
