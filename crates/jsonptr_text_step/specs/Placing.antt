-- Where the text of a value is in the text of a document.
use Rattle.std.specs.Prelude.{List, ◌++◌}
use Rattle.jsonptr.specs.Text.{Text}
use Rattle.jsonptr_text_search.specs.Search.{Choice}
use Rattle.jsonptr_text_resolve.specs.Selecting.{AreChoicesOf}
use Rattle.jsonptr_text_check.specs.Leading.{BeginsAt}

-- `IsAt text tokens piece after`: in the JSON tokens of `text`, the pointer with the tokens `tokens` leads to those of
-- `piece ++ after`, which begin with those of `piece`, one for one. So `piece` is the own text of that value: no equal value
-- elsewhere, no part of a JSON token, and of members with one key the last
abbrev pub IsAt : Text → List Text → Text → Text → Type 0
IsAt text tokens piece after = (cs : List Choice) × AreChoicesOf tokens cs × BeginsAt cs text piece (piece ++ after)
