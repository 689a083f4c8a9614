-- Which bytes of a TOML text an edit changes.
use Rattle.std.specs.Prelude.{◌≡◌, ◌≢◌, ◌⊎◌, ℕ, suc, ◌<◌, ◌-◌, ◌||◌, Bool, true, false, List, [], ◌∷◌, ◌++◌, length, slice_index, Option, Some, None}
use Rattle.toml_parser.specs.Lexical.{first, skip_ws, is_bare, is_word}
use Rattle.toml_parser.specs.Strings.{starts_string}
use Rattle.toml.specs.Data.{Data, table, array, Members, no_members, Items, no_items}
use Rattle.toml.specs.Parse.{parse_value, key_equals}
use Rattle.jsonptr.specs.Text.{Text}
use Rattle.jsonptr.specs.Node.{NodeMap}
use Rattle.jsonptr.specs.TomlValue.{nodes}
use Rattle.jsonptr.specs.Assigning.{Assigns}
use Rattle.jsonptr_toml.specs.InToml.{ReadsAsToml, FindsInToml}
use Rattle.jsonptr_text_piece.specs.Spacing.{Splices}

-- `IsFiller t`: the text `t` is white space, line breaks and comments alone: it reads, alone, as an empty document
abbrev pub IsFiller : Text → Type 0
IsFiller t = ReadsAsToml t (table no_members)

-- `IsComma t`: the text `t` is a comma with fillers around it
abbrev pub IsComma : Text → Type 0
IsComma t = (before after : Text) × IsFiller before × IsFiller after × (t ≡ before ++ 44 ∷ after)

-- `HaveOneTomlComma lead trail`: both texts are fillers, and one of them may have one comma
abbrev pub HaveOneTomlComma : Text → Text → Type 0
HaveOneTomlComma lead trail =
    (IsFiller lead × IsFiller trail) ⊎ ((IsComma lead × IsFiller trail) ⊎ (IsFiller lead × IsComma trail))

-- `EndsAs ts ks`: both lists of tokens are empty, or the last of the tokens `ks` is that of `ts`, or `-`
abbrev pub EndsAs : List Text → List Text → Type 0
EndsAs ts ks =
    ((ts ≡ []) × (ks ≡ []))
    ⊎ ((front back : List Text) × (x y : Text) × (ts ≡ front ++ x ∷ []) × (ks ≡ back ++ y ∷ [])
    × ((y ≡ x) ⊎ (y ≡ 45 ∷ [])))

-- `HoldsAlone ks v t`: the text `t` reads, alone, as the document that assigning `v` at the tokens `ks` makes of an empty table
abbrev pub HoldsAlone : List Text → Data → Text → Type 0
HoldsAlone ks v t =
    (d : Data) × ReadsAsToml t d
    × ((replaced : Option NodeMap) × Assigns (nodes (table no_members)) ks (nodes v) (nodes d) replaced)

-- `AreItemsOf ts v t`: the text `t` is pairs and headers that hold `v` alone, at keys that end as the tokens `ts` do, with
-- what is read away: comments and blank lines
abbrev pub AreItemsOf : List Text → Data → Text → Type 0
AreItemsOf ts v t = (ks : List Text) × EndsAs ts ks × HoldsAlone ks v t

-- `IsAlone ts v t`: the text `t`, alone, is a text of the value `v`, or pairs and headers that hold it
abbrev pub IsAlone : List Text → Data → Text → Type 0
IsAlone ts v t = (parse_value t ≡ Some v) ⊎ AreItemsOf ts v t

-- `HasMore w x`: the value `x` is `w` with a value added that replaces nothing
abbrev pub HasMore : Data → Data → Type 0
HasMore w x = (ts : List Text) × (e : Data) × Assigns (nodes w) ts (nodes e) (nodes x) None

-- `IsOpen ks w t`: a line after the text `t` adds to the value `w` that `t` holds at the keys `ks`. So headers or dotted
-- keys make that value: TOML lets nothing be added to one that has a text, as after an equals sign
abbrev pub IsOpen : List Text → Data → Text → Type 0
IsOpen ks w t = (line : Text) × (x : Data) × HasMore w x × HoldsAlone ks x (t ++ 10 ∷ line)

-- `MakeAlone ts w t`: the text `t` is the headers and dotted keys that make the value `w`, a table or an array of tables,
-- and nothing else, apart from what is read away
abbrev pub MakeAlone : List Text → Data → Text → Type 0
MakeAlone ts w t = (ks : List Text) × EndsAs ts ks × HoldsAlone ks w t × IsOpen ks w t

-- `IsOneTomlChild ts v t`: the text `t` is one member or element with the value `v`, with at most one comma and fillers
-- beside it
pub record IsOneTomlChild (ts : List Text) (v : Data) (t : Text) : Type 0 where
  pub lead : Text
  pub child : Text
  pub trail : Text
  pub is : t ≡ lead ++ (child ++ trail)
  pub whole : IsAlone ts v child
  pub beside : HaveOneTomlComma lead trail

-- `IsTomlPair ts v t`: the text `t` is a key, whose last part is the last of the tokens, an equals sign and a text of the
-- value `v`
abbrev pub IsTomlPair : List Text → Data → Text → Type 0
IsTomlPair ts v t =
    (front path : List Text) × (x text : Text) × (ts ≡ front ++ x ∷ []) × (key_equals t ≡ Some ((path, x), text))
    × (parse_value text ≡ Some v)

-- `IsLine t`: only the last byte of the text `t` can be a line feed
abbrev pub IsLine : Text → Type 0
IsLine t = (i : ℕ) → i < length t → slice_index t i ≡ 10 → suc i ≡ length t

-- `IsRestOfLine t`: the text `t` is white space, a comment, and then at most the end of the line
abbrev pub IsRestOfLine : Text → Type 0
IsRestOfLine t = IsFiller t × IsLine t

-- `starts_key t`: whether a key is at the start of the text `t`, after spaces and tabs
abbrev pub starts_key : Text → Bool
starts_key t = is_bare (first (skip_ws t)) || starts_string (skip_ws t)

-- `IsHeaderLine t`: the text `t` is one line, and begins with `[` after spaces and tabs
abbrev pub IsHeaderLine : Text → Type 0
IsHeaderLine t = IsLine t × (first (skip_ws t) ≡ 91)

-- `IsPairLine t`: the text `t` is spaces and tabs, a pair, and the rest of its line
abbrev pub IsPairLine : Text → Type 0
IsPairLine t =
    (indent pair rest : Text) × (t ≡ indent ++ (pair ++ rest)) × (skip_ws indent ≡ [])
    × ((x : Text) × (y : Data) × IsTomlPair (x ∷ []) y pair) × IsRestOfLine rest

-- `IsItemRun t`: the text `t` begins with a header or a key, after spaces and tabs, and its last line ends with a header or a
-- pair, and the rest of that line. So no comment and no blank line is above the first, or below the last
pub record IsItemRun (t : Text) : Type 0 where
  pub above : Text
  pub line : Text
  pub is : t ≡ above ++ line
  pub begins : (first (skip_ws t) ≡ 91) ⊎ (starts_key t ≡ true)
  pub broken : (above ≡ []) ⊎ (slice_index above (length above - 1) ≡ 10)
  pub ends : IsHeaderLine line ⊎ IsPairLine line

-- `IsTomlContainer w`: the value `w` is a table or an array
abbrev pub IsTomlContainer : Data → Type 0
IsTomlContainer w = ((ms : Members) × (w ≡ table ms)) ⊎ ((ds : Items) × (w ≡ array ds))

-- `IsBetweenTokens before after`: neither the last byte of the text `before` nor the first of `after` is one that a number,
-- a date-time or a word can have. So between them each of these is whole
abbrev pub IsBetweenTokens : Text → Text → Type 0
IsBetweenTokens before after =
    (is_word (slice_index before (length before - 1)) ≡ false) × (is_word (first after) ≡ false)

-- `IsWholeText w t before after`: the text `t`, with nothing beside it, is one of the value `w`, and whole between the texts
-- `before` and `after`
abbrev pub IsWholeText : Data → Text → Text → Text → Type 0
IsWholeText w t before after = (parse_value t ≡ Some w) × IsBetweenTokens before after

-- `ReplacesOne ts w v middle piece before after`: between `before` and `after` a text of the value `w` becomes one of `v`.
-- Or, if headers or dotted keys make `w`, these become pairs and headers that hold `v` alone. What is above the first and
-- below the last of them stays
abbrev pub ReplacesOne : List Text → Data → Data → Text → Text → Text → Text → Type 0
ReplacesOne ts w v middle piece before after =
    (IsWholeText w middle before after × (parse_value piece ≡ Some v))
    ⊎ (MakeAlone ts w middle × IsItemRun middle × AreItemsOf ts v piece)

-- `AddsTomlChild ts v middle piece`: `piece` is one member or element with the value `v`. `middle` is a filler, mostly
-- empty, which stays in it
abbrev pub AddsTomlChild : List Text → Data → Text → Text → Type 0
AddsTomlChild ts v middle piece = IsOneTomlChild ts v piece × ((lead rest : Text) × (piece ≡ lead ++ (middle ++ rest))) × IsFiller middle

-- `AssignsTomlBytes old ts v new`: the text of the value that the tokens identify, or what makes it, is replaced by one of
-- `v`. Or a text of one member or element with the value `v` is added, and nothing is taken away
pub record AssignsTomlBytes (old : Text) (ts : List Text) (v : Data) (new : Text) : Type 0 where
  pub middle : Text
  pub piece : Text
  pub splices : Splices old new middle piece
  pub made : ((w : Data) × FindsInToml old ts w × ReplacesOne ts w v middle piece splices.before splices.after)
      ⊎ AddsTomlChild ts v middle piece

-- `IsEmptyToml v`: `v` is a table without members, or an array without elements
abbrev pub IsEmptyToml : Data → Type 0
IsEmptyToml v = (v ≡ table no_members) ⊎ (v ≡ array no_items)

-- `Empties ts piece`: `piece` is the text of the table or array above the value that the tokens identify, now empty
abbrev pub Empties : List Text → Text → Type 0
Empties ts piece =
    (front : List Text) × (x : Text) × (ts ≡ front ++ x ∷ [])
    × ((e : Data) × IsEmptyToml e × IsAlone front e piece)

-- `IsCommaInLine t`: the text `t` is a comma with fillers around it, of which the second is the rest of its line
abbrev pub IsCommaInLine : Text → Type 0
IsCommaInLine t = (before after : Text) × IsFiller before × IsRestOfLine after × (t ≡ before ++ 44 ∷ after)

-- `IsHashBefore t i j`: a `#` is at the offset `j` of the text `t`, and no line feed is between it and the offset `i`
abbrev pub IsHashBefore : Text → ℕ → ℕ → Type 0
IsHashBefore t i j = (j < i) × (slice_index t j ≡ 35) × ((k : ℕ) → j < k → k < i → slice_index t k ≢ 10)

-- `HasNoBlankLine t`: in the text `t` a `#` comes before each line feed, on its line
abbrev pub HasNoBlankLine : Text → Type 0
HasNoBlankLine t = (i : ℕ) → i < length t → slice_index t i ≡ 10 → (j : ℕ) × IsHashBefore t i j

-- `StartsNoKey t`: after spaces and tabs no key is at the start of the text `t`
abbrev pub StartsNoKey : Text → Type 0
StartsNoKey t = starts_key t ≡ false

-- `GoesAbove lead after`: the text `lead` is spaces and tabs; or comments in the lines directly above too, if no key is at
-- the start of the text `after`
abbrev pub GoesAbove : Text → Text → Type 0
GoesAbove lead after = (skip_ws lead ≡ []) ⊎ (IsFiller lead × HasNoBlankLine lead × StartsNoKey after)

-- `GoAlong lead trail after`: the texts `lead` and `trail` may go with what is between them: the rest of its line, one comma
-- with the rest of the line of that, and what is above, if `after` comes next
abbrev pub GoAlong : Text → Text → Text → Type 0
GoAlong lead trail after =
    (IsComma lead × IsRestOfLine trail) ⊎ (GoesAbove lead after × (IsRestOfLine trail ⊎ IsCommaInLine trail))

-- `CutsText ts v middle after`: the text `middle`, which `after` follows, is the text of an element with the value `v`, or
-- the pair of a member, with what goes along
pub record CutsText (ts : List Text) (v : Data) (middle after : Text) : Type 0 where
  pub lead : Text
  pub child : Text
  pub trail : Text
  pub is : middle ≡ lead ++ (child ++ trail)
  pub whole : (parse_value child ≡ Some v) ⊎ IsTomlPair ts v child
  pub along : GoAlong lead trail after

-- `DeletesTomlBytes old ts new`: what is cut out is the text or the pair of the value that the tokens identify, or what
-- makes it. If nothing else mentions the table or array that it was in, that is left, empty
pub record DeletesTomlBytes (old : Text) (ts : List Text) (new : Text) : Type 0 where
  pub middle : Text
  pub piece : Text
  pub v : Data
  pub splices : Splices old new middle piece
  pub found : FindsInToml old ts v
  pub whole : CutsText ts v middle splices.after ⊎ MakeAlone ts v middle
  pub left : (piece ≡ []) ⊎ Empties ts piece
