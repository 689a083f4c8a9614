-- Consecutive tokens of a pointer. Used only by private contracts; no public contract depends on this file.
use Rattle.std.specs.Prelude.{List, Option, None, MatchOption}
use Rattle.jsonptr_grammar.specs.Text.{Text}
use Rattle.jsonptr.specs.declared.pointer.Pointer.{Pointer}
use Rattle.jsonptr.specs.declared.pointer.slice.Span.{Span}
use Rattle.jsonptr.specs.declared.pointer.slice.Span.TheVariants.{All, From, To, Between}
use Rattle.jsonptr.specs.Slice.{GivesAll, GivesFrom, GivesTo, GivesRange}

-- `GivesSpan span ts r`: `r` is the pointer with the tokens of `ts` in `span`, or `None` if `ts` does not have them
abbrev pub GivesSpan : Span → List Text → Option Pointer → Type 0
GivesSpan All = GivesAll
GivesSpan (From a) = GivesFrom a
GivesSpan (To b) = GivesTo b
GivesSpan (Between a b) = GivesRange a b

-- `IsSpanOf gives ts r`: `r` is a span whose tokens of `ts` are what `gives` asks for, or `None` if it asks for `None`
abbrev pub IsSpanOf : (List Text → Option Pointer → Type 0) → List Text → Option Span → Type 0
IsSpanOf gives ts r = MatchOption r
    (gives ts None)
    (λ span. (part : Option Pointer) → GivesSpan span ts part → gives ts part)
