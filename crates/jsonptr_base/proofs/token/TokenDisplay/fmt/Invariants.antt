use Rattle.std.proofs.Common.{◌≡◌, ◌++◌, length}
use Rattle.std.specs.Fmt.{HasWritten, IsPlainFormatter}
use denote.Text.{Utf8}
use denote.Shadow.{shadow}
use Rattle.jsonptr_grammar.specs.Text.{Text, unesc}
use Rattle.jsonptr_grammar.specs.Grammar.{IsToken}
use Rattle.jsonptr_base.proofs.token.TokenDisplay.fmt.Given as goal

abbrev pub invariant-loop-plain : goal.invariant-loop-plain
invariant-loop-plain g l = record {
  utf8 : shadow (Utf8 l.rest);
  token : IsToken l.rest;
  written : IsPlainFormatter l.initial.f → (w : Text) × HasWritten g.W.Write.write_str_gives l.initial.f w l.f × (w ++ unesc l.rest ≡ unesc l.initial.rest);
}

abbrev pub decreases-loop-plain : goal.decreases-loop-plain
decreases-loop-plain g l = length l.rest
