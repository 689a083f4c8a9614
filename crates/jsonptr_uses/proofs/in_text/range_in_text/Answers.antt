use Rattle.std.proofs.Common.{ℕ, Option, subst}
use Rattle.jsonptr.specs.Pointer.{tokens}
use Rattle.jsonptr_uses.proofs.InTextLemmas.{IsNumberIn, no_first}
use Rattle.jsonptr_uses.proofs.in_text.range_in_text.Goals as goal

pub returns-in-None : goal.returns-in-None
returns-in-None c = record {
  range =
      no_first c.args.text.now (tokens c.args.first) (tokens c.args.last) c.in_ok-last.last
      (subst (λ (n : Option ℕ). IsNumberIn c.args.text.now (tokens c.args.first) n) c.in-None.is c.in_ok-first.ensures.number) c.in_ok-last.ensures.number;
}
