use Rattle.std.proofs.Common.{rules, refl, [], ◌++◌, ap, sym, ◌∙◌, subst}
use Rattle.std.proofs.Output.{has_written_append, has_written_of_eq}
use Rattle.jsonptr_grammar.specs.Text.{Text, unesc}
use Rattle.jsonptr_grammar.specs.Grammar.{IsToken}
use Rattle.jsonptr_grammar.proofs.EscapeLemmas.{IsToken-esc, unesc-esc}
use Rattle.jsonptr_base.proofs.CutLemmas.{written_more}
use Rattle.jsonptr_base.proofs.token.TokenDisplay.fmt.Goals as goal

pub loop-plain-init : goal.loop-plain-init
loop-plain-init g c = record {
  utf8 = search rules;
  token = subst IsToken (sym c.encoded-rest.ensures) (IsToken-esc c.args.self.now);
  written = λ plain. ([], search rules, refl);
}

pub loop-plain-preserved : goal.loop-plain-preserved
loop-plain-preserved g c = record {
  utf8 = search rules;
  token = c.in-Some.ensures.token;
  written = λ plain.
      let so_far = c.loop-plain.invariant.written plain in
      let one = c.in_ok-write_str.ensures.writes so_far.1.plain (search rules) in
      let two = c.in_ok-write_str-2.ensures.writes one.plain (search rules) in (
        (so_far.0 ++ c.in-Some.plain.now) ++ c.in-Some.stands_for.now,
        has_written_append _ _ _ _ _ _ (has_written_append _ _ _ _ _ _ so_far.1 one) two,
        written_more _ _ _ _ _ _ c.in-Some.ensures.decoded so_far.2,
      );
}

pub returns-clause-writes : goal.returns-clause-writes
returns-clause-writes g c = λ plain ok.
    let so_far = c.loop-plain.invariant.written plain in
    let last = c.write_str-2.ensures.writes so_far.1.plain ok in
    has_written_of_eq _ _ _ _ _
    (ap (λ (x : Text). so_far.0 ++ x) (sym c.in_default.ensures) ∙ so_far.2 ∙ ap unesc c.encoded-rest.ensures ∙ unesc-esc c.args.self.now)
    (has_written_append _ _ _ _ _ _ so_far.1 last)
