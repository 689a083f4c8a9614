use Rattle.std.proofs.Common.{sym, ◌∙◌}
use Rattle.jsonptr.proofs.Calling.{text_one}
use Rattle.jsonptr_session.proofs.MachineLemmas.{parsed_iff, unparsed_iff}
use Rattle.jsonptr_session.proofs.laws.text_law.Goals as goal

pub returns : goal.returns
returns c = record {
  taken = parsed_iff;
  refused = unparsed_iff c.parse_law.ensures.some c.parse_law.ensures.not_both;
  one_list = λ blank old new s ts h e. text_one new.tokens ts (h.0 ∙ sym e);
}
