use Rattle.jsonptr_base.proofs.EncodingLemmas.{encoding_some, encoding_not_both, encoding_one}
use Rattle.jsonptr_base.proofs.laws.encoding_law.Goals as goal

pub returns : goal.returns
returns c = record { some = encoding_some; not_both = encoding_not_both; one = encoding_one }
