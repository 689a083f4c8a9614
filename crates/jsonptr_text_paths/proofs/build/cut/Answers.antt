use Rattle.jsonptr_text_paths.proofs.BuildingLemmas.{cut_made}
use Rattle.jsonptr_text_paths.proofs.build.cut.Goals as goal

pub returns : goal.returns
returns c = cut_made c.args.at c.args.text.now c.split_once.result (c.split_once.ensures.byte c.requires (λ w o h. h))
