use Rattle.jsonptr_text_step.proofs.RawLemmas.{patch_bytes}
use Rattle.jsonptr_text_step.proofs.laws.raw_patch_law.Goals as goal

pub returns : goal.returns
returns c = patch_bytes
