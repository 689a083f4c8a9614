use Rattle.jsonptr_patch_document.proofs.FaultyLemmas.{text_of_error}
use Rattle.jsonptr_patch_document.proofs.laws.pointer_text_law.Goals as goal

pub returns : goal.returns
returns c = text_of_error
