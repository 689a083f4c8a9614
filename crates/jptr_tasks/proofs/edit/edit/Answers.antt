use Rattle.std.proofs.lemmas.Result.{IfErr-weaker}
use Rattle.jsonptr_text_edit.specs.Edited.{text_of}
use Rattle.jptr_tasks.proofs.ResultLemmas.{laid_out, not_laid_out}
use Rattle.jptr_tasks.proofs.edit.edit.Goals as goal

pub returns-in_default : goal.returns-in_default
returns-in_default c =
    let edit = c.args.edit.now in
    let new = text_of c.in_ok-edited.edited in
    record {
      edited = laid_out c.args.text.now edit c.args.layout new c.laid_out.result c.in_default.not-Kept c.in_ok-edited.ensures.edited c.laid_out.ensures.laid_out;
      refused = IfErr-weaker c.laid_out.result _ _ (λ e r. not_laid_out c.args.text.now edit c.args.layout new e c.in_ok-edited.ensures.edited r) c.laid_out.ensures.refused;
    }
