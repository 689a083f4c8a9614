use Rattle.jptr_tasks.proofs.LongPatchLemmas.{long_kept, long_laid_out}
use Rattle.jptr_tasks.proofs.long_patch.apply_in_layout.Goals as goal

pub returns-in-Kept : goal.returns-in-Kept
returns-in-Kept c =
    rw c.in-Kept.is record {
      applied = long_kept c.args.text.now c.args.operations.items c.apply_kept.result c.apply_kept.ensures.applied c.apply_kept.ensures.one_line;
      refused = c.apply_kept.ensures.refused;
    }

pub returns-in_default : goal.returns-in_default
returns-in_default c =
    record {
      applied = long_laid_out c.args.text.now c.args.operations.items c.args.layout c.apply_laid_out.result c.in_default.not-Kept c.apply_laid_out.ensures.applied;
      refused = c.apply_laid_out.ensures.refused;
    }
