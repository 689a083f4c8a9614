use Rattle.std.proofs.Common.{string_bytes, refl, sym, subst}
use Rattle.serde_json.specs.View.{view}
use Rattle.jsonptr.specs.Text.{Text}
use Rattle.jsonptr_text_step.specs.RawPatching.{RawPatchBytes}
use Rattle.jptr_tasks.specs.declared.layout.Layout.TheVariants.{Kept, Compact}
use Rattle.jsonptr_uses.proofs.patched_texts.patched_text.Goals as goal

pub returns-clause-applied : goal.returns-clause-applied
returns-clause-applied c = c.patch_law.ensures.printed c.args.text.now (string_bytes c.in_ok-new.new) c.args.patch Kept c.in_ok-new.ensures.yielded

pub returns-clause-carries : goal.returns-clause-carries
returns-clause-carries c = subst (λ (t : Text). RawPatchBytes c.args.text.now c.args.patch.operations.items t) (sym c.in_ok-new.ensures.yielded.2) (c.in_ok-new.ensures.yielded.3 refl).0

pub returns-clause-undone : goal.returns-clause-undone
returns-clause-undone c = λ d back again reads reads_back second.
    c.printed_inverse_law.ensures.undone c.args.text.now (string_bytes c.in_ok-new.new) again d (view c.args.patch.document) back Compact Kept Kept c.in_ok-inverse.inverse reads (c.patch_law.ensures.printed c.args.text.now (string_bytes c.in_ok-new.new) c.args.patch Kept c.in_ok-new.ensures.yielded) (λ e. cc) c.in_ok-inverse.ensures.inverse reads_back second
