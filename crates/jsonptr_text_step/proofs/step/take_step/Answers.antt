use Rattle.std.proofs.Common.{IfOk, IfSome, string_bytes, sym, subst}
use Rattle.jsonptr.specs.Pointer.{tokens}
use Rattle.jsonptr_text_step.specs.PrivateReaching.{ReachedInText, Becomes}
use Rattle.jsonptr_text_step.specs.Steps.{ReplacesInText, StepsText, StepBytes}
use Rattle.jsonptr_text_step.specs.declared.step.Step.{Step}
use Rattle.jsonptr_text_step.proofs.EditLemmas.{if_new}
use Rattle.jsonptr_text_step.proofs.OperatingLemmas.{replaces_text}
use Rattle.jsonptr_text_step.proofs.step.take_step.Goals as goal

pub returns-in-Assign-clause-stepped : goal.returns-in-Assign-clause-stepped
returns-in-Assign-clause-stepped c =
    subst (λ (s : Step). IfOk c.assign_at.result (λ o. IfSome o (λ m. StepsText c.args.text.now s (string_bytes m.text)))) (sym c.in-Assign.is) c.assign_at.ensures.assigned

pub returns-in-Delete-clause-stepped : goal.returns-in-Delete-clause-stepped
returns-in-Delete-clause-stepped c =
    subst (λ (s : Step). IfOk c.cut_out.result (λ o. IfSome o (λ m. StepsText c.args.text.now s (string_bytes m.text)))) (sym c.in-Delete.is) c.cut_out.ensures.deleted

pub returns-in-Add-clause-stepped : goal.returns-in-Add-clause-stepped
returns-in-Add-clause-stepped c =
    subst (λ (s : Step). IfOk c.add_at.result (λ o. IfSome o (λ m. StepsText c.args.text.now s (string_bytes m.text)))) (sym c.in-Add.is) c.add_at.ensures.added

pub returns-in-Replace-clause-stepped : goal.returns-in-Replace-clause-stepped
returns-in-Replace-clause-stepped c =
    let old = c.args.text.now in
    let ts = tokens c.in-Replace.pointer in
    let flat = string_bytes c.in-Replace.printed.now.flat in
    subst (λ (s : Step). IfOk c.replace_at.result (λ o. IfSome o (λ m. StepsText old s (string_bytes m.text)))) (sym c.in-Replace.is)
    (if_new c.replace_at.result
    (λ m. ReachedInText old (string_bytes m.text) ts (Becomes flat))
    (λ m. ReplacesInText old ts flat (string_bytes m.text))
    (λ m h. replaces_text old (string_bytes m.text) ts flat h)
    c.replace_at.ensures.reached)

pub returns-in-Assign-clause-bytes : goal.returns-in-Assign-clause-bytes
returns-in-Assign-clause-bytes c =
    subst (λ (s : Step). IfOk c.assign_at.result (λ o. IfSome o (λ m. StepBytes c.args.text.now s (string_bytes m.text)))) (sym c.in-Assign.is) c.assign_at.ensures.bytes

pub returns-in-Delete-clause-bytes : goal.returns-in-Delete-clause-bytes
returns-in-Delete-clause-bytes c =
    subst (λ (s : Step). IfOk c.cut_out.result (λ o. IfSome o (λ m. StepBytes c.args.text.now s (string_bytes m.text)))) (sym c.in-Delete.is) c.cut_out.ensures.bytes

pub returns-in-Add-clause-bytes : goal.returns-in-Add-clause-bytes
returns-in-Add-clause-bytes c =
    subst (λ (s : Step). IfOk c.add_at.result (λ o. IfSome o (λ m. StepBytes c.args.text.now s (string_bytes m.text)))) (sym c.in-Add.is) c.add_at.ensures.bytes

pub returns-in-Replace-clause-bytes : goal.returns-in-Replace-clause-bytes
returns-in-Replace-clause-bytes c =
    subst (λ (s : Step). IfOk c.replace_at.result (λ o. IfSome o (λ m. StepBytes c.args.text.now s (string_bytes m.text)))) (sym c.in-Replace.is) c.replace_at.ensures.bytes

pub returns-in-Rename-clause-stepped : goal.returns-in-Rename-clause-stepped
returns-in-Rename-clause-stepped c =
    subst (λ (s : Step). IfOk c.rename_at.result (λ o. IfSome o (λ m. StepsText c.args.text.now s (string_bytes m.text)))) (sym c.in-Rename.is) c.rename_at.ensures.renamed

pub returns-in-Rename-clause-bytes : goal.returns-in-Rename-clause-bytes
returns-in-Rename-clause-bytes c =
    subst (λ (s : Step). IfOk c.rename_at.result (λ o. IfSome o (λ m. StepBytes c.args.text.now s (string_bytes m.text)))) (sym c.in-Rename.is) c.rename_at.ensures.bytes
