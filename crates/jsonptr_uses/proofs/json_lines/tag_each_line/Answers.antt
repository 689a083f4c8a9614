use Rattle.std.proofs.Common.{None, false, refl}
use Rattle.jptr_tasks.specs.declared.layout.Layout.TheVariants.{Kept}
use Rattle.jptr_tasks.specs.declared.line.LineTask.{LineTask}
use Rattle.jptr_tasks.specs.declared.task.Task.TheVariants as task
use Rattle.jsonptr_text_edit.specs.declared.edit.Edit.TheVariants.{Assign}
use Rattle.jsonptr_uses.proofs.JsonLinesLemmas.{all_tagged}
use Rattle.jsonptr_uses.proofs.json_lines.tag_each_line.Goals as goal

pub returns-in-Fine-clause-tagged : goal.returns-in-Fine-clause-tagged
returns-in-Fine-clause-tagged g c =
    let run : LineTask = record { task = task.Edit (Assign c.args.tag.pointer c.args.tag.raw); layout = Kept; fallback = None; name = c.in_ok-from_str.field-0; is_strict = false } in
    λ yes. all_tagged run c.args.tag.pointer c.args.tag.raw _ _ _ _ _ _ refl refl c.in-Fine.is c.in_ok-run_lines.ensures.written
