use Rattle.jsonptr_uses.proofs.JsonLinesLemmas.{copied, no_bad_line}
use Rattle.jsonptr_uses.proofs.json_lines.copy_through_lines.Goals as goal

pub returns-clause-copied : goal.returns-clause-copied
returns-clause-copied g c = copied c.paths_law.ensures.printed c.run_build.result _ _ _ c.new-lines.result.items _ c.as_slice-stored.result.now c.new-lines.ensures.items c.as_slice-stored.ensures.value c.in_ok-run_list.ensures.written c.run_build.ensures.written

pub returns-clause-no_line : goal.returns-clause-no_line
returns-clause-no_line g c = no_bad_line c.paths_law.ensures.never_refused c.run_build.result _ _ _ c.new-lines.result.items _ c.as_slice-stored.result.now c.new-lines.ensures.items c.as_slice-stored.ensures.value c.in_ok-run_list.ensures.written c.run_build.ensures.refused
