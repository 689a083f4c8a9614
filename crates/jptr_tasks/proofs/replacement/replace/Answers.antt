use Rattle.std.proofs.Common.{rules}
use Rattle.jptr_tasks.proofs.ReplacementLemmas.{create_failed, folder_tried, removed}
use Rattle.jptr_tasks.proofs.replacement.replace.Goals as goal

pub returns-in_err-create-clause-moments : goal.returns-in_err-create-clause-moments
returns-in_err-create-clause-moments g c = create_failed _ (search rules)

pub returns-in-Ok-sync_folder-clause-moments : goal.returns-in-Ok-sync_folder-clause-moments
returns-in-Ok-sync_folder-clause-moments g c =
    (folder_tried c.sync_folder.result _ (g.S.FileSystem.events c.sync_folder.new.self) c.in-Ok.ensures.filled c.sync_folder.ensures).moments

pub returns-in-Err-sync_folder-clause-moments : goal.returns-in-Err-sync_folder-clause-moments
returns-in-Err-sync_folder-clause-moments g c =
    (folder_tried c.sync_folder.result _ (g.S.FileSystem.events c.sync_folder.new.self) c.in-Ok.ensures.filled c.sync_folder.ensures).moments

pub returns-in-Err-clause-moments : goal.returns-in-Err-clause-moments
returns-in-Err-clause-moments g c =
    removed c.remove.result _ (g.S.FileSystem.events c.remove.new.self) c.in-Err.ensures.safe.0 c.remove.ensures
