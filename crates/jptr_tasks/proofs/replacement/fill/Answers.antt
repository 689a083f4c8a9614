use Rattle.std.proofs.Common.{rules}
use Rattle.jptr_tasks.proofs.ReplacementLemmas.{write_failed, rights_failed, sync_failed, look_failed, rename_failed}
use Rattle.jptr_tasks.proofs.replacement.fill.Goals as goal

pub returns-in_err-write-clause-safe : goal.returns-in_err-write-clause-safe
returns-in_err-write-clause-safe g c = write_failed _ c.from_residual.result (search rules)

pub returns-in_err-take_rights-clause-safe : goal.returns-in_err-take_rights-clause-safe
returns-in_err-take_rights-clause-safe g c = rights_failed _ c.from_residual-in_err-take_rights.result (search rules)

pub returns-in_err-sync-clause-safe : goal.returns-in_err-sync-clause-safe
returns-in_err-sync-clause-safe g c = sync_failed _ c.from_residual-in_err-sync.result (search rules)

pub returns-in_err-look-clause-safe : goal.returns-in_err-look-clause-safe
returns-in_err-look-clause-safe g c = look_failed _ c.from_residual-in_err-look.result (search rules)

pub returns-clause-safe : goal.returns-clause-safe
returns-clause-safe g c = rename_failed (g.S.FileSystem.events c.rename.new.self) c.rename.result (search rules)
