use Rattle.std.proofs.Common.{string_bytes}
use Rattle.jsonptr_patch_journal.proofs.MembersLemmas.{map_looks, map_put, map_rises}
use Rattle.jsonptr_patch_journal.proofs.members.insert.Goals as goal

pub returns-in-Ok-clause-put : goal.returns-in-Ok-clause-put
returns-in-Ok-clause-put c = map_put c.args.members.now c.insert.new.self c.args.key c.args.value c.in-Ok.ensures.entries

pub returns-in-Ok-clause-old : goal.returns-in-Ok-clause-old
returns-in-Ok-clause-old c = map_looks c.args.members.now (string_bytes c.args.key) c.in-Ok.old c.in-Ok.ensures.old

pub returns-in-Ok-clause-rise : goal.returns-in-Ok-clause-rise
returns-in-Ok-clause-rise c = map_rises c.args.members.now c.len-len.ensures.ordered

pub returns-in-Err-clause-rise : goal.returns-in-Err-clause-rise
returns-in-Err-clause-rise c = map_rises c.args.members.now c.len-len.ensures.ordered
