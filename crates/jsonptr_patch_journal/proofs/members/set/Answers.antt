use Rattle.std.proofs.Common.{string_bytes, sym}
use Rattle.jsonptr_patch_journal.specs.Children.{members_of}
use Rattle.jsonptr_patch_journal.proofs.MembersLemmas.{map_lacks, map_finds, map_put, not_lacking}
use Rattle.jsonptr.specs.Content.{get_member}
use Rattle.jsonptr_patch_journal.proofs.members.set.Goals as goal

pub unreachable-requires : goal.unreachable-requires
unreachable-requires c = not_lacking (get_member (string_bytes c.args.key) (members_of c.args.room.now)) c.requires (map_lacks c.args.room.now (string_bytes c.args.key) (sym (rw c.in-Ok-None.field-0-is at c.in-Ok-None.ensures.old)))

pub unreachable-requires-in-Err : goal.unreachable-requires-in-Err
unreachable-requires-in-Err c = not_lacking (get_member (string_bytes c.args.key) (members_of c.args.room.now)) c.requires (map_lacks c.args.room.now (string_bytes c.args.key) c.in-Err.ensures.absent)

pub returns-clause-put : goal.returns-clause-put
returns-clause-put c = map_put c.args.room.now c.insert.new.self c.args.key c.args.value c.in-Ok-Some.ensures.entries

pub returns-clause-old : goal.returns-clause-old
returns-clause-old c = map_finds c.args.room.now (string_bytes c.args.key) c.in-Ok-Some.old (sym (rw c.in-Ok-Some.field-0-is at c.in-Ok-Some.ensures.old))
