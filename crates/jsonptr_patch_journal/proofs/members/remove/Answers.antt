use Rattle.std.proofs.Common.{sym, ap, ◌∙◌}
use Rattle.jsonptr.specs.Content.{get_member}
use Rattle.jsonptr_patch_journal.specs.Children.{members_in, members_of}
use Rattle.jsonptr_patch_journal.proofs.MembersLemmas.{map_lacks, map_finds, map_rises, members-remove, not_lacking}
use Rattle.jsonptr_patch_journal.proofs.members.remove.Goals as goal

pub unreachable-requires : goal.unreachable-requires
unreachable-requires c = not_lacking (get_member c.args.key.now (members_of c.args.members.now)) c.requires (map_lacks c.args.members.now c.args.key.now (sym c.in-None.ensures.value))

pub returns-clause-found : goal.returns-clause-found
returns-clause-found c = map_finds c.args.members.now c.args.key.now c.in-Some.value (sym c.in-Some.ensures.value)

pub returns-clause-removed : goal.returns-clause-removed
returns-clause-removed c = ap members_in c.in-Some.ensures.entries ∙ members-remove c.args.key.now c.args.members.now.entries

pub returns-clause-rise : goal.returns-clause-rise
returns-clause-rise c = map_rises c.args.members.now c.len-len.ensures.ordered
