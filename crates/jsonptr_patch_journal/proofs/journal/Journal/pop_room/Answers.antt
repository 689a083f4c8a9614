use Rattle.std.proofs.Common.{rules, ◌≡◌, ◌<◌, List, [], ◌∷◌, ◌++◌, length, subst}
use Rattle.std.specs.Vec.{vec_capacity}
use Rattle.jsonptr.specs.Node.{Path}
use Rattle.jsonptr_patch_journal.specs.Location.{path_of}
use Rattle.jsonptr_patch_journal.specs.Children.{members_of}
use Rattle.jsonptr_patch_journal.specs.Writing.{At}
use Rattle.jsonptr_patch_journal.specs.Rooms.{LeavesMembers}
use Rattle.jsonptr_patch_journal.specs.Journal.{Chain}
use Rattle.jsonptr_patch_journal.specs.declared.journal.Entry.{Entry}
use Rattle.jsonptr_patch_journal.specs.declared.journal.Entry.TheVariants.{RemovedMembers}
use Rattle.jsonptr_patch_journal.proofs.ChainLemmas.{chain_less}
use Rattle.jsonptr_patch_journal.proofs.journal.Journal.pop_room.Goals as goal

pub returns-then-is_same : goal.returns-then-is_same
returns-then-is_same c =
    let e = RemovedMembers c.in-Some-RemovedMembers.location c.in-Some-RemovedMembers.room in
    let es = c.pop.new.self.items in
    let all : c.args.self.now.entries.items ≡ es ++ e ∷ [] = search (rules, c.in-Some-RemovedMembers.ensures.items, c.in-Some-RemovedMembers.is, c.in-Some-RemovedMembers.field-0-is) in
    let same : path_of c.in-Some-RemovedMembers.location ≡ path_of c.args.object.now = c.is_same.ensures.0 c.if-is_same.true in
    let room : length c.pop.new.self.items < vec_capacity c.pop.new.self = search (rules, c.pop.ensures, c.in-Some-RemovedMembers.ensures, c.pop.new.self.ok, c.args.self.now.entries.ok) in (
      room,
      λ was d undone.
          let r = chain_less es e undone.between d (subst (λ (xs : List Entry). Chain xs undone.between d) all undone.page) in
          (r.0, record { between = undone.between; pages = undone.pages; page = r.1 }, subst (λ (p : Path). At p (LeavesMembers (members_of c.in-Some-RemovedMembers.room)) r.0 d) same r.2),
    )
