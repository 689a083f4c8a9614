use Rattle.std.proofs.Common.{[], sym, ap, ◌∙◌, subst}
use Rattle.jsonptr_tree.specs.Node.{NodeMap}
use Rattle.jsonptr_tree.specs.Removing.{Deletes}
use Rattle.jsonptr_tree.proofs.RemovingLemmas.{Deletes_whole}
use Rattle.jsonptr_walk.proofs.descend.AnyDescend.take.Goals as goal

pub returns-clause-deleted : goal.returns-clause-deleted
returns-clause-deleted g c =
    let n = g.D.Document.nodes c.args.self.now in
    let left = ap g.D.Document.nodes c.replace.ensures.after ∙ c.blank.ensures.map in
    subst (λ (m : NodeMap). Deletes n [] g.D.DocumentMut.blank_map m) (sym left) (Deletes_whole n g.D.DocumentMut.blank_map (g.met.D.Document.has_root c.args.self.now))

pub returns-clause-found : goal.returns-clause-found
returns-clause-found g c =
    let d = c.args.self.now in
    subst (g.D.Steps.finds d []) (sym c.replace.ensures.value) (g.met.D.Steps.found_at d [] [] d (g.met.D.Document.has_root d) (g.met.D.Document.here d))
