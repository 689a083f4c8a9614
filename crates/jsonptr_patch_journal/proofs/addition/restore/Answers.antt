use Rattle.jsonptr_patch_journal.specs.Location.{contents_of}
use Rattle.jsonptr_patch_journal.proofs.LeadingLemmas.{replaced_back, replaced_leads}
use Rattle.jsonptr_patch_journal.proofs.addition.restore.Goals as goal

pub unreachable-requires : goal.unreachable-requires
unreachable-requires g c =
    let r = c.requires.replaced in
    replaced_leads c.args.pointer.now (contents_of c.args.old) r.1 r.0 (g.D.NodeMut.contents c.args.document.now) r.2 c.in-Err.ensures.refused

pub returns : goal.returns
returns g c = λ was v h.
    replaced_back c.args.pointer.now (contents_of c.args.old) v (contents_of c.in-Ok.value) was (g.D.NodeMut.contents c.args.document.now) _ h c.in-Ok.ensures.replaced
