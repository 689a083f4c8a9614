use Rattle.std.proofs.Common.{refl, sym, ap}
use Rattle.jsonptr.specs.Content.{map_of}
use Rattle.jsonptr_patch_journal.specs.Location.{contents_of}
use Rattle.jsonptr_patch_journal.proofs.LeadingLemmas.{stops_nothing}
use Rattle.jsonptr_patch_journal.proofs.addition.replace_at.Goals as goal

pub returns-in-Ok-clause-replaced : goal.returns-in-Ok-clause-replaced
returns-in-Ok-clause-replaced g c =
    let f = c.in-Ok.ensures.value.0 c.requires in
    record {
      path = f.path;
      named = f.named;
      written = record {
        old = contents_of c.in-Ok.node.now;
        new = contents_of c.replace.new.dest;
        there = f.there;
        made = (rw (c.in-Ok.is) at (c.token_mut.follows.holds c.replace.new.dest)) refl c.requires f.path f.named;
        related = (ap contents_of (sym c.replace.ensures.value), ap contents_of c.replace.ensures.after);
      };
    }

pub returns-in-Err-clause-refused : goal.returns-in-Err-clause-refused
returns-in-Err-clause-refused g c = stops_nothing (map_of (g.D.NodeMut.contents c.args.document.now)) c.args.pointer.now c.in-Err._error.offset (c.in-Err.ensures.value.1 c.requires)
