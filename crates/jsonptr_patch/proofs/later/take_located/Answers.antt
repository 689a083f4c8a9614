use Rattle.std.proofs.Common.{List, subst}
use Rattle.serde_json.specs.View.{view}
use Rattle.jsonptr.specs.Json.{nodes}
use Rattle.jsonptr.specs.Text.{Text}
use Rattle.jsonptr_patch_journal.specs.Location.{path_of, contents_of}
use Rattle.jsonptr_patch.specs.PrivateLater.{IsMemberAt}
use Rattle.jsonptr_patch.proofs.LaterLemmas.{member_named}
use Rattle.jsonptr_patch.proofs.later.take_located.Goals as goal

pub returns-in-Some-blank-clause-taken : goal.returns-in-Some-blank-clause-taken
returns-in-Some-blank-clause-taken c =
    let here = path_of c.in-Some.location in
    let a = c.in-Some-blank.ensures in
    let member = subst (λ (ts : List Text). IsMemberAt (nodes (view c.args.document.now)) ts here) c.as_ptr.ensures.tokens c.in-Some.ensures in
    record {
      blank = record { path = here; named = member_named (contents_of c.args.document.now) a.old c.args.from.now here member a.there; written = a };
      undone = a;
    }
