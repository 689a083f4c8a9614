use Rattle.std.proofs.Common.{◌≡◌, subst}
use Rattle.serde_json.specs.Data.{Data}
use Rattle.serde_json.proofs.Nesting.{depth-read}
use Rattle.jsonptr.proofs.Calling.{ascends_read}
use Rattle.jptr_tasks.specs.Layouts.{ShowsInLayout, ReadsBack}
use Rattle.jptr_tasks.proofs.laws.paths_law.Goals as goal

pub returns-clause-printed : goal.returns-clause-printed
returns-clause-printed c layout bytes lines out l b =
    let same : b.0 ≡ l.0 = c.round_trip_law.ensures.same_value l.0 b.0 lines (ascends_read bytes l.0 l.2) b.4 l.3 b.3 in
    (l.0, b.1, l.2, subst (λ (d : Data). ShowsInLayout layout d b.1) same b.5, subst (λ (d : Data). ReadsBack layout d b.1) same b.6, b.7)

pub returns-clause-never_refused : goal.returns-clause-never_refused
returns-clause-never_refused c bytes lines number e l f = c.round_trip_law.ensures.never_refused l.0 lines number e (depth-read bytes l.0 l.2) l.3 f.1
