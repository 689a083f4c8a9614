use Rattle.std.proofs.Common.{◌≤◌, subst, string_bytes}
use Rattle.serde_json.specs.Data.{Data, depth}
use Rattle.serde_json.specs.Read.{max_depth}
use Rattle.serde_json.specs.View.{view}
use Rattle.jptr_tasks.specs.Layouts.{ShowsInLayout}
use Rattle.jptr_tasks.proofs.DifferenceLemmas.{patch_reads}
use Rattle.jptr_tasks.proofs.difference.patch_text.Goals as goal

pub returns-clause-read_back : goal.returns-clause-read_back
returns-clause-read_back c =
    let os = c.args.patch.now.items in
    let shallow : depth (view c.in_ok-document.document) ≤ max_depth = c.nests_within.ensures.0 c.if-not-nests_within.false in
    patch_reads c.args.layout os (string_bytes c.in_ok-text.text)
    (subst (λ (d : Data). depth d ≤ max_depth) c.in_ok-document.ensures.document shallow)
    (subst (λ (d : Data). ShowsInLayout c.args.layout d (string_bytes c.in_ok-text.text)) c.in_ok-document.ensures.document c.in_ok-text.ensures)
