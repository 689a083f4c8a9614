use Rattle.std.proofs.Common.{inr}
use Rattle.serde_json.specs.View.{view, items_view}
use Rattle.jsonptr_patch_document.proofs.DocumentLemmas.{array_seen, no_entries, refused_weaker}
use Rattle.jsonptr_patch_document.proofs.read.read_patch.Goals as goal

pub returns-in-Some-first_error-clause-refused : goal.returns-in-Some-first_error-clause-refused
returns-in-Some-first_error-clause-refused c =
    inr (items_view c.in-Some.entries.now.items, array_seen (view c.args.document.now) (items_view c.in-Some.entries.now.items) c.in-Some.ensures, c.in-Some-first_error.ensures)

pub returns-in-None-clause-refused : goal.returns-in-None-clause-refused
returns-in-None-clause-refused c =
    refused_weaker c.read_elements.result _ _
    (λ e bad. inr (items_view c.in-Some.entries.now.items, array_seen (view c.args.document.now) (items_view c.in-Some.entries.now.items) c.in-Some.ensures, bad))
    c.read_elements.ensures.refused

pub returns-in-None-clause-no_memory : goal.returns-in-None-clause-no_memory
returns-in-None-clause-no_memory c = λ e bad.
    absurd (c.patch_document_law.ensures.not_both (view c.args.document.now) c.in-None.ensures.0 e
    (items_view c.in-Some.entries.now.items, array_seen (view c.args.document.now) (items_view c.in-Some.entries.now.items) c.in-Some.ensures, c.in-None.ensures.1)
    bad)

pub returns-in-None-clause-empty : goal.returns-in-None-clause-empty
returns-in-None-clause-empty c = λ is.
    c.read_elements.ensures.empty (no_entries (view c.args.document.now) c.in-Some.entries.now.items c.in-Some.ensures is)
