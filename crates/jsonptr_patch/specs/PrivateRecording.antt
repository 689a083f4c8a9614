-- Journals of the changes of a document. Used only by private contracts; no public contract depends on this file.
use Rattle.serde_json.specs.declared.value.Value.{Value}
use Rattle.jsonptr.specs.Content.{Content}
use Rattle.jsonptr_patch_journal.specs.Location.{contents_of}
use Rattle.jsonptr_patch_journal.specs.Journal.{Undone}
use Rattle.jsonptr_patch_journal.specs.declared.journal.Journal.{Journal}

-- `CanUndo j d`: undoing the journal `j` turns the document `d` into some content
abbrev pub CanUndo : Journal → Value → Type 0
CanUndo j d = (c : Content) × Undone j c (contents_of d)

-- `Records j d k e`: what undoing the journal `j` makes of the document `d`, undoing the journal `k` makes of `e`
abbrev pub Records : Journal → Value → Journal → Value → Type 0
Records j d k e = (c : Content) → Undone j c (contents_of d) → Undone k c (contents_of e)
