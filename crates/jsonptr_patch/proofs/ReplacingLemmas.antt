-- A value replaced where the tokens of a pointer lead.
use Rattle.std.proofs.Common.{List}
use Rattle.jsonptr.specs.Text.{Text}
use Rattle.jsonptr.specs.Resolve.{PutsAt}
use Rattle.jsonptr.specs.Content.{Content, map_of, SortedContent}
use Rattle.jsonptr_patch_journal.specs.Changes.{ReplacesContent, Writes}
use Rattle.jsonptr_patch_journal.specs.Leading.{AtNamed}
use Rattle.jsonptr_patch_journal.proofs.ThereLemmas.{at_weaker}
use Rattle.jsonptr_patch.proofs.ChangeMapLemmas.{puts_value}
use Rattle.jsonptr_patch.proofs.ChangeOrderLemmas.{sorted_with_value}

pub named_puts : (tokens : List Text) (a v c d : Content) → AtNamed tokens (ReplacesContent a v) c d → PutsAt (map_of c) tokens (map_of v) (map_of d)
named_puts tokens a v c d r = puts_value r.path v c d tokens (at_weaker r.path (ReplacesContent a v) (Writes v) c d (λ x y h. h.1) r.written) r.named

pub named_sorted : (tokens : List Text) (a v c d : Content) → AtNamed tokens (ReplacesContent a v) c d → SortedContent v → SortedContent c → SortedContent d
named_sorted tokens a v c d r = sorted_with_value r.path v c d (at_weaker r.path (ReplacesContent a v) (Writes v) c d (λ x y h. h.1) r.written)
