use Rattle.std.proofs.Common.{string_bytes}
use Rattle.jsonptr.specs.Pointer.{tokens}
use Rattle.jsonptr_text_paths.specs.declared.listing.Lister.{Lister}
use Rattle.jsonptr_text_paths.proofs.ListingLemmas.{shows_all}
use Rattle.jsonptr_text_paths.proofs.listing.list.Goals as goal

pub returns : goal.returns
returns c = shows_all (λ (l : Lister). l.which) (λ (l : Lister). string_bytes l.out) c.args.document.now (tokens c.root.result) _ c.visit_nodes.new.visitor c.root.ensures.tokens c.new.ensures.bytes c.in_ok-visit_nodes.ensures
