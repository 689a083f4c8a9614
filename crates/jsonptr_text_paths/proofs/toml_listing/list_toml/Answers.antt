use Rattle.std.proofs.Common.{string_bytes}
use Rattle.jsonptr.specs.Pointer.{tokens}
use Rattle.jsonptr_text_paths.specs.declared.toml_listing.Lister.{Lister}
use Rattle.jsonptr_text_paths.proofs.TomlListingLemmas.{shows_all}
use Rattle.jsonptr_text_paths.proofs.toml_listing.list_toml.Goals as goal

pub returns : goal.returns
returns c = shows_all (λ (l : Lister). l.which) (λ (l : Lister). string_bytes l.out) c.args.document.now (tokens c.root.result) _ c.visit_nodes.new.visitor c.root.ensures.tokens c.new.ensures.bytes c.in_ok-visit_nodes.ensures
