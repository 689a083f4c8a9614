use Rattle.jsonptr.specs.Pointer.{tokens}
use Rattle.jsonptr_text_paths.specs.PrivateWalking.{content_of}
use Rattle.jsonptr_text_paths.specs.declared.walk.Collector.{Collector}
use Rattle.jsonptr_text_paths.proofs.VisitingLemmas.{collects_all}
use Rattle.jsonptr_text_paths.proofs.walk.pointers.Goals as goal

pub returns : goal.returns
returns c = collects_all content_of (λ (s : Collector). s.found.items) c.args.document.now (tokens c.root.result) _ c.visit_nodes.new.visitor c.root.ensures.tokens c.new.ensures.items c.in_ok-visit_nodes.ensures
