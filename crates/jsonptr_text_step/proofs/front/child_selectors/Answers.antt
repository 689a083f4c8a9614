use Rattle.jsonptr.specs.Pointer.{tokens}
use Rattle.jsonptr_text_resolve.proofs.SelectorLemmas.{more_selectors}
use Rattle.jsonptr_text_step.proofs.front.child_selectors.Goals as goal

pub returns : goal.returns
returns c = more_selectors (tokens c.args.pointer) c.in_ok-selectors.selectors.items c.push.new.self.items c.args.token.now c.in_ok-selector.selector c.in_ok-selectors.ensures c.in_ok-selector.ensures c.in_ok-push.ensures.items
