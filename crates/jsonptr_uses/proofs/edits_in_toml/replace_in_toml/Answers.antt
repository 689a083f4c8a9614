use Rattle.toml.specs.View.{view}
use Rattle.jsonptr.specs.Pointer.{tokens}
use Rattle.jsonptr_uses.proofs.EditsInTomlLemmas.{replaces_if}
use Rattle.jsonptr_uses.proofs.edits_in_toml.replace_in_toml.Goals as goal

pub returns : goal.returns
returns c = replaces_if c.args.text.now _ _ (tokens c.args.new) (tokens c.args.old) (view c.args.value) c.deleted.result c.as_str.ensures.value c.in_ok-both.ensures.assigned c.in_ok-both.ensures.bytes c.deleted.ensures.deleted c.deleted.ensures.bytes
