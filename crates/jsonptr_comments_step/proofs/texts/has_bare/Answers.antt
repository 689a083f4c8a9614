use Rattle.jsonptr_comments_step.proofs.texts.has_bare.Goals as goal

pub returns : goal.returns
returns c = (c.bare_law.ensures c.args.text.now.text.now _).0 c.args.text.now.is_bare
