use Rattle.std.proofs.Common.{inl, refl, ap, sym, ◌∙◌, length, option_map}
use Rattle.jsonptr.specs.Content.{label_of}
use Rattle.jsonptr_patch_journal.specs.declared.addition.Target.{Target}
use Rattle.jsonptr_patch_journal.specs.declared.locate.LocatedNode.{LocatedNode}
use Rattle.jsonptr_patch.proofs.AddingLemmas.{scalar_lacks, parent_refused}
use Rattle.jsonptr_patch.proofs.add.target_of.Goals as goal

pub returns-in-Err-clause-refused : goal.returns-in-Err-clause-refused
returns-in-Err-clause-refused c = rw c.no_target.ensures (parent_refused LocatedNode Target _ _ c.in-Err.fault _ _ _ c.in-Some.ensures c.in-Err.ensures.refused)

pub returns-clause-refused : goal.returns-clause-refused
returns-clause-refused c =
    let located = c.in-Ok.ensures.located in
    let scalar = ap (option_map label_of) located.there ∙ c.in-Leaf.ensures.1 in
    inl (_, c.at_path-in-Leaf.ensures, scalar_lacks _ _ _ _ _ _ _ _ c.in-Some.ensures located.named scalar c.count.ensures (c.len-in-Leaf.ensures ∙ ap length (sym c.in-Some.front.inner.valid)))
