use Rattle.std.proofs.Common.{◌≡◌, [], ◌∷◌, ◌++◌, sym, ap, ◌∙◌}
use Rattle.jsonptr.specs.Node.{key, place}
use Rattle.jsonptr_patch_journal.specs.Location.{path_of, path_step}
use Rattle.jsonptr_patch_journal.specs.declared.location.LocationStep.{LocationStep}
use Rattle.jsonptr_patch_journal.proofs.ParentLemmas.{parent_has_member, parent_has_element}
use Rattle.jsonptr_patch_journal.proofs.removal.remove_last.Goals as goal

pub delete_member-requires : goal.delete_member-requires
delete_member-requires g c =
    let split : path_of c.args.location ≡ path_of c.in-Some.parent ++ key c.as_str.result.now ∷ [] = (rw (c.in-Some.parent-is, c.in-Some.last-is) at c.in-Some.ensures) ∙ ap (λ (p : LocationStep). path_of c.in-Some.parent ++ path_step p ∷ []) c.in-Key.is ∙ ap (λ (t : _). path_of c.in-Some.parent ++ key t ∷ []) (sym c.as_str.ensures.value) in
    parent_has_member c.as_str.result.now (path_of c.args.location) (path_of c.in-Some.parent) (g.D.NodeMut.contents c.args.document.now) split c.requires

pub delete_element-requires : goal.delete_element-requires
delete_element-requires g c =
    let split : path_of c.args.location ≡ path_of c.in-Some.parent ++ place c.in-Index.index ∷ [] = (rw (c.in-Some.parent-is, c.in-Some.last-is) at c.in-Some.ensures) ∙ ap (λ (p : LocationStep). path_of c.in-Some.parent ++ path_step p ∷ []) c.in-Index.is in
    parent_has_element c.in-Index.index (path_of c.args.location) (path_of c.in-Some.parent) (g.D.NodeMut.contents c.args.document.now) split c.requires
