use Rattle.std.proofs.Common.{◌≡◌, [], ◌∷◌, ◌++◌, string_bytes, ap, ◌∙◌}
use Rattle.jsonptr.specs.Node.{key, place}
use Rattle.jsonptr_patch_journal.specs.Location.{path_of, path_step}
use Rattle.jsonptr_patch_journal.specs.declared.location.LocationStep.{LocationStep}
use Rattle.jsonptr_patch_journal.proofs.ParentLemmas.{parent_has_member, parent_has_element}
use Rattle.jsonptr_patch_journal.proofs.removal.remove.Goals as goal

pub remove_member-requires : goal.remove_member-requires
remove_member-requires g c =
    let split : path_of c.args.location ≡ path_of c.in-Some.parent ++ key (string_bytes c.in-Key.key) ∷ [] = (rw (c.in-Some.parent-is, c.in-Some.last-is) at c.in-Some.ensures) ∙ ap (λ (p : LocationStep). path_of c.in-Some.parent ++ path_step p ∷ []) c.in-Key.is in
    parent_has_member (string_bytes c.in-Key.key) (path_of c.args.location) (path_of c.in-Some.parent) (g.D.NodeMut.contents c.args.document.now) split c.requires

pub remove_element-requires : goal.remove_element-requires
remove_element-requires g c =
    let split : path_of c.args.location ≡ path_of c.in-Some.parent ++ place c.in-Index.index ∷ [] = (rw (c.in-Some.parent-is, c.in-Some.last-is) at c.in-Some.ensures) ∙ ap (λ (p : LocationStep). path_of c.in-Some.parent ++ path_step p ∷ []) c.in-Index.is in
    parent_has_element c.in-Index.index (path_of c.args.location) (path_of c.in-Some.parent) (g.D.NodeMut.contents c.args.document.now) split c.requires
