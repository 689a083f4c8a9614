use Rattle.std.proofs.Common.{◌≡◌, [], ◌∷◌, ◌++◌, string_bytes, ap, ◌∙◌}
use Rattle.jsonptr.specs.Node.{key, place}
use Rattle.jsonptr_patch_journal.specs.Location.{path_of, path_step}
use Rattle.jsonptr_patch_journal.specs.declared.location.LocationStep.{LocationStep}
use Rattle.jsonptr_patch_journal.proofs.ParentLemmas.{parent_has_member, parent_has_element, root_taken, child_taken}
use Rattle.jsonptr_patch_journal.proofs.journal.Journal.remove.Goals as goal

pub remove_member-requires-clause-member : goal.remove_member-requires-clause-member
remove_member-requires-clause-member g c =
    let split : path_of c.args.location ≡ path_of c.in-Some.parent ++ key (string_bytes c.in-Key.key) ∷ [] = (rw (c.in-Some.parent-is, c.in-Some.last-is) at c.in-Some.ensures) ∙ ap (λ (p : LocationStep). path_of c.in-Some.parent ++ path_step p ∷ []) c.in-Key.is in
    parent_has_member (string_bytes c.in-Key.key) (path_of c.args.location) (path_of c.in-Some.parent) (g.D.NodeMut.contents c.args.document.now) split c.requires.there

pub remove_element-requires : goal.remove_element-requires
remove_element-requires g c =
    let split : path_of c.args.location ≡ path_of c.in-Some.parent ++ place c.in-Index.index ∷ [] = (rw (c.in-Some.parent-is, c.in-Some.last-is) at c.in-Some.ensures) ∙ ap (λ (p : LocationStep). path_of c.in-Some.parent ++ path_step p ∷ []) c.in-Index.is in
    parent_has_element c.in-Index.index (path_of c.args.location) (path_of c.in-Some.parent) (g.D.NodeMut.contents c.args.document.now) split c.requires.there

pub returns-in-None-clause-removed : goal.returns-in-None-clause-removed
returns-in-None-clause-removed g c = root_taken c.remove_root.result (path_of c.args.location) (g.D.NodeMut.contents c.args.document.now) (g.D.NodeMut.contents c.remove_root.new.document) c.in-None.ensures c.remove_root.ensures.removed

pub returns-in-Key-clause-removed : goal.returns-in-Key-clause-removed
returns-in-Key-clause-removed g c =
    let split : path_of c.args.location ≡ path_of c.in-Some.parent ++ key (string_bytes c.in-Key.key) ∷ [] = (rw (c.in-Some.parent-is, c.in-Some.last-is) at c.in-Some.ensures) ∙ ap (λ (p : LocationStep). path_of c.in-Some.parent ++ path_step p ∷ []) c.in-Key.is in
    child_taken c.remove_member.result (key (string_bytes c.in-Key.key)) (path_of c.args.location) (path_of c.in-Some.parent) (g.D.NodeMut.contents c.args.document.now) (g.D.NodeMut.contents c.remove_member.new.document) split c.remove_member.ensures.removed

pub returns-in-Index-clause-removed : goal.returns-in-Index-clause-removed
returns-in-Index-clause-removed g c =
    let split : path_of c.args.location ≡ path_of c.in-Some.parent ++ place c.in-Index.index ∷ [] = (rw (c.in-Some.parent-is, c.in-Some.last-is) at c.in-Some.ensures) ∙ ap (λ (p : LocationStep). path_of c.in-Some.parent ++ path_step p ∷ []) c.in-Index.is in
    child_taken c.remove_element.result (place c.in-Index.index) (path_of c.args.location) (path_of c.in-Some.parent) (g.D.NodeMut.contents c.args.document.now) (g.D.NodeMut.contents c.remove_element.new.document) split c.remove_element.ensures.removed
