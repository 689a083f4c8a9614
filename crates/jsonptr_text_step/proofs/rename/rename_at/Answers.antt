use Rattle.std.proofs.Common.{◌≡◌, [], ◌∷◌, ◌++◌, List, string_bytes, sym, ap, ◌∙◌, subst}
use Rattle.jsonptr.specs.Pointer.{tokens}
use Rattle.jsonptr.specs.Text.{Text}
use Rattle.jsonptr_text_check.specs.Editing.{RenamesMember}
use Rattle.jsonptr_text_step.specs.PrivateReaching.{ReachedInText}
use Rattle.jsonptr_text_step.specs.PrivateRenaming.{IsMemberInText}
use Rattle.jsonptr_text_step.specs.Renaming.{RenamesInText}
use Rattle.jsonptr_text_step.proofs.EditLemmas.{if_new, if_both}
use Rattle.jsonptr_text_step.proofs.RenamingLemmas.{renamed, kept_in_text}
use Rattle.jsonptr_text_step.proofs.rename.rename_at.Goals as goal

pub returns-then-is_text-clause-renamed : goal.returns-then-is_text-clause-renamed
returns-then-is_text-clause-renamed c =
    let old = c.args.text.now in
    let path = tokens c.args.pointer in
    let front = tokens c.in-Some.front in
    let k = c.args.key.now in
    let same : k ≡ c.in-Some.from = c.is_text.ensures.0 c.if-is_text.true ∙ c.as_str.ensures.value ∙ c.in_ok-old_key.ensures in
    let split : path ≡ front ++ k ∷ [] = c.in-Some.ensures ∙ ap (λ (y : Text). front ++ y ∷ []) (sym same) in
    if_new c.kept.result
    (λ s. (string_bytes s.text ≡ old) × IsMemberInText old path)
    (λ s. RenamesInText old path k (string_bytes s.text))
    (λ s h. kept_in_text old (string_bytes s.text) path front k split h.0 h.1)
    (if_both c.kept.result (λ s. string_bytes s.text ≡ old) (λ s. IsMemberInText old path) c.kept.ensures.same c.kept.ensures.member)

pub returns-clause-renamed : goal.returns-clause-renamed
returns-clause-renamed c =
    let old = c.args.text.now in
    let path = tokens c.args.pointer in
    let front = tokens c.in-Some.front in
    let x = c.in-Some.from in
    let k = c.args.key.now in
    if_new c.put_name.result
    (λ s. ReachedInText old (string_bytes s.text) front (RenamesMember x c.in_ok-to.to))
    (λ s. RenamesInText old path k (string_bytes s.text))
    (λ s h. subst (λ (ts : List Text). RenamesInText old ts k (string_bytes s.text)) (sym c.in-Some.ensures)
    (subst (λ (y : Text). RenamesInText old (front ++ x ∷ []) y (string_bytes s.text)) c.in_ok-to.ensures.text (renamed old (string_bytes s.text) front x c.in_ok-to.to h)))
    c.put_name.ensures.reached
