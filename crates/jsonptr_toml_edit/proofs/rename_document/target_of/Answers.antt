use Rattle.std.proofs.Common.{◌≡◌, [], ◌∷◌, ◌++◌, List, true≢false, sym, ap, ◌∙◌}
use Rattle.toml.specs.View.{view}
use Rattle.jsonptr.specs.TomlValue.{nodes}
use Rattle.jsonptr.specs.Pointer.{tokens}
use Rattle.jsonptr.specs.Text.{Text}
use Rattle.jsonptr_text_step.specs.PrivateRenaming.{IsMemberOf}
use Rattle.jsonptr_text_step.proofs.RenameErrorLemmas.{key_there, free_key}
use Rattle.jsonptr_toml_edit.proofs.rename_document.target_of.Goals as goal

pub returns-then-is_same_text-clause-target : goal.returns-then-is_same_text-clause-target
returns-then-is_same_text-clause-target c =
    let k = c.args.key.now in
    let front = tokens c.in-Some.front in
    let m : IsMemberOf (nodes (view c.args.document.now)) (tokens c.args.pointer) front c.in-Some.from = rw c.in-Some.is at c.in_ok-front.ensures in
    let same : k ≡ m.0.x = c.is_same_text.ensures.0 c.if-is_same_text.true ∙ c.as_str.ensures.value ∙ c.in_ok-old_key.ensures.text ∙ sym m.2 in
    record {
      member = m.0;
      target_is = c.in_ok-target.ensures ∙ ap (λ (y : Text). front ++ y ∷ []) c.in_ok-to.ensures.text ∙ ap (λ (f : List Text). f ++ k ∷ []) (sym m.1);
      free = λ apart. absurd (apart same);
    }

pub returns-then-branch-clause-refused : goal.returns-then-branch-clause-refused
returns-then-branch-clause-refused c =
    let n = nodes (view c.args.document.now) in
    let k = c.args.key.now in
    let front = tokens c.in-Some.front in
    let m : IsMemberOf n (tokens c.args.pointer) front c.in-Some.from = rw c.in-Some.is at c.in_ok-front.ensures in
    let target : tokens c.as_ptr.result ≡ m.0.front ++ k ∷ [] = c.as_ptr.ensures.tokens ∙ c.in_ok-target.ensures ∙ ap (λ (y : Text). front ++ y ∷ []) c.in_ok-to.ensures.text ∙ ap (λ (f : List Text). f ++ k ∷ []) (sym m.1) in (
      m.0,
      λ e. true≢false (sym (c.is_same_text.ensures.1 (e ∙ m.2 ∙ sym c.in_ok-old_key.ensures.text ∙ sym c.as_str.ensures.value)) ∙ c.if-is_same_text.false),
      key_there n (tokens c.args.pointer) (tokens c.as_ptr.result) m.0 k target (c.in_ok-is_there-2.ensures.0 c.if-branch.true),
    )

pub returns-clause-target : goal.returns-clause-target
returns-clause-target c =
    let n = nodes (view c.args.document.now) in
    let k = c.args.key.now in
    let front = tokens c.in-Some.front in
    let m : IsMemberOf n (tokens c.args.pointer) front c.in-Some.from = rw c.in-Some.is at c.in_ok-front.ensures in
    let is = c.in_ok-target.ensures ∙ ap (λ (y : Text). front ++ y ∷ []) c.in_ok-to.ensures.text ∙ ap (λ (f : List Text). f ++ k ∷ []) (sym m.1) in
    record {
      member = m.0;
      target_is = is;
      free = λ apart. free_key n (tokens c.args.pointer) (tokens c.as_ptr.result) m.0 k (c.as_ptr.ensures.tokens ∙ is)
          (λ t. true≢false (sym (c.in_ok-is_there-2.ensures.1 t) ∙ c.if-branch.false));
    }
