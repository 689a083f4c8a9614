use Rattle.std.proofs.Common.{inl, inr, refl, sym, ◌∙◌, subst}
use Rattle.std.specs.Cow.{cow_str_bytes}
use Rattle.jsonptr_comments.specs.Comments.{IsWithoutComments}
use Rattle.jptr_tasks.proofs.SeveralLemmas.{once_bare, once_bare_fails, once_commented, once_commented_fails, is_false, is_true}
use Rattle.jptr_tasks.proofs.several.edit_once.Goals as goal

pub returns-then-not-rules-clause-edited : goal.returns-then-not-rules-clause-edited
returns-then-not-rules-clause-edited c =
    once_bare c.args.rules c.args.text.now c.args.edit.now c.edit_bare.result (inl (is_false _ c.if-not-rules.true, refl)) c.edit_bare.ensures.allowed c.edit_bare.ensures.edited

pub returns-then-not-rules-clause-refused : goal.returns-then-not-rules-clause-refused
returns-then-not-rules-clause-refused c =
    once_bare_fails c.args.rules c.args.text.now c.args.edit.now c.edit_bare.result (inl (is_false _ c.if-not-rules.true, refl)) c.edit_bare.ensures.refused

pub returns-then-is_same-clause-edited : goal.returns-then-is_same-clause-edited
returns-then-is_same-clause-edited c =
    let same = sym c.as_str.ensures.value ∙ c.is_same.ensures.0 c.if-is_same.true in
    once_bare c.args.rules c.args.text.now c.args.edit.now c.edit_bare-then-is_same.result
    (inr (is_true _ c.if-not-rules.false, subst (IsWithoutComments c.args.text.now) same c.in-Ok.ensures.without))
    c.edit_bare-then-is_same.ensures.allowed c.edit_bare-then-is_same.ensures.edited

pub returns-then-is_same-clause-refused : goal.returns-then-is_same-clause-refused
returns-then-is_same-clause-refused c =
    let same = sym c.as_str.ensures.value ∙ c.is_same.ensures.0 c.if-is_same.true in
    once_bare_fails c.args.rules c.args.text.now c.args.edit.now c.edit_bare-then-is_same.result
    (inr (is_true _ c.if-not-rules.false, subst (IsWithoutComments c.args.text.now) same c.in-Ok.ensures.without))
    c.edit_bare-then-is_same.ensures.refused

pub returns-clause-edited : goal.returns-clause-edited
returns-clause-edited c =
    once_commented c.args.rules _ c.args.text.now (cow_str_bytes c.in-Ok.commented.bare) c.args.edit.now c.edit_with_comments.result (is_true _ c.if-not-rules.false) c.in-Ok.ensures.same c.in-Ok.ensures.without c.edit_with_comments.ensures.allowed c.edit_with_comments.ensures.edited

pub returns-clause-refused : goal.returns-clause-refused
returns-clause-refused c =
    once_commented_fails c.args.rules _ c.args.text.now (cow_str_bytes c.in-Ok.commented.bare) c.args.edit.now c.edit_with_comments.result (is_true _ c.if-not-rules.false) c.in-Ok.ensures.same c.in-Ok.ensures.without c.edit_with_comments.ensures.refused
