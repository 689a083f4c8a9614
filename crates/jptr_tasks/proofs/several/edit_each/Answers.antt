use Rattle.std.proofs.Common.{◌≡◌, ◌+◌, ◌≤◌, List, [], ◌∷◌, ◌++◌, length, take, drop, string_bytes, sym, ap, ◌∙◌, subst, arith}
use Rattle.std.proofs.lemmas.List.{take_more, drop_more, length-take-le}
use Rattle.std.proofs.lemmas.Result.{err_from_is_err_and}
use Rattle.std.proofs.Math.ListN.{take-append-drop}
use Rattle.jsonptr_text_edit.specs.declared.edit.Edit.{Edit}
use Rattle.jptr_tasks.specs.Several.{MakesEach}
use Rattle.jptr_tasks.proofs.SeveralLemmas.{one_edit_more, stops_at}
use Rattle.jptr_tasks.proofs.several.edit_each.Goals as goal

pub edits-preserved : goal.edits-preserved
edits-preserved c =
    let edits = c.args.edits.now in
    let i = c.edits.index in
    let o = c.index-edits-index.result in
    let more : take i edits ++ o ∷ [] ≡ take (i + 1) edits = ap (λ (x : Edit). take i edits ++ x ∷ []) c.index-edits-index.is ∙ sym (take_more edits i o c.edits-test.true) in
    subst (λ (done : List Edit). MakesEach c.args.rules (string_bytes c.args.text) done (string_bytes c.in_ok-new.new)) more
    (one_edit_more c.args.rules (string_bytes c.args.text) (take i edits) o (string_bytes c.edits.new) (string_bytes c.in_ok-new.new) c.edits.invariant c.in_ok-new.ensures.edited)

pub returns-in_err-new-clause-refused : goal.returns-in_err-new-clause-refused
returns-in_err-new-clause-refused c =
    let edits = c.args.edits.now in
    let i = c.edits.index in
    let o = c.index-edits-index.result in
    let p = err_from_is_err_and c.from_residual.result c.from_residual.ensures.1 in
    let next : drop i edits ≡ o ∷ drop (i + 1) edits = drop_more edits i o c.edits-test.true ∙ ap (λ (x : Edit). x ∷ drop (i + 1) edits) (sym c.index-edits-index.is) in
    let split : edits ≡ take i edits ++ o ∷ drop (i + 1) edits = sym (take-append-drop i edits) ∙ ap (λ (l : List Edit). take i edits ++ l) next in
    let within : i ≤ length edits = omega arith in
    rw (p.1, p.2) (stops_at c.args.rules (string_bytes c.args.text) (string_bytes c.edits.new) edits (take i edits) (drop (i + 1) edits) o i _ split (sym (length-take-le i edits within)) c.edits.invariant c.in_err-new.ensures.refused)
