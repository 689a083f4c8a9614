use Rattle.std.proofs.Common.{rules, ◌≡◌, [], ◌∷◌, ◌++◌, sym, ap, ◌∙◌, append_assoc, append-nil}
use Rattle.toml.proofs.Views.{Entry}
use Rattle.jsonptr_toml_edit.proofs.SameLemmas.{same_push, members_all, items_all, equal_texts, same_len}
use Rattle.jsonptr_toml_edit.proofs.same_toml.+same.Goals as goal

pub same_elements-returns : goal.same_elements-returns
same_elements-returns t c h = items_all c.args.left.now.items c.args.right.now.items (same_len c.args.left.now c.args.right.now (sym c.len.ensures ∙ c.if-len.false ∙ c.len-2.ensures))
    (λ i x lt. c.loop-index.invariant i x (search (rules, lt)))

pub same_members-loop-key-preserved : goal.same_members-loop-key-preserved
same_members-loop-key-preserved t c =
    let invariant = c.loop-key.invariant in
    let e : Entry = (c.in-Some.key.now, c.in-Some.member.now) in
    let f : Entry = (c.in-Some-next.name.now, c.in-Some-next.other.now) in
    let left = invariant.left ∙ ap (λ es. invariant.done ++ es) c.in-Some.ensures.steps in
    let right = invariant.right ∙ ap (λ es. invariant.also ++ es) c.in-Some-next.ensures.steps in
    record {
      done = invariant.done ++ e ∷ [];
      also = invariant.also ++ f ∷ [];
      left = left ∙ sym (append_assoc invariant.done (e ∷ []) c.next.new.self);
      right = right ∙ sym (append_assoc invariant.also (f ∷ []) c.next-in-loop-key.new.self);
      same = same_push invariant.done invariant.also e f invariant.same
          (equal_texts c.as_str.result.now c.as_str-in-loop-key.result.now _ _ c.ne.result c.as_str.ensures.value c.as_str-in-loop-key.ensures.value c.ne.ensures c.if-ne.false)
          (c.is_same.ensures c.if-not-is_same.false);
    }

pub same_members-returns : goal.same_members-returns
same_members-returns t c h =
    let invariant = c.loop-key.invariant in
    let all : c.args.left.now.entries ≡ invariant.done = invariant.left ∙ ap (λ es. invariant.done ++ es) c.in-None.ensures.steps.0 ∙ append-nil invariant.done in
    members_all c.args.left.now c.args.right.now invariant.done invariant.also c.loop-key.others all invariant.right (sym c.len.ensures.len ∙ c.if-len.false ∙ c.len-2.ensures.len) invariant.same
