use Rattle.std.proofs.Common.{◌≡◌, ◌<◌, ◌≤◌, List, [], ◌∷◌, ◌++◌, true≢false, get_or, refl, sym, ap, ◌∙◌, subst, append_assoc, arith}
use Rattle.toml.specs.Data.{depth, items_depth, members_depth}
use Rattle.toml.specs.View.{view, items_view, members_view}
use Rattle.toml.specs.declared.value.Value.{Value}
use Rattle.jsonptr_toml.proofs.DepthLemmas.{Entry, all_within, one_deeper, member_within, member_deeper, below_or_above}
use Rattle.jsonptr_toml.proofs.depth.+nests.Goals as goal

pub elements_nest_within-returns-then-not-toml_nests_within : goal.elements_nest_within-returns-then-not-toml_nests_within
elements_nest_within-returns-then-not-toml_nests_within t c =
    let deeper : c.args.levels < depth (view c.element-item.result) = below_or_above _ _ (λ h. true≢false (sym (c.toml_nests_within.ensures.1 h) ∙ c.if-not-toml_nests_within.true)) in
    let here : depth (view (get_or c.deref-element-items.result.now c.loop-element.element-index c.element-item.result)) ≡ depth (view c.element-item.result) = sym (ap (λ (v : Value). depth (view v)) c.element-item.is) in
    let whole : c.args.levels < items_depth (items_view c.deref-element-items.result.now) = one_deeper c.deref-element-items.result.now c.args.levels c.loop-element.element-index c.element-item.result c.loop-element-test.true (omega (arith, here, deeper)) in
    let all : c.args.levels < items_depth (items_view c.args.elements.now.items) = subst (λ (vs : List Value). c.args.levels < items_depth (items_view vs)) c.deref-element-items.ensures.value whole in
    (λ off. absurd (true≢false (sym off)), λ h. absurd (omega (arith, h, all)))

pub elements_nest_within-returns : goal.elements_nest_within-returns
elements_nest_within-returns t c =
    let items = c.deref-element-items.result.now in
    let within : items_depth (items_view items) ≤ c.args.levels = all_within items c.args.levels (λ i x low. c.loop-element.invariant i x (omega (arith, low, c.loop-element-test.false))) in
    (λ on. subst (λ (vs : List Value). items_depth (items_view vs) ≤ c.args.levels) c.deref-element-items.ensures.value within, λ h. refl)

pub table_nests_within-returns-then-not-toml_nests_within : goal.table_nests_within-returns-then-not-toml_nests_within
table_nests_within-returns-then-not-toml_nests_within t c =
    let done = c.loop-key.invariant.0 in
    let e : Entry = (c.in-Some._key.now, c.in-Some.member.now) in
    let left = c.next.new.self in
    let all : c.args.table.now.entries ≡ done ++ e ∷ left = c.loop-key.invariant.1 ∙ ap (λ es. done ++ es) c.in-Some.ensures.steps in
    let deeper : c.args.levels < depth (view e.1) = below_or_above _ _ (λ h. true≢false (sym (c.toml_nests_within.ensures.1 h) ∙ c.if-not-toml_nests_within.true)) in
    let whole : c.args.levels < members_depth (members_view c.args.table.now.entries) = subst (λ (es : List Entry). c.args.levels < members_depth (members_view es)) (sym all) (member_deeper done e left c.args.levels deeper) in
    (λ off. absurd (true≢false (sym off)), λ h. absurd (omega (arith, h, whole)))

pub table_nests_within-loop-key-preserved : goal.table_nests_within-loop-key-preserved
table_nests_within-loop-key-preserved t c =
    let done = c.loop-key.invariant.0 in
    let e : Entry = (c.in-Some._key.now, c.in-Some.member.now) in
    let left = c.next.new.self in
    let all : c.args.table.now.entries ≡ done ++ e ∷ left = c.loop-key.invariant.1 ∙ ap (λ es. done ++ es) c.in-Some.ensures.steps in
    (done ++ e ∷ [], all ∙ sym (append_assoc done (e ∷ []) left), member_within done e c.args.levels c.loop-key.invariant.2 (c.toml_nests_within.ensures.0 c.if-not-toml_nests_within.false))
