use Rattle.std.proofs.Common.{rules, ◌≡◌, [], ◌∷◌, ◌++◌, sym, ap, ◌∙◌, append_assoc, append-nil}
use Rattle.std.proofs.lemmas.Result.{IfOk-weaker}
use Rattle.serde_json.specs.View.{view}
use Rattle.serde_json.specs.declared.value.Value.{Value, Array, Object}
use Rattle.jsonptr.specs.Text.{Text}
use Rattle.jsonptr.specs.Json.{nodes}
use Rattle.jsonptr.specs.Pointer.{tokens}
use Rattle.jsonptr_text_paths.specs.PrivateWalking.{content_of}
use Rattle.jsonptr_text_paths.proofs.WalkingLemmas.{EntryOf}
use Rattle.jsonptr_text_paths.proofs.VisitingLemmas.{walks_leaf, walks_whole, no_element, one_element, all_elements, no_member, one_member, all_members}
use Rattle.jsonptr_text_paths.proofs.walk.+walk.Goals as goal

pub visit_nodes-returns-in-Null : goal.visit_nodes-returns-in-Null
visit_nodes-returns-in-Null g t c = walks_leaf content_of g.T.Visitor.visits c.args.value.now _ (tokens c.args.pointer) c.args.visitor.now c.visit.new.self
    (ap (λ (v : Value). nodes (view v) []) c.in-Null.is ∙ c.json_law.ensures.null)
    c.in_ok-visit.ensures

pub visit_nodes-returns-in-Bool : goal.visit_nodes-returns-in-Bool
visit_nodes-returns-in-Bool g t c = walks_leaf content_of g.T.Visitor.visits c.args.value.now _ (tokens c.args.pointer) c.args.visitor.now c.visit.new.self
    (ap (λ (v : Value). nodes (view v) []) c.in-Bool.is ∙ c.json_law.ensures.boolean c.in-Bool.field-0)
    c.in_ok-visit.ensures

pub visit_nodes-returns-in-Number : goal.visit_nodes-returns-in-Number
visit_nodes-returns-in-Number g t c = walks_leaf content_of g.T.Visitor.visits c.args.value.now _ (tokens c.args.pointer) c.args.visitor.now c.visit.new.self
    (ap (λ (v : Value). nodes (view v) []) c.in-Number.is ∙ c.json_law.ensures.number c.in-Number.field-0)
    c.in_ok-visit.ensures

pub visit_nodes-returns-in-String : goal.visit_nodes-returns-in-String
visit_nodes-returns-in-String g t c = walks_leaf content_of g.T.Visitor.visits c.args.value.now _ (tokens c.args.pointer) c.args.visitor.now c.visit.new.self
    (ap (λ (v : Value). nodes (view v) []) c.in-String.is ∙ c.json_law.ensures.string c.in-String.field-0)
    c.in_ok-visit.ensures

pub visit_nodes-returns-in-Array : goal.visit_nodes-returns-in-Array
visit_nodes-returns-in-Array g t c = IfOk-weaker c.visit_elements.result _ _
    (λ _ below. walks_whole content_of g.T.Visitor.visits c.args.value.now (Array c.in-Array.elements) (tokens c.args.pointer) c.args.visitor.now c.visit.new.self c.visit_elements.new.visitor c.in-Array.is c.in_ok-visit.ensures below)
    c.visit_elements.ensures

pub visit_nodes-returns-in-Object : goal.visit_nodes-returns-in-Object
visit_nodes-returns-in-Object g t c = IfOk-weaker c.visit_members.result _ _
    (λ _ below. walks_whole content_of g.T.Visitor.visits c.args.value.now (Object c.in-Object.members) (tokens c.args.pointer) c.args.visitor.now c.visit.new.self c.visit_members.new.visitor c.in-Object.is c.in_ok-visit.ensures below)
    c.visit_members.ensures

pub visit_elements-loop-index-init : goal.visit_elements-loop-index-init
visit_elements-loop-index-init g t c = no_element content_of g.T.Visitor.visits (Array c.args.elements.now) (tokens c.args.pointer) c.args.visitor.now

pub visit_elements-loop-index-preserved : goal.visit_elements-loop-index-preserved
visit_elements-loop-index-preserved g t c =
    one_element content_of g.T.Visitor.visits (Array c.args.elements.now) c.element-item.result c.args.elements.now.items c.deref-element-items.result.now c.loop-index.index (tokens c.args.pointer) (tokens c.as_ptr.result) c.args.visitor.now c.loop-index.visitor c.visit_nodes.new.visitor
    (c.json_law.ensures.array c.args.elements.now)
    (c.json_law.ensures.element c.args.elements.now)
    c.deref-element-items.ensures.value
    c.loop-index-test.true
    c.element-item.is
    (c.as_ptr.ensures.tokens ∙ c.in_ok-child.ensures ∙ ap (λ (t : Text). tokens c.args.pointer ++ t ∷ []) c.in_ok-token.ensures)
    c.loop-index.invariant
    c.in_ok-visit_nodes.ensures

pub visit_elements-returns : goal.visit_elements-returns
visit_elements-returns g t c =
    all_elements content_of g.T.Visitor.visits (Array c.args.elements.now) _ c.loop-index.index (tokens c.args.pointer) c.args.visitor.now c.loop-index.visitor
    (c.json_law.ensures.array c.args.elements.now)
    (search rules)
    c.loop-index.invariant

pub visit_members-loop-key-init : goal.visit_members-loop-key-init
visit_members-loop-key-init g t c = ([], search rules, no_member content_of g.T.Visitor.visits (Object c.args.members.now) (tokens c.args.pointer) c.args.visitor.now)

pub visit_members-loop-key-preserved : goal.visit_members-loop-key-preserved
visit_members-loop-key-preserved g t c =
    let done = c.loop-key.invariant.0 in
    let e : EntryOf Value = (c.in-Some.key.now, c.in-Some.member.now) in
    let left = c.next.new.self in
    let all : c.args.members.now.entries ≡ done ++ e ∷ left = c.loop-key.invariant.1 ∙ ap (λ es. done ++ es) c.in-Some.ensures.steps in (
      done ++ e ∷ [],
      all ∙ sym (append_assoc done (e ∷ []) left),
      one_member content_of g.T.Visitor.visits (Object c.args.members.now) c.args.members.now done e left (tokens c.args.pointer) (tokens c.as_ptr.result) c.args.visitor.now c.loop-key.visitor c.visit_nodes.new.visitor
          (c.json_law.ensures.object c.args.members.now)
          (c.json_law.ensures.member c.args.members.now)
          all
          c.iter-key-items.ensures.ordered
          (c.as_ptr.ensures.tokens ∙ c.in_ok-child.ensures ∙ ap (λ (t : Text). tokens c.args.pointer ++ t ∷ []) (c.in_ok-token.ensures.text ∙ c.as_str.ensures.value))
          c.loop-key.invariant.2
          c.in_ok-visit_nodes.ensures,
    )

pub visit_members-returns : goal.visit_members-returns
visit_members-returns g t c =
    let done = c.loop-key.invariant.0 in
    let all : c.args.members.now.entries ≡ done = c.loop-key.invariant.1 ∙ ap (λ es. done ++ es) c.in-None.ensures.steps.0 ∙ append-nil done in
    all_members content_of g.T.Visitor.visits (Object c.args.members.now) c.args.members.now done (tokens c.args.pointer) c.args.visitor.now c.loop-key.visitor
    (c.json_law.ensures.object c.args.members.now)
    (c.json_law.ensures.member c.args.members.now)
    all
    c.loop-key.invariant.2
