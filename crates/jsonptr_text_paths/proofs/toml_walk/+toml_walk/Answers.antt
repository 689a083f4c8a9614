use Rattle.std.proofs.Common.{rules, ◌≡◌, [], ◌∷◌, ◌++◌, sym, ap, ◌∙◌, append_assoc, append-nil}
use Rattle.std.proofs.lemmas.Result.{IfOk-weaker}
use Rattle.toml.specs.View.{view}
use Rattle.toml.specs.declared.value.Value.{Value, Array, Table}
use Rattle.jsonptr.specs.Text.{Text}
use Rattle.jsonptr.specs.TomlValue.{nodes}
use Rattle.jsonptr.specs.Pointer.{tokens}
use Rattle.jsonptr_text_paths.specs.PrivateWalking.{content_of_toml}
use Rattle.jsonptr_text_paths.proofs.WalkingLemmas.{EntryOf}
use Rattle.jsonptr_text_paths.proofs.VisitingLemmas.{walks_leaf, walks_whole, no_element, one_element, all_elements, no_member, one_member, all_members}
use Rattle.jsonptr_text_paths.proofs.toml_walk.+toml_walk.Goals as goal

pub visit_nodes-returns-in-String : goal.visit_nodes-returns-in-String
visit_nodes-returns-in-String g t c = walks_leaf content_of_toml g.T.Visitor.visits c.args.value.now _ (tokens c.args.pointer) c.args.visitor.now c.visit.new.self
    (ap (λ (v : Value). nodes (view v) []) c.in-String.is ∙ c.toml_law.ensures.string c.in-String.field-0)
    c.in_ok-visit.ensures

pub visit_nodes-returns-in-Integer : goal.visit_nodes-returns-in-Integer
visit_nodes-returns-in-Integer g t c = walks_leaf content_of_toml g.T.Visitor.visits c.args.value.now _ (tokens c.args.pointer) c.args.visitor.now c.visit.new.self
    (ap (λ (v : Value). nodes (view v) []) c.in-Integer.is ∙ c.toml_law.ensures.integer c.in-Integer.field-0)
    c.in_ok-visit.ensures

pub visit_nodes-returns-in-Float : goal.visit_nodes-returns-in-Float
visit_nodes-returns-in-Float g t c = walks_leaf content_of_toml g.T.Visitor.visits c.args.value.now _ (tokens c.args.pointer) c.args.visitor.now c.visit.new.self
    (ap (λ (v : Value). nodes (view v) []) c.in-Float.is ∙ c.toml_law.ensures.float c.in-Float.field-0)
    c.in_ok-visit.ensures

pub visit_nodes-returns-in-Boolean : goal.visit_nodes-returns-in-Boolean
visit_nodes-returns-in-Boolean g t c = walks_leaf content_of_toml g.T.Visitor.visits c.args.value.now _ (tokens c.args.pointer) c.args.visitor.now c.visit.new.self
    (ap (λ (v : Value). nodes (view v) []) c.in-Boolean.is ∙ c.toml_law.ensures.boolean c.in-Boolean.field-0)
    c.in_ok-visit.ensures

pub visit_nodes-returns-in-Datetime : goal.visit_nodes-returns-in-Datetime
visit_nodes-returns-in-Datetime g t c = walks_leaf content_of_toml g.T.Visitor.visits c.args.value.now _ (tokens c.args.pointer) c.args.visitor.now c.visit.new.self
    (ap (λ (v : Value). nodes (view v) []) c.in-Datetime.is ∙ c.toml_law.ensures.datetime c.in-Datetime.field-0)
    c.in_ok-visit.ensures

pub visit_nodes-returns-in-Array : goal.visit_nodes-returns-in-Array
visit_nodes-returns-in-Array g t c = IfOk-weaker c.visit_elements.result _ _
    (λ _ below. walks_whole content_of_toml g.T.Visitor.visits c.args.value.now (Array c.in-Array.elements) (tokens c.args.pointer) c.args.visitor.now c.visit.new.self c.visit_elements.new.visitor c.in-Array.is c.in_ok-visit.ensures below)
    c.visit_elements.ensures

pub visit_nodes-returns-in-Table : goal.visit_nodes-returns-in-Table
visit_nodes-returns-in-Table g t c = IfOk-weaker c.visit_members.result _ _
    (λ _ below. walks_whole content_of_toml g.T.Visitor.visits c.args.value.now (Table c.in-Table.members) (tokens c.args.pointer) c.args.visitor.now c.visit.new.self c.visit_members.new.visitor c.in-Table.is c.in_ok-visit.ensures below)
    c.visit_members.ensures

pub visit_elements-loop-index-init : goal.visit_elements-loop-index-init
visit_elements-loop-index-init g t c = no_element content_of_toml g.T.Visitor.visits (Array c.args.elements.now) (tokens c.args.pointer) c.args.visitor.now

pub visit_elements-loop-index-preserved : goal.visit_elements-loop-index-preserved
visit_elements-loop-index-preserved g t c =
    one_element content_of_toml g.T.Visitor.visits (Array c.args.elements.now) c.element-item.result c.args.elements.now.items c.deref-element-items.result.now c.loop-index.index (tokens c.args.pointer) (tokens c.as_ptr.result) c.args.visitor.now c.loop-index.visitor c.visit_nodes.new.visitor
    (c.toml_law.ensures.array c.args.elements.now)
    (c.toml_law.ensures.element c.args.elements.now)
    c.deref-element-items.ensures.value
    c.loop-index-test.true
    c.element-item.is
    (c.as_ptr.ensures.tokens ∙ c.in_ok-child.ensures ∙ ap (λ (t : Text). tokens c.args.pointer ++ t ∷ []) c.in_ok-token.ensures)
    c.loop-index.invariant
    c.in_ok-visit_nodes.ensures

pub visit_elements-returns : goal.visit_elements-returns
visit_elements-returns g t c =
    all_elements content_of_toml g.T.Visitor.visits (Array c.args.elements.now) _ c.loop-index.index (tokens c.args.pointer) c.args.visitor.now c.loop-index.visitor
    (c.toml_law.ensures.array c.args.elements.now)
    (search rules)
    c.loop-index.invariant

pub visit_members-loop-key-init : goal.visit_members-loop-key-init
visit_members-loop-key-init g t c = ([], search rules, no_member content_of_toml g.T.Visitor.visits (Table c.args.members.now) (tokens c.args.pointer) c.args.visitor.now)

pub visit_members-loop-key-preserved : goal.visit_members-loop-key-preserved
visit_members-loop-key-preserved g t c =
    let done = c.loop-key.invariant.0 in
    let e : EntryOf Value = (c.in-Some.key.now, c.in-Some.member.now) in
    let left = c.next.new.self in
    let all : c.args.members.now.entries ≡ done ++ e ∷ left = c.loop-key.invariant.1 ∙ ap (λ es. done ++ es) c.in-Some.ensures.steps in (
      done ++ e ∷ [],
      all ∙ sym (append_assoc done (e ∷ []) left),
      one_member content_of_toml g.T.Visitor.visits (Table c.args.members.now) c.args.members.now done e left (tokens c.args.pointer) (tokens c.as_ptr.result) c.args.visitor.now c.loop-key.visitor c.visit_nodes.new.visitor
          (c.toml_law.ensures.table c.args.members.now)
          (c.toml_law.ensures.member c.args.members.now)
          all
          c.iter-key-items.ensures.ordered
          (c.as_ptr.ensures.tokens ∙ c.in_ok-child.ensures ∙ ap (λ (t : Text). tokens c.args.pointer ++ t ∷ []) (c.in_ok-token.ensures.text ∙ c.as_str.ensures.value))
          c.loop-key.invariant.2
          c.in_ok-visit_nodes.ensures,
    )

pub visit_members-returns : goal.visit_members-returns
visit_members-returns g t c =
    let done = c.loop-key.invariant.0 in
    let all : c.args.members.now.entries ≡ done = c.loop-key.invariant.1 ∙ ap (λ es. done ++ es) c.in-None.ensures.steps.0 ∙ append-nil done in
    all_members content_of_toml g.T.Visitor.visits (Table c.args.members.now) c.args.members.now done (tokens c.args.pointer) c.args.visitor.now c.loop-key.visitor
    (c.toml_law.ensures.table c.args.members.now)
    (c.toml_law.ensures.member c.args.members.now)
    all
    c.loop-key.invariant.2
