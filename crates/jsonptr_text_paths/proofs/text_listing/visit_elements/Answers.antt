use Rattle.std.proofs.Common.{ℕ, ◌<◌, List, [], ◌∷◌, ◌++◌, ◌-◌, length, refl, ap, subst, arith, length-append}
use Rattle.serde_json.specs.Read.{max_depth}
use Rattle.json.specs.Token.{Token}
use Rattle.serde_json.specs.View.{view}
use Rattle.jsonptr.specs.Text.{dec}
use Rattle.jsonptr_text_search.proofs.ReadingLemmas.{items_begin, items_go_on, items_close, items_stop}
use Rattle.jsonptr_text_paths.proofs.ElementsLemmas.{elements_none, elements_more}
use Rattle.jsonptr_text_paths.proofs.text_listing.visit_elements.Goals as goal

pub elements-init : goal.elements-init
elements-init g c = ([], items_begin (max_depth - 1) c.args.reader.now, refl, omega arith, elements_none g.T.Visitor.visits c.args.visitor.now)

pub returns-in_err-visit_next-clause-refused : goal.returns-in_err-visit_next-clause-refused
returns-in_err-visit_next-clause-refused g c = λ e.
    let i = c.elements.invariant in
    items_stop (max_depth - 1) c.args.reader.now c.elements.reader c.take_end_array.new.self i.0 i.1 c.elements-test.ensures (c.in_err-visit_next.ensures.refused (grind (arith, e, c.from_residual.ensures)))

pub elements-preserved : goal.elements-preserved
elements-preserved g c =
    let i = c.elements.invariant in
    let r = c.in_ok-visit_next.ensures.listed in
    let more = c.elements-test.ensures in
    let shorter = c.in_ok-visit_next.ensures.shorter in
    let less : length c.visit_next.new.reader < length c.elements.reader = subst (λ (ts : List Token). length c.visit_next.new.reader < length ts) more.1 shorter in (
      i.0 ++ view r.0 ∷ [],
      items_go_on (max_depth - 1) c.args.reader.now c.elements.reader c.take_end_array.new.self c.visit_next.new.reader i.0 (view r.0) i.1 more r.1 shorter,
      omega (arith, i.2, length-append i.0 (view r.0 ∷ [])),
      omega (arith, i.2, i.3, less, length-append i.0 (view r.0 ∷ [])),
      elements_more g.T.Visitor.visits i.0 r.0 (dec c.elements.len ∷ []) c.args.visitor.now c.elements.visitor c.visit_next.new.visitor (ap (λ (n : ℕ). dec n ∷ []) i.2) i.4 r.2,
    )

pub returns-clause-listed : goal.returns-clause-listed
returns-clause-listed g c =
    let i = c.elements.invariant in
    (i.0, items_close (max_depth - 1) c.args.reader.now c.elements.reader c.take_end_array.new.self i.0 i.1 c.elements-test.ensures, i.2, i.4)
