use Rattle.std.proofs.Common.{◌<◌, Bool, List, [], ◌∷◌, ◌++◌, length, refl, sym, ◌∙◌, subst, arith, length-append}
use Rattle.json.specs.Token.{Token}
use Rattle.serde_json.specs.Data.{no_items}
use Rattle.jsonptr_text_search.specs.PrivateReading.{with_items_before}
use Rattle.jsonptr_text_search.proofs.ReadingLemmas.{items_begin, items_go_on, items_close}
use Rattle.jsonptr_text_check.specs.PrivateEditing.{ItemsAdded}
use Rattle.jsonptr_text_check.proofs.ChildLemmas.{inserts_item}
use Rattle.jsonptr_text_check.proofs.AddingLemmas.{items_after}
use Rattle.jsonptr_text_check.proofs.added.add_element.Goals as goal

pub elements-init : goal.elements-init
elements-init c = ([], [], items_begin c.args.depth c.args.readers.now.one, items_begin c.args.depth c.args.readers.now.two, refl, refl, omega arith, omega arith)

pub elements-preserved : goal.elements-preserved
elements-preserved c =
    let i = c.elements.invariant in
    let r = c.in_ok-visit_element.ensures.passed in
    let more = c.elements-test.ensures in
    let less = c.in_ok-visit_element.ensures.two_shorter in
    let shorter : length c.visit_element.new.readers.two < length c.elements.readers.two = subst (λ (ts : List Token). length c.visit_element.new.readers.two < length ts) more.1 less in
    let short = c.in_ok-visit_element.ensures.one_shorter in
    let next = items_after c.elements.is_done c.is_at-wanted.result c.args.index c.args.depth c.args.json.now c.args.readers.now.one c.elements.readers.one c.visit_element.new.readers.one i.0 i.1 r.0 i.2 i.5 r.2 (λ e. sym i.4 ∙ c.is_at-wanted.ensures.0 e) in (
      next.0,
      i.1 ++ r.0 ∷ [],
      next.1,
      items_go_on c.args.depth c.args.readers.now.two c.elements.readers.two c.take_end_array.new.self c.visit_element.new.readers.two i.1 r.0 i.3 more r.1 less,
      omega (arith, i.4, length-append i.1 (r.0 ∷ [])),
      subst (λ (b : Bool). ItemsAdded b c.args.index c.args.json.now next.0 (i.1 ++ r.0 ∷ [])) (sym c.is_either-is_done.ensures) next.2,
      omega (arith, i.6, short),
      omega (arith, i.7, shorter),
    )

pub returns-clause-passed : goal.returns-clause-passed
returns-clause-passed c =
    let i = c.elements.invariant in
    let h = subst (λ (b : Bool). ItemsAdded b c.args.index c.args.json.now i.0 i.1) c.if-not-is_done.false i.5 in (
      with_items_before i.0 no_items,
      with_items_before i.1 no_items,
      h.e,
      items_close c.args.depth c.args.readers.now.one c.elements.readers.one c.take_end_array-2.new.self i.0 i.2 c.if-not-take_end_array.ensures,
      items_close c.args.depth c.args.readers.now.two c.elements.readers.two c.take_end_array.new.self i.1 i.3 c.elements-test.ensures,
      h.reads,
      inserts_item c.args.index c.args.json.now i.0 i.1 h,
    )
