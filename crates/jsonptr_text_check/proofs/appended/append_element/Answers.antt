use Rattle.std.proofs.Common.{◌<◌, List, ◌∷◌, ◌++◌, [], length, refl, sym, ◌∙◌, ◌≡◌, subst, arith, length-append}
use Rattle.json.specs.Token.{Token}
use Rattle.serde_json.specs.Data.{no_items}
use Rattle.jsonptr_text_search.specs.PrivateReading.{with_items_before}
use Rattle.jsonptr_text_search.proofs.ReadingLemmas.{items_begin, items_go_on, items_close}
use Rattle.jsonptr_text_search.proofs.SearchLemmas.{len_before}
use Rattle.jsonptr_text_check.proofs.ChildLemmas.{appends_item}
use Rattle.jsonptr_text_check.proofs.appended.append_element.Goals as goal

pub elements-init : goal.elements-init
elements-init c = ([], items_begin c.args.depth c.args.readers.now.one, items_begin c.args.depth c.args.readers.now.two, refl, omega arith, omega arith)

pub elements-preserved : goal.elements-preserved
elements-preserved c =
    let i = c.elements.invariant in
    let r = c.in_ok-same.ensures.passed in
    let more = c.elements-test.ensures in
    let also = c.if-take_end_array.ensures in
    let less = c.in_ok-same.ensures.one_shorter in
    let less_too = c.in_ok-same.ensures.two_shorter in
    let shorter : length c.same.new.one < length c.elements.readers.one = subst (λ (ts : List Token). length c.same.new.one < length ts) more.1 less in
    let shorter_too : length c.same.new.two < length c.elements.readers.two = subst (λ (ts : List Token). length c.same.new.two < length ts) also.1 less_too in (
      i.0 ++ r.0 ∷ [],
      items_go_on c.args.depth c.args.readers.now.one c.elements.readers.one c.take_end_array.new.self c.same.new.one i.0 r.0 i.1 more r.1 less,
      items_go_on c.args.depth c.args.readers.now.two c.elements.readers.two c.take_end_array-in-elements.new.self c.same.new.two i.0 r.0 i.2 also r.2 less_too,
      omega (arith, i.3, length-append i.0 (r.0 ∷ [])),
      omega (arith, i.4, shorter),
      omega (arith, i.5, shorter_too),
    )

pub returns-clause-passed : goal.returns-clause-passed
returns-clause-passed c =
    let i = c.elements.invariant in
    let r = c.in_ok-same_text.ensures.passed in
    let more = c.if-take_end_array-2.ensures in
    let at : c.elements.count ≡ c.args.index = c.is_at.ensures.0 c.if-not-is_at.false in
    let len : length i.0 ≡ c.args.index = sym i.3 ∙ at in (
      with_items_before i.0 no_items,
      with_items_before (i.0 ++ r.0 ∷ []) no_items,
      r.0,
      items_close c.args.depth c.args.readers.now.one c.elements.readers.one c.take_end_array.new.self i.0 i.1 c.elements-test.ensures,
      items_close c.args.depth c.args.readers.now.two c.same_text.new.reader c.take_end_array-3.new.self (i.0 ++ r.0 ∷ [])
          (items_go_on c.args.depth c.args.readers.now.two c.elements.readers.two c.take_end_array-2.new.self c.same_text.new.reader i.0 r.0 i.2 more r.2 c.in_ok-same_text.ensures.shorter) c.if-not-take_end_array.ensures,
      r.1,
      sym len ∙ sym (len_before i.0),
      appends_item c.args.index i.0 r.0 len,
    )
