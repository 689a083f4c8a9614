use Rattle.std.proofs.Common.{◌≡◌, ◌<◌, Bool, true, List, ℕ, suc, [], ◌∷◌, ◌++◌, length, Some, refl, sym, ap, ◌∙◌, subst, arith, length-append, add-one}
use Rattle.json.specs.Token.{Token}
use Rattle.json.specs.Reads.{token_of}
use Rattle.json.proofs.Grammar.{read_key-shorter}
use Rattle.serde_json.specs.Data.{array, object, no_items, no_members, put}
use Rattle.serde_json.specs.Find.{get_member, get_item}
use Rattle.jsonptr_text_search.specs.PrivateReading.{with_items_before}
use Rattle.jsonptr_text_search.specs.Search.{Choice, choice_of, choices}
use Rattle.jsonptr_text_search.proofs.ReadingLemmas.{items_begin, items_go_on, items_close, members_begin, members_go_on, members_close, reads_array, reads_object, a_key, no_key}
use Rattle.jsonptr_text_check.specs.Leading.{LeadsToText, Passes}
use Rattle.jsonptr_text_check.specs.PrivateLeading.{ChildLeads, ChildLeadsIf, Placed, ElementsPlaced, MembersPlaced, EndsMember}
use Rattle.jsonptr_text_check.proofs.LeadingLemmas.{next_item, next_member, leads_by_item, leads_by_member, next_element, element_closed, next_member_placed, member_closed, placed_by_element, placed_by_member, placed_here, no_selectors}
use Rattle.jsonptr_text_check.proofs.SideLemmas.{no_name}
use Rattle.jsonptr_text_check.proofs.lead.+pass.Goals as goal

pub pass-returns-in_default-clause-placed : goal.pass-returns-in_default-clause-placed
pass-returns-in_default-clause-placed t c =
    let value = c.args.target.value.now in
    let none : choices c.args.target.selectors.now ≡ [] = no_selectors c.args.target.selectors.now c.in_default.ensures.cases in
    subst (λ (cs : List Choice). Placed cs value c.args.readers.now.one c.same_text.new.reader c.args.readers.now.two c.same_text-in_default.new.reader) (sym none)
    (placed_here value c.args.readers.now.one c.same_text.new.reader c.args.readers.now.two c.same_text-in_default.new.reader c.in_ok-same_text.ensures.same c.in_ok-same_text-2.ensures.same)

pub pass-returns-in_ok-pass_element-in-BeginArray-clause-passed :
    goal.pass-returns-in_ok-pass_element-in-BeginArray-clause-passed
pass-returns-in_ok-pass_element-in-BeginArray-clause-passed t c =
    let r = c.in_ok-pass_element-in-BeginArray.ensures.passed in
    let split : choices c.args.target.selectors.now ≡ choice_of c.in-Some.selector.now ∷ choices c.in-Some.selectors.now = ap choices c.in-Some.ensures.cases.0 in (
      array r.0,
      reads_array c.args.depth c.args.readers.now.one c.next.new.self c.pass_element.new.readers.one r.0 (omega arith) (c.in-Some-next.ensures.value ∙ ap (λ k. token_of k ∷ c.next.new.self) c.in-BeginArray.is) r.1,
      subst (λ (cs : List Choice). LeadsToText cs c.args.target.value.now (array r.0)) (sym split)
          (leads_by_item c.in-Some.selector.now c.in_ok-index-in-BeginArray.index r.0 (choices c.in-Some.selectors.now) c.args.target.value.now (grind arith) r.2),
    )

pub pass-returns-in_ok-pass_element-in-BeginArray-clause-placed :
    goal.pass-returns-in_ok-pass_element-in-BeginArray-clause-placed
pass-returns-in_ok-pass_element-in-BeginArray-clause-placed t c =
    let split : choices c.args.target.selectors.now ≡ choice_of c.in-Some.selector.now ∷ choices c.in-Some.selectors.now = ap choices c.in-Some.ensures.cases.0 in
    subst (λ (cs : List Choice). Placed cs c.args.target.value.now c.args.readers.now.one c.pass_element.new.readers.one c.args.readers.now.two c.pass_element.new.readers.two) (sym split)
    (placed_by_element c.in-Some.selector.now c.in_ok-index-in-BeginArray.index (choices c.in-Some.selectors.now) c.args.target.value.now c.args.readers.now.one c.next.new.self c.pass_element.new.readers.one c.args.readers.now.two c.pass_element.new.readers.two (grind arith)
    (c.in-Some-next.ensures.value ∙ ap (λ k. token_of k ∷ c.next.new.self) c.in-BeginArray.is) c.in_ok-pass_element-in-BeginArray.ensures.placed)

pub pass-returns-in_ok-pass_member-in-BeginObject-clause-passed :
    goal.pass-returns-in_ok-pass_member-in-BeginObject-clause-passed
pass-returns-in_ok-pass_member-in-BeginObject-clause-passed t c =
    let r = c.in_ok-pass_member-in-BeginObject.ensures.passed in
    let split : choices c.args.target.selectors.now ≡ choice_of c.in-Some.selector.now ∷ choices c.in-Some.selectors.now = ap choices c.in-Some.ensures.cases.0 in (
      object r.0,
      reads_object c.args.depth c.args.readers.now.one c.next.new.self c.pass_member.new.readers.one r.0 (omega arith) (c.in-Some-next.ensures.value ∙ ap (λ k. token_of k ∷ c.next.new.self) c.in-BeginObject.is) r.1,
      subst (λ (cs : List Choice). LeadsToText cs c.args.target.value.now (object r.0)) (sym split)
          (leads_by_member c.in-Some.selector.now r.0 (choices c.in-Some.selectors.now) c.args.target.value.now
          (subst (λ (k : List ℕ). ChildLeads (get_member k r.0) (choices c.in-Some.selectors.now) c.args.target.value.now) c.as_str-key.ensures.value r.2)),
    )

pub pass-returns-in_ok-pass_member-in-BeginObject-clause-placed :
    goal.pass-returns-in_ok-pass_member-in-BeginObject-clause-placed
pass-returns-in_ok-pass_member-in-BeginObject-clause-placed t c =
    let value = c.args.target.value.now in
    let rest = choices c.in-Some.selectors.now in
    let split : choices c.args.target.selectors.now ≡ choice_of c.in-Some.selector.now ∷ choices c.in-Some.selectors.now = ap choices c.in-Some.ensures.cases.0 in
    subst (λ (cs : List Choice). Placed cs value c.args.readers.now.one c.pass_member.new.readers.one c.args.readers.now.two c.pass_member.new.readers.two) (sym split)
    (placed_by_member c.in-Some.selector.now rest value c.args.readers.now.one c.next.new.self c.pass_member.new.readers.one c.args.readers.now.two c.pass_member.new.readers.two
    (c.in-Some-next.ensures.value ∙ ap (λ k. token_of k ∷ c.next.new.self) c.in-BeginObject.is)
    (subst (λ (k : List ℕ). EndsMember k rest value c.next.new.self c.pass_member.new.readers.one c.args.readers.now.two c.pass_member.new.readers.two) c.as_str-key.ensures.value c.in_ok-pass_member-in-BeginObject.ensures.placed))

pub pass_element-elements-init : goal.pass_element-elements-init
pass_element-elements-init t c = ([], items_begin c.args.depth c.args.readers.now.one, refl, tt, omega arith, (refl, refl))

pub pass_element-elements-preserved : goal.pass_element-elements-preserved
pass_element-elements-preserved t c =
    let i = c.elements.invariant in
    let r = c.in_ok-visit.ensures.passed in
    let more = c.elements-test.ensures in
    let less = c.in_ok-visit.ensures.shorter in
    let shorter : length c.visit.new.readers.one < length c.elements.readers.one = subst (λ (ts : List Token). length c.visit.new.readers.one < length ts) more.1 less in
    let cs = choices c.args.target.selectors.now in
    let value = c.args.target.value.now in
    let at = λ (e : c.is_at-wanted.result ≡ true). c.is_at-wanted.ensures.0 e in
    let now = c.take_end_array.new.self in
    let new = c.visit.new.readers.one in
    let passes : Passes now new = (c.args.depth, r.0, r.1) in (
      i.0 ++ r.0 ∷ [],
      items_go_on c.args.depth c.args.readers.now.one c.elements.readers.one now new i.0 r.0 i.1 more r.1 less,
      omega (arith, i.2, length-append i.0 (r.0 ∷ [])),
      subst (λ (b : Bool). ChildLeadsIf b (get_item c.args.index (with_items_before (i.0 ++ r.0 ∷ []) no_items)) cs value) (sym c.is_either-is_done.ensures)
          (next_item c.elements.is_done c.is_at-wanted.result c.step_of-step.result c.args.index cs value i.0 r.0 i.3 c.step_of-step.ensures r.2 (λ e. sym i.2 ∙ at e)),
      omega (arith, i.4, shorter),
      rw add-one (subst (λ (b : Bool). ElementsPlaced b (suc c.elements.count) c.args.index cs value c.args.readers.now.one new c.args.readers.now.two c.visit.new.readers.two) (sym c.is_either-is_done.ensures)
          (next_element c.elements.is_done c.is_at-wanted.result c.step_of-step.result c.elements.count c.args.index cs value c.args.readers.now.one now new c.args.readers.now.two c.elements.readers.two c.visit.new.readers.two
          (subst (λ (l : List Token). ElementsPlaced c.elements.is_done c.elements.count c.args.index cs value c.args.readers.now.one l c.args.readers.now.two c.elements.readers.two) (sym more.1) i.5)
          c.step_of-step.ensures c.in_ok-visit.ensures.placed passes at)),
    )

pub pass_element-returns-clause-passed : goal.pass_element-returns-clause-passed
pass_element-returns-clause-passed t c =
    let i = c.elements.invariant in
    let done : c.elements.is_done ≡ true = grind arith in (
      with_items_before i.0 no_items,
      items_close c.args.depth c.args.readers.now.one c.elements.readers.one c.take_end_array.new.self i.0 i.1 c.elements-test.ensures,
      subst (λ (b : Bool). ChildLeadsIf b (get_item c.args.index (with_items_before i.0 no_items)) (choices c.args.target.selectors.now) c.args.target.value.now) done i.3,
    )

pub pass_element-returns-clause-placed : goal.pass_element-returns-clause-placed
pass_element-returns-clause-placed t c =
    let cs = choices c.args.target.selectors.now in
    let value = c.args.target.value.now in
    element_closed c.args.index cs value c.args.readers.now.one c.elements.readers.one c.take_end_array.new.self c.args.readers.now.two c.elements.readers.two c.take_end_array-else-not-is_done.new.self
    (subst (λ (b : Bool). ElementsPlaced b c.elements.count c.args.index cs value c.args.readers.now.one c.elements.readers.one c.args.readers.now.two c.elements.readers.two) c.if-not-is_done.false c.elements.invariant.5)
    c.elements-test.ensures c.if-not-take_end_array.ensures

pub pass_member-members-init : goal.pass_member-members-init
pass_member-members-init t c = (no_members, members_begin c.args.depth c.args.readers.now.one, tt, omega arith, ([], refl, refl))

pub pass_member-members-preserved : goal.pass_member-members-preserved
pass_member-members-preserved t c =
    let i = c.members.invariant in
    let r = c.in_ok-visit.ensures.passed in
    let named = a_key c.in_ok-name.field-0 c.in-Some.name c.members.readers.one c.next_key.new.self c.in_ok-name.ensures.value c.in-Some.is in
    let less = c.in_ok-visit.ensures.shorter in
    let passed = read_key-shorter c.members.readers.one (Some c.in-Some.name.now) c.next_key.new.self named in
    let cs = choices c.args.target.selectors.now in
    let value = c.args.target.value.now in
    let k = c.args.member.key.now in
    let new = c.visit.new.readers.one in
    let passes : Passes c.next_key.new.self new = (c.args.depth, r.0, r.1) in
    let may = c.may_follow.ensures (grind arith) in (
      put c.in-Some.name.now r.0 i.0,
      members_go_on c.args.depth c.args.readers.now.one c.members.readers.one c.next_key.new.self new c.in-Some.name.now r.0 i.0 i.1 named r.1 (omega (arith, less, passed)),
      subst (λ (b : Bool). ChildLeadsIf b (get_member k (put c.in-Some.name.now r.0 i.0)) cs value) (sym c.is_either-is_done.ensures)
          (next_member c.members.is_done c.is_at-wanted.result c.is_text-named.result c.step_of-step.result k c.in-Some.name.now cs value i.0 r.0 i.2 c.step_of-step.ensures r.2 c.is_text-named.ensures may),
      omega (arith, i.3, less, passed),
      subst (λ (b : Bool). MembersPlaced b k cs value c.args.readers.now.one new c.args.readers.now.two c.visit.new.readers.two) (sym c.is_either-is_done.ensures)
          (next_member_placed c.members.is_done c.is_at-wanted.result c.is_text-named.result c.step_of-step.result k c.in-Some.name.now cs value c.args.readers.now.one c.members.readers.one c.next_key.new.self new
          c.args.readers.now.two c.members.readers.two c.key_if.new.reader c.visit.new.readers.two i.4 named c.in_ok-key_if.ensures c.step_of-step.ensures c.in_ok-visit.ensures.placed passes c.is_text-named.ensures may),
    )

pub pass_member-returns-clause-passed : goal.pass_member-returns-clause-passed
pass_member-returns-clause-passed t c =
    let i = c.members.invariant in
    let done : c.members.is_done ≡ true = grind arith in (
      i.0,
      members_close c.args.depth c.args.readers.now.one c.members.readers.one c.next_key.new.self i.0 i.1 (no_key c.in_ok-name.field-0 c.members.readers.one c.next_key.new.self c.in_ok-name.ensures.value c.in_default.not-Some),
      subst (λ (b : Bool). ChildLeadsIf b (get_member c.args.member.key.now i.0) (choices c.args.target.selectors.now) c.args.target.value.now) done i.2,
    )

pub pass_member-returns-clause-placed : goal.pass_member-returns-clause-placed
pass_member-returns-clause-placed t c =
    let cs = choices c.args.target.selectors.now in
    let value = c.args.target.value.now in
    let k = c.args.member.key.now in
    member_closed k cs value c.args.readers.now.one c.members.readers.one c.next_key.new.self c.args.readers.now.two c.members.readers.two c.next_key-else-not-is_done.new.self
    (subst (λ (b : Bool). MembersPlaced b k cs value c.args.readers.now.one c.members.readers.one c.args.readers.now.two c.members.readers.two) c.if-not-is_done.false c.members.invariant.4)
    (no_key c.in_ok-name.field-0 c.members.readers.one c.next_key.new.self c.in_ok-name.ensures.value c.in_default.not-Some)
    (no_name c.in_ok-next_key.field-0 c.members.readers.two c.next_key-else-not-is_done.new.self c.is_some.result c.in_ok-next_key.ensures.value c.is_some.ensures c.if-is_some.false)
