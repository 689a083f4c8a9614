use Rattle.std.proofs.Common.{◌≡◌, ◌<◌, Bool, true, List, ℕ, [], ◌∷◌, ◌++◌, length, Some, inl, inr, refl, sym, ap, ◌∙◌, subst, arith, length-append}
use Rattle.json.specs.Token.{Token}
use Rattle.json.specs.Reads.{token_of}
use Rattle.json.proofs.Grammar.{read_key-shorter}
use Rattle.serde_json.specs.Data.{array, object, no_items, no_members, put}
use Rattle.jsonptr_text_search.specs.PrivateReading.{with_items_before}
use Rattle.jsonptr_text_search.specs.Search.{Choice, choice_of, choices}
use Rattle.jsonptr_text_search.proofs.ReadingLemmas.{items_begin, items_go_on, items_close, members_begin, members_go_on, members_close, reads_array, reads_object, a_key, no_key}
use Rattle.jsonptr_text_check.specs.Editing.{OnlyMemberDiffers, ChangesAt, Makes}
use Rattle.jsonptr_text_check.specs.PrivateEditing.{ItemsSo, MembersSo}
use Rattle.jsonptr_text_check.proofs.ChildLemmas.{one_item, only_differs, one_member}
use Rattle.jsonptr_text_check.proofs.SideLemmas.{no_name}
use Rattle.jsonptr_text_check.proofs.check.+check_change.Goals as goal

pub check_change-returns-in_ok-change_element-in-BeginArray-clause-passed :
    goal.check_change-returns-in_ok-change_element-in-BeginArray-clause-passed
check_change-returns-in_ok-change_element-in-BeginArray-clause-passed t c =
    let r = c.in_ok-change_element-in-BeginArray.ensures.passed in
    let split : choices c.args.at.selectors.now ≡ choice_of c.in-Some.selector.now ∷ choices c.in-Some.selectors.now = ap choices c.in-Some.ensures.cases.0 in (
      array r.0,
      array r.1,
      reads_array c.args.depth c.args.readers.now.one c.same_token.new.one c.change_element.new.readers.one r.0 (omega arith) (c.in_ok-token.ensures.one ∙ ap (λ k. token_of k ∷ c.same_token.new.one) c.in-BeginArray.is) r.4,
      reads_array c.args.depth c.args.readers.now.two c.same_token.new.two c.change_element.new.readers.two r.1 (omega arith) (c.in_ok-token.ensures.two ∙ ap (λ k. token_of k ∷ c.same_token.new.two) c.in-BeginArray.is) r.5,
      subst (λ (cs : List Choice). ChangesAt cs (Makes c.args.at.change.now) (array r.0) (array r.1)) (sym split)
          (inl (record { ds = r.0; ds2 = r.1; i = c.in_ok-index-in-BeginArray.index; at = r.2; at2 = r.3; old = refl; new = refl; selects = grind arith; differs = r.6; changes = r.7 })),
    )

pub check_change-returns-in_ok-change_member-in-BeginObject-clause-passed :
    goal.check_change-returns-in_ok-change_member-in-BeginObject-clause-passed
check_change-returns-in_ok-change_member-in-BeginObject-clause-passed t c =
    let r = c.in_ok-change_member-in-BeginObject.ensures.passed in
    let split : choices c.args.at.selectors.now ≡ choice_of c.in-Some.selector.now ∷ choices c.in-Some.selectors.now = ap choices c.in-Some.ensures.cases.0 in (
      object r.0,
      object r.1,
      reads_object c.args.depth c.args.readers.now.one c.same_token.new.one c.change_member.new.readers.one r.0 (omega arith) (c.in_ok-token.ensures.one ∙ ap (λ k. token_of k ∷ c.same_token.new.one) c.in-BeginObject.is) r.4,
      reads_object c.args.depth c.args.readers.now.two c.same_token.new.two c.change_member.new.readers.two r.1 (omega arith) (c.in_ok-token.ensures.two ∙ ap (λ k. token_of k ∷ c.same_token.new.two) c.in-BeginObject.is) r.5,
      subst (λ (cs : List Choice). ChangesAt cs (Makes c.args.at.change.now) (object r.0) (object r.1)) (sym split)
          (inr (record { ms = r.0; ms2 = r.1; at = r.2; at2 = r.3; old = refl; new = refl; differs = subst (λ (k : List ℕ). OnlyMemberDiffers k r.2 r.3 r.0 r.1) c.as_str-key.ensures.value r.6; changes = r.7 })),
    )

pub change_element-elements-init : goal.change_element-elements-init
change_element-elements-init t c = ([], [], items_begin c.args.depth c.args.readers.now.one, items_begin c.args.depth c.args.readers.now.two, refl, refl, omega arith, omega arith)

pub change_element-elements-preserved : goal.change_element-elements-preserved
change_element-elements-preserved t c =
    let i = c.elements.invariant in
    let r = c.in_ok-visit.ensures.passed in
    let more = c.elements-test.ensures in
    let also = c.if-take_end_array.ensures in
    let less = c.in_ok-visit.ensures.one_shorter in
    let less_too = c.in_ok-visit.ensures.two_shorter in
    let shorter : length c.visit.new.readers.one < length c.elements.readers.one = subst (λ (ts : List Token). length c.visit.new.readers.one < length ts) more.1 less in
    let shorter_too : length c.visit.new.readers.two < length c.elements.readers.two = subst (λ (ts : List Token). length c.visit.new.readers.two < length ts) also.1 less_too in (
      i.0 ++ r.0 ∷ [],
      i.1 ++ r.1 ∷ [],
      items_go_on c.args.depth c.args.readers.now.one c.elements.readers.one c.take_end_array.new.self c.visit.new.readers.one i.0 r.0 i.2 more r.2 less,
      items_go_on c.args.depth c.args.readers.now.two c.elements.readers.two c.take_end_array-in-elements.new.self c.visit.new.readers.two i.1 r.1 i.3 also r.3 less_too,
      omega (arith, i.4, length-append i.0 (r.0 ∷ [])),
      subst (λ (b : Bool). ItemsSo b c.args.index (ChangesAt (choices c.args.at.selectors.now) (Makes c.args.at.change.now)) (i.0 ++ r.0 ∷ []) (i.1 ++ r.1 ∷ [])) (sym c.is_either-is_done.ensures)
          (one_item c.elements.is_done c.is_at-wanted.result c.args.index (choices c.args.at.selectors.now) c.args.at.change.now i.0 i.1 r.0 r.1 i.5 r.4 (λ e. sym i.4 ∙ c.is_at-wanted.ensures.0 e)),
      omega (arith, i.6, shorter),
      omega (arith, i.7, shorter_too),
    )

pub change_element-returns-clause-passed : goal.change_element-returns-clause-passed
change_element-returns-clause-passed t c =
    let i = c.elements.invariant in
    let done : c.elements.is_done ≡ true = grind arith in
    let h = subst (λ (b : Bool). ItemsSo b c.args.index (ChangesAt (choices c.args.at.selectors.now) (Makes c.args.at.change.now)) i.0 i.1) done i.5 in (
      with_items_before i.0 no_items,
      with_items_before i.1 no_items,
      h.at,
      h.at2,
      items_close c.args.depth c.args.readers.now.one c.elements.readers.one c.take_end_array.new.self i.0 i.2 c.elements-test.ensures,
      items_close c.args.depth c.args.readers.now.two c.elements.readers.two c.take_end_array-2.new.self i.1 i.3 c.if-not-take_end_array.ensures,
      only_differs c.args.index (ChangesAt (choices c.args.at.selectors.now) (Makes c.args.at.change.now)) i.0 i.1 h,
      h.changes,
    )

pub change_member-members-init : goal.change_member-members-init
change_member-members-init t c = (no_members, no_members, members_begin c.args.depth c.args.readers.now.one, members_begin c.args.depth c.args.readers.now.two, refl, omega arith, omega arith)

pub change_member-members-preserved : goal.change_member-members-preserved
change_member-members-preserved t c =
    let i = c.members.invariant in
    let r = c.in_ok-visit.ensures.passed in
    let named = a_key c.in_ok-name.field-0 c.in-Some.name c.members.readers.one c.next_key.new.self c.in_ok-name.ensures.value c.in-Some.is in
    let twin = c.in_ok-same_key.ensures in
    let less = c.in_ok-visit.ensures.one_shorter in
    let less_too = c.in_ok-visit.ensures.two_shorter in
    let passed = read_key-shorter c.members.readers.one (Some c.in-Some.name.now) c.next_key.new.self named in
    let passed_too = read_key-shorter c.members.readers.two (Some c.in-Some.name.now) c.same_key.new.reader twin in (
      put c.in-Some.name.now r.0 i.0,
      put c.in-Some.name.now r.1 i.1,
      members_go_on c.args.depth c.args.readers.now.one c.members.readers.one c.next_key.new.self c.visit.new.readers.one c.in-Some.name.now r.0 i.0 i.2 named r.2 (omega (arith, less, passed)),
      members_go_on c.args.depth c.args.readers.now.two c.members.readers.two c.same_key.new.reader c.visit.new.readers.two c.in-Some.name.now r.1 i.1 i.3 twin r.3 (omega (arith, less_too, passed_too)),
      subst (λ (b : Bool). MembersSo b c.args.member.key.now (ChangesAt (choices c.args.at.selectors.now) (Makes c.args.at.change.now)) (put c.in-Some.name.now r.0 i.0) (put c.in-Some.name.now r.1 i.1)) (sym c.is_either-is_done.ensures)
          (one_member c.members.is_done c.is_at-wanted.result c.is_text-named.result c.args.member.key.now c.in-Some.name.now (choices c.args.at.selectors.now) c.args.at.change.now i.0 i.1 r.0 r.1 i.4 r.4 c.is_text-named.ensures (c.may_follow.ensures (grind arith))),
      omega (arith, i.5, less, passed),
      omega (arith, i.6, less_too, passed_too),
    )

pub change_member-returns-clause-passed : goal.change_member-returns-clause-passed
change_member-returns-clause-passed t c =
    let i = c.members.invariant in
    let done : c.members.is_done ≡ true = grind arith in
    let h = subst (λ (b : Bool). MembersSo b c.args.member.key.now (ChangesAt (choices c.args.at.selectors.now) (Makes c.args.at.change.now)) i.0 i.1) done i.4 in (
      i.0,
      i.1,
      h.0,
      h.1,
      members_close c.args.depth c.args.readers.now.one c.members.readers.one c.next_key.new.self i.0 i.2 (no_key c.in_ok-name.field-0 c.members.readers.one c.next_key.new.self c.in_ok-name.ensures.value c.in_default.not-Some),
      members_close c.args.depth c.args.readers.now.two c.members.readers.two c.next_key-2.new.self i.1 i.3 (no_name c.in_ok-next_key.field-0 c.members.readers.two c.next_key-2.new.self c.is_some.result c.in_ok-next_key.ensures.value c.is_some.ensures (grind arith)),
      h.2,
      h.3,
    )
