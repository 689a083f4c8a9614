use Rattle.std.proofs.Common.{◌<◌, List, ◌∷◌, ◌++◌, [], Some, length, sym, ap, ◌∙◌, subst, arith}
use Rattle.json.specs.Token.{Token}
use Rattle.json.specs.Reads.{token_of}
use Rattle.json.proofs.Grammar.{read_key-shorter}
use Rattle.serde_json.specs.Data.{array, object, no_items, no_members, put}
use Rattle.jsonptr_text_search.specs.PrivateReading.{with_items_before}
use Rattle.jsonptr_text_search.proofs.ReadingLemmas.{items_begin, items_go_on, items_close, members_begin, members_go_on, members_close, reads_array, reads_object, a_key, no_key}
use Rattle.jsonptr_text_check.specs.Alike.{AreAlike}
use Rattle.jsonptr_text_check.proofs.AlikeLemmas.{alike_begin, alike_token, alike_more, alike_opened, alike_items_closed, alike_key, alike_members_closed}
use Rattle.jsonptr_text_check.proofs.SideLemmas.{both_scalar, no_name}
use Rattle.jsonptr_text_check.proofs.same.+same.Goals as goal

pub same-returns-in_ok-same_elements-in-BeginArray-clause-passed : goal.same-returns-in_ok-same_elements-in-BeginArray-clause-passed
same-returns-in_ok-same_elements-in-BeginArray-clause-passed t c =
    let r = c.in_ok-same_elements-in-BeginArray.ensures.passed in (
      array r.0,
      reads_array c.args.one_depth c.args.one.now c.same_token.new.one c.same_elements.new.one r.0 (omega arith) (c.in_ok-token.ensures.one ∙ ap (λ k. token_of k ∷ c.same_token.new.one) c.in-BeginArray.is) r.1,
      reads_array c.args.two_depth c.args.two.now c.same_token.new.two c.same_elements.new.two r.0 (omega arith) (c.in_ok-token.ensures.two ∙ ap (λ k. token_of k ∷ c.same_token.new.two) c.in-BeginArray.is) r.2,
    )

pub same-returns-in_ok-same_members-in-BeginObject-clause-passed : goal.same-returns-in_ok-same_members-in-BeginObject-clause-passed
same-returns-in_ok-same_members-in-BeginObject-clause-passed t c =
    let r = c.in_ok-same_members-in-BeginObject.ensures.passed in (
      object r.0,
      reads_object c.args.one_depth c.args.one.now c.same_token.new.one c.same_members.new.one r.0 (omega arith) (c.in_ok-token.ensures.one ∙ ap (λ k. token_of k ∷ c.same_token.new.one) c.in-BeginObject.is) r.1,
      reads_object c.args.two_depth c.args.two.now c.same_token.new.two c.same_members.new.two r.0 (omega arith) (c.in_ok-token.ensures.two ∙ ap (λ k. token_of k ∷ c.same_token.new.two) c.in-BeginObject.is) r.2,
    )

pub same-returns-then-is_scalar-clause-passed : goal.same-returns-then-is_scalar-clause-passed
same-returns-then-is_scalar-clause-passed t c = both_scalar c.args.one_depth c.args.two_depth c.args.one.now c.same_token.new.one c.args.two.now c.same_token.new.two c.in_ok-token.token c.in_ok-token.ensures.one c.in_ok-token.ensures.two c.in_default.not-BeginArray c.in_default.not-BeginObject (sym c.is_scalar.ensures ∙ c.if-is_scalar.true)

pub same_elements-elements-init : goal.same_elements-elements-init
same_elements-elements-init t c = ([], items_begin c.args.one_depth c.args.one.now, items_begin c.args.two_depth c.args.two.now, omega arith, omega arith, alike_begin c.args.one.now c.args.two.now)

pub same_elements-elements-preserved : goal.same_elements-elements-preserved
same_elements-elements-preserved t c =
    let i = c.elements.invariant in
    let r = c.in_ok-same.ensures.passed in
    let more = c.elements-test.ensures in
    let also = c.if-take_end_array.ensures in
    let less = c.in_ok-same.ensures.one_shorter in
    let less_too = c.in_ok-same.ensures.two_shorter in
    let shorter : length c.same.new.one < length c.elements.one = subst (λ (ts : List Token). length c.same.new.one < length ts) more.1 less in
    let shorter_too : length c.same.new.two < length c.elements.two = subst (λ (ts : List Token). length c.same.new.two < length ts) also.1 less_too in (
      i.0 ++ r.0 ∷ [],
      items_go_on c.args.one_depth c.args.one.now c.elements.one c.take_end_array.new.self c.same.new.one i.0 r.0 i.1 more r.1 less,
      items_go_on c.args.two_depth c.args.two.now c.elements.two c.take_end_array-in-elements.new.self c.same.new.two i.0 r.0 i.2 also r.2 less_too,
      omega (arith, i.3),
      omega (arith, i.4),
      alike_more c.args.one.now c.elements.one c.same.new.one c.args.two.now c.elements.two c.same.new.two i.5
          (subst (λ (ts : List Token). AreAlike ts c.same.new.one c.elements.two c.same.new.two) more.1
          (subst (λ (ts : List Token). AreAlike c.take_end_array.new.self c.same.new.one ts c.same.new.two) also.1 c.in_ok-same.ensures.alike)),
    )

pub same_elements-returns-clause-passed : goal.same_elements-returns-clause-passed
same_elements-returns-clause-passed t c =
    let i = c.elements.invariant in (
      with_items_before i.0 no_items,
      items_close c.args.one_depth c.args.one.now c.elements.one c.take_end_array.new.self i.0 i.1 c.elements-test.ensures,
      items_close c.args.two_depth c.args.two.now c.elements.two c.take_end_array-2.new.self i.0 i.2 c.if-not-take_end_array.ensures,
    )

pub same_members-members-init : goal.same_members-members-init
same_members-members-init t c = (no_members, members_begin c.args.one_depth c.args.one.now, members_begin c.args.two_depth c.args.two.now, omega arith, omega arith, alike_begin c.args.one.now c.args.two.now)

pub same_members-members-preserved : goal.same_members-members-preserved
same_members-members-preserved t c =
    let i = c.members.invariant in
    let r = c.in_ok-same.ensures.passed in
    let named = a_key c.in_ok-name.field-0 c.in-Some.name c.members.one c.next_key.new.self c.in_ok-name.ensures.value c.in-Some.is in
    let twin = c.in_ok-same_key.ensures in
    let less = c.in_ok-same.ensures.one_shorter in
    let less_too = c.in_ok-same.ensures.two_shorter in
    let passed = read_key-shorter c.members.one (Some c.in-Some.name.now) c.next_key.new.self named in
    let passed_too = read_key-shorter c.members.two (Some c.in-Some.name.now) c.same_key.new.reader twin in (
      put c.in-Some.name.now r.0 i.0,
      members_go_on c.args.one_depth c.args.one.now c.members.one c.next_key.new.self c.same.new.one c.in-Some.name.now r.0 i.0 i.1 named r.1 (omega (arith, less, passed)),
      members_go_on c.args.two_depth c.args.two.now c.members.two c.same_key.new.reader c.same.new.two c.in-Some.name.now r.0 i.0 i.2 twin r.2 (omega (arith, less_too, passed_too)),
      omega (arith, i.3, less, passed),
      omega (arith, i.4, less_too, passed_too),
      alike_more c.args.one.now c.members.one c.same.new.one c.args.two.now c.members.two c.same.new.two i.5
          (alike_more c.members.one c.next_key.new.self c.same.new.one c.members.two c.same_key.new.reader c.same.new.two (alike_key c.in-Some.name.now c.members.one c.next_key.new.self c.members.two c.same_key.new.reader named twin) c.in_ok-same.ensures.alike),
    )

pub same_members-returns-clause-passed : goal.same_members-returns-clause-passed
same_members-returns-clause-passed t c =
    let i = c.members.invariant in (
      i.0,
      members_close c.args.one_depth c.args.one.now c.members.one c.next_key.new.self i.0 i.1 (no_key c.in_ok-name.field-0 c.members.one c.next_key.new.self c.in_ok-name.ensures.value c.in_default.not-Some),
      members_close c.args.two_depth c.args.two.now c.members.two c.next_key-2.new.self i.0 i.2 (no_name c.in_ok-next_key.field-0 c.members.two c.next_key-2.new.self c.is_some.result c.in_ok-next_key.ensures.value c.is_some.ensures c.if-is_some.false),
    )

pub same-returns-in_ok-same_elements-in-BeginArray-clause-alike : goal.same-returns-in_ok-same_elements-in-BeginArray-clause-alike
same-returns-in_ok-same_elements-in-BeginArray-clause-alike t c =
    alike_opened Token.begin_array c.args.one.now c.same_token.new.one c.same_elements.new.one c.args.two.now c.same_token.new.two c.same_elements.new.two
    (c.in_ok-token.ensures.one ∙ ap (λ k. token_of k ∷ c.same_token.new.one) c.in-BeginArray.is) (c.in_ok-token.ensures.two ∙ ap (λ k. token_of k ∷ c.same_token.new.two) c.in-BeginArray.is) c.in_ok-same_elements-in-BeginArray.ensures.alike

pub same-returns-in_ok-same_members-in-BeginObject-clause-alike : goal.same-returns-in_ok-same_members-in-BeginObject-clause-alike
same-returns-in_ok-same_members-in-BeginObject-clause-alike t c =
    alike_opened Token.begin_object c.args.one.now c.same_token.new.one c.same_members.new.one c.args.two.now c.same_token.new.two c.same_members.new.two
    (c.in_ok-token.ensures.one ∙ ap (λ k. token_of k ∷ c.same_token.new.one) c.in-BeginObject.is) (c.in_ok-token.ensures.two ∙ ap (λ k. token_of k ∷ c.same_token.new.two) c.in-BeginObject.is) c.in_ok-same_members-in-BeginObject.ensures.alike

pub same-returns-then-is_scalar-clause-alike : goal.same-returns-then-is_scalar-clause-alike
same-returns-then-is_scalar-clause-alike t c = alike_token (token_of c.in_ok-token.token) c.args.one.now c.same_token.new.one c.args.two.now c.same_token.new.two c.in_ok-token.ensures.one c.in_ok-token.ensures.two

pub same_elements-returns-clause-alike : goal.same_elements-returns-clause-alike
same_elements-returns-clause-alike t c =
    let i = c.elements.invariant in
    alike_more c.args.one.now c.elements.one c.take_end_array.new.self c.args.two.now c.elements.two c.take_end_array-2.new.self i.5
    (alike_items_closed c.elements.one c.take_end_array.new.self c.elements.two c.take_end_array-2.new.self c.elements-test.ensures c.if-not-take_end_array.ensures)

pub same_members-returns-clause-alike : goal.same_members-returns-clause-alike
same_members-returns-clause-alike t c =
    let i = c.members.invariant in
    alike_more c.args.one.now c.members.one c.next_key.new.self c.args.two.now c.members.two c.next_key-2.new.self i.5
    (alike_members_closed c.members.one c.next_key.new.self c.members.two c.next_key-2.new.self
    (no_key c.in_ok-name.field-0 c.members.one c.next_key.new.self c.in_ok-name.ensures.value c.in_default.not-Some)
    (no_name c.in_ok-next_key.field-0 c.members.two c.next_key-2.new.self c.is_some.result c.in_ok-next_key.ensures.value c.is_some.ensures c.if-is_some.false))
