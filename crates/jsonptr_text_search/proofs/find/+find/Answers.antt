use Rattle.std.proofs.Common.{◌≡◌, ℕ, ◌<◌, List, ◌∷◌, ◌++◌, [], length, Some, IsTrue, ◌↔◌, refl, sym, ap, ◌∙◌, subst, arith, length-append}
use Rattle.json.specs.Token.{Token}
use Rattle.json.specs.Reads.{token_of}
use Rattle.json.proofs.Grammar.{read_key-shorter}
use Rattle.serde_json.specs.Data.{array, object, no_items, no_members, put}
use Rattle.jsonptr_text_search.specs.PrivateReading.{with_items_before}
use Rattle.jsonptr_text_search.specs.Search.{choice_of, choices, IsOutcome}
use Rattle.jsonptr_text_search.specs.declared.outcome.Outcome.{Outcome}
use Rattle.jsonptr_text_search.specs.declared.outcome.Kind.TheVariants as kind
use Rattle.jsonptr_text_search.proofs.ReadingLemmas.{items_go_on, items_close, items_stop, members_begin, members_go_on, members_close, members_stop, members_no_more, unreadable_end, reads_scalar, unreadable_scalar, reads_array, unreadable_array, reads_object, unreadable_object, array_too_deep, object_too_deep, no_token, a_key, no_key}
use Rattle.jsonptr_text_search.proofs.SearchLemmas.{outcome_here, or_child, len_before, visited_item, visited_member, choices_len, keyed}
use Rattle.jsonptr_text_search.proofs.find.+find.Goals as goal

pub find-returns-in_default-next-clause-refused : goal.find-returns-in_default-next-clause-refused
find-returns-in_default-next-clause-refused t c = λ _. unreadable_end c.args.depth c.args.reader.now (no_token _ _ _ c.next.ensures.value c.in_default-next.not-Some)

pub find-returns-then-depth-eq0-clause-refused : goal.find-returns-then-depth-eq0-clause-refused
find-returns-then-depth-eq0-clause-refused t c = λ _. array_too_deep c.args.depth c.args.reader.now c.next.new.self c.if-depth-eq0.true (c.in-Some-next.ensures.value ∙ ap (λ k. token_of k ∷ c.next.new.self) c.in-BeginArray.is)

pub find-returns-in_err-found-in-BeginArray-clause-refused : goal.find-returns-in_err-found-in-BeginArray-clause-refused
find-returns-in_err-found-in-BeginArray-clause-refused t c = λ e.
    unreadable_array c.args.depth c.args.reader.now c.next.new.self (omega arith) (c.in-Some-next.ensures.value ∙ ap (λ k. token_of k ∷ c.next.new.self) c.in-BeginArray.is)
    (c.in_err-found-in-BeginArray.ensures.refused (grind (arith, e, c.from_residual-in_err-found-in-BeginArray.ensures)))

pub find-returns-then-depth-eq0-2-clause-refused : goal.find-returns-then-depth-eq0-2-clause-refused
find-returns-then-depth-eq0-2-clause-refused t c = λ _. object_too_deep c.args.depth c.args.reader.now c.next.new.self c.if-depth-eq0-2.true (c.in-Some-next.ensures.value ∙ ap (λ k. token_of k ∷ c.next.new.self) c.in-BeginObject.is)

pub find-returns-in_err-found-in-BeginObject-clause-refused : goal.find-returns-in_err-found-in-BeginObject-clause-refused
find-returns-in_err-found-in-BeginObject-clause-refused t c = λ e.
    unreadable_object c.args.depth c.args.reader.now c.next.new.self (omega arith) (c.in-Some-next.ensures.value ∙ ap (λ k. token_of k ∷ c.next.new.self) c.in-BeginObject.is)
    (c.in_err-found-in-BeginObject.ensures.refused (grind (arith, e, c.from_residual-in_err-found-in-BeginObject.ensures)))

pub find-returns-in_ok-found-in-BeginArray-clause-found : goal.find-returns-in_ok-found-in-BeginArray-clause-found
find-returns-in_ok-found-in-BeginArray-clause-found t c =
    let r = c.in_ok-found-in-BeginArray.ensures.found in
    let split = c.in-Some.ensures.cases in (
      array r.0,
      reads_array c.args.depth c.args.reader.now c.next.new.self c.find_element.new.reader r.0 (omega arith) (c.in-Some-next.ensures.value ∙ ap (λ k. token_of k ∷ c.next.new.self) c.in-BeginArray.is) r.1,
      or_child (choices c.args.selectors.now) (choice_of c.in-Some.selector.now) (choices c.in-Some.rest.now) (array r.0) c.in_ok-found-in-BeginArray.found c.or_stopped.result (length c.args.selectors.now) (kind.Array c.in_ok-found-in-BeginArray.len) (ap choices split.0) r.3 c.or_stopped.ensures (ap kind.Array r.2) (sym (choices_len c.args.selectors.now)),
    )

pub find-returns-in_ok-found-in-BeginObject-clause-found : goal.find-returns-in_ok-found-in-BeginObject-clause-found
find-returns-in_ok-found-in-BeginObject-clause-found t c =
    let r = c.in_ok-found-in-BeginObject.ensures.found in
    let split = c.in-Some.ensures.cases in (
      object r.0,
      reads_object c.args.depth c.args.reader.now c.next.new.self c.find_member.new.reader r.0 (omega arith) (c.in-Some-next.ensures.value ∙ ap (λ k. token_of k ∷ c.next.new.self) c.in-BeginObject.is) r.1,
      or_child (choices c.args.selectors.now) (choice_of c.in-Some.selector.now) (choices c.in-Some.rest.now) (object r.0) c.in_ok-found-in-BeginObject.found c.or_stopped-in-BeginObject.result (length c.args.selectors.now) kind.Object (ap choices split.0) (keyed c.as_str.result.now _ r.0 (choices c.in-Some.rest.now) c.in_ok-found-in-BeginObject.found c.as_str.ensures.value r.2) c.or_stopped-in-BeginObject.ensures refl (sym (choices_len c.args.selectors.now)),
    )

pub find-returns-then-is_scalar-clause-found : goal.find-returns-then-is_scalar-clause-found
find-returns-then-is_scalar-clause-found t c =
    let s = reads_scalar c.args.depth c.args.reader.now c.next.new.self c.in-Some-next.token c.in-Some-next.ensures.value c.in_default-token.not-BeginArray c.in_default-token.not-BeginObject (sym c.is_scalar.ensures ∙ c.if-is_scalar.true) in
    let split = c.in-Some.ensures.cases in (
      s.scalar,
      s.reads,
      subst (λ (o : Outcome). IsOutcome s.scalar (choices c.args.selectors.now) o) (sym c.stopped_at_scalar.ensures)
          (outcome_here (choices c.args.selectors.now) (choice_of c.in-Some.selector.now) (choices c.in-Some.rest.now) s.scalar (length c.args.selectors.now) kind.Scalar (ap choices split.0) (s.lacks (choice_of c.in-Some.selector.now)) s.kind_is (sym (choices_len c.args.selectors.now))),
    )

pub find-returns-else-is_scalar-clause-refused : goal.find-returns-else-is_scalar-clause-refused
find-returns-else-is_scalar-clause-refused t c = λ _.
    unreadable_scalar c.args.depth c.args.reader.now c.next.new.self c.in-Some-next.token c.in-Some-next.ensures.value c.in_default-token.not-BeginArray c.in_default-token.not-BeginObject (sym c.is_scalar.ensures ∙ c.if-is_scalar.false)

pub find_element-returns-in_err-found-clause-refused : goal.find_element-returns-in_err-found-clause-refused
find_element-returns-in_err-found-clause-refused t c = λ e.
    let i = c.elements.invariant in
    items_stop c.args.depth c.args.reader.now c.elements.reader c.take_end_array.new.self i.0 i.1 c.elements-test.ensures (c.in_err-found.ensures.refused (grind (arith, e, c.from_residual.ensures)))

pub find_element-elements-preserved : goal.find_element-elements-preserved
find_element-elements-preserved t c =
    let i = c.elements.invariant in
    let r = c.in_ok-found.ensures.found in
    let more = c.elements-test.ensures in
    let shorter = c.in_ok-found.ensures.shorter in
    let less : length c.visit.new.reader < length c.elements.reader = subst (λ (ts : List Token). length c.visit.new.reader < length ts) more.1 shorter in
    let wanted : IsTrue c.is_at-wanted.result ↔ (c.args.index ≡ Some (length i.0)) = subst (λ (n : ℕ). IsTrue c.is_at-wanted.result ↔ (c.args.index ≡ Some n)) i.2 c.is_at-wanted.ensures in (
      i.0 ++ r.0 ∷ [],
      items_go_on c.args.depth c.args.reader.now c.elements.reader c.take_end_array.new.self c.visit.new.reader i.0 r.0 i.1 more r.1 shorter,
      omega (arith, i.2, length-append i.0 (r.0 ∷ [])),
      omega (arith, i.2, i.3, length-append i.0 (r.0 ∷ [])),
      visited_item c.args.index i.0 r.0 (choices c.args.selectors.now) c.is_at-wanted.result c.elements.found c.in_ok-found.found wanted r.2 i.4,
    )

pub find_element-returns-clause-found : goal.find_element-returns-clause-found
find_element-returns-clause-found t c =
    let i = c.elements.invariant in
    (with_items_before i.0 no_items, items_close c.args.depth c.args.reader.now c.elements.reader c.take_end_array.new.self i.0 i.1 c.elements-test.ensures, i.2 ∙ sym (len_before i.0), i.4)

pub find_member-members-init : goal.find_member-members-init
find_member-members-init t c = (no_members, members_begin c.args.depth c.args.reader.now, omega arith, refl)

pub find_member-returns-in_err-name-clause-refused : goal.find_member-returns-in_err-name-clause-refused
find_member-returns-in_err-name-clause-refused t c = λ _.
    let i = c.members.invariant in
    members_no_more c.args.depth c.args.reader.now c.members.reader i.0 i.1 c.in_err-name.ensures.value

pub find_member-returns-in_err-found-clause-refused : goal.find_member-returns-in_err-found-clause-refused
find_member-returns-in_err-found-clause-refused t c = λ e.
    let i = c.members.invariant in
    let named = a_key c.in_ok-name.field-0 c.in-Some.name c.members.reader c.next_key.new.self c.in_ok-name.ensures.value c.in-Some.is in
    members_stop c.args.depth c.args.reader.now c.members.reader c.next_key.new.self c.in-Some.name.now i.0 i.1 named (c.in_err-found.ensures.refused (grind (arith, e, c.from_residual-in_err-found.ensures)))

pub find_member-members-preserved : goal.find_member-members-preserved
find_member-members-preserved t c =
    let i = c.members.invariant in
    let r = c.in_ok-found.ensures.found in
    let named = a_key c.in_ok-name.field-0 c.in-Some.name c.members.reader c.next_key.new.self c.in_ok-name.ensures.value c.in-Some.is in
    let shorter = c.in_ok-found.ensures.shorter in
    let less = read_key-shorter c.members.reader (Some c.in-Some.name.now) c.next_key.new.self named in (
      put c.in-Some.name.now r.0 i.0,
      members_go_on c.args.depth c.args.reader.now c.members.reader c.next_key.new.self c.visit.new.reader c.in-Some.name.now r.0 i.0 i.1 named r.1 (omega arith),
      omega (arith, i.2),
      visited_member c.args.key.now c.in-Some.name.now r.0 i.0 (choices c.args.selectors.now) c.is_text-wanted.result c.members.found c.in_ok-found.found c.is_text-wanted.ensures r.2 i.3,
    )

pub find_member-returns-clause-found : goal.find_member-returns-clause-found
find_member-returns-clause-found t c =
    let i = c.members.invariant in
    (i.0, members_close c.args.depth c.args.reader.now c.members.reader c.next_key.new.self i.0 i.1 (no_key c.in_ok-name.field-0 c.members.reader c.next_key.new.self c.in_ok-name.ensures.value c.in_default.not-Some), i.3)
