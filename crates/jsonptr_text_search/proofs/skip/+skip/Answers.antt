use Rattle.std.proofs.Common.{◌<◌, List, ◌∷◌, ◌++◌, [], Some, length, refl, sym, ap, ◌∙◌, subst, arith}
use Rattle.json.specs.Token.{Token}
use Rattle.json.specs.Reads.{token_of}
use Rattle.json.proofs.Grammar.{read_key-shorter}
use Rattle.serde_json.specs.Data.{array, object, no_items, no_members, put}
use Rattle.jsonptr_text_search.specs.PrivateReading.{with_items_before}
use Rattle.jsonptr_text_search.proofs.ReadingLemmas.{items_go_on, items_close, items_stop, members_begin, members_go_on, members_close, members_stop, members_no_more, unreadable_end, reads_scalar, unreadable_scalar, reads_array, unreadable_array, reads_object, unreadable_object, array_too_deep, object_too_deep, no_token, a_key, no_key}
use Rattle.jsonptr_text_search.proofs.skip.+skip.Goals as goal

pub skip-returns-in_default-clause-refused : goal.skip-returns-in_default-clause-refused
skip-returns-in_default-clause-refused t c = λ _. unreadable_end c.args.depth c.args.reader.now (no_token _ _ _ c.next.ensures.value c.in_default.not-Some)

pub skip-returns-then-depth-eq0-clause-refused : goal.skip-returns-then-depth-eq0-clause-refused
skip-returns-then-depth-eq0-clause-refused t c = λ _. array_too_deep c.args.depth c.args.reader.now c.next.new.self c.if-depth-eq0.true (c.in-Some.ensures.value ∙ ap (λ k. token_of k ∷ c.next.new.self) c.in-BeginArray.is)

pub skip-returns-in_err-skip_elements-in-BeginArray-clause-refused :
    goal.skip-returns-in_err-skip_elements-in-BeginArray-clause-refused
skip-returns-in_err-skip_elements-in-BeginArray-clause-refused t c = λ _.
    unreadable_array c.args.depth c.args.reader.now c.next.new.self (omega arith) (c.in-Some.ensures.value ∙ ap (λ k. token_of k ∷ c.next.new.self) c.in-BeginArray.is) (c.in_err-skip_elements-in-BeginArray.ensures.refused refl)

pub skip-returns-then-depth-eq0-2-clause-refused : goal.skip-returns-then-depth-eq0-2-clause-refused
skip-returns-then-depth-eq0-2-clause-refused t c = λ _. object_too_deep c.args.depth c.args.reader.now c.next.new.self c.if-depth-eq0-2.true (c.in-Some.ensures.value ∙ ap (λ k. token_of k ∷ c.next.new.self) c.in-BeginObject.is)

pub skip-returns-in_err-skip_members-in-BeginObject-clause-refused :
    goal.skip-returns-in_err-skip_members-in-BeginObject-clause-refused
skip-returns-in_err-skip_members-in-BeginObject-clause-refused t c = λ _.
    unreadable_object c.args.depth c.args.reader.now c.next.new.self (omega arith) (c.in-Some.ensures.value ∙ ap (λ k. token_of k ∷ c.next.new.self) c.in-BeginObject.is) (c.in_err-skip_members-in-BeginObject.ensures.refused refl)

pub skip-returns-in_ok-skip_elements-in-BeginArray-clause-passed :
    goal.skip-returns-in_ok-skip_elements-in-BeginArray-clause-passed
skip-returns-in_ok-skip_elements-in-BeginArray-clause-passed t c =
    let r = c.in_ok-skip_elements-in-BeginArray.ensures.passed in
    (array r.0, reads_array c.args.depth c.args.reader.now c.next.new.self c.skip_elements.new.reader r.0 (omega arith) (c.in-Some.ensures.value ∙ ap (λ k. token_of k ∷ c.next.new.self) c.in-BeginArray.is) r.1)

pub skip-returns-in_ok-skip_members-in-BeginObject-clause-passed :
    goal.skip-returns-in_ok-skip_members-in-BeginObject-clause-passed
skip-returns-in_ok-skip_members-in-BeginObject-clause-passed t c =
    let r = c.in_ok-skip_members-in-BeginObject.ensures.passed in
    (object r.0, reads_object c.args.depth c.args.reader.now c.next.new.self c.skip_members.new.reader r.0 (omega arith) (c.in-Some.ensures.value ∙ ap (λ k. token_of k ∷ c.next.new.self) c.in-BeginObject.is) r.1)

pub skip-returns-then-is_scalar-clause-passed : goal.skip-returns-then-is_scalar-clause-passed
skip-returns-then-is_scalar-clause-passed t c =
    let s = reads_scalar c.args.depth c.args.reader.now c.next.new.self c.in-Some.token c.in-Some.ensures.value c.in_default-token.not-BeginArray c.in_default-token.not-BeginObject (sym c.is_scalar.ensures ∙ c.if-is_scalar.true) in
    (s.scalar, s.reads)

pub skip-returns-else-is_scalar-clause-refused : goal.skip-returns-else-is_scalar-clause-refused
skip-returns-else-is_scalar-clause-refused t c = λ _.
    unreadable_scalar c.args.depth c.args.reader.now c.next.new.self c.in-Some.token c.in-Some.ensures.value c.in_default-token.not-BeginArray c.in_default-token.not-BeginObject (sym c.is_scalar.ensures ∙ c.if-is_scalar.false)

pub skip_elements-elements-preserved : goal.skip_elements-elements-preserved
skip_elements-elements-preserved t c =
    let i = c.elements.invariant in
    let r = c.in_ok-skip.ensures.passed in
    let more = c.elements-test.ensures in
    let shorter = c.in_ok-skip.ensures.shorter in
    let less : length c.skip.new.reader < length c.elements.reader = subst (λ (ts : List Token). length c.skip.new.reader < length ts) more.1 shorter in
    (i.0 ++ r.0 ∷ [], items_go_on c.args.depth c.args.reader.now c.elements.reader c.take_end_array.new.self c.skip.new.reader i.0 r.0 i.1 more r.1 shorter, omega (arith, i.2))

pub skip_elements-returns-in_err-skip-clause-refused : goal.skip_elements-returns-in_err-skip-clause-refused
skip_elements-returns-in_err-skip-clause-refused t c = λ _.
    let i = c.elements.invariant in
    items_stop c.args.depth c.args.reader.now c.elements.reader c.take_end_array.new.self i.0 i.1 c.elements-test.ensures (c.in_err-skip.ensures.refused refl)

pub skip_elements-returns-clause-passed : goal.skip_elements-returns-clause-passed
skip_elements-returns-clause-passed t c =
    let i = c.elements.invariant in
    (with_items_before i.0 no_items, items_close c.args.depth c.args.reader.now c.elements.reader c.take_end_array.new.self i.0 i.1 c.elements-test.ensures)

pub skip_members-members-init : goal.skip_members-members-init
skip_members-members-init t c = (no_members, members_begin c.args.depth c.args.reader.now, omega arith)

pub skip_members-returns-in_err-next_key-clause-refused : goal.skip_members-returns-in_err-next_key-clause-refused
skip_members-returns-in_err-next_key-clause-refused t c = λ _.
    let i = c.members.invariant in
    members_no_more c.args.depth c.args.reader.now c.members.reader i.0 i.1 c.in_err-next_key.ensures.value

pub skip_members-members-preserved : goal.skip_members-members-preserved
skip_members-members-preserved t c =
    let i = c.members.invariant in
    let r = c.in_ok-skip.ensures.passed in
    let named = a_key c.in_ok-next_key.field-0 c.in-Some.field-0 c.members.reader c.next_key.new.self c.in_ok-next_key.ensures.value c.in-Some.is in
    let shorter = c.in_ok-skip.ensures.shorter in
    let less = read_key-shorter c.members.reader (Some c.in-Some.field-0.now) c.next_key.new.self named in
    (put c.in-Some.field-0.now r.0 i.0, members_go_on c.args.depth c.args.reader.now c.members.reader c.next_key.new.self c.skip.new.reader c.in-Some.field-0.now r.0 i.0 i.1 named r.1 (omega arith), omega (arith, i.2))

pub skip_members-returns-in_err-skip-clause-refused : goal.skip_members-returns-in_err-skip-clause-refused
skip_members-returns-in_err-skip-clause-refused t c = λ _.
    let i = c.members.invariant in
    let named = a_key c.in_ok-next_key.field-0 c.in-Some.field-0 c.members.reader c.next_key.new.self c.in_ok-next_key.ensures.value c.in-Some.is in
    members_stop c.args.depth c.args.reader.now c.members.reader c.next_key.new.self c.in-Some.field-0.now i.0 i.1 named (c.in_err-skip.ensures.refused refl)

pub skip_members-returns-clause-passed : goal.skip_members-returns-clause-passed
skip_members-returns-clause-passed t c =
    let i = c.members.invariant in
    (i.0, members_close c.args.depth c.args.reader.now c.members.reader c.next_key.new.self i.0 i.1 (no_key c.in_ok-next_key.field-0 c.members.reader c.next_key.new.self c.in_ok-next_key.ensures.value c.in_default.not-Some))
