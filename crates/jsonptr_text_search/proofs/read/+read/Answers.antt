use Rattle.std.proofs.Common.{◌≡◌, ◌<◌, List, ◌∷◌, Some, map, length, string_bytes, sym, ap, ◌∙◌, subst, arith, rules}
use Rattle.std.proofs.lemmas.Result.{IfOk-weaker}
use Rattle.std.specs.Prelude.{is_some}
use Rattle.json.specs.Token.{Token}
use Rattle.json.specs.Reads.{token_of}
use Rattle.json.proofs.Grammar.{read_key-shorter}
use Rattle.serde_json.specs.Data.{Data, Items, Members, put}
use Rattle.serde_json.specs.View.{view, items_view, members_view}
use Rattle.serde_json.proofs.Views.{view-Array, view-Object, members_view-insert_entry}
use Rattle.jsonptr_text_search.specs.Reading.{ReadsTokens, ReadsItems}
use Rattle.jsonptr_text_search.specs.PrivateReading.{ItemsSoFar, MembersSoFar}
use Rattle.jsonptr_text_search.proofs.ReadingLemmas.{items_go_on, items_close, items_stop, members_go_on, members_close, members_stop, members_no_more, unreadable_end, scalar_reads, unreadable_scalar, reads_array, unreadable_array, reads_object, unreadable_object, array_too_deep, object_too_deep, no_token, a_key, no_key, with_items_before-no_items, map_view-append}
use Rattle.jsonptr_text_search.proofs.read.+read.Goals as goal

pub read-returns-in_default-clause-refused : goal.read-returns-in_default-clause-refused
read-returns-in_default-clause-refused t c = λ _. unreadable_end c.args.depth c.args.reader.now (no_token _ _ _ c.next.ensures.value c.in_default.not-Some)

pub read-returns-then-depth-eq0-clause-refused : goal.read-returns-then-depth-eq0-clause-refused
read-returns-then-depth-eq0-clause-refused t c = λ _. array_too_deep c.args.depth c.args.reader.now c.next.new.self c.if-depth-eq0.true (c.in-Some.ensures.value ∙ ap (λ k. token_of k ∷ c.next.new.self) c.in-BeginArray.is)

pub read-returns-in_err-elements-in-BeginArray-clause-refused :
    goal.read-returns-in_err-elements-in-BeginArray-clause-refused
read-returns-in_err-elements-in-BeginArray-clause-refused t c = λ e.
    unreadable_array c.args.depth c.args.reader.now c.next.new.self (omega arith) (c.in-Some.ensures.value ∙ ap (λ k. token_of k ∷ c.next.new.self) c.in-BeginArray.is)
    (c.in_err-elements-in-BeginArray.ensures.refused (grind (arith, e, c.from_residual.ensures)))

pub read-returns-then-depth-eq0-2-clause-refused : goal.read-returns-then-depth-eq0-2-clause-refused
read-returns-then-depth-eq0-2-clause-refused t c = λ _. object_too_deep c.args.depth c.args.reader.now c.next.new.self c.if-depth-eq0-2.true (c.in-Some.ensures.value ∙ ap (λ k. token_of k ∷ c.next.new.self) c.in-BeginObject.is)

pub read-returns-in_err-members-in-BeginObject-clause-refused :
    goal.read-returns-in_err-members-in-BeginObject-clause-refused
read-returns-in_err-members-in-BeginObject-clause-refused t c = λ e.
    unreadable_object c.args.depth c.args.reader.now c.next.new.self (omega arith) (c.in-Some.ensures.value ∙ ap (λ k. token_of k ∷ c.next.new.self) c.in-BeginObject.is)
    (c.in_err-members-in-BeginObject.ensures.refused (grind (arith, e, c.from_residual-in_err-members-in-BeginObject.ensures)))

pub read-returns-in_ok-elements-in-BeginArray-clause-value :
    goal.read-returns-in_ok-elements-in-BeginArray-clause-value
read-returns-in_ok-elements-in-BeginArray-clause-value t c =
    let r = c.in_ok-elements-in-BeginArray in
    subst (λ (d : Data). ReadsTokens c.args.depth c.args.reader.now d c.read_elements.new.reader) (sym (view-Array r.elements))
    (reads_array c.args.depth c.args.reader.now c.next.new.self c.read_elements.new.reader (items_view r.elements.items) (omega arith) (c.in-Some.ensures.value ∙ ap (λ k. token_of k ∷ c.next.new.self) c.in-BeginArray.is) r.ensures.value)

pub read-returns-in_ok-members-in-BeginObject-clause-value :
    goal.read-returns-in_ok-members-in-BeginObject-clause-value
read-returns-in_ok-members-in-BeginObject-clause-value t c =
    let r = c.in_ok-members-in-BeginObject in
    subst (λ (d : Data). ReadsTokens c.args.depth c.args.reader.now d c.read_members.new.reader) (sym (view-Object r.members))
    (reads_object c.args.depth c.args.reader.now c.next.new.self c.read_members.new.reader (members_view r.members.entries) (omega arith) (c.in-Some.ensures.value ∙ ap (λ k. token_of k ∷ c.next.new.self) c.in-BeginObject.is) r.ensures.value)

pub read-returns-in_default-token-clause-refused : goal.read-returns-in_default-token-clause-refused
read-returns-in_default-token-clause-refused t c = λ e.
    let none = c.read_scalar.ensures.refused e in
    unreadable_scalar c.args.depth c.args.reader.now c.next.new.self c.in-Some.token c.in-Some.ensures.value c.in_default-token.not-BeginArray c.in_default-token.not-BeginObject (ap is_some none)

pub read-returns-in_default-token-clause-value : goal.read-returns-in_default-token-clause-value
read-returns-in_default-token-clause-value t c =
    IfOk-weaker c.read_scalar.result _ _
    (λ v h. scalar_reads c.args.depth c.args.reader.now c.next.new.self c.in-Some.token (view v) c.in-Some.ensures.value c.in_default-token.not-BeginArray c.in_default-token.not-BeginObject h)
    c.read_scalar.ensures.value

pub read_elements-returns-in_err-element-clause-refused : goal.read_elements-returns-in_err-element-clause-refused
read_elements-returns-in_err-element-clause-refused t c = λ e.
    items_stop c.args.depth c.args.reader.now c.elements.reader c.take_end_array.new.self (map view c.elements.found.items) c.elements.invariant.0 c.elements-test.ensures (c.in_err-element.ensures.refused (grind (arith, e, c.from_residual.ensures)))

pub read_elements-elements-preserved : goal.read_elements-elements-preserved
read_elements-elements-preserved t c =
    let i = c.elements.invariant in
    let r = c.in_ok-element.ensures in
    let v = c.in_ok-element.element in
    let more = c.elements-test.ensures in
    let less : length c.read.new.reader < length c.elements.reader = subst (λ (ts : List Token). length c.read.new.reader < length ts) more.1 r.shorter in
    let longer = map_view-append c.elements.found.items c.push.new.self.items v c.in_ok-push.ensures.items in (
      subst (λ (ds : List Data). ItemsSoFar c.args.depth c.args.reader.now c.read.new.reader ds) (sym longer)
          (items_go_on c.args.depth c.args.reader.now c.elements.reader c.take_end_array.new.self c.read.new.reader (map view c.elements.found.items) (view v) i.0 more r.value r.shorter),
      omega (arith, i.1),
    )

pub read_elements-returns-clause-value : goal.read_elements-returns-clause-value
read_elements-returns-clause-value t c =
    subst (λ (ds : Items). ReadsItems c.args.depth c.args.reader.now ds c.take_end_array.new.self) (with_items_before-no_items (map view c.elements.found.items))
    (items_close c.args.depth c.args.reader.now c.elements.reader c.take_end_array.new.self (map view c.elements.found.items) c.elements.invariant.0 c.elements-test.ensures)

pub read_members-returns-in_err-name-clause-refused : goal.read_members-returns-in_err-name-clause-refused
read_members-returns-in_err-name-clause-refused t c = λ _.
    members_no_more c.args.depth c.args.reader.now c.members.reader (members_view c.members.found.entries) c.members.invariant.0 c.in_err-name.ensures.value

pub read_members-returns-in_err-member-clause-refused :
    goal.read_members-returns-in_err-member-clause-refused
read_members-returns-in_err-member-clause-refused t c = λ e.
    let named = a_key c.in_ok-name.field-0 c.in-Some.name c.members.reader c.next_key.new.self c.in_ok-name.ensures.value c.in-Some.is in
    members_stop c.args.depth c.args.reader.now c.members.reader c.next_key.new.self c.in-Some.name.now (members_view c.members.found.entries) c.members.invariant.0 named (c.in_err-member.ensures.refused (grind (arith, e, c.from_residual-in_err-member.ensures)))

pub read_members-members-preserved : goal.read_members-members-preserved
read_members-members-preserved t c =
    let i = c.members.invariant in
    let r = c.in_ok-member.ensures in
    let v = c.in_ok-member.member in
    let k = c.in-Some.name.now in
    let old = members_view c.members.found.entries in
    let named = a_key c.in_ok-name.field-0 c.in-Some.name c.members.reader c.next_key.new.self c.in_ok-name.ensures.value c.in-Some.is in
    let shorter = r.shorter in
    let less = read_key-shorter c.members.reader (Some k) c.next_key.new.self named in
    let copied : string_bytes c.in_ok-key.key ≡ k = search rules in
    let inserted : members_view c.insert.new.self.entries ≡ put k (view v) old =
    ap members_view c.in_ok-insert.ensures.entries ∙ members_view-insert_entry c.members.found.entries c.in_ok-key.key v ∙ ap (λ name. put name (view v) old) copied in (
      subst (λ (ms : Members). MembersSoFar c.args.depth c.args.reader.now c.read.new.reader ms) (sym inserted)
          (members_go_on c.args.depth c.args.reader.now c.members.reader c.next_key.new.self c.read.new.reader k (view v) old i.0 named r.value (omega arith)),
      omega (arith, i.1),
    )

pub read_members-returns-clause-value : goal.read_members-returns-clause-value
read_members-returns-clause-value t c =
    members_close c.args.depth c.args.reader.now c.members.reader c.next_key.new.self (members_view c.members.found.entries) c.members.invariant.0 (no_key c.in_ok-name.field-0 c.members.reader c.next_key.new.self c.in_ok-name.ensures.value c.in_default.not-Some)
