use Rattle.std.proofs.Common.{◌≡◌, ◌+◌, List, [], ◌∷◌, ◌++◌, drop, Some, option_map, string_bytes, sym, ap, ◌∙◌, subst, arith, rules}
use Rattle.std.proofs.lemmas.List.{drop_more, drop_all}
use Rattle.std.proofs.lemmas.Result.{on_ok_weaker}
use Rattle.json.specs.Token.{begin_array, begin_object, key}
use Rattle.json.specs.Json as json
use Rattle.serde_json.specs.Data.{null, boolean, number, string, array, object}
use Rattle.serde_json.specs.View.{view, number_view, items_view, members_view}
use Rattle.serde_json.specs.Written.{outline}
use Rattle.serde_json.specs.declared.value.Value.{Value, the_lemmas}
use Rattle.serde_json.proofs.Views.{Entry, view-Array, view-Object}
use Rattle.jsonptr_value.specs.PrivateFrames.{WritesElements, WritesMembersLeft}
use Rattle.jsonptr_value.proofs.WritingLemmas.{writes_array, writes_object, writes_no_elements, writes_element, writes_no_members, writes_member}
use Rattle.jsonptr_value.proofs.print.+write.Goals as goal

pub write-returns-in-Null-clause-written : goal.write-returns-in-Null-clause-written
write-returns-in-Null-clause-written t c =
    let seen : null ≡ view c.args.value.now = rw c.in-Null.is (search (rules, the_lemmas)) in
    on_ok_weaker c.null.result (λ e. (json.null, e, ap Some seen, omega arith, ap outline seen)) c.null.ensures.ok

pub write-returns-in-Bool-clause-written : goal.write-returns-in-Bool-clause-written
write-returns-in-Bool-clause-written t c =
    let seen : boolean c.in-Bool.b ≡ view c.args.value.now = rw c.in-Bool.is (search (rules, the_lemmas)) in
    on_ok_weaker c.boolean.result (λ e. (json.boolean c.in-Bool.b, e, ap Some seen, omega arith, ap outline seen)) c.boolean.ensures.ok

pub write-returns-in-String-clause-written : goal.write-returns-in-String-clause-written
write-returns-in-String-clause-written t c =
    let seen : string c.as_str.result.now ≡ view c.args.value.now = rw c.in-String.is (search (rules, the_lemmas)) in
    on_ok_weaker c.string.result (λ e. (json.string c.as_str.result.now, e, ap Some seen, omega arith, ap outline seen)) c.string.ensures.ok

pub write-returns-in-Number-clause-written : goal.write-returns-in-Number-clause-written
write-returns-in-Number-clause-written t c =
    let seen : number (number_view c.in-Number.number) ≡ view c.args.value.now = rw c.in-Number.is (search (rules, the_lemmas)) in
    on_ok_weaker c.write_number.result (λ w. (json.number w.0, w.1, ap (option_map number) w.2 ∙ ap Some seen, omega arith, ap json.number w.3 ∙ ap outline seen)) c.write_number.ensures.written

pub write-returns-in_ok-begin_array-in-Array-clause-written : goal.write-returns-in_ok-begin_array-in-Array-clause-written
write-returns-in_ok-begin_array-in-Array-clause-written t c =
    let vs = c.as_slice.result.now in
    let seen : array (items_view vs) ≡ view c.args.value.now = ap (λ xs. array (items_view xs)) c.as_slice.ensures.value ∙ sym (ap view c.in-Array.is ∙ view-Array c.in-Array.elements) in
    let opened : c.begin_array.new.self.tokens ≡ c.args.out.now.tokens ++ begin_array ∷ [] = search rules in
    on_ok_weaker c.write_elements.result (λ w. writes_array vs _ _ _ _ seen opened w) c.write_elements.ensures.written

pub write-returns-in_ok-begin_object-in-Object-clause-written : goal.write-returns-in_ok-begin_object-in-Object-clause-written
write-returns-in_ok-begin_object-in-Object-clause-written t c =
    let es = c.in-Object.members.entries in
    let seen : object (members_view es) ≡ view c.args.value.now = sym (ap view c.in-Object.is ∙ view-Object c.in-Object.members) in
    let opened : c.begin_object.new.self.tokens ≡ c.args.out.now.tokens ++ begin_object ∷ [] = search rules in
    let same : c.iter.result ≡ es = search rules in
    on_ok_weaker c.write_members.result (λ w. writes_object es _ _ _ _ c.iter.ensures.ordered seen opened (subst (λ (xs : List Entry). WritesMembersLeft xs c.begin_object.new.self.tokens c.write_members.new.out.tokens) same w)) c.write_members.ensures.written

pub write_child-returns-in-String-clause-written : goal.write_child-returns-in-String-clause-written
write_child-returns-in-String-clause-written t c =
    let seen : string c.as_str.result.now ≡ view c.args.value.now = rw c.in-String.is (search (rules, the_lemmas)) in
    on_ok_weaker c.string.result (λ e. (json.string c.as_str.result.now, e, ap Some seen, omega arith, ap outline seen)) c.string.ensures.ok

pub write_child-returns-in-Number-clause-written : goal.write_child-returns-in-Number-clause-written
write_child-returns-in-Number-clause-written t c =
    let seen : number (number_view c.in-Number.number) ≡ view c.args.value.now = rw c.in-Number.is (search (rules, the_lemmas)) in
    on_ok_weaker c.write_number.result (λ w. (json.number w.0, w.1, ap (option_map number) w.2 ∙ ap Some seen, omega arith, ap json.number w.3 ∙ ap outline seen)) c.write_number.ensures.written

pub write_elements-loop-element-preserved : goal.write_elements-loop-element-preserved
write_elements-loop-element-preserved t c =
    let l = c.loop-element in
    let xs = c.args.elements.now in
    let x = c.element-item.result in
    let here : drop l.element-index xs ≡ x ∷ drop (l.element-index + 1) xs = drop_more xs l.element-index x (omega arith) ∙ ap (λ y. y ∷ drop (l.element-index + 1) xs) (sym c.element-item.is) in (
      c.write_child.ensures.before ∙ l.invariant.0,
      λ end rest. l.invariant.1 end (subst (λ (vs : List Value). WritesElements vs l.out.tokens end) (sym here) (writes_element x _ _ _ _ c.in_ok-write_child.ensures.written rest)),
    )

pub write_elements-returns-clause-written : goal.write_elements-returns-clause-written
write_elements-returns-clause-written t c =
    let l = c.loop-element in
    let none : drop l.element-index c.args.elements.now ≡ [] = drop_all l.element-index c.args.elements.now (omega arith) in
    on_ok_weaker c.end_array.result (λ e.
    l.invariant.1 _ (subst (λ (vs : List Value). WritesElements vs l.out.tokens c.end_array.new.self.tokens) (sym none) (writes_no_elements _ _ e))) c.end_array.ensures.ok

pub write_members-loop-key-preserved : goal.write_members-loop-key-preserved
write_members-loop-key-preserved t c =
    let l = c.loop-key in
    let m : Entry = (c.in-Some.key.now, c.in-Some.member.now) in
    let left = c.next.new.self in
    let all : l.key-iterator ≡ m ∷ left = c.in-Some.ensures.steps in
    let named : c.key.new.self.tokens ≡ l.out.tokens ++ key (string_bytes m.0) ∷ [] = search rules in (
      search rules,
      λ end rest. l.invariant.1 end (subst (λ (es : List Entry). WritesMembersLeft es l.out.tokens end) (sym all) (writes_member m left _ _ _ _ named c.in_ok-write_child.ensures.written rest)),
    )

pub write_members-returns-clause-written : goal.write_members-returns-clause-written
write_members-returns-clause-written t c =
    let l = c.loop-key in
    let none : l.key-iterator ≡ [] = c.in-None.ensures.steps.0 in
    on_ok_weaker c.end_object.result (λ e.
    l.invariant.1 _ (subst (λ (es : List Entry). WritesMembersLeft es l.out.tokens c.end_object.new.self.tokens) (sym none) (writes_no_members _ _ e))) c.end_object.ensures.ok
