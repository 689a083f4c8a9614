use Rattle.std.proofs.Common.{◌≡◌, List, [], ◌∷◌, ◌++◌, Some, option_map, sym, ap, ◌∙◌, subst, arith, rules}
use Rattle.std.proofs.lemmas.Result.{on_ok_weaker}
use Rattle.json.specs.Token.{begin_array, begin_object}
use Rattle.json.specs.Json as json
use Rattle.serde_json.specs.Data.{null, boolean, number, string, array, object}
use Rattle.serde_json.specs.View.{view, number_view, items_view, members_view}
use Rattle.serde_json.specs.Written.{outline}
use Rattle.serde_json.specs.declared.value.Value.{the_lemmas}
use Rattle.serde_json.proofs.Views.{view-Array, view-Object}
use Rattle.jsonptr_value.specs.declared.frame.Frame.{Frame}
use Rattle.jsonptr_value.specs.declared.frame.Frame.TheVariants.{Elements, Members}
use Rattle.jsonptr_value.specs.PrivateFrames.{WritesStack, stack_length}
use Rattle.jsonptr_value.specs.Lengths.{token_count}
use Rattle.jsonptr_value.proofs.StackLemmas.{last_first, stack_length-push}
use Rattle.jsonptr_value.proofs.WritingLemmas.{writes_array, writes_object}
use Rattle.jsonptr_value.proofs.frame.begin.Goals as goal

pub returns-in-Null-clause-written : goal.returns-in-Null-clause-written
returns-in-Null-clause-written c =
    let seen : null ≡ view c.args.value.now = rw c.in-Null.is (search (rules, the_lemmas)) in
    on_ok_weaker c.null.result (λ e. λ end h. (_, (json.null, e, ap Some seen, omega arith, ap outline seen), h)) c.null.ensures.ok

pub returns-in-Bool-clause-written : goal.returns-in-Bool-clause-written
returns-in-Bool-clause-written c =
    let seen : boolean c.in-Bool.b ≡ view c.args.value.now = rw c.in-Bool.is (search (rules, the_lemmas)) in
    on_ok_weaker c.boolean.result (λ e. λ end h. (_, (json.boolean c.in-Bool.b, e, ap Some seen, omega arith, ap outline seen), h)) c.boolean.ensures.ok

pub returns-in-String-clause-written : goal.returns-in-String-clause-written
returns-in-String-clause-written c =
    let seen : string c.as_str.result.now ≡ view c.args.value.now = rw c.in-String.is (search (rules, the_lemmas)) in
    on_ok_weaker c.string.result (λ e. λ end h. (_, (json.string c.as_str.result.now, e, ap Some seen, omega arith, ap outline seen), h)) c.string.ensures.ok

pub returns-in-Number-clause-written : goal.returns-in-Number-clause-written
returns-in-Number-clause-written c =
    let seen : number (number_view c.in-Number.number) ≡ view c.args.value.now = rw c.in-Number.is (search (rules, the_lemmas)) in
    on_ok_weaker c.write_number.result (λ w. λ end h. (_, (json.number w.0, w.1, ap (option_map number) w.2 ∙ ap Some seen, omega arith, ap json.number w.3 ∙ ap outline seen), h)) c.write_number.ensures.written

pub returns-in_ok-push-in-Array-clause-written : goal.returns-in_ok-push-in-Array-clause-written
returns-in_ok-push-in-Array-clause-written c = λ end h.
    let vs = c.as_slice.result.now in
    let seen : array (items_view vs) ≡ view c.args.value.now = ap (λ xs. array (items_view xs)) c.as_slice.ensures.value ∙ sym (ap view c.in-Array.is ∙ view-Array c.in-Array.elements) in
    let opened : c.begin_array.new.self.tokens ≡ c.args.out.now.tokens ++ begin_array ∷ [] = search rules in
    let pushed : c.push.new.self.items ≡ c.args.stack.now.items ++ Elements c.as_slice.result ∷ [] = search rules in
    let top = last_first c.args.stack.now.items (Elements c.as_slice.result) _ _ (subst (λ (fs : List Frame). WritesStack fs c.begin_array.new.self.tokens end) pushed h) in
    (top.0, writes_array vs _ _ _ _ seen opened top.1, top.2)

pub returns-in_ok-push-in-Array-clause-smaller : goal.returns-in_ok-push-in-Array-clause-smaller
returns-in_ok-push-in-Array-clause-smaller c =
    let vs = c.as_slice.result.now in
    let seen : array (items_view vs) ≡ view c.args.value.now = ap (λ xs. array (items_view xs)) c.as_slice.ensures.value ∙ sym (ap view c.in-Array.is ∙ view-Array c.in-Array.elements) in
    let pushed : c.push.new.self.items ≡ c.args.stack.now.items ++ Elements c.as_slice.result ∷ [] = search rules in
    omega (arith, ap stack_length pushed, stack_length-push c.args.stack.now.items (Elements c.as_slice.result), ap token_count seen)

pub returns-in_ok-push-in-Object-clause-written : goal.returns-in_ok-push-in-Object-clause-written
returns-in_ok-push-in-Object-clause-written c = λ end h.
    let es = c.in-Object.members.entries in
    let seen : object (members_view es) ≡ view c.args.value.now = sym (ap view c.in-Object.is ∙ view-Object c.in-Object.members) in
    let opened : c.begin_object.new.self.tokens ≡ c.args.out.now.tokens ++ begin_object ∷ [] = search rules in
    let pushed : c.push-in-Object.new.self.items ≡ c.args.stack.now.items ++ Members es ∷ [] = search rules in
    let top = last_first c.args.stack.now.items (Members es) _ _ (subst (λ (fs : List Frame). WritesStack fs c.begin_object.new.self.tokens end) pushed h) in
    (top.0, writes_object es _ _ _ _ c.iter.ensures.ordered seen opened top.1, top.2)

pub returns-in_ok-push-in-Object-clause-smaller : goal.returns-in_ok-push-in-Object-clause-smaller
returns-in_ok-push-in-Object-clause-smaller c =
    let es = c.in-Object.members.entries in
    let seen : object (members_view es) ≡ view c.args.value.now = sym (ap view c.in-Object.is ∙ view-Object c.in-Object.members) in
    let pushed : c.push-in-Object.new.self.items ≡ c.args.stack.now.items ++ Members es ∷ [] = search rules in
    omega (arith, ap stack_length pushed, stack_length-push c.args.stack.now.items (Members es), ap token_count seen)
