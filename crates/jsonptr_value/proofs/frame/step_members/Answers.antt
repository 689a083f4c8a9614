use Rattle.std.proofs.Common.{◌≡◌, List, [], ◌∷◌, ◌++◌, string_bytes, sym, ap, subst, arith, rules}
use Rattle.std.proofs.lemmas.Result.{on_ok_weaker}
use Rattle.json.specs.Token.{key}
use Rattle.serde_json.proofs.Views.{Entry}
use Rattle.jsonptr_value.specs.declared.frame.Frame.{Frame}
use Rattle.jsonptr_value.specs.declared.frame.Frame.TheVariants.{Members}
use Rattle.jsonptr_value.specs.PrivateFrames.{WritesMembersLeft, WritesStack, stack_length}
use Rattle.jsonptr_value.specs.Lengths.{members_length}
use Rattle.jsonptr_value.proofs.StackLemmas.{last_first, stack_length-push}
use Rattle.jsonptr_value.proofs.LengthLemmas.{members_length-first}
use Rattle.jsonptr_value.proofs.WritingLemmas.{writes_no_members, writes_member}
use Rattle.jsonptr_value.proofs.frame.step_members.Goals as goal

pub returns-in_default-clause-written : goal.returns-in_default-clause-written
returns-in_default-clause-written c =
    let none : c.args.members ≡ [] = c.in_default.ensures.steps.0 in
    on_ok_weaker c.end_object.result (λ e. λ end h. (_, subst (λ (es : List Entry). WritesMembersLeft es c.args.out.now.tokens c.end_object.new.self.tokens) (sym none) (writes_no_members _ _ e), h)) c.end_object.ensures.ok

pub returns-clause-written : goal.returns-clause-written
returns-clause-written c =
    let m : Entry = (c.in-Some.key.now, c.in-Some.member.now) in
    let es = c.next.new.self in
    let all : c.args.members ≡ m ∷ es = c.in-Some.ensures.steps in
    let pushed : c.push.new.self.items ≡ c.args.stack.now.items ++ Members es ∷ [] = search rules in
    let named : c.key.new.self.tokens ≡ c.args.out.now.tokens ++ key (string_bytes m.0) ∷ [] = search rules in
    on_ok_weaker c.begin.result (λ begun. λ end h.
    let w = begun end h in
    let top = last_first c.args.stack.now.items (Members es) _ _ (subst (λ (fs : List Frame). WritesStack fs w.0 end) pushed w.2) in
    (top.0, subst (λ (xs : List Entry). WritesMembersLeft xs c.args.out.now.tokens top.0) (sym all) (writes_member m es _ _ _ _ named w.1 top.1), top.2)) c.begin.ensures.written

pub returns-clause-smaller : goal.returns-clause-smaller
returns-clause-smaller c =
    let m : Entry = (c.in-Some.key.now, c.in-Some.member.now) in
    let es = c.next.new.self in
    let all : c.args.members ≡ m ∷ es = c.in-Some.ensures.steps in
    let pushed : c.push.new.self.items ≡ c.args.stack.now.items ++ Members es ∷ [] = search rules in
    on_ok_weaker c.begin.result (λ less.
    omega (arith, less, ap stack_length pushed, stack_length-push c.args.stack.now.items (Members es), ap members_length all, members_length-first m es)) c.begin.ensures.smaller
