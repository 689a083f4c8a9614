use Rattle.std.proofs.Common.{◌≡◌, [], ◌∷◌, ◌++◌, sym, ap, subst, arith, rules}
use Rattle.std.proofs.lemmas.Result.{IfOk-weaker, on_ok_weaker}
use Rattle.serde_json.proofs.Views.{Entry}
use Rattle.jsonptr_value.specs.Lengths.{members_length}
use Rattle.jsonptr_value.proofs.LengthLemmas.{members_length-first}
use Rattle.jsonptr_patch.specs.declared.float_search.Left.TheVariants.{Members}
use Rattle.jsonptr_patch.specs.PrivateSearching.{MembersLeadTo, MembersLack, AllLeadTo, AllLack, stack_length}
use Rattle.jsonptr_patch.proofs.SearchingLemmas.{all_lead-push, all_lack-pop, stack_length-push}
use Rattle.jsonptr_patch.proofs.float_search.look_at_member.Goals as goal

pub returns-in_default-clause-lacks : goal.returns-in_default-clause-lacks
returns-in_default-clause-lacks c = λ off before. (before, subst MembersLack (sym c.in_default.ensures.steps.0) tt)

pub returns-clause-found : goal.returns-clause-found
returns-clause-found c =
    let e : Entry = (c.in-Some._key.now, c.in-Some.member.now) in
    let all : c.args.members ≡ e ∷ c.next.new.self = c.in-Some.ensures.steps in
    IfOk-weaker c.look.result _ _ (λ b h. λ v leads on. (subst (MembersLeadTo v) all leads).0 (h on)) c.look.ensures.found

pub returns-clause-leads : goal.returns-clause-leads
returns-clause-leads c =
    let e : Entry = (c.in-Some._key.now, c.in-Some.member.now) in
    let all : c.args.members ≡ e ∷ c.next.new.self = c.in-Some.ensures.steps in
    let pushed : c.push.new.self.items ≡ c.args.stack.now.items ++ Members c.next.new.self ∷ [] = search rules in
    on_ok_weaker c.look.result (λ h. λ v leads before.
    let l = subst (MembersLeadTo v) all leads in
    h v l.0 (subst (AllLeadTo v) (sym pushed) (all_lead-push v c.args.stack.now.items (Members c.next.new.self) before l.1))) c.look.ensures.leads

pub returns-clause-lacks : goal.returns-clause-lacks
returns-clause-lacks c =
    let e : Entry = (c.in-Some._key.now, c.in-Some.member.now) in
    let all : c.args.members ≡ e ∷ c.next.new.self = c.in-Some.ensures.steps in
    let pushed : c.push.new.self.items ≡ c.args.stack.now.items ++ Members c.next.new.self ∷ [] = search rules in
    IfOk-weaker c.look.result _ _ (λ b h. λ off lack.
    let r = h off lack in
    let p = all_lack-pop c.args.stack.now.items (Members c.next.new.self) (subst AllLack pushed r.0) in
    (p.0, subst MembersLack (sym all) (r.1, p.1))) c.look.ensures.lacks

pub returns-clause-smaller : goal.returns-clause-smaller
returns-clause-smaller c =
    let e : Entry = (c.in-Some._key.now, c.in-Some.member.now) in
    let all : c.args.members ≡ e ∷ c.next.new.self = c.in-Some.ensures.steps in
    let pushed : c.push.new.self.items ≡ c.args.stack.now.items ++ Members c.next.new.self ∷ [] = search rules in
    on_ok_weaker c.look.result (λ less.
    omega (arith, less, ap stack_length pushed, stack_length-push c.args.stack.now.items (Members c.next.new.self), ap members_length all, members_length-first e c.next.new.self)) c.look.ensures.smaller
