use Rattle.std.proofs.Common.{refl, sym, ap, subst, arith}
use Rattle.jsonptr_patch.specs.PrivateSearching.{AllLeadTo, AllLack, stack_length}
use Rattle.jsonptr_patch.proofs.SearchingLemmas.{all_lead-pop, all_lack-push, stack_length-push}
use Rattle.jsonptr_patch.proofs.float_search.search.Goals as goal

pub loop-left-smaller : goal.loop-left-smaller
loop-left-smaller c = omega (arith, c.in_ok-look_further.ensures.smaller, ap stack_length c.in-Some.ensures.items, stack_length-push c.pop.new.self.items c.in-Some.left)

pub loop-left-preserved : goal.loop-left-preserved
loop-left-preserved c =
    let ls = c.pop.new.self.items in
    let all = c.in-Some.ensures.items in
    let h = all_lead-pop c.args.value.now ls c.in-Some.left (subst (AllLeadTo c.args.value.now) all c.loop-left.invariant.0) in (
      c.in_ok-look_further.ensures.leads c.args.value.now h.1 h.0,
      λ lack.
          let r = c.in_ok-look_further.ensures.lacks c.if-branch-2.false lack in
          c.loop-left.invariant.1 (subst AllLack (sym all) (all_lack-push ls c.in-Some.left r.0 r.1)),
    )

pub loop-left-init : goal.loop-left-init
loop-left-init c = (
  c.in_ok-look.ensures.leads c.args.value.now (λ f. f) (subst (AllLeadTo c.args.value.now) (sym c.new-stack.ensures.items) tt),
  λ lack. (c.in_ok-look.ensures.lacks c.if-branch.false lack).1,
)

pub returns-then-branch-2 : goal.returns-then-branch-2
returns-then-branch-2 c =
    let h = all_lead-pop c.args.value.now c.pop.new.self.items c.in-Some.left (subst (AllLeadTo c.args.value.now) c.in-Some.ensures.items c.loop-left.invariant.0) in
    (λ on. c.in_ok-look_further.ensures.found c.args.value.now h.1 c.if-branch-2.true, λ f. refl)
