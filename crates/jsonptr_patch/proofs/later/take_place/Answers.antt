use Rattle.std.proofs.Common.{◌≡◌, ℕ, suc, ◌+◌, take, drop, List, sym, ap, ◌∙◌, subst, arith}
use Rattle.serde_json.specs.View.{view}
use Rattle.jsonptr.specs.Json.{nodes}
use Rattle.jsonptr_patch.specs.Apart.{AllDiverge, pointers}
use Rattle.jsonptr_patch.specs.PrivateLater.{paths_of, IsPending, IsWaitingAt}
use Rattle.jsonptr_patch.specs.declared.later.Later.{Later}
use Rattle.jsonptr_patch.proofs.WaitingLemmas.{both_apart, place_taken}
use Rattle.jsonptr_patch.proofs.later.take_place.Goals as goal

pub returns-clause-apart : goal.returns-clause-apart
returns-clause-apart c = λ _.
    let d = nodes (view c.args.document.now) in
    let ls = c.args.later.now.items in
    let next : c.in-Some.index + 1 ≡ suc c.in-Some.index = omega arith in
    let before : c.split_at.result.0.now ≡ take c.in-Some.index ls = c.split_at.ensures.front ∙ ap (take c.in-Some.index) c.as_slice-waiting.ensures.value in
    let after : c.split_at-2.result.1.now ≡ drop (suc c.in-Some.index) ls = c.split_at-2.ensures.back ∙ ap (drop (c.in-Some.index + 1)) c.as_slice-waiting.ensures.value ∙ ap (λ (k : ℕ). drop k ls) next in
    subst (λ (ks : List Later). AllDiverge d (pointers c.args.operation.now) (paths_of ks)) (sym c.remove.ensures.items)
    (both_apart d (pointers c.args.operation.now) (take c.in-Some.index ls) (drop (suc c.in-Some.index) ls)
    (subst (λ (ks : List Later). AllDiverge d (pointers c.args.operation.now) (paths_of ks)) before (c.is_apart.ensures.apart c.if-not-is_apart.false))
    (subst (λ (ks : List Later). AllDiverge d (pointers c.args.operation.now) (paths_of ks)) after (c.is_apart-2.ensures.apart c.if-not-is_apart-2.false)))

pub returns-clause-frees : goal.returns-clause-frees
returns-clause-frees c = λ _ n p.
    let at = c.in-Some.ensures in
    let r = place_taken c.args.document.now n c.args.operation.now c.args.later.now.items c.in-Some.index c.remove.result at.0 (subst (λ (ks : List Later). IsWaitingAt ks c.in-Some.index at.0) c.as_slice.ensures.value at.1) at.2 at.3 p in
    (r.0, subst (λ (ks : List Later). IsPending (nodes (view c.args.document.now)) ks r.0) (sym c.remove.ensures.items) r.1, r.2)
