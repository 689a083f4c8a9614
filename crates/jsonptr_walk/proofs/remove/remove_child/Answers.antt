use Rattle.std.proofs.Common.{[], ◌∷◌, ◌++◌, refl, sym, true≢false}
use Rattle.jsonptr_syntax.specs.PointerText.{tokens}
use Rattle.jsonptr_walk.proofs.DeleteLemmas.{plain_front, plain_last, stops_short, short_deleted, takes_out, below_deleted, below_found}
use Rattle.jsonptr_walk.proofs.remove.remove_child.Goals as goal

pub returns-in_err-child-in-Ok-clause-no_memory : goal.returns-in_err-child-in-Ok-clause-no_memory
returns-in_err-child-in-Ok-clause-no_memory g c = λ plain. absurd (true≢false (sym (c.in_err-child-in-Ok.ensures.no_memory (plain_last (tokens c.args.parent) c.args.token.now plain))))

pub returns-in_ok-child-in-Ok-clause-deleted : goal.returns-in_ok-child-in-Ok-clause-deleted
returns-in_ok-child-in-Ok-clause-deleted g c =
    let d = c.args.document.now in let e = c.in-Ok.node.now in let m = c.remove.new.self in let x = c.args.token.now in
    let node = g.met.D.Node.Document in let below = g.D.Node.Document in
    let told = rw c.in-Ok.is at (c.descend.follows.holds m) in
    let took = takes_out below.nodes below.stands_at e m x c.in_ok-child-in-Ok.child c.remove.result (g.met.D.Node.DocumentMut.is_tree e) c.in_ok-child-in-Ok.ensures.child c.remove.ensures.removed in
    below_deleted below.nodes below.stands_at node.has_root node.is_sub e c.in-Ok.ensures.value.0 x m _ _ c.remove.result took (g.met.D.Document.has_root d) (λ stays. g.met.D.Document.is_sub d (c.descend.follows.lender m) [] (told.1 stays)) (told.0 refl)

pub returns-in_ok-child-in-Ok-clause-found : goal.returns-in_ok-child-in-Ok-clause-found
returns-in_ok-child-in-Ok-clause-found g c =
    let p = c.args.parent in let d = c.args.document.now in let e = c.in-Ok.node.now in let m = c.remove.new.self in let x = c.args.token.now in
    let node = g.met.D.Node.Document in let below = g.D.Node.Document in let leads = c.in-Ok.ensures.value.0 in
    let told = rw c.in-Ok.is at (c.descend.follows.holds m) in
    let took = takes_out below.nodes below.stands_at e m x c.in_ok-child-in-Ok.child c.remove.result (g.met.D.Node.DocumentMut.is_tree e) c.in_ok-child-in-Ok.ensures.child c.remove.ensures.removed in
    below_found below.nodes below.stands_at node.has_root node.is_sub e leads x m c.remove.result _ _ took
    (λ stays. g.met.D.Descend.same_at d (c.descend.follows.lender m) (told.1 stays))
    (λ f s there named. g.met.D.Descend.found_at d (tokens p ++ x ∷ []) (leads.path ++ s ∷ []) f named (g.met.D.Descend.below_at d leads.path s e f leads.there there))

pub returns-in-Err-Refused-clause-deleted : goal.returns-in-Err-Refused-clause-deleted
returns-in-Err-Refused-clause-deleted g c =
    let d = c.args.document.now in
    let told = rw c.in-Err-Refused.is at c.descend.follows.holds-at-none in
    short_deleted (g.D.Document.nodes d) (tokens c.args.parent) c.in-Err-Refused.field-0-0 (rw c.in-Err-Refused.field-0-is at c.in-Err-Refused.ensures.value.1) (c.args.token.now ∷ []) _ _ (g.met.D.Document.has_root d) (g.met.D.Document.is_sub d c.descend.follows.lender-at-none [] told)

pub returns-in-Err-Refused-clause-found : goal.returns-in-Err-Refused-clause-found
returns-in-Err-Refused-clause-found g c =
    let d = c.args.document.now in
    let told = rw c.in-Err-Refused.is at c.descend.follows.holds-at-none in (
      stops_short (g.D.Document.nodes d) (tokens c.args.parent) c.in-Err-Refused.field-0-0 (rw c.in-Err-Refused.field-0-is at c.in-Err-Refused.ensures.value.1) (c.args.token.now ∷ []),
      g.met.D.Descend.same_at d c.descend.follows.lender-at-none told,
    )

pub returns-in-Err-Memory-clause-no_memory : goal.returns-in-Err-Memory-clause-no_memory
returns-in-Err-Memory-clause-no_memory g c = λ plain. absurd ((rw c.in-Err-Memory.field-0-is at c.in-Err-Memory.ensures.value.2) (plain_front (tokens c.args.parent) c.args.token.now plain))
