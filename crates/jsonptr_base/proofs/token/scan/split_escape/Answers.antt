use Rattle.std.proofs.Common.{◌≡◌, ◌∙◌, subst, sym, ap, refl, arith, length, get_or}
use Rattle.std.proofs.lemmas.Str.{IsCharBoundary-after_ascii}
use Rattle.std.specs.Borrow.{Bor}
use Rattle.std.specs.Str.{IsCharBoundary}
use Rattle.jsonptr_grammar.specs.Text.{Text, unesc}
use Rattle.jsonptr_grammar.proofs.EscapeLemmas.{unesc-plain_at}
use Rattle.jsonptr_base.proofs.CutLemmas.{escape_found, byte_after, IsEscapeCut-pieces, stands_for_one, stands_for_other}
use Rattle.jsonptr_base.proofs.token.scan.split_escape.Goals as goal
use Rattle.jsonptr_base.proofs.token.scan.split_escape.Goals.{then-as_bytes-eq49, else-as_bytes-eq49}

pub returns-in_err-at : goal.returns-in_err-at
returns-in_err-at c =
    let none : unesc c.as_bytes.result.now ≡ c.as_bytes.result.now = unesc-plain_at _ (λ k below is. c.in_err-at.ensures k (omega arith) below (rw is refl)) in
    rw c.from_residual.ensures (rw c.as_bytes.ensures.value at none)

pub bounds-as_bytes-1 : goal.bounds-as_bytes-1
bounds-as_bytes-1 c =
    let e = escape_found c.args.encoded.now c.as_bytes.result.now c.in_ok-at.at c.as_bytes.ensures.value c.requires c.in_ok-at.ensures.0 c.in_ok-at.ensures.1 in
    omega (arith, e.inside, ap length c.as_bytes-2.ensures.value)

pub split_at-requires-2 : goal.split_at-requires-2
split_at-requires-2 c =
    let e = escape_found c.args.encoded.now c.as_bytes.result.now c.in_ok-at.at c.as_bytes.ensures.value c.requires c.in_ok-at.ensures.0 c.in_ok-at.ensures.1 in
    let after = byte_after c.args.encoded.now c.split_at.result.1.now c.in_ok-at.at e c.split_at.ensures.back in
    let same : get_or c.as_bytes-2.result.now 1 0 ≡ get_or c.split_at.result.1.now 1 0 = ap (λ (s : Text). get_or s 1 0) c.as_bytes-2.ensures.value in
    let long = ap length c.as_bytes-2.ensures.value in
    subst (λ (s : Text). IsCharBoundary s 2) c.as_bytes-2.ensures.value
    (IsCharBoundary-after_ascii c.as_bytes-2.result.now 1 c.as_bytes-2.ensures.utf8 (omega (arith, e.inside)) (omega (arith, e.ascii)))

pub returns : goal.returns
returns c =
    let e = escape_found c.args.encoded.now c.as_bytes.result.now c.in_ok-at.at c.as_bytes.ensures.value c.requires c.in_ok-at.ensures.0 c.in_ok-at.ensures.1 in
    let same : get_or c.as_bytes-2.result.now 1 0 ≡ get_or c.split_at.result.1.now 1 0 = ap (λ (s : Text). get_or s 1 0) c.as_bytes-2.ensures.value in
    IsEscapeCut-pieces c.args.encoded.now c.split_at.result.1.now c.in_ok-at.at e c.split_at.ensures.back _ _ _ c.split_at.ensures.front c.split_at-2.ensures.back
    (elim c.if-as_bytes-eq49.branch [
      | then-as_bytes-eq49 w ↦ stands_for_one _ _ (sym same ∙ w.if-as_bytes-eq49.true) (ap (λ (x : Bor Text). x.now) w.stands_for-is)
      | else-as_bytes-eq49 w ↦ stands_for_other _ _ (λ is. w.if-as_bytes-eq49.false (same ∙ is)) (ap (λ (x : Bor Text). x.now) w.stands_for-is)
    ])
    c.split_at-2.ensures.back_len c.split_at.ensures.back_len
