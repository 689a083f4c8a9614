use Rattle.std.proofs.Common.{◌≡◌, ℕ, List, sym, subst, arith}
use Rattle.serde_json.specs.View.{view}
use Rattle.jsonptr.specs.Json.{FindsValue}
use Rattle.jsonptr.specs.Pointer.{tokens}
use Rattle.jsonptr.specs.Text.{Text}
use Rattle.jsonptr_uses.specs.References.{Follows}
use Rattle.jsonptr_uses.proofs.ReferencesLemmas.{passes_more, refuses_text}
use Rattle.jsonptr_uses.proofs.references.resolve_reference.Goals as goal

pub returns-in-Some-reference-clause-refused : goal.returns-in-Some-reference-clause-refused
returns-in-Some-reference-clause-refused c =
    let document = view c.args.document.now in
    let last : c.loop-turn._turn ≡ c.args.steps = omega arith in
    let passed = subst (λ (n : ℕ). Follows document (tokens c.args.pointer) n c.loop-turn.current) last c.loop-turn.invariant in
    let found = subst (λ (ts : List Text). FindsValue document ts (view c.in_ok-value-2.value.now)) c.as_ptr-2.ensures.tokens c.in_ok-value-2.ensures.found in
    (c.loop-turn.current, c.in-Some-reference._text.now, passed, (view c.in_ok-value-2.value.now, found, sym c.in-Some-reference.ensures))

pub loop-turn-preserved : goal.loop-turn-preserved
loop-turn-preserved c =
    let document = view c.args.document.now in
    let found = subst (λ (ts : List Text). FindsValue document ts (view c.in_ok-value.value.now)) c.as_ptr.ensures.tokens c.in_ok-value.ensures.found in
    passes_more document (tokens c.args.pointer) c.loop-turn.current c.in-Ok.next c.in-Some.text.now c.loop-turn._turn c.loop-turn.invariant (view c.in_ok-value.value.now, found, sym c.in-Some.ensures) c.in-Ok.ensures.found

pub returns-in-Err-clause-refused : goal.returns-in-Err-clause-refused
returns-in-Err-clause-refused c =
    let document = view c.args.document.now in
    let found = subst (λ (ts : List Text). FindsValue document ts (view c.in_ok-value.value.now)) c.as_ptr.ensures.tokens c.in_ok-value.ensures.found in
    refuses_text document (tokens c.args.pointer) c.loop-turn.current c.in-Some.text.now c.loop-turn._turn c.args.steps c.in-Err.fault c.loop-turn-test.true c.loop-turn.invariant (view c.in_ok-value.value.now, found, sym c.in-Some.ensures) c.in-Err.ensures.refused
