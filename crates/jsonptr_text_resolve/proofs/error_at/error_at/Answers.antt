use Rattle.std.proofs.Common.{◌≡◌, ◌-◌, length, refl, ap, subst, arith}
use Rattle.jsonptr.specs.Pointer.{tokens}
use Rattle.jsonptr.specs.declared.resolve.Error.TheVariants as error
use Rattle.jsonptr_text_search.specs.declared.outcome.Kind.{Kind}
use Rattle.jsonptr_text_resolve.specs.Selecting.{StopsLeft}
use Rattle.jsonptr_text_resolve.proofs.ErrorLemmas.{stops_at, no_index_below, refused_scalar, refused_object, refused_index, refused_bounds}
use Rattle.jsonptr_text_resolve.proofs.error_at.error_at.Goals as goal

pub returns-in-Scalar : goal.returns-in-Scalar
returns-in-Scalar c = λ d stop.
    let ts = tokens c.args.pointer in
    let p = c.saturating_sub-position.result in
    let o = length c.as_str-offset.result.now in
    let x = c.in-Some-split_front.token in
    let place : p ≡ length ts - c.args.left = omega (arith, c.saturating_sub-position.ensures, c.count-count.ensures) in
    let s = subst (λ (k : Kind). StopsLeft d ts c.args.left k) c.in-Scalar.is stop in
    let t = stops_at d ts c.args.left _ p o (tokens c.in-Some.front) (tokens c.in-Some.rest) x (tokens c.in-Some-split_front.field-0-1) s place c.in-Some.ensures.0 c.in-Some.ensures.1 c.in-Some-split_front.ensures (ap (λ b. length b) c.as_str-offset.ensures.tokens) in
    refused_scalar d ts p x (error.Unreachable p o) t refl refl

pub returns-in-Object : goal.returns-in-Object
returns-in-Object c = λ d stop.
    let ts = tokens c.args.pointer in
    let p = c.saturating_sub-position.result in
    let o = length c.as_str-offset.result.now in
    let x = c.in-Some-split_front.token in
    let place : p ≡ length ts - c.args.left = omega (arith, c.saturating_sub-position.ensures, c.count-count.ensures) in
    let s = subst (λ (k : Kind). StopsLeft d ts c.args.left k) c.in-Object.is stop in
    let t = stops_at d ts c.args.left _ p o (tokens c.in-Some.front) (tokens c.in-Some.rest) x (tokens c.in-Some-split_front.field-0-1) s place c.in-Some.ensures.0 c.in-Some.ensures.1 c.in-Some-split_front.ensures (ap (λ b. length b) c.as_str-offset.ensures.tokens) in
    refused_object d ts p x (error.NotFound p o) t refl refl

pub returns-in-Err : goal.returns-in-Err
returns-in-Err c = λ d stop.
    let ts = tokens c.args.pointer in
    let p = c.saturating_sub-position.result in
    let o = length c.as_str-offset.result.now in
    let x = c.in-Some-split_front.token in
    let place : p ≡ length ts - c.args.left = omega (arith, c.saturating_sub-position.ensures, c.count-count.ensures) in
    let s = subst (λ (k : Kind). StopsLeft d ts c.args.left k) c.in-Array.is stop in
    let t = stops_at d ts c.args.left _ p o (tokens c.in-Some.front) (tokens c.in-Some.rest) x (tokens c.in-Some-split_front.field-0-1) s place c.in-Some.ensures.0 c.in-Some.ensures.1 c.in-Some-split_front.ensures (ap (λ b. length b) c.as_str-offset.ensures.tokens) in
    refused_index d ts p x (error.FailedToParseIndex p o c.in-Err.source) c.in-Array.length c.in-Err.source t refl refl c.in-Err.ensures.decoded

pub returns-in-Err-for_len : goal.returns-in-Err-for_len
returns-in-Err-for_len c = λ d stop.
    let ts = tokens c.args.pointer in
    let p = c.saturating_sub-position.result in
    let o = length c.as_str-offset.result.now in
    let x = c.in-Some-split_front.token in
    let place : p ≡ length ts - c.args.left = omega (arith, c.saturating_sub-position.ensures, c.count-count.ensures) in
    let s = subst (λ (k : Kind). StopsLeft d ts c.args.left k) c.in-Array.is stop in
    let t = stops_at d ts c.args.left _ p o (tokens c.in-Some.front) (tokens c.in-Some.rest) x (tokens c.in-Some-split_front.field-0-1) s place c.in-Some.ensures.0 c.in-Some.ensures.1 c.in-Some-split_front.ensures (ap (λ b. length b) c.as_str-offset.ensures.tokens) in
    refused_bounds d ts p x (error.OutOfBounds p o c.in-Err-for_len.source) c.in-Array.length c.in-Ok.index c.in-Err-for_len.source t refl refl c.in-Ok.ensures.decoded c.in-Err-for_len.ensures

pub returns : goal.returns
returns c = λ d stop.
    let ts = tokens c.args.pointer in
    let p = c.saturating_sub-position.result in
    let o = length c.as_str-offset.result.now in
    let x = c.in-Some-split_front.token in
    let place : p ≡ length ts - c.args.left = omega (arith, c.saturating_sub-position.ensures, c.count-count.ensures) in
    let s = subst (λ (k : Kind). StopsLeft d ts c.args.left k) c.in-Array.is stop in
    let t = stops_at d ts c.args.left _ p o (tokens c.in-Some.front) (tokens c.in-Some.rest) x (tokens c.in-Some-split_front.field-0-1) s place c.in-Some.ensures.0 c.in-Some.ensures.1 c.in-Some-split_front.ensures (ap (λ b. length b) c.as_str-offset.ensures.tokens) in
    absurd (no_index_below d ts c.in-Array.length p o x c.in-Ok.index c.in-Ok-for_len.field-0 t c.in-Ok.ensures.decoded c.in-Ok-for_len.ensures)
