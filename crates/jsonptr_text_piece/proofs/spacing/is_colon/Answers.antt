use Rattle.std.proofs.Common.{Some, arith}
use Rattle.std.proofs.lemmas.Str.Pattern.{split_parts}
use Rattle.jsonptr_text_piece.proofs.spacing.is_colon.Goals as goal

pub returns-then-is_blank : goal.returns-then-is_blank
returns-then-is_blank c = λ on.
    let parts = split_parts 58 c.args.text.now (Some (c.in-Some.before, c.in-Some.after)) c.in-Some.ensures.cases (omega arith) in
    (c.in-Some.before.now, c.in-Some.after.now, c.is_blank.ensures c.if-is_blank.true, c.is_blank-then-is_blank.ensures on, parts.0)
