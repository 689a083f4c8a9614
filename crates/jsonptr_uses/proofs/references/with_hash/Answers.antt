use Rattle.std.proofs.Common.{arith}
use Rattle.std.proofs.lemmas.Str.Pattern.{strip_prefix_char}
use Rattle.jsonptr_uses.proofs.ReferencesLemmas.{if_hash-none, if_hash-some}
use Rattle.jsonptr_uses.proofs.references.with_hash.Goals as goal

pub returns-in-Some : goal.returns-in-Some
returns-in-Some c =
    if_hash-some c.args.text.now c.strip_prefix.result c.in-Some._rest (strip_prefix_char 35 c.args.text.now c.strip_prefix.result c.strip_prefix.ensures.cases (omega arith)) c.in-Some.is

pub returns-in-None : goal.returns-in-None
returns-in-None c =
    if_hash-none c.args.text.now c.strip_prefix.result (strip_prefix_char 35 c.args.text.now c.strip_prefix.result c.strip_prefix.ensures.cases (omega arith)) c.in-None.is
