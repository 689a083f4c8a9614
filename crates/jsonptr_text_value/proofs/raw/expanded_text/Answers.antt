use Rattle.std.proofs.Common.{◌≡◌, Option, String, IfSome, string_bytes, subst}
use Rattle.std.specs.declared.alloc.Global.{Global}
use Rattle.json.specs.Lex.{tokens as lexed}
use Rattle.jsonptr.specs.Text.{Text}
use Rattle.jsonptr.specs.Pointer.{tokens}
use Rattle.jsonptr_text_value.specs.Wrapping.{wrapped}
use Rattle.jsonptr_text_value.proofs.WrappingLemmas.{expanded_if, tokens_if}
use Rattle.jsonptr_text_value.proofs.raw.expanded_text.Goals as goal

pub returns-clause-value : goal.returns-clause-value
returns-clause-value c =
    let ts = tokens c.args.pointer in
    let flat = string_bytes c.in-Some.flat in
    let same = subst (λ (o : Option (String Global)). IfSome o (λ s. lexed (string_bytes s) ≡ wrapped ts (lexed c.as_str.result.now))) c.in-Some.is c.in_ok-flat.ensures in
    expanded_if c.lay_out.result ts c.args.raw.now flat (subst (λ (t : Text). lexed flat ≡ wrapped ts (lexed t)) c.as_str.ensures.value same) c.lay_out.ensures.same c.lay_out.ensures.reads

pub returns-clause-same : goal.returns-clause-same
returns-clause-same c =
    let ts = tokens c.args.pointer in
    let flat = string_bytes c.in-Some.flat in
    let raw = string_bytes c.args.raw.now.printed.flat in
    let same = subst (λ (o : Option (String Global)). IfSome o (λ s. lexed (string_bytes s) ≡ wrapped ts (lexed c.as_str.result.now))) c.in-Some.is c.in_ok-flat.ensures in
    tokens_if c.lay_out.result flat (wrapped ts (lexed raw)) (subst (λ (t : Text). lexed flat ≡ wrapped ts (lexed t)) c.as_str.ensures.value same) c.lay_out.ensures.same
