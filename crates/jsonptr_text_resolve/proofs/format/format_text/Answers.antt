use Rattle.std.proofs.Common.{subst}
use Rattle.json.specs.Lex.{tokens}
use Rattle.jsonptr_text_resolve.specs.Format.{laid_out}
use Rattle.jsonptr_text_resolve.specs.PrivateFormat.{IsWritten}
use Rattle.jsonptr_text_resolve.proofs.FormatLemmas.{not_read, has_tokens, is_form}
use Rattle.jsonptr_text_resolve.proofs.format.format_text.Goals as goal

pub returns-in-None-clause-refused : goal.returns-in-None-clause-refused
returns-in-None-clause-refused c =
    not_read c.args.text.now (subst (IsWritten (laid_out c.args.format) (tokens c.args.text.now)) c.in-None.is c.in_ok-text.ensures)

pub returns-in-Some-clause-formatted : goal.returns-in-Some-clause-formatted
returns-in-Some-clause-formatted c =
    let text = c.args.text.now in
    let written = subst (IsWritten (laid_out c.args.format) (tokens text)) c.in-Some.is c.in_ok-text.ensures in
    let document = c.in_ok-is_json.ensures.yes c.if-not-is_json.false in
    is_form c.args.format text _ document.0 document.1 (has_tokens c.args.format text _ written.0 written.1)
