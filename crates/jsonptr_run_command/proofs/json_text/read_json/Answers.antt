use Rattle.std.proofs.Common.{◌≡◌, Option, sym, ap, ◌∙◌, subst, rules}
use Rattle.std.specs.Prelude.{IfOk, option_map}
use Rattle.serde_json.specs.Data.{Data}
use Rattle.serde_json.specs.Read.{read}
use Rattle.serde_json.specs.View.{view}
use Rattle.jsonptr_run_command.specs.JsonText.{json_of}
use Rattle.jsonptr_run_command.proofs.JsonLemmas.{json_of-utf8, json_of-None}
use Rattle.jsonptr_run_command.proofs.json_text.read_json.Goals as goal

pub returns-in-Ok-clause-value : goal.returns-in-Ok-clause-value
returns-in-Ok-clause-value c =
    let same : json_of c.args.bytes.now ≡ read c.in-Ok.text.now = json_of-utf8 _ c.in-Ok.ensures.1 ∙ ap read (sym c.in-Ok.ensures.0) in
    let given : IfOk c.if_json.result (λ v. read c.in-Ok.text.now ≡ option_map view v) = search rules in
    subst (λ (d : Option Data). IfOk c.if_json.result (λ v. d ≡ option_map view v)) (sym same) given

pub returns-in-Err-clause-value : goal.returns-in-Err-clause-value
returns-in-Err-clause-value c = json_of-None _ (λ u. absurd (c.in-Err.ensures u))
