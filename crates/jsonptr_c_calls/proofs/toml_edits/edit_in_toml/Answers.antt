use Rattle.std.proofs.Common.{inr, subst}
use Rattle.std.proofs.lemmas.Result.{IfErr-weaker, IfOk-weaker}
use Rattle.jsonptr_toml_edit.specs.TomlEditErrors.{IsTomlEditError}
use Rattle.jsonptr_toml_edit.specs.TomlEdits.{TomlEditBytes}
use Rattle.jsonptr_toml_edit.specs.declared.edit_error.TomlEditError.{TomlEditError}
use Rattle.jsonptr_c_calls.proofs.OpenTextLemmas.{in_place_weaker, no_value}
use Rattle.jsonptr_c_calls.specs.OpenTexts.{BytesIn}
use Rattle.jsonptr_c_calls.specs.declared.text_format.TextFormat.TheVariants.{Toml}
use Rattle.jsonptr_c_calls.proofs.toml_edits.edit_in_toml.Goals as goal

pub returns-in-Ok-clause-edited : goal.returns-in-Ok-clause-edited
returns-in-Ok-clause-edited c = (c.in_ok-made.made, c.in_ok-made.ensures.made, c.in-Ok.ensures.edited)

pub returns-in-Ok-clause-bytes : goal.returns-in-Ok-clause-bytes
returns-in-Ok-clause-bytes c =
    in_place_weaker c.in-Ok.edited (TomlEditBytes c.args.text.now c.in_ok-made.made) (BytesIn Toml c.args.text.now c.args.edit.now) (λ t h. (c.in_ok-made.made, c.in_ok-made.ensures.made, h)) c.in-Ok.ensures.bytes

pub returns-clause-nothing : goal.returns-clause-nothing
returns-clause-nothing c =
    let made = c.in_ok-made.made in
    IfOk-weaker c.failed.result _ _
    (λ o h. no_value o _ h.0 (made, c.in_ok-made.ensures.made, subst (λ (f : TomlEditError). IsTomlEditError c.args.text.now made f) h.1 c.in-Err.ensures.refused))
    c.failed.ensures.nothing

pub returns-clause-refused : goal.returns-clause-refused
returns-clause-refused c =
    IfErr-weaker c.failed.result _ _
    (λ e h. inr (inr (c.in_ok-made.made, c.in-Err.error, c.in_ok-made.ensures.made, c.in-Err.ensures.refused, h))) c.failed.ensures.refused
