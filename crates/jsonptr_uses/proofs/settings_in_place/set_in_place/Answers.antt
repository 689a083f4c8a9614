use Rattle.std.proofs.Common.{string_bytes}
use Rattle.std.proofs.lemmas.Result.{err_from_is_err_and}
use Rattle.jsonptr_uses.proofs.SettingsInPlaceLemmas.{sets_next, stops_there}
use Rattle.jsonptr_uses.proofs.settings_in_place.set_in_place.Goals as goal

pub edits-preserved : goal.edits-preserved
edits-preserved c =
    sets_next (string_bytes c.args.text) (string_bytes c.edits.settings.text) (string_bytes c.in_ok-settings.settings.text) c.args.edits.now c.edits.edit-index c.edit-item.result
    c.edits.settings.is_set.items c.in_ok-settings.settings.is_set.items c.edits-test.true c.edit-item.is c.edits.invariant c.in_ok-settings.ensures.set

pub returns-in_err-settings-clause-refused : goal.returns-in_err-settings-clause-refused
returns-in_err-settings-clause-refused c =
    let p = err_from_is_err_and c.from_residual.result c.from_residual.ensures.1 in
    rw (p.1, p.2) (stops_there (string_bytes c.args.text) (string_bytes c.edits.settings.text) c.args.edits.now c.edits.edit-index c.edit-item.result
    c.edits.settings.is_set.items _ c.edits-test.true c.edit-item.is c.edits.invariant c.in_err-settings.ensures.refused)
