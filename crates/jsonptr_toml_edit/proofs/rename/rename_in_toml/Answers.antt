use Rattle.std.proofs.lemmas.Result.{err_from_is_err_and}
use Rattle.toml.specs.View.{view}
use Rattle.jsonptr.specs.Pointer.{tokens}
use Rattle.jsonptr_toml_edit.specs.Renaming.{RenamesTomlBytes}
use Rattle.jsonptr_toml_edit.proofs.GivingLemmas.{kept}
use Rattle.jsonptr_toml_edit.proofs.RenamingLemmas.{renamed_print, unprinted_after_rename}
use Rattle.jsonptr_toml_edit.proofs.rename.rename_in_toml.Goals as goal

pub returns-in_err-choose-clause-refused : goal.returns-in_err-choose-clause-refused
returns-in_err-choose-clause-refused c =
    let p = err_from_is_err_and c.from_residual-in_err-choose.result c.from_residual-in_err-choose.ensures.1 in
    rw (p.1, p.2) (unprinted_after_rename c.args.text.now (tokens c.args.pointer) c.args.key.now (view c.in_ok-document.document) _ (c.in_ok-document.ensures.renamed, c.in_ok-document.ensures.sorted) c.in_err-choose.ensures.refused)

pub returns-clause-bytes : goal.returns-clause-bytes
returns-clause-bytes c =
    kept (RenamesTomlBytes c.args.text.now (tokens c.args.pointer) c.args.key.now) c.in_ok-candidate.candidate c.in_ok-choose.field-0 c.in_ok-choose.ensures.in_place c.in_ok-choose.ensures.has_candidate c.in_ok-candidate.ensures

pub returns-clause-printed : goal.returns-clause-printed
returns-clause-printed c = renamed_print c.args.text.now (tokens c.args.pointer) c.args.key.now (view c.in_ok-document.document) c.in_ok-choose.field-0 c.in_ok-document.ensures.renamed c.in_ok-choose.ensures.printed
