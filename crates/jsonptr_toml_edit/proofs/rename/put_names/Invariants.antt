use Rattle.std.proofs.Common.{ℕ, string_bytes}
use Rattle.jsonptr_toml_edit.specs.Renaming.{RenamesKeys}
use Rattle.jsonptr_toml_edit.proofs.rename.put_names.Given as goal

abbrev pub invariant-names : goal.invariant-names
invariant-names l = (n : ℕ) × RenamesKeys n l.renaming.from.now l.renaming.to.now l.text (string_bytes l.current)
