use Rattle.std.proofs.Common.{List, ℕ, suc, string_bytes, subst}
use Rattle.jsonptr_toml_edit.specs.Renaming.{RenamesKey}
use Rattle.jsonptr_toml_edit.proofs.rename.put_names.Goals as goal

pub names-preserved : goal.names-preserved
names-preserved c =
    let i = c.names.invariant in
    let from = c.args.renaming.now.from.now in
    let to = c.args.renaming.now.to.now in
    let next = string_bytes c.in-Some-2.next in
    let step : RenamesKey from to c.as_str.result.now next = rw c.in-Some-2.is at c.in_ok-next.ensures in
    (suc i.0, (string_bytes c.names.current, i.1, subst (λ (t : List ℕ). RenamesKey from to t next) c.as_str.ensures.value step))
