use Rattle.std.proofs.Common.{refl}
use Rattle.jsonptr_text_paths.proofs.BuildingLemmas.{no_field}
use Rattle.jsonptr_text_paths.proofs.build.pointer_of.Goals as goal

pub returns-in-None-2-clause-refused : goal.returns-in-None-2-clause-refused
returns-in-None-2-clause-refused c =
    let plain = rw c.in-None.is at c.in_ok-pointer.ensures in
    let quoted = rw c.in-None-2.is at c.in_ok-pointer-in-None.ensures in
    (refl, no_field c.args.field.now plain quoted)
