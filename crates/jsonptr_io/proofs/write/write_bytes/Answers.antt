use Rattle.std.proofs.Common.{◌≡◌, ◌+◌, ◌-◌, ◌++◌, length, take, drop, sym, ap, ◌∙◌, subst, arith, length-take, length-drop}
use Rattle.std.proofs.Math.Seq.{take-add}
use Rattle.std.proofs.lemmas.List.{take_rest}
use Rattle.std.specs.Io.KnownBytes.{Appends}
use Rattle.std.proofs.KnownBytes.{Appends-trans}
use Rattle.jsonptr_io.proofs.write.write_bytes.Goals as goal

pub loop-written-preserved : goal.loop-written-preserved
loop-written-preserved g c =
    let bytes = c.args.bytes.now in
    let before = c.loop-written.written in
    let count = c.in-Ok.count in
    let joined : take (before + count) bytes ≡ take before bytes ++ take count (take (length bytes - before) (drop before bytes)) =
    take-add before count bytes ∙ ap (λ l. take before bytes ++ take count l) (sym (take_rest bytes before)) in (
      omega (arith, length-take (length bytes - before) (drop before bytes), length-drop before bytes, c.in-Ok.ensures.bound, c.loop-written.invariant.0),
      subst (Appends _ _) (sym joined) (Appends-trans _ _ _ _ _ c.loop-written.invariant.1 c.in-Ok.ensures.bytes),
    )
