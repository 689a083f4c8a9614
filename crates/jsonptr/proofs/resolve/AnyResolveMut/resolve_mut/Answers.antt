use Rattle.std.proofs.Common.{rules, refl}
use Rattle.jsonptr.proofs.resolve.AnyResolveMut.resolve_mut.Goals as goal

pub returns-in-Ok : goal.returns-in-Ok
returns-in-Ok g c =
    let led = c.in-Ok.ensures.value.0 in
    let found = g.met.D.Descend.found_at _ _ led.path _ (rw c.to_text.ensures at led.named) led.there in
    ((refl, λ w written. (search rules, search rules, (c.in-Ok.node.now, found, search rules)), tt), record { writes_back = tt; found = found; refused = search rules; no_memory = search rules })
