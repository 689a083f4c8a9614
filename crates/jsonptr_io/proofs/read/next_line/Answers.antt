use Rattle.std.proofs.Common.{ℕ, List, length, drop, subst, arith, ◌≡◌, ◌≢◌, ◌++◌}
use Rattle.std.specs.Prelude.{IfSome}
use Rattle.std.specs.Io.BufRead.{take_through}
use Rattle.std.specs.Io.{StopsAt}
use Rattle.std.specs.Io.KnownBytes.{Consumes}
use Rattle.jsonptr_io.proofs.LineLemmas.{next_kept, next_of}
use Rattle.jsonptr_io.proofs.read.next_line.Goals as goal

pub returns-in-Ok-clause-line : goal.returns-in-Ok-clause-line
returns-in-Ok-clause-line g c =
    let empty = c.clear.ensures.items in
    let got = c.read_until.new.buf.items in
    let at = g.R.Read.remaining c.is_at_end.new.input in
    let after = g.R.Read.remaining c.read_until.new.self in
    let stops : StopsAt got 10 = subst (λ (e : List ℕ). StopsAt (drop (length e) got) 10) empty c.read_until.ensures.stops in
    let read : Consumes at after got = subst (λ (e : List ℕ). Consumes at after (drop (length e) got)) empty c.read_until.ensures.none_lost in
    let some : length got ≢ 0 = λ z. c.in-Ok.field-0-test.1 (omega (arith, z, c.in-Ok.ensures.ok, c.read_until.new.buf.ok.0)) in
    let known : IfSome at (λ xs. got ≡ take_through 10 xs) = subst (λ (e : List ℕ). IfSome at (λ xs. got ≡ e ++ take_through 10 xs)) empty c.in-Ok.ensures.bytes in
    next_kept (g.R.Read.remaining c.args.input.now) at after c.cut_break.new.line.items c.cut_break.result c.is_at_end.ensures.kept
    (next_of at after got c.cut_break.new.line.items c.cut_break.result stops some known read c.cut_break.ensures)
