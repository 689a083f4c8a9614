use Rattle.std.proofs.Common.{ap, sym, ◌∙◌, arith, length, take, drop}
use Rattle.std.proofs.lemmas.List.{length-take-le}
use Rattle.jsonptr.specs.Pointer.{tokens}
use Rattle.jsonptr.specs.Slashes.{slash_offsets}
use Rattle.jsonptr.proofs.SlashesLemmas.{length-offsets, take-offsets}
use Rattle.jsonptr.proofs.SliceLemmas.{from_is, range_is, within_split, front_split, rest_split}
use Rattle.jsonptr.proofs.pointer.Pointer.part_by_table.Goals as goal
use Rattle.jsonptr.proofs.pointer.Pointer.part_by_table.Goals.{then-end-start-via-then-end-start, then-end-start-via-else-end-start+then-offsets-start-2}

pub returns-then-offsets-start : goal.returns-then-offsets-start
returns-then-offsets-start c =
    let table = ap length c.requires in
    rw c.in-From.is (λ below. omega (arith, table, below, c.if-offsets-start.true, length-offsets (tokens c.args.self.now)))

pub returns-in_ok-part-in-From : goal.returns-in_ok-part-in-From
returns-in_ok-part-in-From c =
    let table = ap length c.requires in
    rw c.in-From.is (omega (arith, table, c.if-offsets-start.false, length-offsets (tokens c.args.self.now)), rest_split (tokens c.args.self.now) _ _ c.in-From.start c.in_ok-part-in-From.ensures ∙ sym (from_is (tokens c.args.self.now) c.in-From.start))

pub returns-then-end-start : goal.returns-then-end-start
returns-then-end-start c =
    let table = ap length c.requires in
    rw c.in-Between.is (elim c.then-end-start.branch [
      | then-end-start-via-then-end-start w ↦ λ all. omega (arith, all.0, w.if-end-start.true)
      | then-end-start-via-else-end-start+then-offsets-start-2 w ↦ λ all. omega (arith, all.1, table, w.if-offsets-start-2.true, length-offsets (tokens c.args.self.now))
    ])

pub slice_bounds-split_by_table-end : goal.slice_bounds-split_by_table-end
slice_bounds-split_by_table-end c =
    let table = ap length c.requires in
    sym (length-take-le c.in-Between.end c.args.offsets.now (omega (arith, table, within_split (tokens c.args.self.now) (tokens c.in_ok-front-in-Between.front) _ c.in-Between.end c.in_ok-front-in-Between.ensures, length-offsets (tokens c.args.self.now))))

pub split_by_table-requires-in-Between-2 : goal.split_by_table-requires-in-Between-2
split_by_table-requires-in-Between-2 c = ap (take c.in-Between.end) c.requires ∙ take-offsets c.in-Between.end (tokens c.args.self.now) ∙ ap slash_offsets (sym (front_split (tokens c.args.self.now) (tokens c.in_ok-front-in-Between.front) _ c.in-Between.end c.in_ok-front-in-Between.ensures))

pub returns-in_ok-part-in-Between : goal.returns-in_ok-part-in-Between
returns-in_ok-part-in-Between c =
    let table = ap length c.requires in
    rw c.in-Between.is (
      (omega (arith, c.if-end-start.false), omega (arith, table, c.if-offsets-start-2.false, length-offsets (tokens c.args.self.now)), within_split (tokens c.args.self.now) (tokens c.in_ok-front-in-Between.front) _ c.in-Between.end c.in_ok-front-in-Between.ensures),
      rest_split (tokens c.in_ok-front-in-Between.front) _ _ c.in-Between.start c.in_ok-part-in-Between.ensures ∙ ap (drop c.in-Between.start) (front_split (tokens c.args.self.now) (tokens c.in_ok-front-in-Between.front) _ c.in-Between.end c.in_ok-front-in-Between.ensures) ∙ range_is (tokens c.args.self.now) c.in-Between.start c.in-Between.end (omega (arith, c.if-end-start.false)),
    )
