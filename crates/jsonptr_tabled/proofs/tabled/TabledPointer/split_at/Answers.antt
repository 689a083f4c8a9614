use Rattle.std.proofs.Common.{◌≡◌, ◌∙◌, ap, sym, subst, length, slice_get, Some, List, ℕ, arith}
use Rattle.std.proofs.lemmas.Option.{slice_get-get_or}
use Rattle.jsonptr.specs.Text.{Text}
use Rattle.jsonptr.specs.Pointer.{IsSplitOf}
use Rattle.jsonptr.specs.Slashes.{slash_offsets}
use Rattle.jsonptr.proofs.SlashesLemmas.{length-offsets}
use Rattle.jsonptr.proofs.SliceLemmas.{split_at_place, split_at_end}
use Rattle.jsonptr_tabled.proofs.tabled.TabledPointer.split_at.Goals as goal

pub returns-in-Some : goal.returns-in-Some
returns-in-Some c =
    let read = c.in-Some.ensures.lookup in
    let place : slice_get (slash_offsets c.args.self.now) c.args.position ≡ Some c.in-Some.offset.now =
    ap (λ (os : List ℕ). slice_get os c.args.position) (sym c.offsets.ensures) ∙ slice_get-get_or c.offsets.result.now c.args.position c.in-Some.offset.now read.3.0 ∙ ap (λ (o : ℕ). Some o) (sym read.1) in
    split_at_place c.args.self.now c.args.position c.in-Some.offset.now place c.split_at_offset.result
    (subst (λ (ts : List Text). IsSplitOf ts c.in-Some.offset.now c.split_at_offset.result) c.as_ptr.ensures.tokens c.split_at_offset.ensures.split)

pub returns-in-None : goal.returns-in-None
returns-in-None c =
    let whole = c.as_ptr-in-None.ensures.tokens in
    rw whole
    (split_at_end c.args.self.now _ c.args.position (c.if-position-count.true ∙ c.count.ensures ∙ sym (length-offsets c.args.self.now)) c.root.ensures.tokens)

pub returns-in-None-2 : goal.returns-in-None-2
returns-in-None-2 c =
    let read = c.in-None.ensures.lookup in
    omega (arith, read.3, c.if-position-count.false, c.count.ensures, ap length c.offsets.ensures, length-offsets c.args.self.now)
