-- How a table of offsets is filled and moved. Used only by private contracts; no public contract depends on this
-- file.
use Rattle.std.specs.Prelude.{◌≡◌, ℕ, ◌+◌, ◌-◌, ◌^◌, ◌<◌, ◌≤◌, List, map, length, slice_index}
use Rattle.jsonptr.specs.Text.{Text, text}
use Rattle.jsonptr.specs.Slashes.{slash_offsets}

-- `offsets_up_to end ts`: the offsets of the slashes of the text of `ts`, where that text ends at `end`
abbrev pub offsets_up_to : ℕ → List Text → List ℕ
offsets_up_to end ts = map (λ (o : ℕ). end - length (text ts) + o) (slash_offsets ts)

-- `moved_up by os`: the offsets `os`, each larger by `by`
abbrev pub moved_up : ℕ → List ℕ → List ℕ
moved_up by os = map (λ (o : ℕ). by + o) os

-- `moved_down by os`: the offsets `os`, each smaller by `by`
abbrev pub moved_down : ℕ → List ℕ → List ℕ
moved_down by os = map (λ (o : ℕ). o - by) os

-- `CanMoveUp os by`: `by` can be added to each of the offsets `os` within 64 bits
abbrev pub CanMoveUp : List ℕ → ℕ → Type 0
CanMoveUp os by = (k : ℕ) → k < length os → slice_index os k + by < 2 ^ 64

-- `CanMoveDown os by`: each of the offsets `os` after the first is at least `by`
abbrev pub CanMoveDown : List ℕ → ℕ → Type 0
CanMoveDown os by = (k : ℕ) → 0 < k → k < length os → by ≤ slice_index os k

-- `CanMove old from before after`: each of the offsets `old` from position `from` on is at most `before`, and its
-- distance from there is at most `after`
abbrev pub CanMove : List ℕ → ℕ → ℕ → ℕ → Type 0
CanMove old from before after = (k : ℕ) → from ≤ k → k < length old
    → (slice_index old k ≤ before) × (before ≤ slice_index old k + after)

-- `MovesOffsets old new from before after`: the offsets from position `from` on keep their distance from the end of
-- a text whose length changes from `before` to `after` bytes. Those before position `from` are unchanged
pub record MovesOffsets (old new : List ℕ) (from before after : ℕ) : Type 0 where
  pub len : length new ≡ length old
  pub kept : (k : ℕ) → k < from → slice_index new k ≡ slice_index old k
  pub moved : (k : ℕ) → from ≤ k → k < length old
      → slice_index new k + before ≡ slice_index old k + after
