-- A content with another one written at a path.
use Rattle.std.specs.Prelude.{◌≡◌, ℕ, zero, suc, [], ◌∷◌, Option, Some, None, if◌then◌else◌}
use Rattle.std.specs.Str.{bytes_eq}
use Rattle.jsonptr.specs.Text.{Text}
use Rattle.jsonptr.specs.Node.{Step, key, place, Path}
use Rattle.jsonptr.specs.Content.{Content, scalar, array, object, Items, no_items, item, Members, no_members, member, child, content_at}

-- `write_item i c ds`: the elements `ds` with `c` instead of the one at index `i`
abbrev pub write_item : ℕ → Content → Items → Items
write_item i c no_items = no_items
write_item zero c (item d ds) = item c ds
write_item (suc i) c (item d ds) = item d (write_item i c ds)

-- `write_member k c ms`: the members `ms` with `c` instead of the first one under the key `k`
abbrev pub write_member : Text → Content → Members → Members
write_member k c no_members = no_members
write_member k c (member l d ms) = if bytes_eq k l then member l c ms else member l d (write_member k c ms)

-- `write_step s c d`: the content `d` with `c` instead of its child at the step `s`
abbrev pub write_step : Step → Content → Content → Content
write_step s c (scalar v) = scalar v
write_step (key k) c (array ds) = array ds
write_step (place i) c (array ds) = array (write_item i c ds)
write_step (key k) c (object ms) = object (write_member k c ms)
write_step (place i) c (object ms) = object ms

-- `write_below s f d e`: the content `d`, whose child at the step `s` is `e`, with `f e` instead of that child
abbrev pub write_below : Step → (Content → Content) → Content → Option Content → Content
write_below s f d None = d
write_below s f d (Some e) = write_step s (f e) d

-- `write_at w c d`: the content `d` with `c` instead of what is at the path `w`
abbrev pub write_at : Path → Content → Content → Content
write_at [] c d = c
write_at (s ∷ w) c d = write_below s (write_at w c) d (child s d)

-- `At w R c d`: writing at the path `w` turns the content `c` into `d`, and `R` relates what was there to what is written
pub record At (w : Path) (R : Content → Content → Type 0) (c d : Content) : Type 0 where
  pub old : Content
  pub new : Content
  pub there : content_at w c ≡ Some old
  pub made : d ≡ write_at w new c
  pub related : R old new
