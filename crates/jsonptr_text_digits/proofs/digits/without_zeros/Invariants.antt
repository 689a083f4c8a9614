use Rattle.std.proofs.Common.{◌≡◌, ◌-◌, ◌*◌, ◌^◌, ◌≤◌, length, take}
use Rattle.std.specs.Str.Parse.{digits_value}
use Rattle.jsonptr_text_digits.proofs.digits.without_zeros.Given as goal

abbrev pub invariant-loop-end : goal.invariant-loop-end
invariant-loop-end l = (l.end ≤ length l.digits) × (digits_value 10 l.digits ≡ digits_value 10 (take l.end l.digits) * 10 ^ (length l.digits - l.end))

abbrev pub decreases-loop-end : goal.decreases-loop-end
decreases-loop-end l = l.end
