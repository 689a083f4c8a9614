use Rattle.std.proofs.Common.{◌≡◌, ◌≤◌, ◌+◌, ◌-◌, ◌++◌, ap, length, vec_len, vec_capacity, arith}
use Rattle.jsonptr.specs.Text.{Text, text}
use Rattle.jsonptr.specs.Pointer.{tokens}
use Rattle.jsonptr_tabled.specs.Private.{offsets_up_to}
use Rattle.jsonptr_tabled.proofs.TableLemmas.{filled_more, behind_within}
use Rattle.jsonptr_tabled.proofs.table.extend.Goals as goal
use Rattle.jsonptr_tabled.proofs.table.extend.Goals.{After-push_reserved}

within : (c : After-push_reserved) → length (text (tokens c.in-Some.after)) ≤ c.args.end
within c = behind_within (tokens c.loop-after.rest) (tokens c.in-Some.after) c.in-Some.field-0-0 c.args.end c.in-Some.ensures c.loop-after.invariant.within

room : (c : After-push_reserved) → vec_len c.push_reserved.new.self + length (tokens c.in-Some.after) ≤ vec_capacity c.push_reserved.new.self
room c = let fewer = ap length c.in-Some.ensures in omega (arith, fewer, c.loop-after.invariant.room, c.push_reserved.ensures.len, c.push_reserved.ensures.capacity)

so_far : (c : After-push_reserved) → c.push_reserved.new.self.items ++ offsets_up_to c.args.end (tokens c.in-Some.after) ≡ c.args.offsets.now.items ++ offsets_up_to c.args.end (tokens c.args.pointer)
so_far c =
    rw c.push_reserved.ensures.items
    (filled_more c.loop-after.offsets.items c.args.offsets.now.items c.args.end (tokens c.args.pointer) (tokens c.loop-after.rest) (tokens c.in-Some.after) c.in-Some.field-0-0 _ c.loop-after.invariant.so_far c.in-Some.ensures c.loop-after.invariant.within
    (ap (λ (s : Text). c.args.end - length s) c.as_str.ensures.tokens))

pub loop-after-preserved-in-Some : goal.loop-after-preserved-in-Some
loop-after-preserved-in-Some c =
    let at : After-push_reserved = (goal.at.loop-after-preserved-in-Some c).After-push_reserved in
    record { within = within at; room = room at; so_far = so_far at }

pub loop-after-preserved-in-Some-2 : goal.loop-after-preserved-in-Some-2
loop-after-preserved-in-Some-2 c =
    let at : After-push_reserved = (goal.at.loop-after-preserved-in-Some-2 c).After-push_reserved in
    record { within = within at; room = room at; so_far = so_far at }
