use Rattle.std.proofs.Common.{◌≡◌, List, [], ◌∷◌, ◌++◌, String, string_bytes, Global, sym, ap, ◌∙◌, subst, append_assoc, append-nil}
use Rattle.serde_json.specs.declared.value.Value.{Value, Null}
use Rattle.jsonptr.specs.Content.{Members}
use Rattle.jsonptr_patch_journal.specs.Location.{contents_of}
use Rattle.jsonptr_patch_journal.specs.Children.{members_in, members_of, KeysRise}
use Rattle.jsonptr_patch_journal.proofs.MembersLemmas.{SameKeys, map_rises, room_more, room_of_all}
use Rattle.jsonptr_patch_journal.proofs.members.room_for.Goals as goal

pub loop-key-preserved : goal.loop-key-preserved
loop-key-preserved c =
    let done = c.loop-key.invariant.0 in
    let e : String Global × Value = (c.in-Some.key.now, c.in-Some._value.now) in
    let left = c.next.new.self in
    let all : c.args.members.now.entries ≡ done ++ e ∷ left = c.loop-key.invariant.1 ∙ ap (λ es. done ++ es) c.in-Some.ensures.steps in
    let rise : KeysRise (members_in (done ++ e ∷ left)) = subst (λ (es : List (String Global × Value)). KeysRise (members_in es)) all (map_rises c.args.members.now c.iter-key-items.ensures.ordered) in (
      done ++ e ∷ [],
      all ∙ sym (append_assoc done (e ∷ []) left),
      subst (λ (ms : Members). SameKeys ms (members_in (done ++ e ∷ []))) (sym c.in_ok-add_key.ensures) (room_more (members_of c.loop-key.room) done e left (string_bytes c.in_ok-clone.field-0) (contents_of Null) c.in_ok-clone.ensures.cases rise c.loop-key.invariant.2),
    )

pub returns : goal.returns
returns c =
    let done = c.loop-key.invariant.0 in
    let all : c.args.members.now.entries ≡ done = c.loop-key.invariant.1 ∙ ap (λ es. done ++ es) c.in-None.ensures.steps.0 ∙ append-nil done in
    room_of_all (members_of c.loop-key.room) (members_of c.args.members.now) (map_rises c.args.members.now c.iter-key-items.ensures.ordered)
    (subst (λ (es : List (String Global × Value)). SameKeys (members_of c.loop-key.room) (members_in es)) (sym all) c.loop-key.invariant.2)
