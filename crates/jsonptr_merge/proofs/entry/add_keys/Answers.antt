use Rattle.std.proofs.Common.{◌≡◌, [], ◌∷◌, ◌++◌, sym, ap, ◌∙◌, append_assoc, append-nil}
use Rattle.serde_json.specs.declared.value.Value.{Null}
use Rattle.serde_json.proofs.Views.{Entry}
use Rattle.jsonptr_merge.proofs.ObjectLemmas.{keys_more, keys_all}
use Rattle.jsonptr_merge.proofs.entry.add_keys.Goals as goal

pub loop-key-preserved : goal.loop-key-preserved
loop-key-preserved c =
    let done = c.loop-key.invariant.done in
    let e : Entry = (c.in-Some.key.now, c.in-Some._member.now) in
    let left = c.next.new.self in
    let all : c.args.members.now.entries ≡ done ++ e ∷ left = c.loop-key.invariant.rest ∙ ap (λ es. done ++ es) c.in-Some.ensures.steps in
    record {
      done = done ++ e ∷ [];
      rest = all ∙ sym (append_assoc done (e ∷ []) left);
      each = keys_more c.args.keys.now c.loop-key.keys c.insert_member.new.members done e Null c.in_ok-insert_member.ensures.inserts c.loop-key.invariant.each;
    }

pub returns : goal.returns
returns c =
    let done = c.loop-key.invariant.done in
    let all : c.args.members.now.entries ≡ done = c.loop-key.invariant.rest ∙ ap (λ es. done ++ es) c.in-None.ensures.steps.0 ∙ append-nil done in
    keys_all c.args.members.now c.args.keys.now c.loop-key.keys done all c.loop-key.invariant.each
