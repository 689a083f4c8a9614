use Rattle.std.proofs.Common.{Some, string_bytes, List, ℕ, ap, ◌∙◌, bytes_eq}
use Rattle.std.specs.BTreeMap.{get_by_text}
use Rattle.std.specs.Map.{update}
use Rattle.std.proofs.lemmas.Map.Text.{btree_map_updates_text}
use Rattle.jsonptr_merge.proofs.ObjectLemmas.{insert_sorted}
use Rattle.jsonptr_merge.proofs.entry.insert_member.Goals as goal

pub returns-in-Ok-insert-clause-inserts : goal.returns-in-Ok-insert-clause-inserts
returns-in-Ok-insert-clause-inserts c = λ q.
    btree_map_updates_text (string_bytes c.in-Ok.name) c.args.members.now c.insert.new.self (Some c.args.member) c.in-Ok-insert.ensures.updates q
    ∙ ap (λ (k : List ℕ). update bytes_eq (get_by_text c.args.members.now) k (Some c.args.member) q) c.in-Ok.ensures.cases

pub returns-in-Ok-insert-clause-sorted : goal.returns-in-Ok-insert-clause-sorted
returns-in-Ok-insert-clause-sorted c = λ sorted before.
    insert_sorted c.args.members.now c.insert.new.self c.in-Ok.name c.args.member c.in-Ok-insert.ensures.entries sorted before
