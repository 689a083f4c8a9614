use Rattle.std.proofs.Common.{◌≡◌, [], ◌∷◌, ◌++◌, string_bytes, rules}
use Rattle.jsonptr_text_search.proofs.ReadingLemmas.{a_key}
use Rattle.jptr_tasks.proofs.NodeLemmas.{one_key}
use Rattle.jptr_tasks.proofs.node.read_keys.Goals as goal

pub members-preserved : goal.members-preserved
members-preserved c =
    let r = c.in_ok-skip.ensures.passed in
    let key = c.in_ok-key.key in
    let named = a_key c.in_ok-name.field-0 c.in-Some.name c.members.reader c.next_key.new.self c.in_ok-name.ensures.value c.in-Some.is in
    let appended : c.push.new.self.items ≡ c.members.keys.items ++ key ∷ [] = search rules in
    let same : string_bytes key ≡ c.in-Some.name.now = search rules in
    one_key c.args.reader.now c.members.keys.items c.push.new.self.items key c.members.reader c.next_key.new.self c.skip.new.reader c.in-Some.name.now r.0 c.members.invariant appended same named r.1
