use Rattle.serde_json.specs.View.{view}
use Rattle.jsonptr.specs.Json.{nodes}
use Rattle.jsonptr.specs.Pointer.{tokens}
use Rattle.jsonptr_patch.proofs.LaterLemmas.{fork_diverges}
use Rattle.jsonptr_patch.proofs.later.diverges_from_member.Goals as goal

pub returns-in-Some-fork_at : goal.returns-in-Some-fork_at
returns-in-Some-fork_at c = λ t.
    let o = c.is_object.ensures c.if-not-is_object.false in (
      record { front = tokens c.in-Some.front; last = c.in-Some.field-0-1; path = o.0; split = c.in-Some.ensures; named = o.1; object = o.2 },
      fork_diverges (nodes (view c.args.document.now)) (tokens c.args.from) (tokens c.args.path) (tokens c.in-Some-fork_at.common) c.in-Some-fork_at.ensures (c.is_object_too.ensures t),
    )
