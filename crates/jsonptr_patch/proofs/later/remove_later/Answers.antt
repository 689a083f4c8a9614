use Rattle.std.proofs.Common.{◌∙◌, ◌++◌, ◌∷◌, [], List, ap}
use Rattle.serde_json.specs.View.{view}
use Rattle.jsonptr.specs.Json.{nodes}
use Rattle.jsonptr_patch.specs.declared.later.Later.{Later}
use Rattle.jsonptr_patch.proofs.LaterLemmas.{waits_removed}
use Rattle.jsonptr_patch.proofs.later.remove_later.Goals as goal

pub returns-clause-removed : goal.returns-clause-removed
returns-clause-removed c = λ n p.
    let one : Later = record { path = c.args.path; location = c.in_ok-location.location } in
    waits_removed (nodes (view c.args.document.now)) n c.args.later.now.items c.push_reserved.new.self.items one c.requires.member c.in_ok-location.ensures.kept c.requires.apart
    (c.push_reserved.ensures.items ∙ ap (λ (ls : List Later). ls ++ one ∷ []) c.in_ok-make_room.ensures.items) p
