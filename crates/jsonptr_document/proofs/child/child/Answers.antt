use Rattle.std.proofs.Common.{◌≡◌, ap, ◌∙◌}
use Rattle.std.specs.BTreeMap.{get_by_text}
use Rattle.jsonptr_grammar.specs.Text.{Text}
use Rattle.jsonptr_document.proofs.ChildLemmas.{member_or}
use Rattle.jsonptr_document.proofs.child.child.Goals as goal

pub returns-in_ok-key-in-Object-clause-found : goal.returns-in_ok-key-in-Object-clause-found
returns-in_ok-key-in-Object-clause-found g c =
    let read : c.as_str.result.now ≡ c.args.token.now = c.as_str.ensures.value ∙ c.in_ok-key-in-Object.ensures.text in
    (member_or (g.D.Document.nodes c.args.at.now) (g.D.Document.stands_at c.args.at.now) c.args.token.now c.in-Object.members.now c.get.result c.ok_or.result c.in-Object.ensures.0 c.in-Object.ensures.1
    (c.get.ensures.value ∙ ap (λ (x : Text). get_by_text c.in-Object.members.now x) read) c.ok_or.ensures.value).0

pub returns-in_ok-key-in-Object-clause-refused : goal.returns-in_ok-key-in-Object-clause-refused
returns-in_ok-key-in-Object-clause-refused g c =
    let read : c.as_str.result.now ≡ c.args.token.now = c.as_str.ensures.value ∙ c.in_ok-key-in-Object.ensures.text in
    (member_or (g.D.Document.nodes c.args.at.now) (g.D.Document.stands_at c.args.at.now) c.args.token.now c.in-Object.members.now c.get.result c.ok_or.result c.in-Object.ensures.0 c.in-Object.ensures.1
    (c.get.ensures.value ∙ ap (λ (x : Text). get_by_text c.in-Object.members.now x) read) c.ok_or.ensures.value).1
