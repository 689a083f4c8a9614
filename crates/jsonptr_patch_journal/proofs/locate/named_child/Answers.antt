use Rattle.std.proofs.Common.{◌≡◌, ap, ◌∙◌}
use Rattle.std.specs.BTreeMap.{get_by_text}
use Rattle.serde_json.specs.View.{view}
use Rattle.jsonptr.specs.Text.{Text}
use Rattle.jsonptr_patch_journal.proofs.LocatingLemmas.{member_selected, member_lacking}
use Rattle.jsonptr_patch_journal.proofs.locate.named_child.Goals as goal

pub returns-in-Some-get : goal.returns-in-Some-get
returns-in-Some-get c =
    let read : c.as_str.result.now ≡ c.args.token.now = c.as_str.ensures.value ∙ c.in_ok-key-in-Object.ensures.text in
    member_selected (view c.args.node.now) c.args.token.now c.in-Object.members.now c.in_ok-into_owned-in-Some-get.field-0 c.in-Some-get.node c.in-Object.ensures.0 c.in-Object.ensures.1
    (c.in-Some-get.ensures.value ∙ ap (λ (x : Text). get_by_text c.in-Object.members.now x) read) (c.in_ok-into_owned-in-Some-get.ensures.ok ∙ c.in_ok-key-in-Object.ensures.text)

pub returns : goal.returns
returns c =
    let read : c.as_str.result.now ≡ c.args.token.now = c.as_str.ensures.value ∙ c.in_ok-key-in-Object.ensures.text in
    member_lacking (view c.args.node.now) c.args.token.now c.in-Object.members.now c.in-Object.ensures.0 c.in-Object.ensures.1 (c.in-None-get.ensures.value ∙ ap (λ (x : Text). get_by_text c.in-Object.members.now x) read)
