use Rattle.std.proofs.Common.{◌≡◌, string_bytes, ap, ◌∙◌}
use Rattle.serde_json.specs.Data.{put}
use Rattle.serde_json.specs.View.{view, members_view}
use Rattle.serde_json.proofs.Views.{members_view-insert_entry}
use Rattle.jsonptr_value.proofs.extend.with_member.Goals as goal

pub returns-in-Ok-insert : goal.returns-in-Ok-insert
returns-in-Ok-insert c =
    let named : string_bytes c.in-Ok.name ≡ string_bytes c.args.key.now = c.in-Ok.ensures.cases in
    ap members_view c.in-Ok-insert.ensures.entries ∙ members_view-insert_entry c.args.members.entries c.in-Ok.name c.args.member
    ∙ ap (λ k. put k (view c.args.member) (members_view c.args.members.entries)) named
