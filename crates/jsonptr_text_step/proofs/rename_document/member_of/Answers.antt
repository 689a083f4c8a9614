use Rattle.std.proofs.Common.{true≢false, sym, ◌∙◌}
use Rattle.serde_json.specs.View.{view}
use Rattle.jsonptr.specs.Json.{nodes}
use Rattle.jsonptr.specs.Pointer.{tokens}
use Rattle.jsonptr_text_step.proofs.RenameErrorLemmas.{member_is, member_there}
use Rattle.jsonptr_text_step.proofs.rename_document.member_of.Goals as goal

pub returns-then-branch : goal.returns-then-branch
returns-then-branch c =
    member_is (nodes (view c.args.document.now)) (tokens c.args.pointer) (tokens c.in-Some.front) c.in-Some.token c.in-Some.ensures
    (c.in_ok-is_object_at.ensures.0 c.if-not-branch.false)
    (c.in_ok-is_there.ensures.0 c.if-branch.true)

pub returns : goal.returns
returns c = λ m. true≢false (sym (c.in_ok-is_there.ensures.1 (member_there (nodes (view c.args.document.now)) (tokens c.args.pointer) m)) ∙ c.if-branch.false)
