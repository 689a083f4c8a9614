use Rattle.std.proofs.Common.{true≢false, refl, sym, ◌∙◌}
use Rattle.serde_json.specs.View.{view}
use Rattle.jsonptr.specs.Json.{nodes}
use Rattle.jsonptr_patch_diff.proofs.SameLemmas.{twin_made}
use Rattle.jsonptr_patch_diff.proofs.ChangeLemmas.{changes_root}
use Rattle.jsonptr_patch_diff.proofs.TurningLemmas.{turns_patches, turns_steps}
use Rattle.jsonptr_patch_diff.proofs.difference.diff.Goals as goal

pub returns-clause-applied : goal.returns-clause-applied
returns-clause-applied c = turns_patches (view c.args.new.now) _ c.diff_at.new.patch.items (nodes (view c.args.old.now)) (nodes (view c.args.new.now)) c.new-patch.ensures.items refl c.in_ok-diff_at.ensures.turns

pub returns-clause-changes : goal.returns-clause-changes
returns-clause-changes c = changes_root (nodes (view c.args.old.now)) (nodes (view c.args.new.now)) c.new-patch.result.items c.diff_at.new.patch.items c.new-patch.ensures.items c.in_ok-diff_at.ensures.changes

pub returns-in_err-diff_at-clause-no_memory : goal.returns-in_err-diff_at-clause-no_memory
returns-in_err-diff_at-clause-no_memory c = λ none. absurd (true≢false (sym (c.is_same.ensures.1 (twin_made _ _ none)) ∙ c.if-is_same.false))

pub returns-clause-empty : goal.returns-clause-empty
returns-clause-empty c = λ none. absurd (true≢false (sym (c.is_same.ensures.1 (twin_made _ _ none)) ∙ c.if-is_same.false))

pub returns-clause-steps : goal.returns-clause-steps
returns-clause-steps c = turns_steps (view c.args.new.now) _ c.diff_at.new.patch.items (nodes (view c.args.old.now)) (nodes (view c.args.new.now)) c.new-patch.ensures.items refl c.in_ok-diff_at.ensures.turns
