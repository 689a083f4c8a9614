-- What is known of a text with comments after one edit.
use Rattle.std.proofs.Common.{◌≡◌, List, ◌∙◌}
use Rattle.json.specs.Lex.{tokens as lexed}
use Rattle.jsonptr.specs.Text.{Text}
use Rattle.jsonptr_text_value.proofs.WrappingLemmas.{read_same}
use Rattle.jsonptr_text_step.specs.Renaming.{RenamesInText, RenamesBytes}
use Rattle.jsonptr_text_step.specs.Steps.{StepsText}
use Rattle.jsonptr_text_step.specs.declared.step.Step.{Step}
use Rattle.jsonptr_text_step.specs.declared.step.Step.TheVariants.{Assign, Delete, Add, Replace, Rename}
use Rattle.jsonptr_comments.specs.Comments.{IsWithoutComments}
use Rattle.jsonptr_comments_step.specs.EditWithComments.{Becomes, EditsAs}
use Rattle.jsonptr_comments_step.specs.Patches.{EditsAt}
use Rattle.jsonptr_comments_step.specs.PrivateStepping.{step_tokens, IsStepped, IsRenamedAs}

-- a text with the same tokens is read as the same document
step_same : (old new json : Text) (s : Step) → lexed json ≡ lexed new → StepsText old s new → StepsText old s json
step_same old new json (Assign pointer raw) e h = (h.0, h.1, h.2, read_same json new e ∙ h.3, h.4, h.5)
step_same old new json (Delete pointer) e h = (h.0, h.1, h.2, read_same json new e ∙ h.3, h.4, h.5)
step_same old new json (Add pointer printed) e h = (h.0, h.1, h.2, h.3, read_same json new e ∙ h.4, h.5, h.6)
step_same old new json (Replace pointer printed) e h = (h.0, h.1, h.2, h.3, read_same json new e ∙ h.4, h.5, h.6)
step_same old new json (Rename pointer key) e h = (h.0, h.1, h.2, read_same json new e ∙ h.3, h.4)

-- the step makes the new text without comments of the old one
pub makes : (text bare : Text) (s : Step) (made json : Text) → IsStepped text bare s made json → StepsText bare s json
makes text bare s made json h = step_same bare h.new json s h.put.same h.stepped

pub becomes : (P : Text → Text → Type 0) (text bare : Text) (s : Step) (made json : Text) → IsStepped text bare s made json → P bare json → Becomes P text made
becomes P text bare s made json h p = (bare, json, h.was, h.put.without, p)

pub edits_as : (P : Text → Text → Type 0) (text bare : Text) (s : Step) (made json : Text) (h : IsStepped text bare s made json) → P bare h.new → EditsAs P text made
edits_as P text bare s made json h p = (bare, h.new, h.was, (json, h.put.without, h.put.same), p)

pub edits_at : (P : Text → Text → Type 0) (text bare : Text) (s : Step) (made json : Text) (h : IsStepped text bare s made json) → P bare h.new → EditsAt P text (step_tokens s) made
edits_at P text bare s made json h p = (edits_as P text bare s made json h p, h.put.piece)

-- the same of a member that is renamed
pub renamed_becomes : (text bare new made : Text) (ts : List Text) (k : Text) → IsWithoutComments text bare → RenamesInText bare ts k new → IsRenamedAs new text ts made → Becomes (λ old json. RenamesInText old ts k json) text made
renamed_becomes text bare new made ts k w h p = (bare, p.json, w, p.without, (h.0, h.1, h.2, read_same p.json new p.same ∙ h.3, h.4))

pub renamed_bytes : (text bare new made : Text) (ts : List Text) (k : Text) → IsWithoutComments text bare → RenamesBytes bare ts k new → IsRenamedAs new text ts made → EditsAs (λ old json. RenamesBytes old ts k json) text made
renamed_bytes text bare new made ts k w h p = (bare, new, w, (p.json, p.without, p.same), h)
