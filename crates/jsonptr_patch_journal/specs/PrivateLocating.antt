-- The node that a list of tokens names, if there is one, and the child that one token names.
--
-- Used only by private contracts; no public contract depends on this file.
use Rattle.std.specs.Prelude.{◌≡◌, ℕ, List, [], ◌∷◌, Option, Some, MatchOption}
use Rattle.serde_json.specs.Data.{Data}
use Rattle.serde_json.specs.View.{view}
use Rattle.jsonptr.specs.Text.{Text}
use Rattle.jsonptr.specs.Node.{NamesStep}
use Rattle.jsonptr.specs.Following.{LacksStep}
use Rattle.jsonptr.specs.Json.{content, nodes, value_at}
use Rattle.jsonptr.specs.Delete.{NamesNothing}
use Rattle.jsonptr_document.specs.ChildRef.{IsIndexIn}
use Rattle.jsonptr_patch_journal.specs.Location.{path_step}
use Rattle.jsonptr_patch_journal.specs.Locating.{Locates}
use Rattle.jsonptr_patch_journal.specs.declared.locate.Child.{Child}
use Rattle.jsonptr_patch_journal.specs.declared.locate.LocatedNode.{LocatedNode}

-- `IsLocated d tokens r`: `r` is the node of the document `d` that `tokens` name, or `None` if they name none
abbrev pub IsLocated : Data → List Text → Option LocatedNode → Type 0
IsLocated d tokens r = MatchOption r (NamesNothing (nodes d) tokens) (Locates d tokens)

-- `Selects d x c`: the token `x` names the child `c` of the root of the document `d`
pub record Selects (d : Data) (x : Text) (c : Child) : Type 0 where
  pub named : NamesStep (nodes d []) x (path_step c.step)
  pub there : value_at (path_step c.step ∷ []) d ≡ Some (content (view c.node.now))

-- `IsChildOf d x r`: `r` is the child of the root of the document `d` that the token `x` names, or `None` if it names none
abbrev pub IsChildOf : Data → Text → Option Child → Type 0
IsChildOf d x r = MatchOption r (LacksStep (nodes d) [] x) (Selects d x)

-- `IsIndexOf len x r`: `r` is the index less than `len` whose decimal text is the token `x`, or `None` if there is none
abbrev pub IsIndexOf : ℕ → Text → Option ℕ → Type 0
IsIndexOf len x r = MatchOption r ((i : ℕ) → IsIndexIn len x i → ⊥) (IsIndexIn len x)
