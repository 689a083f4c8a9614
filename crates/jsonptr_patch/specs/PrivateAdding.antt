-- Where a value is added. Used only by private contracts;
-- no public contract depends on this file.
use Rattle.std.specs.Prelude.{◌≡◌, ℕ, List, [], ◌∷◌, ◌++◌, Some, string_bytes}
use Rattle.jsonptr.specs.Text.{Text}
use Rattle.jsonptr.specs.Node.{Path, Label, an_object, an_array, NodeMap, Names}
use Rattle.jsonptr_patch_journal.specs.Location.{path_of}
use Rattle.jsonptr_patch_journal.specs.declared.addition.Target.{Target}
use Rattle.jsonptr_patch_journal.specs.declared.addition.Target.TheVariants as target
use Rattle.jsonptr_patch.specs.Adding.{MeansPlace}

-- `HasParent n tokens w l x`: the last of `tokens` is `x`, and those before it evaluate to the path `w` of `n`, where a
-- node with label `l` is
pub record HasParent (n : NodeMap) (tokens : List Text) (w : Path) (l : Label) (x : Text) : Type 0 where
  pub front : List Text
  pub split : tokens ≡ front ++ x ∷ []
  pub named : Names n front w
  pub label : n w ≡ Some l

-- `IsPlace n tokens t`: a value that is added to `n` at `tokens` goes to the target `t`
abbrev pub IsPlace : NodeMap → List Text → Target → Type 0
IsPlace n tokens target.Root = tokens ≡ []
IsPlace n tokens (target.Member l k) = HasParent n tokens (path_of l) an_object (string_bytes k)
IsPlace n tokens (target.Element l i) =
    (len : ℕ) × (x : Text) × HasParent n tokens (path_of l) (an_array len) x × MeansPlace len x i
