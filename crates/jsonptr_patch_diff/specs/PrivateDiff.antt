-- What operations do that are appended to a patch. Used only by private contracts; no public contract depends on this
-- file.
use Rattle.std.specs.Prelude.{◌≡◌, ℕ, ◌+◌, ◌<◌, ◌≤◌, Vec, List, [], ◌∷◌, ◌++◌, All, String, Option, Some, None, IsSome}
use Rattle.std.specs.Map.{lookup}
use Rattle.std.specs.Ordering.{nat_cmp}
use Rattle.std.specs.BTreeMap.{is_at}
use Rattle.std.specs.Cmp.Lexicographic.{slice_cmp}
use Rattle.std.specs.Prelude.{string_bytes}
use Rattle.std.specs.declared.alloc.Global.{Global}
use Rattle.serde_json.specs.Data.{Data, depth}
use Rattle.serde_json.specs.View.{view}
use Rattle.serde_json.specs.declared.value.Value.{Value, Array, Object}
use Rattle.jsonptr.specs.Json.{nodes, HasSortedKeys}
use Rattle.jsonptr.specs.Text.{Text, dec}
use Rattle.jsonptr.specs.Node.{key, place, Path, Label, an_array, NodeMap, sub, Names}
use Rattle.jsonptr.specs.Put.{put}
use Rattle.jsonptr_patch.specs.Order.{OperationHasSortedKeys}
use Rattle.jsonptr_patch.specs.Patching.{Patches}
use Rattle.jsonptr_patch.specs.PrivateTesting as tested
use Rattle.jsonptr_patch.specs.declared.operation.Operation.{Operation}
use Rattle.jsonptr_patch.specs.declared.operation.Operation.TheVariants.{Add, Remove, Replace}
use Rattle.jsonptr_patch_diff.specs.Diff.{HasValueWithin, IsChange, LeadsInBoth, StepsTo}
use Rattle.jsonptr_patch_diff.specs.declared.align.Gap.{Gap}
use Rattle.jsonptr_patch_diff.specs.declared.trail.Trail.{Trail, Root, Member', Element'}

-- `tokens_of l`: the tokens of the pointer to the location `l`
abbrev pub tokens_of : Trail → List Text
tokens_of Root = []
tokens_of (Member' p parent k) = tokens_of parent ++ k.now ∷ []
tokens_of (Element' p parent i) = tokens_of parent ++ dec i ∷ []

-- `AppendsReplace before after tokens d`: `after` is `before` with an operation that replaces the value at `tokens` by
-- `d`
pub record AppendsReplace (before after : List Operation) (tokens : List Text) (d : Data) : Type 0 where
  pub path : List Text
  pub value : Value
  pub at : path ≡ tokens
  pub clone : view value ≡ d
  pub appended : after ≡ before ++ Replace path value ∷ []

-- `AppendsRemove before after tokens`: `after` is `before` with an operation that removes the value at `tokens`
pub record AppendsRemove (before after : List Operation) (tokens : List Text) : Type 0 where
  pub path : List Text
  pub at : path ≡ tokens
  pub appended : after ≡ before ++ Remove path ∷ []

-- `AppendsAdd before after tokens d`: `after` is `before` with an operation that adds `d` at `tokens`
pub record AppendsAdd (before after : List Operation) (tokens : List Text) (d : Data) : Type 0 where
  pub path : List Text
  pub value : Value
  pub at : path ≡ tokens
  pub clone : view value ≡ d
  pub appended : after ≡ before ++ Add path value ∷ []

-- `Turns goal before after base c d`: the operations `before` and then some are `after`. Where `before` leads to a map
-- in which `base` names a node with the map `c`, `after` leads to the map with `d` there instead. If the keys in
-- `goal` are sorted, so are those in the values of the further operations, and none of these values nests deeper than `goal`.
-- If the document `t` has `goal` there, and all before it, the further operations are steps to `t`
pub record Turns (goal : Data) (before after : List Operation) (base : List Text) (c d : NodeMap) : Type 0 where
  pub leads : (n m : NodeMap) (w : Path)
      → Patches n before m → Names m base w → c ≡ sub m w → Patches n after (put m w d)
  pub sorted : HasSortedKeys goal
      → All OperationHasSortedKeys before → All OperationHasSortedKeys after
  pub shallow : (k : ℕ) → depth goal ≤ k
      → All (HasValueWithin k) before → All (HasValueWithin k) after
  pub steps : (t n m : NodeMap) (w : Path)
      → StepsTo t n before m → Names m base w → c ≡ sub m w → nodes goal ≡ sub t w → LeadsInBoth m t w
      → StepsTo t n after (put m w d)

-- `IsLike goal part`: `part` nests no deeper than `goal`, and its keys are sorted if those of `goal` are
pub record IsLike (goal part : Data) : Type 0 where
  pub sorted : HasSortedKeys goal → HasSortedKeys part
  pub shallow : depth part ≤ depth goal

-- `Appends P before after`: `after` is `before` with further operations, each of which meets `P`
pub record Appends (P : Operation → Type 0) (before after : List Operation) : Type 0 where
  pub further : List Operation
  pub appended : after ≡ before ++ further
  pub all : All P further

-- `IsChangeBelow base c d o`: the pointer of `o` is `base` and then that of a change of `c` into `d`
abbrev pub IsChangeBelow : List Text → NodeMap → NodeMap → Operation → Type 0
IsChangeBelow base c d (Add path value) = (rest : List Text) × (path ≡ base ++ rest) × IsChange c d (Add rest value)
IsChangeBelow base c d (Remove path) = (rest : List Text) × (path ≡ base ++ rest) × IsChange c d (Remove rest)
IsChangeBelow base c d (Replace path value) = (rest : List Text) × (path ≡ base ++ rest) × IsChange c d (Replace rest value)
IsChangeBelow base c d o = ⊥

-- `AppendsChanges base c d before after`: `after` is `before` with changes of `c`, which is at `base`, into `d`
abbrev pub AppendsChanges : List Text → NodeMap → NodeMap → List Operation → List Operation → Type 0
AppendsChanges base c d = Appends (IsChangeBelow base c d)

-- `IsBelow base path`: `path` is `base` and at least one further token
abbrev pub IsBelow : List Text → List Text → Type 0
IsBelow base path = (x : Text) × (rest : List Text) × (path ≡ base ++ x ∷ rest)

-- `IsPartBelow base o`: `o` adds, removes or replaces a value below `base`
abbrev pub IsPartBelow : List Text → Operation → Type 0
IsPartBelow base (Add path value) = IsBelow base path
IsPartBelow base (Remove path) = IsBelow base path
IsPartBelow base (Replace path value) = IsBelow base path
IsPartBelow base o = ⊥

-- `AppendsParts base before after`: `after` is `before` with such operations
abbrev pub AppendsParts : List Text → List Operation → List Operation → Type 0
AppendsParts base = Appends (IsPartBelow base)

abbrev pub Entry : Type 0
Entry = String Global × Value

-- `object_map m`: the map of the object `m`
abbrev pub object_map : tested.Object → NodeMap
object_map m = nodes (view (Object m))

-- `array_map v`: the map of the array `v`
abbrev pub array_map : Vec Value Global → NodeMap
array_map v = nodes (view (Array v))

-- `found_under k es`: the value under the key `k` among the entries `es`
abbrev pub found_under : Text → List Entry → Option Value
found_under k es = lookup (is_at (λ l. slice_cmp nat_cmp k (string_bytes l))) es

-- `pick o a b`: the label `a` if `o` is a value, and else `b`
abbrev pub pick : Option Value → Option Label → Option Label → Option Label
pick (Some v) a b = a
pick None a b = b

-- `mixed done c d`: the object `c`, with what `d` has under the keys of the entries `done`
abbrev pub mixed : List Entry → NodeMap → NodeMap → NodeMap
mixed done c d [] = c []
mixed done c d (key k ∷ p) = pick (found_under k done) (d (key k ∷ p)) (c (key k ∷ p))
mixed done c d (place i ∷ p) = c (place i ∷ p)

-- `IsArray c len`: `c` is the map of an array of length `len`
pub record IsArray (c : NodeMap) (len : ℕ) : Type 0 where
  pub root : c [] ≡ Some (an_array len)
  pub full : (i : ℕ) → i < len → IsSome (c (place i ∷ []))
  pub keys : (k : Text) (p : Path) → c (key k ∷ p) ≡ None

-- `IsSpliced c d i k left e`: `e` is an array of the first `i` elements of `d` and then `left` elements of `c`, those
-- from index `k` on
pub record IsSpliced (c d : NodeMap) (i k left : ℕ) (e : NodeMap) : Type 0 where
  pub root : e [] ≡ Some (an_array (i + left))
  pub front : (j : ℕ) → j < i → sub e (place j ∷ []) ≡ sub d (place j ∷ [])
  pub rest : (j : ℕ) → sub e (place (i + j) ∷ []) ≡ sub c (place (k + j) ∷ [])
  pub keys : (t : Text) (p : Path) → e (key t ∷ p) ≡ None

-- `IsArrayOf goal d`: `d` is the map of `goal`, which is an array
pub record IsArrayOf (goal : Data) (d : NodeMap) : Type 0 where
  pub is : d ≡ nodes goal
  pub len : ℕ
  pub root : d [] ≡ Some (an_array len)

-- `Splices goal first last base c d i k left`: the operations of `last` after those of `first` turn `c` into such an
-- array, where `d` is the array `goal`
abbrev pub Splices : Data → List Operation → List Operation → List Text → NodeMap → NodeMap → ℕ → ℕ → ℕ → Type 0
Splices goal first last base c d i k left =
    (e : NodeMap) × IsSpliced c d i k left e × Turns goal first last base c e × IsArrayOf goal d

-- `IsGap n m g`: the gap `g` fits into parts of lengths `n` and `m`, and is not empty
pub record IsGap (n m : ℕ) (g : Gap) : Type 0 where
  pub removed : g.removed ≤ n
  pub added : g.added ≤ m
  pub some : 1 ≤ g.removed + g.added
