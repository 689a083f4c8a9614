-- Removals that are made after all operations. Used only by private contracts; no public contract depends on this file.
use Rattle.std.specs.Prelude.{◌≡◌, ◌≢◌, ℕ, ◌<◌, List, [], ◌∷◌, ◌++◌, length, slice_index_or, Option, Some, MatchOption, ⊤}
use Rattle.serde_json.specs.declared.value.Value.{Null}
use Rattle.jsonptr.specs.Content.{Content}
use Rattle.jsonptr.specs.Text.{Text, HasNoTilde, text}
use Rattle.jsonptr.specs.Node.{key, Path, an_object, NodeMap, Names}
use Rattle.jsonptr_patch_journal.specs.Location.{path_of, contents_of}
use Rattle.jsonptr_patch_journal.specs.Changes.{ReplacesContent}
use Rattle.jsonptr_patch_journal.specs.Leading.{AtNamed}
use Rattle.jsonptr_patch_journal.specs.Undoing.{IsRemoval}
use Rattle.jsonptr_patch_journal.specs.declared.location.Location.{Location}
use Rattle.jsonptr_patch_journal.specs.declared.removal.Taken.{Taken}
use Rattle.jsonptr_patch.specs.Apart.{Diverges, AllDiverge}
use Rattle.jsonptr_patch.specs.Inverse.{HasObject}
use Rattle.jsonptr_patch.specs.Operating.{Takes, AppliesBy, RefusesOperationBy}
use Rattle.jsonptr_patch.specs.Patching.{Patches}
use Rattle.jsonptr_patch.specs.declared.comparison.Comparison.{Comparison}
use Rattle.jsonptr_patch.specs.declared.later.Later.{Later}
use Rattle.jsonptr_patch.specs.declared.failed_operation.FailedOperation.{FailedOperation}
use Rattle.jsonptr_patch.specs.declared.operation.Operation.{Operation}
use Rattle.jsonptr_patch.specs.declared.operation.Operation.TheVariants.{Add, Remove, Replace, Move, Copy, Test}

-- `IsObjectAt n tokens`: `tokens` evaluate to an object of `n`
abbrev pub IsObjectAt : NodeMap → List Text → Type 0
IsObjectAt n tokens = (w : Path) × Names n tokens w × (n w ≡ Some an_object)

-- `IsMemberAt n tokens w`: the tokens before the last one evaluate to an object of `n`, and `w` is the path of its member
-- under the last one. The object need not have the member
pub record IsMemberAt (n : NodeMap) (tokens : List Text) (w : Path) : Type 0 where
  pub front : List Text
  pub last : Text
  pub path : Path
  pub split : tokens ≡ front ++ last ∷ []
  pub named : Names n front path
  pub object : n path ≡ Some an_object
  pub below : w ≡ path ++ key last ∷ []

-- `Forks xs ys front`: the tokens `xs` and `ys` begin with `front`, and go on with different tokens
pub record Forks (xs ys front : List Text) : Type 0 where
  pub here : Text
  pub more : List Text
  pub there : Text
  pub others : List Text
  pub first : xs ≡ front ++ here ∷ more
  pub second : ys ≡ front ++ there ∷ others
  pub differ : here ≢ there

-- `paths_of ls`: the pointers of `ls`
abbrev pub paths_of : List Later → List (List Text)
paths_of [] = []
paths_of (l ∷ ls) = l.path ∷ paths_of ls

-- `removals ls`: the operations that remove the nodes `ls`
abbrev pub removals : List Later → List Operation
removals [] = []
removals (l ∷ ls) = Remove l.path ∷ removals ls

-- `IsKept kept n tokens`: `tokens` name a path of `n`. It is that of `kept`, or `tokens` have no `~`
abbrev pub IsKept : Option Location → NodeMap → List Text → Type 0
IsKept kept n tokens =
    MatchOption kept (HasNoTilde (text tokens) × (w : Path) × Names n tokens w) (λ here. Names n tokens (path_of here))

-- `IsReached d l`: the pointer of `l` names a node of `d`. It is at its location, or the pointer has no `~`
abbrev pub IsReached : NodeMap → Later → Type 0
IsReached d l = IsKept l.location d l.path

-- `AreScattered d ls`: the pointers of `ls` diverge from one another at objects of `d`, and each is reached
abbrev pub AreScattered : NodeMap → List Later → Type 0
AreScattered d [] = ⊤
AreScattered d (l ∷ ls) = IsReached d l × AllDiverge d (l.path ∷ []) (paths_of ls) × AreScattered d ls

-- `IsPending d ls n`: the document `d`, with `null` at the nodes `ls`, stands for `n`, which is what is left without
-- them
pub record IsPending (d : NodeMap) (ls : List Later) (n : NodeMap) : Type 0 where
  pub removed : Patches d (removals ls) n
  pub scattered : AreScattered d ls

-- `IsWaitingAt ls i tokens`: `tokens` are the pointer of the node at index `i` of `ls`
abbrev pub IsWaitingAt : List Later → ℕ → List Text → Type 0
IsWaitingAt ls i tokens = (i < length ls) × ((l : Later) → (slice_index_or ls i l).path ≡ tokens)

-- `TakesPlace n o tokens`: operation `o` adds a value at `tokens`. If it is one of `n`, its pointer diverges from them
abbrev pub TakesPlace : NodeMap → Operation → List Text → Type 0
TakesPlace n (Add path value) tokens = path ≡ tokens
TakesPlace n (Remove path) tokens = ⊥
TakesPlace n (Replace path value) tokens = ⊥
TakesPlace n (Move from path) tokens = (path ≡ tokens) × Diverges n from tokens
TakesPlace n (Copy from path) tokens = (path ≡ tokens) × Diverges n from tokens
TakesPlace n (Test path value) tokens = ⊥

-- `Frees k n o`: operation `o` adds a value at a node of `k`, a member of an object, and `n` is `k` without it
pub record Frees (k n : NodeMap) (o : Operation) : Type 0 where
  pub tokens : List Text
  pub value : NodeMap
  pub taken : Takes k tokens value n
  pub object : HasObject k tokens
  pub place : TakesPlace k o tokens

-- `CanWait n o`: the parent of what operation `o` removes or moves is an object of `n`, and the pointers of a move diverge
abbrev pub CanWait : NodeMap → Operation → Type 0
CanWait n (Add path value) = ⊥
CanWait n (Remove path) = HasObject n path
CanWait n (Replace path value) = ⊥
CanWait n (Move from path) = HasObject n from × Diverges n from path
CanWait n (Copy from path) = ⊥
CanWait n (Test path value) = ⊥

-- `Blanks tokens t c d`: the value of `t` is the node of `c` that `tokens` name, `d` is `c` with `null` instead of it, and
-- the removal of `t` undoes that
pub record Blanks (tokens : List Text) (t : Taken) (c d : Content) : Type 0 where
  pub blank : AtNamed tokens (ReplacesContent (contents_of t.value) (contents_of Null)) c d
  pub undone : IsRemoval t.removal (contents_of t.value) c d

-- `IsSource r tokens c d`: `r` is the node of `c` that `tokens` name, which is `null` in `d`, or it is `None` and `d` is
-- `c`
abbrev pub IsSource : Option Taken → List Text → Content → Content → Type 0
IsSource r tokens c d = MatchOption r (d ≡ c) (λ t. Blanks tokens t c d)

-- `StandsFor k n o`: what operation `o` makes of `k` it makes of `n`, and it fails on `n` as on `k`
pub record StandsFor (k n : NodeMap) (o : Operation) : Type 0 where
  pub applied : (c : Comparison) (m : NodeMap) → AppliesBy c k o m → AppliesBy c n o m
  pub refused : (c : Comparison) (i : ℕ) (e : FailedOperation) → RefusesOperationBy c k i o e → RefusesOperationBy c n i o e
