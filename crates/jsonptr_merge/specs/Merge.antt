-- Three-way merges of documents.
use Rattle.std.specs.Prelude.{◌≡◌, ◌≢◌, List, [], ◌∷◌, ◌++◌, All, Contains, Some, ⊤}
use Rattle.jsonptr.specs.Text.{Text}
use Rattle.jsonptr.specs.Node.{Step, Path, an_object, NodeMap, sub}
use Rattle.jsonptr_patch_diff.specs.Diff.{keys}
use Rattle.jsonptr_merge.specs.Values.{map_in, IsBefore}
use Rattle.jsonptr_merge.specs.declared.conflict.Conflict.{Conflict}

-- `AreObjects b o t w`: an object is at the path `w` of all three maps
abbrev pub AreObjects : NodeMap → NodeMap → NodeMap → Path → Type 0
AreObjects b o t w = (b w ≡ Some an_object) × (o w ≡ Some an_object) × (t w ≡ Some an_object)

-- `AllDiffer b o t w`: what the three maps have at the path `w` differs pairwise. Having nothing
-- there also counts
pub record AllDiffer (b o t : NodeMap) (w : Path) : Type 0 where
  pub ours : sub o w ≢ sub b w
  pub theirs : sub t w ≢ sub b w
  pub both : sub o w ≢ sub t w

-- `IsConflict b o t w`: both copies, `o` and `t`, changed what the base `b` has at the path `w`, each
-- in its own way, and not all three have an object there. Above it all three have objects
pub record IsConflict (b o t : NodeMap) (w : Path) : Type 0 where
  pub differ : AllDiffer b o t w
  pub no_objects : AreObjects b o t w → ⊥
  pub above : (u : Path) (s : Step) (v : Path) → w ≡ u ++ s ∷ v → AreObjects b o t u

-- `IsMerge b o t m`: `m` has at each path what the one copy has that changed the base `b` there, and
-- what both have if they agree. An object in all three is an object in `m`
pub record IsMerge (b o t m : NodeMap) : Type 0 where
  pub theirs : (w : Path) → sub o w ≡ sub b w → sub m w ≡ sub t w
  pub ours : (w : Path) → sub t w ≡ sub b w → sub m w ≡ sub o w
  pub both : (w : Path) → sub o w ≡ sub t w → sub m w ≡ sub o w
  pub objects : (w : Path) → AreObjects b o t w → m w ≡ Some an_object

-- `HasNoConflict b o t`: no path is a conflict
abbrev pub HasNoConflict : NodeMap → NodeMap → NodeMap → Type 0
HasNoConflict b o t = (w : Path) → IsConflict b o t w → ⊥

-- `IsConflictAt b o t ts c`: the keys `ts` lead to the conflict `c`, which has what each map has there
pub record IsConflictAt (b o t : NodeMap) (ts : List Text) (c : Conflict) : Type 0 where
  pub conflict : IsConflict b o t (keys ts)
  pub base : map_in c.base ≡ sub b (keys ts)
  pub ours : map_in c.ours ≡ sub o (keys ts)
  pub theirs : map_in c.theirs ≡ sub t (keys ts)

-- `AreInOrder cs`: each of the conflicts `cs` comes before those after it, so no path is there twice
abbrev pub AreInOrder : List Conflict → Type 0
AreInOrder [] = ⊤
AreInOrder (c ∷ cs) = All (λ d. IsBefore c.path d.path) cs × AreInOrder cs

-- `AreConflicts b o t cs`: `cs` are all conflicts, in order, and there is one
pub record AreConflicts (b o t : NodeMap) (cs : List Conflict) : Type 0 where
  pub some : cs ≢ []
  pub real : All (λ c. IsConflictAt b o t c.path c) cs
  pub all : (w : Path) → IsConflict b o t w → (c : Conflict) × Contains cs c × (w ≡ keys c.path)
  pub in_order : AreInOrder cs
