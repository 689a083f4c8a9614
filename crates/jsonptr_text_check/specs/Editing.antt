-- One change of a value: a value below it is replaced, or gets one child more.
use Rattle.std.specs.Prelude.{◌≡◌, ℕ, suc, ◌<◌, ◌≤◌, ◌⊎◌, List, [], ◌∷◌, Some, None, string_bytes}
use Rattle.serde_json.specs.Data.{Data, array, object, Items, Members}
use Rattle.serde_json.specs.Find.{get_member, get_item}
use Rattle.serde_json.specs.Read.{read}
use Rattle.jsonptr_text_search.specs.Search.{Choice, choice_of, items_count}
use Rattle.jsonptr_text_check.specs.declared.change.Change.{Change}
use Rattle.jsonptr_text_check.specs.declared.change.Change.TheVariants.{Replace, Add, Insert, Append, Rename}

-- `OnlyItemDiffers i at at2 ds ds2`: the items `ds` and `ds2` differ only at the index `i`, where they have `at` and `at2`
pub record OnlyItemDiffers (i : ℕ) (at at2 : Data) (ds ds2 : Items) : Type 0 where
  pub same_len : items_count ds2 ≡ items_count ds
  pub was : get_item i ds ≡ Some at
  pub is : get_item i ds2 ≡ Some at2
  pub others : (j : ℕ) → (j ≡ i → ⊥) → get_item j ds2 ≡ get_item j ds

-- `OnlyMemberDiffers k at at2 ms ms2`: the members `ms` and `ms2` differ only at the key `k`, where they have `at` and `at2`
pub record OnlyMemberDiffers (k : List ℕ) (at at2 : Data) (ms ms2 : Members) : Type 0 where
  pub was : get_member k ms ≡ Some at
  pub is : get_member k ms2 ≡ Some at2
  pub others : (l : List ℕ) → (l ≡ k → ⊥) → get_member l ms2 ≡ get_member l ms

-- `InsertsItem i e ds ds2`: `ds2` are the items `ds` with `e` inserted at the index `i`, which may be the one after the last
pub record InsertsItem (i : ℕ) (e : Data) (ds ds2 : Items) : Type 0 where
  pub one_more : items_count ds2 ≡ suc (items_count ds)
  pub within : i ≤ items_count ds
  pub is : get_item i ds2 ≡ Some e
  pub before : (j : ℕ) → j < i → get_item j ds2 ≡ get_item j ds
  pub after : (j : ℕ) → i ≤ j → get_item (suc j) ds2 ≡ get_item j ds

-- `InsertsMember k e ms ms2`: `ms2` are the members `ms`, which have no key `k`, and `e` with the key `k`
pub record InsertsMember (k : List ℕ) (e : Data) (ms ms2 : Members) : Type 0 where
  pub none : get_member k ms ≡ None
  pub is : get_member k ms2 ≡ Some e
  pub others : (l : List ℕ) → (l ≡ k → ⊥) → get_member l ms2 ≡ get_member l ms

-- `RenamesKey from to e ms ms2`: `ms2` are the members `ms`, in which `e` has the key `to` instead of `from`. Neither has members
-- with both keys
pub record RenamesKey (from to : List ℕ) (e : Data) (ms ms2 : Members) : Type 0 where
  pub was : get_member from ms ≡ Some e
  pub free : get_member to ms ≡ None
  pub is : get_member to ms2 ≡ Some e
  pub gone : get_member from ms2 ≡ None
  pub others : (l : List ℕ) → (l ≡ from → ⊥) → (l ≡ to → ⊥) → get_member l ms2 ≡ get_member l ms

-- `AddsElement c e d d2`, `AddsChosenMember c e d d2`: `d2` is the array or the object `d` with one child more, `e`, which `c` selects
pub record AddsElement (c : Choice) (e d d2 : Data) : Type 0 where
  pub ds : Items
  pub ds2 : Items
  pub i : ℕ
  pub old : d ≡ array ds
  pub new : d2 ≡ array ds2
  pub selects : c.1 ≡ Some i
  pub inserts : InsertsItem i e ds ds2

pub record AddsChosenMember (c : Choice) (e d d2 : Data) : Type 0 where
  pub ms : Members
  pub ms2 : Members
  pub old : d ≡ object ms
  pub new : d2 ≡ object ms2
  pub inserts : InsertsMember c.0 e ms ms2

-- `ChangesElement c R d d2`: the arrays `d` and `d2` differ only in the element that `c` selects, and `R` relates the two
pub record ChangesElement (c : Choice) (R : Data → Data → Type 0) (d d2 : Data) : Type 0 where
  pub ds : Items
  pub ds2 : Items
  pub i : ℕ
  pub at : Data
  pub at2 : Data
  pub old : d ≡ array ds
  pub new : d2 ≡ array ds2
  pub selects : c.1 ≡ Some i
  pub differs : OnlyItemDiffers i at at2 ds ds2
  pub changes : R at at2

pub record ChangesMember (c : Choice) (R : Data → Data → Type 0) (d d2 : Data) : Type 0 where
  pub ms : Members
  pub ms2 : Members
  pub at : Data
  pub at2 : Data
  pub old : d ≡ object ms
  pub new : d2 ≡ object ms2
  pub differs : OnlyMemberDiffers c.0 at at2 ms ms2
  pub changes : R at at2

abbrev pub ChangesChild : Choice → (Data → Data → Type 0) → Data → Data → Type 0
ChangesChild c R d d2 = ChangesElement c R d d2 ⊎ ChangesMember c R d d2

-- `ChangesAt cs R d d2`: `d` and `d2` differ only in the value that the selectors `cs` lead to, and `R` relates the two values
abbrev pub ChangesAt : List Choice → (Data → Data → Type 0) → Data → Data → Type 0
ChangesAt [] R d d2 = R d d2
ChangesAt (c ∷ cs) R d d2 = ChangesChild c (ChangesAt cs R) d d2

-- `AppendsElement c e d d2`: `d2` is the array `d` with the element `e` after its last, which `c` selects
pub record AppendsElement (c : Choice) (e d d2 : Data) : Type 0 where
  pub ds : Items
  pub ds2 : Items
  pub i : ℕ
  pub old : d ≡ array ds
  pub new : d2 ≡ array ds2
  pub selects : c.1 ≡ Some i
  pub last : i ≡ items_count ds
  pub inserts : InsertsItem i e ds ds2

-- `RenamesMember from to d d2`: `d2` is the object `d`, in which the member with the key `from` has the key `to` instead
pub record RenamesMember (from to : List ℕ) (d d2 : Data) : Type 0 where
  pub ms : Members
  pub ms2 : Members
  pub e : Data
  pub old : d ≡ object ms
  pub new : d2 ≡ object ms2
  pub renames : RenamesKey from to e ms ms2

-- `Makes change d d2`: the change makes `d2` of `d`
abbrev pub Makes : Change → Data → Data → Type 0
Makes (Replace old new) d d2 = (read (string_bytes old) ≡ Some d) × (read (string_bytes new) ≡ Some d2)
Makes (Add child) d d2 = (e : Data) × (read (string_bytes child.value) ≡ Some e) × AddsChosenMember (choice_of child.selector) e d d2
Makes (Insert child) d d2 = (e : Data) × (read (string_bytes child.value) ≡ Some e) × AddsElement (choice_of child.selector) e d d2
Makes (Append child) d d2 = (e : Data) × (read (string_bytes child.value) ≡ Some e) × AppendsElement (choice_of child.selector) e d d2
Makes (Rename renaming) d d2 = RenamesMember (string_bytes renaming.from) (string_bytes renaming.to) d d2

-- `IsEdited old new cs change`: the texts read as documents that differ only in the value that the selectors `cs` lead to, of
-- which the change makes the new one
abbrev pub IsEdited : List ℕ → List ℕ → List Choice → Change → Type 0
IsEdited old new cs change = (d d2 : Data) × (read old ≡ Some d) × (read new ≡ Some d2) × ChangesAt cs (Makes change) d d2
