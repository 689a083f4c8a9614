-- Words of private clauses: two arrays or objects that are read side by side, of which some children were read.
use Rattle.std.specs.Prelude.{◌≡◌, ℕ, ◌<◌, List, ◌∷◌, ◌++◌, length, Bool, true, false, Some, None, ⊤}
use Rattle.json.specs.Token.{Token}
use Rattle.json.specs.Json.{after_end_array, read_key}
use Rattle.serde_json.specs.Data.{Data, Members}
use Rattle.serde_json.specs.Find.{get_member}
use Rattle.serde_json.specs.Read.{read}
use Rattle.jsonptr_text_search.specs.Reading.{ReadsTokens}
use Rattle.jsonptr_text_search.specs.Search.{Choice}
use Rattle.jsonptr_text_check.specs.declared.change.Change.{Change}
use Rattle.jsonptr_text_check.specs.Editing.{OnlyMemberDiffers, InsertsMember, ChangesAt, Makes}

-- `ChangesIf wanted cs change d d2`: `d2` is `d` with the change below the selectors `cs` if it is wanted, and `d` if not
abbrev pub ChangesIf : Bool → List Choice → Change → Data → Data → Type 0
ChangesIf true cs change d d2 = ChangesAt cs (Makes change) d d2
ChangesIf false cs change d d2 = d2 ≡ d

-- `AddsItemIf wanted value depth old d new`: `d` is the value of the text if it is wanted, and if not the next element of
-- the tokens `old`
abbrev pub AddsItemIf : Bool → List ℕ → ℕ → List Token → Data → List Token → Type 0
AddsItemIf true value depth old d new = (read value ≡ Some d) × (new ≡ old)
AddsItemIf false value depth old d new = (after_end_array old ≡ None) × ReadsTokens depth old d new × (length new < length old)

-- `AddsMemberIf wanted named value depth name old d new`: the same of a member with that name. If it is not wanted, but
-- named, it is one that the new member replaces, and the tokens are not those of it
abbrev pub AddsMemberIf : Bool → Bool → List ℕ → ℕ → List ℕ → List Token → Data → List Token → Type 0
AddsMemberIf true named value depth name old d new = (read value ≡ Some d) × (new ≡ old)
AddsMemberIf false true value depth name old d new = new ≡ old
AddsMemberIf false false value depth name old d new =
    (mid : List Token) × (read_key old ≡ Some (Some name, mid)) × ReadsTokens depth mid d new × (length new < length old)

-- `ItemDiffers i R ds ds2`: the elements `ds` and `ds2` differ only at `i`, where `R` relates them
pub record ItemDiffers (i : ℕ) (R : Data → Data → Type 0) (ds ds2 : List Data) : Type 0 where
  pub front : List Data
  pub back : List Data
  pub at : Data
  pub at2 : Data
  pub len : length front ≡ i
  pub old : ds ≡ front ++ at ∷ back
  pub new : ds2 ≡ front ++ at2 ∷ back
  pub changes : R at at2

-- `ItemsSo done i R ds ds2`: of the elements `ds` and `ds2`, which were read, one differs if done, and none if not
abbrev pub ItemsSo : Bool → ℕ → (Data → Data → Type 0) → List Data → List Data → Type 0
ItemsSo true i R ds ds2 = ItemDiffers i R ds ds2
ItemsSo false i R ds ds2 = ds2 ≡ ds

-- `MembersSo done k R ms ms2`: the same of members, and of the key `k`
abbrev pub MembersSo : Bool → List ℕ → (Data → Data → Type 0) → Members → Members → Type 0
MembersSo true k R ms ms2 = (at at2 : Data) × OnlyMemberDiffers k at at2 ms ms2 × R at at2
MembersSo false k R ms ms2 = ms2 ≡ ms

-- `ItemAdded i value ds ds2`: the elements `ds2` are `ds` and, at `i`, the value of the text
pub record ItemAdded (i : ℕ) (value : List ℕ) (ds ds2 : List Data) : Type 0 where
  pub front : List Data
  pub back : List Data
  pub e : Data
  pub len : length front ≡ i
  pub old : ds ≡ front ++ back
  pub new : ds2 ≡ front ++ e ∷ back
  pub reads : read value ≡ Some e

-- `ItemsAdded done i value ds ds2`: of the elements `ds2`, which were read, one is new if done, and none if not
abbrev pub ItemsAdded : Bool → ℕ → List ℕ → List Data → List Data → Type 0
ItemsAdded true i value ds ds2 = ItemAdded i value ds ds2
ItemsAdded false i value ds ds2 = ds2 ≡ ds

-- `MembersAdded done k value ms ms2`: of the members `ms2`, which were read, the last with the key `k` is new if done. If not,
-- those with the key `k` are to be replaced, and the others are `ms`
abbrev pub MembersAdded : Bool → List ℕ → List ℕ → Members → Members → Type 0
MembersAdded true k value ms ms2 = (e : Data) × (read value ≡ Some e) × InsertsMember k e ms ms2
MembersAdded false k value ms ms2 =
    (get_member k ms ≡ None) × ((l : List ℕ) → (l ≡ k → ⊥) → get_member l ms2 ≡ get_member l ms)

-- `MayFollow done wanted named`: the wanted member has the key, and no later one has it
abbrev pub MayFollow : Bool → Bool → Bool → Type 0
MayFollow false false named = ⊤
MayFollow false true named = named ≡ true
MayFollow true false named = named ≡ false
MayFollow true true named = ⊥
