-- The depth of a JSON value is that of its map, if the keys of its objects are sorted.
use Rattle.std.proofs.Common.{◌≡◌, ℕ, zero, suc, ◌-◌, ◌<◌, ◌≤◌, max, Bool, true, false, cond, is_eq, bytes_eq, [], ◌∷◌, length, Option, Some, None, option_map, option_and_then, refl, sym, ap, ap₂, ◌∙◌, subst, arith}
use Rattle.std.proofs.lemmas.Map.Text.{is_eq-slice_cmp}
use Rattle.std.proofs.lemmas.Slice.Eq.{bytes_eq-Decides}
use Rattle.serde_json.specs.Data as json
use Rattle.jsonptr_grammar.specs.Text.{Text}
use Rattle.jsonptr_tree.specs.Node.{key, place, Path}
use Rattle.jsonptr_tree.specs.Content.{Content, scalar, array, object, Items, no_items, item, Members, no_members, member, get_item, get_member, label_of, content_at, map_of, KeysAbove, SortedContent, SortedItems, SortedMembers}
use Rattle.jsonptr_tree.specs.Json.{content, items, members, nodes, HasSortedKeys}
use Rattle.jsonptr_value.specs.Nesting.{IsContainer, NestsWithin}

-- how deep a content nests
abbrev mutual
  levels : Content → ℕ
  levels (scalar v) = 0
  levels (array ds) = suc (items_levels ds)
  levels (object ms) = suc (members_levels ms)

  items_levels : Items → ℕ
  items_levels no_items = 0
  items_levels (item d ds) = max (levels d) (items_levels ds)

  members_levels : Members → ℕ
  members_levels no_members = 0
  members_levels (member k d ms) = max (levels d) (members_levels ms)

mutual
  levels-content : (d : json.Data) → levels (content d) ≡ json.depth d
  levels-content json.null = refl
  levels-content (json.boolean b) = refl
  levels-content (json.number n) = refl
  levels-content (json.string s) = refl
  levels-content (json.array ds) = ap suc (levels-items ds)
  levels-content (json.object ms) = ap suc (levels-members ms)

  levels-items : (ds : json.Items) → items_levels (items ds) ≡ json.items_depth ds
  levels-items json.no_items = refl
  levels-items (json.item d ds) = ap₂ max (levels-content d) (levels-items ds)

  levels-members : (ms : json.Members) → members_levels (members ms) ≡ json.members_depth ms
  levels-members json.no_members = refl
  levels-members (json.member k d ms) = ap₂ max (levels-content d) (levels-members ms)

-- each path to a container is shorter than the content is deep

item_within : (i : ℕ) (ds : Items) (e : Content) → get_item i ds ≡ Some e → levels e ≤ items_levels ds
item_within i no_items e at = let no : ⊥ = cc in absurd no
item_within zero (item d ds) e at =
    let same : d ≡ e = cc in
    let one : levels d ≡ levels e = ap levels same in
    omega (arith, one)
item_within (suc i) (item d ds) e at = let rest : levels e ≤ items_levels ds = item_within i ds e at in omega (arith, rest)

member_within : (k : Text) (ms : Members) (e : Content) → get_member k ms ≡ Some e → levels e ≤ members_levels ms
member_within k no_members e at = let no : ⊥ = cc in absurd no
member_within k (member l d ms) e at = by_test (member_within k ms e) (bytes_eq k l) at
  where
    by_test : (get_member k ms ≡ Some e → levels e ≤ members_levels ms) → (b : Bool) → cond b (Some d) (get_member k ms) ≡ Some e → levels e ≤ max (levels d) (members_levels ms)
    by_test later true at =
        let same : d ≡ e = cc in
        let one : levels d ≡ levels e = ap levels same in
        omega (arith, one)
    by_test later false at = let rest : levels e ≤ members_levels ms = later at in omega (arith, rest)

path_within : (w : Path) (c : Content) → IsContainer (map_of c w) → length w < levels c
path_within [] (scalar v) h = absurd h
path_within [] (array ds) h = omega arith
path_within [] (object ms) h = omega arith
path_within (s ∷ w) (scalar v) h = absurd h
path_within (key k ∷ w) (array ds) h = absurd h
path_within (place i ∷ w) (array ds) h = go (path_within w) (get_item i ds) refl h
  where
    go : ((e : Content) → IsContainer (map_of e w) → length w < levels e) → (o : Option Content) → get_item i ds ≡ o → IsContainer (option_map label_of (option_and_then (content_at w) o)) → suc (length w) < suc (items_levels ds)
    go shorter None at c = absurd c
    go shorter (Some e) at c =
        let low : length w < levels e = shorter e c in
        let within : levels e ≤ items_levels ds = item_within i ds e at in
        omega (arith, low, within)
path_within (key k ∷ w) (object ms) h = go (path_within w) (get_member k ms) refl h
  where
    go : ((e : Content) → IsContainer (map_of e w) → length w < levels e) → (o : Option Content) → get_member k ms ≡ o → IsContainer (option_map label_of (option_and_then (content_at w) o)) → suc (length w) < suc (members_levels ms)
    go shorter None at c = absurd c
    go shorter (Some e) at c =
        let low : length w < levels e = shorter e c in
        let within : levels e ≤ members_levels ms = member_within k ms e at in
        omega (arith, low, within)
path_within (place i ∷ w) (object ms) h = absurd h

pub NestsWithin-depth : (d : json.Data) → NestsWithin (json.depth d) (nodes d)
NestsWithin-depth d = λ w c.
    let low : length w < levels (content d) = path_within w (content d) c in
    let same : levels (content d) ≡ json.depth d = levels-content d in
    omega (arith, low, same)

-- a content whose paths to containers are short is not deep

-- a key below all keys is of no member
above_none : (k : Text) (ms : Members) → KeysAbove k ms → get_member k ms ≡ None
above_none k no_members h = refl
above_none k (member l d ms) h =
    let other : bytes_eq k l ≡ false = sym (is_eq-slice_cmp k l) ∙ ap is_eq h.0 in
    ap (λ (b : Bool). cond b (Some d) (get_member k ms)) other ∙ above_none k ms h.1

first_found : (k : Text) (d : Content) (ms : Members) → get_member k (member k d ms) ≡ Some d
first_found k d ms = ap (λ (b : Bool). cond b (Some d) (get_member k ms)) ((bytes_eq-Decides k k).1 refl)

-- a later member is found, since its key is another one
later_found : (k l : Text) (d : Content) (ms : Members) (e : Content) → KeysAbove k ms → get_member l ms ≡ Some e → get_member l (member k d ms) ≡ Some e
later_found k l d ms e above at = go (bytes_eq l k) refl
  where
    go : (b : Bool) → bytes_eq l k ≡ b → get_member l (member k d ms) ≡ Some e
    go true same =
        let one : l ≡ k = (bytes_eq-Decides l k).0 same in
        let none : get_member l ms ≡ None = ap (λ (q : Text). get_member q ms) one ∙ above_none k ms above in
        let no : ⊥ = cc in absurd no
    go false other = ap (λ (b : Bool). cond b (Some d) (get_member l ms)) other ∙ at

-- the map of a child nests one level less
item_below : (j i : ℕ) (ds : Items) (e : Content) → NestsWithin j (map_of (array ds)) → get_item i ds ≡ Some e → NestsWithin (j - 1) (map_of e)
item_below j i ds e h at = λ w c.
    let low : length (place i ∷ w) < j = h (place i ∷ w) (subst (λ (o : Option Content). IsContainer (option_map label_of (option_and_then (content_at w) o))) (sym at) c) in
    omega (arith, low)

member_below : (j : ℕ) (k : Text) (ms : Members) (e : Content) → NestsWithin j (map_of (object ms)) → get_member k ms ≡ Some e → NestsWithin (j - 1) (map_of e)
member_below j k ms e h at = λ w c.
    let low : length (key k ∷ w) < j = h (key k ∷ w) (subst (λ (o : Option Content). IsContainer (option_map label_of (option_and_then (content_at w) o))) (sym at) c) in
    omega (arith, low)

mutual
  levels-within : (c : Content) (j : ℕ) → SortedContent c → NestsWithin j (map_of c) → levels c ≤ j
  levels-within (scalar v) j sorted h = omega arith
  levels-within (array ds) j sorted h =
      let root : 0 < j = h [] tt in
      let rest : items_levels ds ≤ j - 1 = items-within ds (j - 1) sorted (λ i e at. item_below j i ds e h at) in
      omega (arith, root, rest)
  levels-within (object ms) j sorted h =
      let root : 0 < j = h [] tt in
      let rest : members_levels ms ≤ j - 1 = members-within ms (j - 1) sorted (λ k e at. member_below j k ms e h at) in
      omega (arith, root, rest)

  items-within : (ds : Items) (j : ℕ) → SortedItems ds → ((i : ℕ) (e : Content) → get_item i ds ≡ Some e → NestsWithin j (map_of e)) → items_levels ds ≤ j
  items-within no_items j sorted h = omega arith
  items-within (item d ds) j sorted h =
      let first : levels d ≤ j = levels-within d j sorted.0 (h 0 d refl) in
      let rest : items_levels ds ≤ j = items-within ds j sorted.1 (λ i e at. h (suc i) e at) in
      omega (arith, first, rest)

  members-within : (ms : Members) (j : ℕ) → SortedMembers ms → ((k : Text) (e : Content) → get_member k ms ≡ Some e → NestsWithin j (map_of e)) → members_levels ms ≤ j
  members-within no_members j sorted h = omega arith
  members-within (member k d ms) j sorted h =
      let first : levels d ≤ j = levels-within d j sorted.0 (h k d (first_found k d ms)) in
      let rest : members_levels ms ≤ j = members-within ms j sorted.2 (λ l e at. h l e (later_found k l d ms e sorted.1 at)) in
      omega (arith, first, rest)

pub depth-within : (d : json.Data) (j : ℕ) → HasSortedKeys d → NestsWithin j (nodes d) → json.depth d ≤ j
depth-within d j sorted h =
    let low : levels (content d) ≤ j = levels-within (content d) j sorted h in
    let same : levels (content d) ≡ json.depth d = levels-content d in
    omega (arith, low, same)
