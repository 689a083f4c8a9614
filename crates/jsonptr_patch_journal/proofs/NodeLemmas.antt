-- What a value that is an object or an array contains, before and after a change of its map or vector.
use Rattle.std.proofs.Common.{◌≡◌, ℕ, zero, suc, ◌<◌, ◌≤◌, List, [], ◌∷◌, length, get_or, Option, Some, None, MatchOption, option_map, Result, Ok, Err, IfOk, OnErr, is_ok, if◌then◌else◌, String, string_bytes, Vec, BTreeMap, Global, MutBor, refl, sym, ap, ◌∙◌, arith}
use Rattle.std.specs.List.{insert, remove}
use Rattle.std.specs.Vec.{vec_capacity}
use Rattle.serde_json.specs.Data as json
use Rattle.serde_json.specs.Find.{as_array, as_object}
use Rattle.serde_json.specs.View.{view, items_view, members_view}
use Rattle.serde_json.specs.declared.value.Value.{Value, Array, Object}
use Rattle.jsonptr.specs.Text.{Text}
use Rattle.jsonptr.specs.Node.{Path}
use Rattle.jsonptr.specs.Content.{Content, array, object, Items, no_items, item, items_len, get_item, Members, member, get_member, content_at}
use Rattle.jsonptr.specs.Json.{content}
use Rattle.jsonptr_tree.proofs.LevelLemmas.{items_by, members_by}
use Rattle.jsonptr_tree.proofs.JsonLemmas.{array_is, object_is}
use Rattle.jsonptr_document.proofs.JsonLevel.{array_at, object_at}
use Rattle.jsonptr_patch_journal.specs.Location.{contents_of}
use Rattle.jsonptr_patch_journal.specs.Children.{items_in, members_in, array_of, object_of, insert_item, without_item, put_member, without_member, KeysRise}
use Rattle.jsonptr_patch_journal.specs.Writing.{write_at}
use Rattle.jsonptr_patch_journal.specs.Changes.{HasAt, IsObjectContent, IsArrayContent, HasAtLeast, HasElement, AddsMember, TakesMember, PutsElement, TakesElement}
use Rattle.jsonptr_patch_journal.specs.Rooms.{LeavesElementRoom}
use Rattle.jsonptr_patch_journal.proofs.ThereLemmas.{here_has}

-- ---- objects

same_members : (es : List (String Global × Value)) → members_by contents_of es ≡ members_in es
same_members [] = refl
same_members (e ∷ es) = ap (member (string_bytes e.0) (contents_of e.1)) (same_members es)

object_holds : (m : BTreeMap (String Global) Value) → contents_of (Object m) ≡ object_of m
object_holds m = object_is m ∙ ap object (same_members m.entries)

pub object_there : (at : Value) (m : BTreeMap (String Global) Value) → Some (members_view m.entries) ≡ as_object (view at) → contents_of at ≡ object_of m
object_there at m is = object_at at m is ∙ object_holds m

pub one_object : (a b : Members) → object a ≡ object b → a ≡ b
one_object a b e = cc

pub takes_member : (k : Text) (v : Content) (ms ns : Members) → get_member k ms ≡ Some v → ns ≡ without_member k ms → KeysRise ms → TakesMember k v (object ms) (object ns)
takes_member k v ms ns found left rise = record { ms = ms; object_is = refl; found = found; made = ap object left; rise = rise }

pub object_written : (p : Path) (c d : Content) (m : BTreeMap (String Global) Value) → d ≡ write_at p (contents_of (Object m)) c → d ≡ write_at p (object_of m) c
object_written p c d m made = made ∙ ap (λ (x : Content). write_at p x c) (object_holds m)

no_object_there : (d : json.Data) (ms : Members) → None ≡ as_object d → content d ≡ object ms → ⊥
no_object_there json.null ms e h = cc
no_object_there (json.boolean b) ms e h = cc
no_object_there (json.number n) ms e h = cc
no_object_there (json.string s) ms e h = cc
no_object_there (json.array ds) ms e h = cc
no_object_there (json.object fs) ms e h = cc

-- the members of the node at a path
pub object_found : (p : Path) (c : Content) (node : Value) (r : Option (MutBor (BTreeMap (String Global) Value))) → content_at p c ≡ Some (contents_of node) → option_map (λ m. members_view m.now.entries) r ≡ as_object (view node) → MatchOption r (HasAt p IsObjectContent c → ⊥) (λ m. content_at p c ≡ Some (object_of m.now))
object_found p c node None there is = λ has.
    let h = here_has p IsObjectContent c (contents_of node) has there in
    no_object_there (view node) h.0 is h.1
object_found p c node (Some m) there is = there ∙ ap (λ (x : Content). Some x) (object_there node m.now is)

pub adds_member : {E : Type 0} (r : Result (Option Value) E) (k : Text) (v c d : Content) (ms ns : Members) → c ≡ object ms → d ≡ object ns → KeysRise ms
    → IfOk r (λ _. ns ≡ put_member k v ms) → IfOk r (λ old. get_member k ms ≡ option_map contents_of old) → IfOk r (λ old. AddsMember k (option_map contents_of old) v c d)
adds_member (Ok old) k v c d ms ns was is rise put found = record { puts = record { ms = ms; object_is = was; made = is ∙ ap object put; rise = rise }; old_is = found }
adds_member (Err e) k v c d ms ns was is rise put found = tt

pub unchanged_object : {T E : Type 0} (r : Result T E) (c d : Content) (ms ns : Members) → c ≡ object ms → d ≡ object ns → OnErr r (ns ≡ ms) → OnErr r (d ≡ c)
unchanged_object (Ok t) c d ms ns was is same = tt
unchanged_object (Err e) c d ms ns was is same = is ∙ ap object same ∙ sym was

-- ---- arrays

same_items : (vs : List Value) → items_by contents_of vs ≡ items_in vs
same_items [] = refl
same_items (v ∷ vs) = ap (item (contents_of v)) (same_items vs)

array_holds : (vs : Vec Value Global) → contents_of (Array vs) ≡ array_of vs
array_holds vs = array_is vs ∙ ap array (same_items vs.items)

pub array_there : (at : Value) (vs : Vec Value Global) → Some (items_view vs.items) ≡ as_array (view at) → contents_of at ≡ array_of vs
array_there at vs is = array_at at vs is ∙ array_holds vs

pub one_array : (a b : Items) → array a ≡ array b → a ≡ b
one_array a b e = cc

pub array_written : (p : Path) (c d : Content) (m : Vec Value Global) → d ≡ write_at p (contents_of (Array m)) c → d ≡ write_at p (array_of m) c
array_written p c d m made = made ∙ ap (λ (x : Content). write_at p x c) (array_holds m)

no_array_there : (d : json.Data) (ds : Items) → None ≡ as_array d → content d ≡ array ds → ⊥
no_array_there json.null ds e h = cc
no_array_there (json.boolean b) ds e h = cc
no_array_there (json.number n) ds e h = cc
no_array_there (json.string s) ds e h = cc
no_array_there (json.array es) ds e h = cc
no_array_there (json.object fs) ds e h = cc

-- the elements of the node at a path
pub array_found : (p : Path) (c : Content) (node : Value) (r : Option (MutBor (Vec Value Global))) → content_at p c ≡ Some (contents_of node) → option_map (λ vs. items_view vs.now.items) r ≡ as_array (view node) → MatchOption r (HasAt p IsArrayContent c → ⊥) (λ vs. content_at p c ≡ Some (array_of vs.now))
array_found p c node None there is = λ has.
    let h = here_has p IsArrayContent c (contents_of node) has there in
    no_array_there (view node) h.0 is h.1
array_found p c node (Some vs) there is = there ∙ ap (λ (x : Content). Some x) (array_there node vs.now is)

pub items_in-length : (vs : List Value) → items_len (items_in vs) ≡ length vs
items_in-length [] = refl
items_in-length (v ∷ vs) = ap suc (items_in-length vs)

pub items_in-insert : (vs : List Value) (i : ℕ) (x : Value) → items_in (insert vs i x) ≡ insert_item i (contents_of x) (items_in vs)
items_in-insert [] zero x = refl
items_in-insert [] (suc i) x = refl
items_in-insert (v ∷ vs) zero x = refl
items_in-insert (v ∷ vs) (suc i) x = ap (item (contents_of v)) (items_in-insert vs i x)

pub items_in-remove : (vs : List Value) (i : ℕ) → items_in (remove vs i) ≡ without_item i (items_in vs)
items_in-remove [] zero = refl
items_in-remove [] (suc i) = refl
items_in-remove (v ∷ vs) zero = refl
items_in-remove (v ∷ vs) (suc i) = ap (item (contents_of v)) (items_in-remove vs i)

pub items_in-get : (vs : List Value) (i : ℕ) (x : Value) → i < length vs → x ≡ get_or vs i x → get_item i (items_in vs) ≡ Some (contents_of x)
items_in-get [] i x h is = absurd (omega arith)
items_in-get (v ∷ vs) zero x h is = ap (λ (y : Value). Some (contents_of y)) (sym is)
items_in-get (v ∷ vs) (suc i) x h is = items_in-get vs i x (omega arith) is

-- what is at a path, where that is an array that is long enough

pub long_here : (p : Path) (i : ℕ) (c : Content) (vs : Vec Value Global) → HasAt p (HasAtLeast i) c → content_at p c ≡ Some (array_of vs) → i ≤ length vs.items
long_here p i c vs has there =
    let h = here_has p (HasAtLeast i) c (array_of vs) has there in
    let long : length vs.items ≡ items_len h.0 = sym (items_in-length vs.items) ∙ ap items_len (one_array (items_in vs.items) h.0 h.1) in
    omega (arith, long, h.2)

pub within_here : (p : Path) (i : ℕ) (c : Content) (vs : Vec Value Global) → HasAt p (HasElement i) c → content_at p c ≡ Some (array_of vs) → i < length vs.items
within_here p i c vs has there =
    let h = here_has p (HasElement i) c (array_of vs) has there in
    let long : length vs.items ≡ items_len h.0 = sym (items_in-length vs.items) ∙ ap items_len (one_array (items_in vs.items) h.0 h.1) in
    omega (arith, long, h.2)

pub takes_element : (vs ws : Vec Value Global) (i : ℕ) (x : Value) → i < length vs.items → x ≡ get_or vs.items i x → ws.items ≡ remove vs.items i → TakesElement i (contents_of x) (array_of vs) (array_of ws)
takes_element vs ws i x within is left = record {
  ds = items_in vs.items;
  array_is = refl;
  found = items_in-get vs.items i x within is;
  made = ap array (ap items_in left ∙ items_in-remove vs.items i);
}

-- an insertion into the vector of an array
pub puts_element : {T E : Type 0} (r : Result T E) (vs ws : Vec Value Global) (i : ℕ) (x : Value) → i ≤ length vs.items → ws.items ≡ (if is_ok r then insert vs.items i x else vs.items) → IfOk r (λ _. PutsElement i (contents_of x) (array_of vs) (array_of ws))
puts_element (Ok t) vs ws i x within is = record {
  ds = items_in vs.items;
  array_is = refl;
  within = omega (arith, within, items_in-length vs.items);
  made = ap array (ap items_in is ∙ items_in-insert vs.items i x);
}
puts_element (Err e) vs ws i x within is = tt

pub unchanged_array : {T E : Type 0} (r : Result T E) (vs ws : Vec Value Global) (i : ℕ) (x : Value) → ws.items ≡ (if is_ok r then insert vs.items i x else vs.items) → OnErr r (array_of ws ≡ array_of vs)
unchanged_array (Ok t) vs ws i x is = tt
unchanged_array (Err e) vs ws i x is = ap array (ap items_in is)

-- an element inserted where it was removed
pub insert-without : (ds : Items) (i : ℕ) (v : Content) → get_item i ds ≡ Some v → insert_item i v (without_item i ds) ≡ ds
insert-without no_items i v found = let no : ⊥ = cc in absurd no
insert-without (item d ds) zero v found = let same : v ≡ d = cc in ap (λ (x : Content). item x ds) same
insert-without (item d ds) (suc i) v found = ap (item d) (insert-without ds i v found)

-- an element removed where it was inserted
pub without-insert : (ds : Items) (i : ℕ) (v : Content) → i ≤ items_len ds → without_item i (insert_item i v ds) ≡ ds
without-insert no_items zero v h = refl
without-insert no_items (suc i) v h = absurd (omega arith)
without-insert (item d ds) zero v h = refl
without-insert (item d ds) (suc i) v h = ap (item d) (without-insert ds i v (omega arith))

pub get-insert : (ds : Items) (i : ℕ) (v : Content) → i ≤ items_len ds → get_item i (insert_item i v ds) ≡ Some v
get-insert ds zero v h = refl
get-insert no_items (suc i) v h = absurd (omega arith)
get-insert (item d ds) (suc i) v h = get-insert ds i v (omega arith)

pub without-length : (ds : Items) (i : ℕ) (v : Content) → get_item i ds ≡ Some v → (suc (items_len (without_item i ds)) ≡ items_len ds) × (i ≤ items_len (without_item i ds))
without-length no_items i v found = let no : ⊥ = cc in absurd no
without-length (item d ds) zero v found = (refl, omega arith)
without-length (item d ds) (suc i) v found = let r = without-length ds i v found in (ap suc r.0, omega (arith, r.1))

pub insert-length : (ds : Items) (i : ℕ) (v : Content) → i ≤ items_len ds → items_len (insert_item i v ds) ≡ suc (items_len ds)
insert-length ds zero v h = refl
insert-length no_items (suc i) v h = absurd (omega arith)
insert-length (item d ds) (suc i) v h = ap suc (insert-length ds i v (omega arith))

-- an element put back into the array that was left without it
module _ (i : ℕ) (room : Vec Value Global) (v : Value) (b : Content) (vs : Vec Value Global) (r : LeavesElementRoom i room (contents_of v) b (array_of vs)) where
  left_is : items_in vs.items ≡ without_item i r.takes.ds
  left_is = one_array (items_in vs.items) (without_item i r.takes.ds) r.takes.made

  left_long : length vs.items ≡ items_len (without_item i r.takes.ds)
  left_long = sym (items_in-length vs.items) ∙ ap items_len left_is

  pub index_left : i ≤ length vs.items
  index_left = omega (arith, left_long, (without-length r.takes.ds i (contents_of v) r.takes.found).1)

  pub room_left : (room.items ≡ []) × (length vs.items < vec_capacity room)
  room_left =
      let all : suc (items_len (without_item i r.takes.ds)) ≡ items_len r.takes.ds = (without-length r.takes.ds i (contents_of v) r.takes.found).0 in
      let same : items_len r.room_is.0 ≡ items_len r.takes.ds = ap items_len (one_array r.room_is.0 r.takes.ds (sym r.room_is.1 ∙ r.takes.array_is)) in
      (r.room_is.2, omega (arith, left_long, all, same, r.room_is.3))

  pub elements_back : (ws : Vec Value Global) → ws.items ≡ insert vs.items i v → array_of ws ≡ b
  elements_back ws is =
      ap array (ap items_in is ∙ items_in-insert vs.items i v ∙ ap (insert_item i (contents_of v)) left_is ∙ insert-without r.takes.ds i (contents_of v) r.takes.found)
      ∙ sym r.takes.array_is
