-- What the code of merge patches makes.
use Rattle.std.proofs.Common.{◌≡◌, Bool, true, false, is_some, cond, [], ◌∷◌, Option, Some, None, IsSome, string_bytes, refl, sym, ap, ◌∙◌, subst, true≢false, rules}
use Rattle.std.specs.Prelude.{Result, Ok, Err, IfOk}
use Rattle.std.specs.Option.{option_copied}
use Rattle.std.specs.declared.alloc.AllocError.{AllocError}
use Rattle.std.specs.Borrow.{Bor}
use mathlib.Core.Path.{fun_ext}
use Rattle.std.specs.BTreeMap.{get_by_text}
use Rattle.serde_json.specs.Data as json
use Rattle.serde_json.specs.Find.{as_null, as_object}
use Rattle.serde_json.specs.View.{view, members_view}
use Rattle.serde_json.specs.View.{number_view}
use Rattle.serde_json.specs.declared.value.Value.{Value, out-Value, the_lemmas, Null, Bool as of_bool, Number as of_number, String as of_string, Array, Object as an_object_of}
use Rattle.serde_json.specs.declared.value.Value.TheOpen.{Value-F}
use Rattle.jsonptr.specs.Text.{Text}
use Rattle.jsonptr.specs.Node.{key, place, Path, Label, an_object, NodeMap, sub}
use Rattle.jsonptr.specs.Content.{Content, map_of, SortedContent}
use Rattle.jsonptr.specs.Json.{content, nodes}
use Rattle.jsonptr_tree.proofs.JsonLemmas.{content_of, null_is, bool_is, number_is, string_is, array_is}
use Rattle.jsonptr_document.proofs.JsonLevel.{object_at}
use Rattle.jsonptr_merge.specs.MergePatch.{null_label, is_null, by_patch, patched}
use Rattle.jsonptr.specs.Json.{HasSortedKeys}
use Rattle.jsonptr_merge.specs.Values.{no_value, map_in}
use Rattle.jsonptr_merge.specs.PrivateObjects.{Object, object_map, side_map, member_in, changed, KeepsMembers, ChangesMembers, SortedObject, SortedSide}
use Rattle.jsonptr_merge.proofs.PatchLaws.{at_object, replaces}
use Rattle.jsonptr_merge.proofs.ObjectLemmas.{member_label, member_map, object_label, no_place_label, found_under, found_sorted}

-- ---- which value is an object

pub no_members : (d : json.Data) → (nodes d [] ≡ Some an_object → ⊥) → (k : Text) → sub (nodes d) (key k ∷ []) ≡ no_value
no_members json.null other k = refl
no_members (json.boolean b) other k = refl
no_members (json.number n) other k = refl
no_members (json.string s) other k = refl
no_members (json.array ds) other k = refl
no_members (json.object ms) other k = absurd (other refl)

no_object : (d : json.Data) → None ≡ as_object d → nodes d [] ≡ Some an_object → ⊥
no_object json.null is h = let same = h in cc
no_object (json.boolean b) is h = let same = h in cc
no_object (json.number n) is h = let same = h in cc
no_object (json.string s) is h = let same = h in cc
no_object (json.array ds) is h = let same = h in cc
no_object (json.object ms) is h = cc

pub value_object : (v : Value) (m : Object) → Some (members_view m.entries) ≡ as_object (view v) → nodes (view v) ≡ object_map m
value_object v m is = ap map_of (object_at v m is)

pub value_other : (v : Value) → None ≡ as_object (view v) → nodes (view v) [] ≡ Some an_object → ⊥
value_other v is = no_object (view v) is

pub side_other : (side : Option (Bor Value)) → (side_map side [] ≡ Some an_object → ⊥) → (k : Text) → sub (side_map side) (key k ∷ []) ≡ no_value
side_other None other k = refl
side_other (Some v) other k = no_members (view v.now) other k

pub lacks : (m : Object) (k : Text) → get_by_text m k ≡ None → member_in m k ≡ no_value
lacks m k is = ap map_in is

-- ---- labels

same_patch : (m : Option Label) (l : Label) (kept other below own : Option Label) → m ≡ Some l → by_patch (Some an_object) m kept below own ≡ by_patch (Some an_object) m other below None
same_patch m l kept other below own is =
    ap (λ (o : Option Label). by_patch (Some an_object) o kept below own) is ∙ sym (ap (λ (o : Option Label). by_patch (Some an_object) o other below None) is)

pub changed_null : (n p : NodeMap) → p [] ≡ Some null_label → changed n p ≡ no_value
changed_null n p is = fun_ext (λ (w : Path). ap (λ (o : Option Label). by_patch (Some an_object) o None (patched n p w) None) is)

pub changed_other : (n p : NodeMap) (l : Label) → p [] ≡ Some l → is_null l ≡ false → changed n p ≡ patched n p
changed_other n p l is test = fun_ext (λ (w : Path).
    ap (λ (o : Option Label). by_patch (Some an_object) o None (patched n p w) None) is ∙ ap (λ (b : Bool). cond b None (patched n p w)) test)

pub null_of : (d : json.Data) (b : Bool) → b ≡ is_some (as_null d) → b ≡ true → nodes d [] ≡ Some null_label
null_of json.null b is h = refl
null_of (json.boolean x) b is h = absurd (true≢false (sym h ∙ is))
null_of (json.number n) b is h = absurd (true≢false (sym h ∙ is))
null_of (json.string s) b is h = absurd (true≢false (sym h ∙ is))
null_of (json.array ds) b is h = absurd (true≢false (sym h ∙ is))
null_of (json.object ms) b is h = absurd (true≢false (sym h ∙ is))

pub other_of : (d : json.Data) (b : Bool) → b ≡ is_some (as_null d) → b ≡ false → (l : Label) × (nodes d [] ≡ Some l) × (is_null l ≡ false)
other_of json.null b is h = absurd (true≢false (sym is ∙ h))
other_of (json.boolean x) b is h = (_, refl, refl)
other_of (json.number n) b is h = (_, refl, refl)
other_of (json.string s) b is h = (_, refl, refl)
other_of (json.array ds) b is h = (_, refl, refl)
other_of (json.object ms) b is h = (_, refl, refl)

pub no_some : {A B : Type 0} (a : A) → Some a ≡ None → B
no_some a e = let none : ⊥ = cc in absurd none

pub has_some : {A : Type 0} (o : Option A) → o ≡ None → IsSome o → ⊥
has_some o is some = true≢false (sym (sym (ap is_some is) ∙ some))

-- ---- members that stay

abbrev pub KeepStep : Object → Object → Text → Option Value → Object → Type 0
KeepStep changes first k o made =
    (get_by_text changes k ≡ None → get_by_text first k ≡ None → member_in made k ≡ map_in o)
    × (IsSome (get_by_text changes k) → get_by_text made k ≡ get_by_text first k)

pub keep_start : (changes first : Object) (k : Text) → KeepStep changes first k None first
keep_start changes first k = (λ _ none. ap map_in none, λ _. refl)

-- other keys
pub keep_others : (changes first old new : Object) (k : Text) (o : Option Value) → get_by_text new k ≡ get_by_text old k → KeepStep changes first k o old → KeepStep changes first k o new
keep_others changes first old new k o same h = (λ free none. ap map_in same ∙ h.0 free none, λ some. same ∙ h.1 some)

-- a member that the patch has
pub keep_passed : (changes first made : Object) (k : Text) (v : Value) → IsSome (get_by_text changes k) → KeepStep changes first k None made → KeepStep changes first k (Some v) made
keep_passed changes first made k v some h = (λ free none. absurd (has_some (get_by_text changes k) free some), h.1)

-- a member that it does not have
pub keep_kept : (changes first new : Object) (k : Text) (v w : Value) → get_by_text changes k ≡ None → get_by_text new k ≡ Some w → view w ≡ view v → KeepStep changes first k (Some v) new
keep_kept changes first new k v w free is copied = (λ _ none. ap map_in is ∙ ap nodes copied, λ some. absurd (has_some (get_by_text changes k) free some))

-- ---- members that change

abbrev pub ChangeStep : Object → Object → Text → Option Value → Object → Type 0
ChangeStep members first k o made =
    (get_by_text first k ≡ None → member_in made k ≡ changed (member_in members k) (map_in o))
    × (o ≡ None → get_by_text made k ≡ get_by_text first k)

pub change_start : (members first : Object) (k : Text) → ChangeStep members first k None first
change_start members first k = (λ none. ap map_in none, λ _. refl)

pub change_others : (members first old new : Object) (k : Text) (o : Option Value) → get_by_text new k ≡ get_by_text old k → ChangeStep members first k o old → ChangeStep members first k o new
change_others members first old new k o same h = (λ none. ap map_in same ∙ h.0 none, λ is. same ∙ h.1 is)

pub change_removed : (members first made : Object) (k : Text) (v : Value) (b : Bool) → b ≡ is_some (as_null (view v)) → b ≡ true → ChangeStep members first k None made → ChangeStep members first k (Some v) made
change_removed members first made k v b is test h = (
  λ none. h.0 none ∙ sym (changed_null (member_in members k) (nodes (view v)) (null_of (view v) b is test)),
  λ e. no_some v e,
)

pub change_made : (members first new : Object) (k : Text) (v w : Value) (side : Option (Bor Value)) (b : Bool) → b ≡ is_some (as_null (view v)) → b ≡ false → get_by_text new k ≡ Some w → nodes (view w) ≡ patched (side_map side) (nodes (view v)) → side_map side ≡ member_in members k → ChangeStep members first k (Some v) new
change_made members first new k v w side b is test there made below =
    let l = other_of (view v) b is test in (
      λ none. ap map_in there ∙ made ∙ ap (λ (n : NodeMap). patched n (nodes (view v))) below ∙ sym (changed_other (member_in members k) (nodes (view v)) l.0 l.1 l.2),
      λ e. no_some v e,
    )

-- ---- the whole

module _ (target : NodeMap) (members changes empty made last : Object) (below : (k : Text) → sub target (key k ∷ []) ≡ member_in members k) (none : (k : Text) → get_by_text empty k ≡ None)
    (keeps : KeepsMembers members changes empty made) (changes_all : ChangesMembers members changes made last) where
  by_member : (k : Text) (w : Path) (o : Option Value) → get_by_text changes k ≡ o → object_map last (key k ∷ w) ≡ patched target (object_map changes) (key k ∷ w)
  by_member k w None is =
      let here : member_in last k ≡ member_in members k = ap map_in (changes_all.others k is) ∙ keeps.kept k is (none k) in
      let root : object_map changes (key k ∷ []) ≡ None = member_label changes k [] ∙ ap (λ (o : Option Value). map_in o []) is in
      member_label last k w ∙ ap (λ (n : NodeMap). n w) (here ∙ sym (below k)) ∙ sym (at_object target (object_map changes) k w None (object_label changes) root)
  by_member k w (Some v) is =
      let some : IsSome (get_by_text changes k) = ap is_some is in
      let free : get_by_text made k ≡ None = keeps.others k some ∙ none k in
      let label : member_in changes k [] ≡ nodes (view v) [] = ap (λ (o : Option Value). map_in o []) is in
      let here : member_in last k ≡ changed (member_in members k) (member_in changes k) = changes_all.changed k free in
      member_label last k w ∙ ap (λ (n : NodeMap). n w) here
      ∙ sym (same_patch (member_in changes k []) _ (target (key k ∷ w)) None (patched (member_in members k) (member_in changes k) w) (object_map changes (key k ∷ w)) label)
      ∙ sym (at_object target (object_map changes) k w (member_in changes k []) (object_label changes) (member_label changes k [])
      ∙ ap (λ (n : NodeMap). by_patch (Some an_object) (member_in changes k []) (target (key k ∷ w)) (patched n (sub (object_map changes) (key k ∷ [])) w) (object_map changes (key k ∷ w))) (below k)
      ∙ ap (λ (n : NodeMap). by_patch (Some an_object) (member_in changes k []) (target (key k ∷ w)) (patched (member_in members k) n w) (object_map changes (key k ∷ w))) (member_map changes k))

  pub all_patched : object_map last ≡ patched target (object_map changes)
  all_patched = fun_ext go
    where
      go : (p : Path) → object_map last p ≡ patched target (object_map changes) p
      go [] = object_label last ∙ sym (object_label changes)
      go (key k ∷ w) = by_member k w (get_by_text changes k) refl
      go (place i ∷ w) = no_place_label last i w ∙ sym (no_place_label changes i w)

pub keeps_all : (members changes first made : Object) (found : Text → Option Value) → ((k : Text) → found k ≡ get_by_text members k) → ((k : Text) → KeepStep changes first k (found k) made) → KeepsMembers members changes first made
keeps_all members changes first made found all each = record {
  kept = λ k free none. (each k).0 free none ∙ ap map_in (all k);
  others = λ k some. (each k).1 some;
}

pub changes_made : (members changes first made : Object) (found : Text → Option Value) → ((k : Text) → found k ≡ get_by_text changes k) → ((k : Text) → ChangeStep members first k (found k) made) → ChangesMembers members changes first made
changes_made members changes first made found all each = record {
  changed = λ k none. (each k).0 none ∙ ap (λ (o : Option Value). changed (member_in members k) (map_in o)) (all k);
  others = λ k none. (each k).1 (all k ∙ none);
}

-- ---- a value that the code does not match as an object

other_label : (v : Value) (d : json.Data) → content_of v ≡ content d → (nodes d [] ≡ Some an_object → ⊥) → nodes (view v) [] ≡ Some an_object → ⊥
other_label v d is other h = other (sym (ap (λ (e : Content). map_of e []) is) ∙ h)

not_object_at : (v : Value) (o : Value-F Value) → out-Value v ≡ o → ((m : Object) → v ≡ an_object_of m → ⊥) → nodes (view v) [] ≡ Some an_object → ⊥
not_object_at v Value-F.Null is no_form =
    let same : v ≡ Null = search (rules, the_lemmas) in
    other_label v json.null (ap content_of same ∙ null_is) (λ h. let bad : ⊥ = cc in bad)
not_object_at v (Value-F.Bool x) is no_form =
    let same : v ≡ of_bool x = search (rules, the_lemmas) in
    other_label v (json.boolean x) (ap content_of same ∙ bool_is x) (λ h. let bad : ⊥ = cc in bad)
not_object_at v (Value-F.Number x) is no_form =
    let same : v ≡ of_number x = search (rules, the_lemmas) in
    other_label v (json.number (number_view x)) (ap content_of same ∙ number_is x) (λ h. let bad : ⊥ = cc in bad)
not_object_at v (Value-F.String x) is no_form =
    let same : v ≡ of_string x = search (rules, the_lemmas) in
    other_label v (json.string (string_bytes x)) (ap content_of same ∙ string_is x) (λ h. let bad : ⊥ = cc in bad)
not_object_at v (Value-F.Array x) is no_form =
    let same : v ≡ Array x = search (rules, the_lemmas) in
    λ h. let label = sym (ap (λ (e : Content). map_of e []) (ap content_of same ∙ array_is x)) ∙ h in let bad : ⊥ = cc in bad
not_object_at v (Value-F.Object m) is no_form = absurd (no_form m (search (rules, the_lemmas)))

pub not_object : (v : Value) → ((m : Object) → v ≡ an_object_of m → ⊥) → nodes (view v) [] ≡ Some an_object → ⊥
not_object v no_form = not_object_at v (out-Value v) refl no_form

-- a patch that is no object
pub patch_other : (target : NodeMap) (patch : Value) (made : json.Data) → ((m : Object) → patch ≡ an_object_of m → ⊥) → made ≡ view patch → nodes made ≡ patched target (nodes (view patch))
patch_other target patch made no_form is = ap nodes is ∙ sym (replaces target (nodes (view patch)) (not_object patch no_form))

-- ---- what calls of std say

pub has_key : (m : Object) (k s : Text) (b : Bool) → s ≡ k → b ≡ is_some (get_by_text m s) → b ≡ true → IsSome (get_by_text m k)
has_key m k s b same is h = subst (λ (t : Text). IsSome (get_by_text m t)) same (sym is ∙ h)

pub lacks_key : (m : Object) (k s : Text) (b : Bool) → s ≡ k → b ≡ is_some (get_by_text m s) → b ≡ false → get_by_text m k ≡ None
lacks_key m k s b same is h = subst (λ (t : Text). get_by_text m t ≡ None) same (by_value (get_by_text m s) (sym is ∙ h))
  where
    by_value : (o : Option Value) → is_some o ≡ false → o ≡ None
    by_value None e = refl
    by_value (Some v) e = absurd (true≢false e)

pub side_found : (side : Option (Bor Value)) (m : Object) (k s : Text) → s ≡ k → option_copied side ≡ get_by_text m s → side_map side ≡ member_in m k
side_found side m k s same is = by_value side is ∙ ap (member_in m) same
  where
    by_value : (o : Option (Bor Value)) → option_copied o ≡ get_by_text m s → side_map o ≡ member_in m s
    by_value None e = ap map_in e
    by_value (Some v) e = ap map_in e

-- a value that `get` finds has its keys in order if the object has
pub side_sorted : (side : Option (Bor Value)) (m : Object) (k s : Text) → s ≡ k → option_copied side ≡ get_by_text m s → SortedObject m → SortedSide side
side_sorted side m k s same is sorted = by_value side is
  where
    by_value : (o : Option (Bor Value)) → option_copied o ≡ get_by_text m s → SortedSide o
    by_value None e = tt
    by_value (Some v) e = found_sorted m s v.now sorted (sym e)

pub null_sorted : HasSortedKeys (view Null)
null_sorted = subst SortedContent (sym null_is) tt

pub copy_sorted : (v : Value) (d : json.Data) → view v ≡ d → HasSortedKeys d → HasSortedKeys (view v)
copy_sorted v d is sorted = subst HasSortedKeys (sym is) sorted

pub empty_lacks : (m : Object) → m.entries ≡ [] → (k : Text) → get_by_text m k ≡ None
empty_lacks m is k = ap (found_under k) is

pub ok_copy : (r : Result Value AllocError) (d : json.Data) (P : json.Data → Type 0) → ((v : Value) → view v ≡ d → P (view v)) → IfOk r (λ v. view v ≡ d) → IfOk r (λ v. P (view v))
ok_copy (Ok v) d P step h = step v h
ok_copy (Err e) d P step h = h
