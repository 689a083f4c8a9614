-- What the code that makes a merge patch makes.
use Rattle.std.proofs.Common.{◌≡◌, ◌⊎◌, inl, inr, Bool, true, false, is_some, cond, List, [], ◌∷◌, ◌++◌, Option, Some, None, IsSome, refl, sym, ap, ◌∙◌, subst, true≢false, string_bytes, string_cmp, append_assoc}
use Rattle.std.specs.List.Sorted.{IsStrictlySortedBy}
use Rattle.std.specs.Map.{keys_of}
use Rattle.serde_json.proofs.Views.{Entry}
use Rattle.std.specs.Borrow.{Bor}
use mathlib.Core.Path.{fun_ext}
use Rattle.std.specs.BTreeMap.{get_by_text}
use Rattle.serde_json.specs.Data as json
use Rattle.serde_json.specs.Find.{as_null}
use Rattle.serde_json.specs.View.{view}
use Rattle.serde_json.specs.declared.value.Value.{Value, Null, Object as an_object_of}
use Rattle.std.specs.Prelude.{Err}
use Rattle.jsonptr.specs.Fault.{IfRefused}
use Rattle.jsonptr.specs.Types.Fault.{Fault}
use Rattle.jsonptr.specs.Types.Fault.TheVariants.{Refused, Memory}
use Rattle.jsonptr.specs.Text.{Text}
use Rattle.jsonptr.specs.Node.{key, place, Path, Label, an_object, NodeMap, sub}
use Rattle.jsonptr.specs.Content.{Content, map_of}
use Rattle.jsonptr.specs.Json.{nodes}
use Rattle.jsonptr_tree.proofs.JsonLemmas.{null_is}
use Rattle.jsonptr_merge.specs.MergePatch.{null_label, is_null, by_patch, patched}
use Rattle.jsonptr_patch_diff.specs.Diff.{keys}
use Rattle.jsonptr_merge.specs.Values.{map_in, IsBefore}
use Rattle.jsonptr_merge.specs.PrivateObjects.{Object, object_map, side_map, member_in}
use Rattle.jsonptr_merge.specs.PrivateMaking.{Removes, IsMade, MakesChanges, IsFirstBelow, IsFirstUnder, IsFirstOfMembers}
use Rattle.jsonptr_merge.specs.Making.{LeadsToNewNull, IsNewNull, IsFirstNewNull, AreWithinDepth, IsMergePatchError}
use Rattle.jsonptr_merge.specs.declared.error.MergePatchError.{MergePatchError}
use Rattle.jsonptr_merge.specs.declared.error.MergePatchError.TheVariants.{NullMember, TooDeep}
use Rattle.jsonptr_merge.proofs.PatchLaws.{at_object, replaces}
use Rattle.jsonptr_merge.proofs.ObjectLemmas.{member_label, member_map, object_label, no_place_label, found_under, found_cases, entry_found, entry_earlier}
use Rattle.jsonptr_merge.proofs.MakingLaws.{one_label, leads_nowhere}
use Rattle.jsonptr_merge.proofs.MergeLaws.{nothing_above}
use Rattle.jsonptr_merge.proofs.PatchLemmas.{no_some, has_some, null_of, other_of, not_object}

-- ---- members that are removed

abbrev pub RemoveStep : Object → Object → Text → Option Value → Object → Type 0
RemoveStep members first k found made =
    (IsSome found → get_by_text members k ≡ None → get_by_text first k ≡ None → get_by_text made k ≡ Some Null)
    × (found ≡ None → get_by_text made k ≡ get_by_text first k)
    × (IsSome (get_by_text members k) → get_by_text made k ≡ get_by_text first k)

pub remove_others_step : (members first old new : Object) (k : Text) (f : Option Value) → get_by_text new k ≡ get_by_text old k → RemoveStep members first k f old → RemoveStep members first k f new
remove_others_step members first old new k f same h = (λ some x y. same ∙ h.0 some x y, λ is. same ∙ h.1 is, λ some. same ∙ h.2 some)

pub remove_passed : (members first made : Object) (k : Text) (v : Value) → IsSome (get_by_text members k) → RemoveStep members first k None made → RemoveStep members first k (Some v) made
remove_passed members first made k v has h = (λ some x y. absurd (has_some (get_by_text members k) x has), λ e. no_some v e, h.2)

pub remove_made : (members first new : Object) (k : Text) (v : Value) → get_by_text members k ≡ None → get_by_text new k ≡ Some Null → RemoveStep members first k (Some v) new
remove_made members first new k v lacks is = (λ some x y. is, λ e. no_some v e, λ some. absurd (has_some (get_by_text members k) lacks some))

pub remove_all : (before members first made : Object) (found : Text → Option Value) → ((k : Text) → found k ≡ get_by_text before k) → ((k : Text) → RemoveStep members first k (found k) made) → Removes before members first made
remove_all before members first made found all each = record {
  removed = λ k some lacks free. (each k).0 (subst (λ (f : Option Value). IsSome f) (sym (all k)) some) lacks free;
  others = λ k none. (each k).1 (all k ∙ none);
  kept = λ k some. (each k).2 some;
}

-- ---- members that are made

abbrev pub MakeStep : Object → Object → Text → Option Value → Object → Type 0
MakeStep before first k found made =
    (IsSome found → get_by_text first k ≡ None → IsMade before k (map_in found) made)
    × (found ≡ None → get_by_text made k ≡ get_by_text first k)

made_same : (before old new : Object) (k : Text) (n : NodeMap) → get_by_text new k ≡ get_by_text old k → IsMade before k n old → IsMade before k n new
made_same before old new k n same (inl h) = inl (same ∙ h.0, h.1)
made_same before old new k n same (inr h) =
    let maps : member_in new k ≡ member_in old k = ap map_in same in
    inr (h.0, ap (λ (m : NodeMap). m []) maps ∙ h.1, h.2, ap (λ (m : NodeMap). patched (member_in before k) m) maps ∙ h.3)

pub make_others : (before first old new : Object) (k : Text) (f : Option Value) → get_by_text new k ≡ get_by_text old k → MakeStep before first k f old → MakeStep before first k f new
make_others before first old new k f same h = (λ some free. made_same before old new k (map_in f) same (h.0 some free), λ is. same ∙ h.1 is)

pub make_passed : (before first made : Object) (k : Text) (v : Value) (side : Option (Bor Value)) → side_map side ≡ member_in before k → side_map side ≡ nodes (view v) → MakeStep before first k None made → MakeStep before first k (Some v) made
make_passed before first made k v side is same h = (λ some free. inl (h.1 refl ∙ free, sym is ∙ same), λ e. no_some v e)

pub make_made : (before first new : Object) (k : Text) (v w : Value) (side : Option (Bor Value)) (b : Bool) → b ≡ is_some (as_null (view v)) → b ≡ false → side_map side ≡ member_in before k → get_by_text new k ≡ Some w → patched (side_map side) (nodes (view w)) ≡ nodes (view v) → MakeStep before first k (Some v) new
make_made before first new k v w side b is test below there made =
    let l = other_of (view v) b is test in
    let maps : member_in new k ≡ nodes (view w) = ap map_in there in (
      λ some free. inr (
        l.0,
        ap (λ (m : NodeMap). m []) maps ∙ ap (λ (m : NodeMap). m []) made ∙ l.1,
        l.2,
        ap (λ (m : NodeMap). patched (member_in before k) m) maps ∙ ap (λ (n : NodeMap). patched n (nodes (view w))) (sym below) ∙ made,
      ),
      λ e. no_some v e,
    )

pub make_all : (before members first made : Object) (found : Text → Option Value) → ((k : Text) → found k ≡ get_by_text members k) → ((k : Text) → MakeStep before first k (found k) made) → MakesChanges before members first made
make_all before members first made found all each = record {
  made = λ k some free. subst (λ (f : Option Value). IsMade before k (map_in f) made) (all k) ((each k).0 (subst (λ (f : Option Value). IsSome f) (sym (all k)) some) free);
  others = λ k none. (each k).1 (all k ∙ none);
}

-- ---- no new `null`

abbrev pub HasNone : Object → Object → List Entry → Type 0
HasNone before members done =
    (k : Text) (ts : List Text) → IsSome (found_under k done) → LeadsToNewNull (member_in before k) (member_in members k) ts → ⊥

pub none_start : (before members : Object) → HasNone before members []
none_start before members k ts some h = true≢false (sym some)

pub none_more : (before members : Object) (done : List Entry) (e : Entry) → HasNone before members done → ((ts : List Text) → LeadsToNewNull (member_in before (string_bytes e.0)) (member_in members (string_bytes e.0)) ts → ⊥) → HasNone before members (done ++ e ∷ [])
none_more before members done e none here k ts some h = by_case (found_cases done e k some)
  where
    by_case : IsSome (found_under k done) ⊎ (string_bytes e.0 ≡ k) → ⊥
    by_case (inl there) = none k ts there h
    by_case (inr same) = here ts (subst (λ (l : Text). LeadsToNewNull (member_in before l) (member_in members l) ts) (sym same) h)

-- a member that is the same
pub same_none : (n m : NodeMap) (ts : List Text) → n ≡ m → LeadsToNewNull n m ts → ⊥
same_none n m ts same h = h.not_before (ap (λ (l : NodeMap). l (keys ts)) same ∙ h.null)

-- a member that a patch makes
pub made_none : (n m : NodeMap) (v w : Value) (side : Option (Bor Value)) (b : Bool) (ts : List Text) → b ≡ is_some (as_null (view v)) → b ≡ false → side_map side ≡ n → m ≡ nodes (view v) → patched (side_map side) (nodes (view w)) ≡ nodes (view v) → LeadsToNewNull n m ts → ⊥
made_none n m v w side b ts is test below there made h =
    let l = other_of (view v) b is test in
    leads_nowhere ts n m (nodes (view w)) l.0 (ap (λ (x : NodeMap). x []) made ∙ l.1) l.2 h (ap (λ (x : NodeMap). patched x (nodes (view w))) (sym below) ∙ made ∙ sym there)

null_data : (d : json.Data) → nodes d [] ≡ Some null_label → d ≡ json.null
null_data json.null is = refl
null_data (json.boolean b) is = let none : ⊥ = cc in absurd none
null_data (json.number n) is = let none : ⊥ = cc in absurd none
null_data (json.string s) is = let none : ⊥ = cc in absurd none
null_data (json.array ds) is = let none : ⊥ = cc in absurd none
null_data (json.object ms) is = let none : ⊥ = cc in absurd none

-- a value that is not the same as a `null` is none
not_null_before : (side : Option (Bor Value)) (v : Value) → nodes (view v) [] ≡ Some null_label → (side_map side ≡ nodes (view v) → ⊥) → side_map side [] ≡ Some null_label → ⊥
not_null_before None v is other h = let none : ⊥ = cc in none
not_null_before (Some u) v is other h = other (ap nodes (null_data (view u.now) h ∙ sym (null_data (view v) is)))

not_before_root : (ts : List Text) → IsBefore ts [] → ⊥
not_before_root [] h = h
not_before_root (x ∷ ts) h = h

leads_some : (before members : Object) (k : Text) (ts : List Text) → LeadsToNewNull (member_in before k) (member_in members k) ts → IsSome (get_by_text members k)
leads_some before members k ts h = by_value (get_by_text members k) h.null
  where
    by_value : (o : Option Value) → map_in o (keys ts) ≡ Some null_label → IsSome o
    by_value None e = let none : ⊥ = cc in absurd none
    by_value (Some v) e = refl

-- the first new `null`, at an entry or in it
module _ (before members : Object) (done : List Entry) (e : Entry) (more : List Entry) (is : members.entries ≡ done ++ e ∷ more) (ordered : IsStrictlySortedBy string_cmp (keys_of members.entries)) (none : HasNone before members done) where
  none_below : (rest : List Text) → ((us : List Text) → LeadsToNewNull (member_in before (string_bytes e.0)) (member_in members (string_bytes e.0)) us → IsBefore us rest → ⊥)
      → (l : Text) (us : List Text) → LeadsToNewNull (member_in before l) (member_in members l) us → IsBefore (l ∷ us) (string_bytes e.0 ∷ rest) → ⊥
  none_below rest here l us h (inl less) = none l us (entry_earlier members done e more is ordered l less (leads_some before members l us h)) h
  none_below rest here l us h (inr same) = here us (subst (λ (k : Text). LeadsToNewNull (member_in before k) (member_in members k) us) same.0 h) same.1

  pub first_here : (side : Option (Bor Value)) (b : Bool) → b ≡ is_some (as_null (view e.1)) → b ≡ true → side_map side ≡ member_in before (string_bytes e.0) → (side_map side ≡ nodes (view e.1) → ⊥) → IsFirstUnder before members (string_bytes e.0) []
  first_here side b test is_true below other =
      let there : member_in members (string_bytes e.0) ≡ nodes (view e.1) = ap map_in (entry_found members done e more is ordered) in
      let root : nodes (view e.1) [] ≡ Some null_label = null_of (view e.1) b test is_true in
      record {
        leads = record {
          null = ap (λ (n : NodeMap). n []) there ∙ root;
          not_before = λ h. not_null_before side e.1 root other (ap (λ (n : NodeMap). n []) below ∙ h);
          above = λ front x rest split. absurd (nothing_above front x rest split);
        };
        first = none_below [] (λ us h earlier. not_before_root us earlier);
      }

  pub first_below : (side : Option (Bor Value)) (b : Bool) (rest : List Text) → b ≡ is_some (as_null (view e.1)) → b ≡ false → side_map side ≡ member_in before (string_bytes e.0) → IsFirstNewNull (side_map side) (nodes (view e.1)) rest → IsFirstUnder before members (string_bytes e.0) rest
  first_below side b rest test is_false below h =
      let there : member_in members (string_bytes e.0) ≡ nodes (view e.1) = ap map_in (entry_found members done e more is ordered) in
      record {
        leads = subst (λ (n : NodeMap). LeadsToNewNull n (member_in members (string_bytes e.0)) rest) below (subst (λ (m : NodeMap). LeadsToNewNull (side_map side) m rest) (sym there) h.0.1);
        first = none_below rest (λ us leads earlier. h.1 us (not_root us (subst (λ (n : NodeMap). LeadsToNewNull n (nodes (view e.1)) us) (sym below) (subst (λ (m : NodeMap). LeadsToNewNull (member_in before (string_bytes e.0)) m us) there leads))) earlier);
      }
    where
      not_root : (us : List Text) → LeadsToNewNull (side_map side) (nodes (view e.1)) us → IsNewNull (side_map side) (nodes (view e.1)) us
      not_root [] leads =
          let l = other_of (view e.1) b test is_false in
          let same : l.0 ≡ null_label = one_label l.0 null_label (sym l.1 ∙ leads.null) in
          absurd (true≢false (ap is_null (sym same) ∙ l.2))
      not_root (x ∷ us) leads = (λ split. (let bad : ⊥ = cc in bad), leads)

  pub first_under : (base : List Text) (s : Text) (side : Option (Bor Value)) (b : Bool) → s ≡ string_bytes e.0 → b ≡ is_some (as_null (view e.1)) → b ≡ false → side_map side ≡ member_in before (string_bytes e.0) → (f : MergePatchError) → IsFirstBelow (base ++ s ∷ []) (side_map side) (nodes (view e.1)) f → IsFirstOfMembers base before members f
  first_under base s side b same test is_false below (NullMember path) h = (string_bytes e.0, h.0, h.1 ∙ append_assoc base (s ∷ []) h.0 ∙ ap (λ (x : Text). base ++ x ∷ h.0) same, first_below side b h.0 test is_false below h.2)
  first_under base s side b same test is_false below TooDeep h = h

-- an error that is passed on
pub refused_step : (T U : Type 0) (f : Fault MergePatchError) (P Q : MergePatchError → Type 0) → ((e : MergePatchError) → P e → Q e) → IfRefused {T = T} (Err f) P → IfRefused {T = U} (Err f) Q
refused_step T U (Refused e) P Q step h = step e h
refused_step T U (Memory e) P Q step h = tt

-- the first of the members is the first of the object
module _ (target : NodeMap) (before members : Object) (below : (k : Text) → sub target (key k ∷ []) ≡ member_in before k) where
  leads_over : (k : Text) (rest : List Text) → LeadsToNewNull (member_in before k) (member_in members k) rest → LeadsToNewNull target (object_map members) (k ∷ rest)
  leads_over k rest h = record {
    null = member_label members k (keys rest) ∙ h.null;
    not_before = λ is. h.not_before (sym (ap (λ (n : NodeMap). n (keys rest)) (below k)) ∙ is);
    above = above;
  }
    where
      parts : (y : Text) (front more : List Text) → k ∷ rest ≡ y ∷ (front ++ more) → (k ≡ y) × (rest ≡ front ++ more)
      parts y front more is = (cc, cc)

      above : (front : List Text) (x : Text) (more : List Text) → k ∷ rest ≡ front ++ x ∷ more → object_map members (keys front) ≡ Some an_object
      above [] x more is = object_label members
      above (y ∷ front) x more is =
          let two = parts y front (x ∷ more) is in
          subst (λ (z : Text). object_map members (key z ∷ keys front) ≡ Some an_object) two.0 (member_label members k (keys front) ∙ h.above front x more two.1)

  leads_under : (k : Text) (rest : List Text) → LeadsToNewNull target (object_map members) (k ∷ rest) → LeadsToNewNull (member_in before k) (member_in members k) rest
  leads_under k rest h = record {
    null = sym (member_label members k (keys rest)) ∙ h.null;
    not_before = λ is. h.not_before (ap (λ (n : NodeMap). n (keys rest)) (below k) ∙ is);
    above = λ front x more is. sym (member_label members k (keys front)) ∙ h.above (k ∷ front) x more (ap (λ (us : List Text). k ∷ us) is);
  }

  first_over : (k : Text) (rest : List Text) → IsFirstUnder before members k rest → IsFirstNewNull target (object_map members) (k ∷ rest)
  first_over k rest h = ((λ is. (let bad : ⊥ = cc in bad), leads_over k rest h.leads), go)
    where
      go : (us : List Text) → IsNewNull target (object_map members) us → IsBefore us (k ∷ rest) → ⊥
      go [] leads earlier = leads.0 refl
      go (l ∷ us) leads earlier = h.first l us (leads_under l us leads.1) earlier

  pub first_of_all : (base : List Text) (e : MergePatchError) → IsFirstOfMembers base before members e → IsFirstBelow base target (object_map members) e
  first_of_all base (NullMember path) h = (h.0 ∷ h.1, h.2, first_over h.0 h.1 h.3)
  first_of_all base TooDeep h = h

-- of a document
pub first_of_document : (old new : json.Data) (e : MergePatchError) → AreWithinDepth old new → IsFirstBelow [] (nodes old) (nodes new) e → IsMergePatchError old new e
first_of_document old new (NullMember path) within h = (within, subst (IsFirstNewNull (nodes old) (nodes new)) (sym h.1) h.2)
first_of_document old new TooDeep within h = absurd h

-- the root of `null`
null_root : nodes (view Null) [] ≡ Some null_label
null_root = ap (λ (c : Content). map_of c []) null_is

-- ---- the whole

module _ (target : NodeMap) (before members empty middle last : Object) (below : (k : Text) → sub target (key k ∷ []) ≡ member_in before k) (none : (k : Text) → get_by_text empty k ≡ None)
    (removes : Removes before members empty middle) (changes : MakesChanges before members middle last) where
  at_key : (k : Text) (w : Path) (o : Option Label) → member_in last k [] ≡ o → patched target (object_map last) (key k ∷ w) ≡ by_patch (Some an_object) o (member_in before k w) (patched (member_in before k) (member_in last k) w) (object_map last (key k ∷ w))
  at_key k w o is =
      at_object target (object_map last) k w o (object_label last) (member_label last k [] ∙ is)
      ∙ ap (λ (n : NodeMap). by_patch (Some an_object) o (n w) (patched n (sub (object_map last) (key k ∷ [])) w) (object_map last (key k ∷ w))) (below k)
      ∙ ap (λ (n : NodeMap). by_patch (Some an_object) o (member_in before k w) (patched (member_in before k) n w) (object_map last (key k ∷ w))) (member_map last k)

  nothing_there : (k : Text) → get_by_text last k ≡ None → member_in last k [] ≡ None
  nothing_there k is = ap (λ (o : Option Value). map_in o []) is

  by_change : (k : Text) (w : Path) → IsMade before k (member_in members k) last → patched target (object_map last) (key k ∷ w) ≡ member_in members k w
  by_change k w (inl h) = at_key k w None (nothing_there k h.0) ∙ ap (λ (n : NodeMap). n w) h.1
  by_change k w (inr h) = at_key k w (Some h.0) h.1 ∙ ap (λ (b : Bool). cond b None (patched (member_in before k) (member_in last k) w)) h.2 ∙ ap (λ (n : NodeMap). n w) h.3

  by_member : (k : Text) (w : Path) (x y : Option Value) → get_by_text members k ≡ x → get_by_text before k ≡ y → patched target (object_map last) (key k ∷ w) ≡ member_in members k w
  by_member k w (Some v) y is other =
      let some : IsSome (get_by_text members k) = ap is_some is in
      by_change k w (changes.made k some (removes.kept k some ∙ none k))
  by_member k w None (Some u) is other =
      let there : get_by_text last k ≡ Some Null = changes.others k is ∙ removes.removed k (ap is_some other) is (none k) in
      at_key k w (Some null_label) (ap (λ (o : Option Value). map_in o []) there ∙ null_root) ∙ sym (ap (λ (o : Option Value). map_in o w) is)
  by_member k w None None is other =
      let free : get_by_text last k ≡ None = changes.others k is ∙ removes.others k other ∙ none k in
      at_key k w None (nothing_there k free) ∙ ap (λ (o : Option Value). map_in o w) other ∙ sym (ap (λ (o : Option Value). map_in o w) is)

  pub makes : patched target (object_map last) ≡ object_map members
  makes = fun_ext go
    where
      go : (p : Path) → patched target (object_map last) p ≡ object_map members p
      go [] = object_label last ∙ sym (object_label members)
      go (key k ∷ w) = by_member k w (get_by_text members k) (get_by_text before k) refl refl ∙ sym (member_label members k w)
      go (place i ∷ w) = no_place_label last i w ∙ sym (no_place_label members i w)

-- a document that is no object
pub makes_other : (target : NodeMap) (new : Value) (made : json.Data) → ((m : Object) → new ≡ an_object_of m → ⊥) → made ≡ view new → patched target (nodes made) ≡ nodes (view new)
makes_other target new made no_form is =
    ap (λ (d : json.Data). patched target (nodes d)) is ∙ replaces target (nodes (view new)) (not_object new no_form)
