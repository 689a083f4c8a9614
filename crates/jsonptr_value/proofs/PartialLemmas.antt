-- What the partial make, when one comes onto them.
use Rattle.std.proofs.Common.{◌≡◌, ℕ, ◌+◌, List, [], ◌∷◌, ◌++◌, length, refl, sym, ap, ◌∙◌, subst, append_assoc, string_bytes, arith}
use Rattle.std.specs.List.Sorted.{IsStrictlySortedBy}
use Rattle.std.specs.Map.{keys_of}
use Rattle.std.specs.String.{string_cmp}
use Rattle.serde_json.specs.Data.{Data, Items, no_items, item, Members, no_members, member, put}
use Rattle.serde_json.specs.View.{view, items_view, members_view}
use Rattle.serde_json.specs.declared.value.Value.{Value}
use Rattle.serde_json.proofs.Views.{Entry, put_last}
use Rattle.jsonptr_value.specs.declared.partial.PartialCopy.{PartialCopy}
use Rattle.jsonptr_value.specs.PrivatePartial.{join_items, join_members, filled, completed, IsPartial, ArePartial, partial_length, copies_length}

pub no_length : (vs : List Value) → length vs ≡ 0 → vs ≡ []
no_length [] e = refl
no_length (v ∷ vs) e = absurd (omega (arith, e))

pub completed-push : (hs : List PartialCopy) (h : PartialCopy) (d : Data) → completed (hs ++ h ∷ []) d ≡ completed hs (filled h d)
completed-push [] h d = refl
completed-push (g ∷ hs) h d = ap (filled g) (completed-push hs h d)

pub partial-push : (hs : List PartialCopy) (h : PartialCopy) → ArePartial hs → IsPartial h → ArePartial (hs ++ h ∷ [])
partial-push [] h before last = (last, tt)
partial-push (g ∷ hs) h before last = (before.0, partial-push hs h before.1 last)

pub partial-pop : (hs : List PartialCopy) (h : PartialCopy) → ArePartial (hs ++ h ∷ []) → ArePartial hs × IsPartial h
partial-pop [] h all = (tt, all.0)
partial-pop (g ∷ hs) h all = let rest = partial-pop hs h all.1 in ((all.0, rest.0), rest.1)

pub copies_length-push : (hs : List PartialCopy) (h : PartialCopy) → copies_length (hs ++ h ∷ []) ≡ copies_length hs + partial_length h
copies_length-push [] h = omega arith
copies_length-push (g ∷ hs) h = let rest = copies_length-push hs h in omega (arith, rest)

pub join_items-none : (ds : Items) → join_items ds no_items ≡ ds
join_items-none no_items = refl
join_items-none (item d ds) = ap (item d) (join_items-none ds)

pub join_members-none : (ms : Members) → join_members ms no_members ≡ ms
join_members-none no_members = refl
join_members-none (member k d ms) = ap (member k d) (join_members-none ms)

-- a copy that is appended stands before what is left
pub join_items-append : (vs : List Value) (v : Value) (ds : Items) → join_items (items_view (vs ++ v ∷ [])) ds ≡ join_items (items_view vs) (item (view v) ds)
join_items-append [] v ds = refl
join_items-append (w ∷ vs) v ds = ap (item (view w)) (join_items-append vs v ds)

pub join_members-append : (es : List Entry) (e : Entry) (ms : Members) → join_members (members_view (es ++ e ∷ [])) ms ≡ join_members (members_view es) (member (string_bytes e.0) (view e.1) ms)
join_members-append [] e ms = refl
join_members-append (f ∷ es) e ms = ap (member (string_bytes f.0) (view f.1)) (join_members-append es e ms)

-- the keys stay when a member gets another value
pub keys-same : (done : List Entry) (now : Entry) (v : Value) (left : List Entry) → keys_of (done ++ (now.0, v) ∷ left) ≡ keys_of (done ++ now ∷ left)
keys-same [] now v left = refl
keys-same (e ∷ done) now v left = ap (λ ks. e.0 ∷ ks) (keys-same done now v left)

-- a member whose key comes next goes last
pub member_last : (copies new : List Entry) (k : List ℕ) (v : Value) (done : List Entry) (now : Entry) (left : List Entry)
    → members_view new ≡ put k (view v) (members_view copies) → members_view copies ≡ members_view done → k ≡ string_bytes now.0 → IsStrictlySortedBy string_cmp (keys_of (done ++ now ∷ left))
    → members_view new ≡ members_view (done ++ (now.0, v) ∷ [])
member_last copies new k v done now left added same named sorted =
    let e : Entry = (now.0, v) in
    let last = put_last done e left (subst (IsStrictlySortedBy string_cmp) (sym (keys-same done now v left)) sorted) in
    added ∙ rw (named, same) last

pub sorted_after : (done : List Entry) (now : Entry) (v : Value) (left : List Entry) → IsStrictlySortedBy string_cmp (keys_of (done ++ now ∷ left)) → IsStrictlySortedBy string_cmp (keys_of ((done ++ (now.0, v) ∷ []) ++ left))
sorted_after done now v left sorted =
    let e : Entry = (now.0, v) in
    subst (IsStrictlySortedBy string_cmp) (sym (keys-same done now v left) ∙ ap (λ (es : List Entry). keys_of es) (sym (append_assoc done (e ∷ []) left))) sorted
