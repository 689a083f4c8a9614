-- MergePatch of RFC 7396, section 2.
use Rattle.std.proofs.Common.{◌≡◌, ◌≢◌, Bool, false, cond, [], ◌∷◌, Option, Some, None, refl, ap, ◌∙◌}
use mathlib.Core.Path.{fun_ext}
use Rattle.serde_json.specs.Data.{null, boolean, number, string, array, object}
use Rattle.jsonptr.specs.Text.{Text}
use Rattle.jsonptr.specs.Node.{key, place, Path, of_json, of_toml, Label, an_object, an_array, a_leaf, NodeMap, sub}
use Rattle.jsonptr_merge.specs.Values.{no_value}
use Rattle.jsonptr_merge.specs.MergePatch.{null_label, is_null, by_patch, patched}

own_root : (root : Option Label) → (root ≡ Some an_object → ⊥) → (member kept below own : Option Label) → by_patch root member kept below own ≡ own
own_root (Some an_object) other member kept below own = absurd (other refl)
own_root (Some (an_array n)) other member kept below own = refl
own_root (Some (a_leaf v)) other member kept below own = refl
own_root None other member kept below own = refl

pub replaces : (n p : NodeMap) → p [] ≢ Some an_object → patched n p ≡ p
replaces n p other = fun_ext go
  where
    go : (w : Path) → patched n p w ≡ p w
    go [] = refl
    go (key k ∷ w) = own_root (p []) other _ _ _ _
    go (place i ∷ w) = refl

pub at_object : (n p : NodeMap) (k : Text) (w : Path) (member : Option Label) → p [] ≡ Some an_object → p (key k ∷ []) ≡ member → patched n p (key k ∷ w) ≡ by_patch (Some an_object) member (n (key k ∷ w)) (patched (sub n (key k ∷ [])) (sub p (key k ∷ [])) w) (p (key k ∷ w))
at_object n p k w member root is =
    ap (λ (r : Option Label). by_patch r (p (key k ∷ [])) (n (key k ∷ w)) (patched (sub n (key k ∷ [])) (sub p (key k ∷ [])) w) (p (key k ∷ w))) root
    ∙ ap (λ (m : Option Label). by_patch (Some an_object) m (n (key k ∷ w)) (patched (sub n (key k ∷ [])) (sub p (key k ∷ [])) w) (p (key k ∷ w))) is

pub absent : (n p : NodeMap) (k : Text) → p [] ≡ Some an_object → p (key k ∷ []) ≡ None → sub (patched n p) (key k ∷ []) ≡ sub n (key k ∷ [])
absent n p k root is = fun_ext (λ (w : Path). at_object n p k w None root is)

pub removes : (n p : NodeMap) (k : Text) → p [] ≡ Some an_object → p (key k ∷ []) ≡ Some null_label → sub (patched n p) (key k ∷ []) ≡ no_value
removes n p k root is = fun_ext (λ (w : Path). at_object n p k w (Some null_label) root is)

pub not_null : (l : Label) → l ≢ null_label → is_null l ≡ false
not_null an_object other = refl
not_null (an_array n) other = refl
not_null (a_leaf (of_toml d)) other = refl
not_null (a_leaf (of_json null)) other = absurd (other refl)
not_null (a_leaf (of_json (boolean b))) other = refl
not_null (a_leaf (of_json (number n))) other = refl
not_null (a_leaf (of_json (string s))) other = refl
not_null (a_leaf (of_json (array ds))) other = refl
not_null (a_leaf (of_json (object ms))) other = refl

pub merges : (n p : NodeMap) (k : Text) (l : Label) → p [] ≡ Some an_object → p (key k ∷ []) ≡ Some l → l ≢ null_label → sub (patched n p) (key k ∷ []) ≡ patched (sub n (key k ∷ [])) (sub p (key k ∷ []))
merges n p k l root is other = fun_ext (λ (w : Path).
    at_object n p k w (Some l) root is ∙ ap (λ (b : Bool). cond b None (patched (sub n (key k ∷ [])) (sub p (key k ∷ [])) w)) (not_null l other))
