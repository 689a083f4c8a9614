-- A member that is newly `null` rules out a merge patch.
use Rattle.std.proofs.Common.{◌≡◌, ◌≢◌, Bool, true, false, cond, List, [], ◌∷◌, Option, Some, None, refl, sym, ap, ◌∙◌, subst, true≢false}
use mathlib.Core.Path.{fun_ext}
use Rattle.jsonptr.specs.Text.{Text}
use Rattle.jsonptr.specs.Node.{key, Path, Label, an_object, NodeMap, sub}
use Rattle.jsonptr_merge.specs.MergePatch.{null_label, is_null, by_patch, patched}
use Rattle.jsonptr_patch_diff.specs.Diff.{keys}
use Rattle.jsonptr_merge.specs.Making.{LeadsToNewNull, IsNewNull}
use Rattle.jsonptr_merge.proofs.PatchLaws.{at_object}

no_none : {B : Type 0} (l : Label) → None ≡ Some l → B
no_none l e = let none : ⊥ = cc in absurd none

pub one_label : (l m : Label) → Some l ≡ Some m → l ≡ m
one_label l m e = cc

-- what is below a key, if the root of the patch is an object
module _ (old new p : NodeMap) (k : Text) (w : Path) (made : patched old p ≡ new) (root : new [] ≡ Some an_object) (null : new (key k ∷ w) ≡ Some null_label) (before : old (key k ∷ w) ≢ Some null_label) where
  patch_root : p [] ≡ Some an_object
  patch_root = ap (λ (m : NodeMap). m []) made ∙ root

  at_key : (v : Path) (member : Option Label) → p (key k ∷ []) ≡ member → by_patch (Some an_object) member (old (key k ∷ v)) (patched (sub old (key k ∷ [])) (sub p (key k ∷ [])) v) (p (key k ∷ v)) ≡ new (key k ∷ v)
  at_key v member is = sym (at_object old p k v member patch_root is) ∙ ap (λ (m : NodeMap). m (key k ∷ v)) made

  -- the patch has a member there, which is not null
  pub has_member : (member : Option Label) → p (key k ∷ []) ≡ member → (l : Label) × (p (key k ∷ []) ≡ Some l) × (is_null l ≡ false)
  has_member None is = absurd (before (at_key w None is ∙ null))
  has_member (Some l) is = by_test (is_null l) refl
    where
      by_test : (b : Bool) → is_null l ≡ b → (m : Label) × (p (key k ∷ []) ≡ Some m) × (is_null m ≡ false)
      by_test false test = (l, is, test)
      by_test true test = no_none null_label (sym (ap (λ (b : Bool). cond b None (patched (sub old (key k ∷ [])) (sub p (key k ∷ [])) w)) test) ∙ at_key w (Some l) is ∙ null)

  pub merges_below : (l : Label) → p (key k ∷ []) ≡ Some l → is_null l ≡ false → (v : Path) → patched (sub old (key k ∷ [])) (sub p (key k ∷ [])) v ≡ new (key k ∷ v)
  merges_below l is test v = sym (ap (λ (b : Bool). cond b None (patched (sub old (key k ∷ [])) (sub p (key k ∷ [])) v)) test) ∙ at_key v (Some l) is

  -- so its end is not null
  pub not_at_end : w ≡ [] → ⊥
  not_at_end end =
      let found = has_member (p (key k ∷ [])) refl in
      let here : p (key k ∷ []) ≡ Some null_label = merges_below found.0 found.1 found.2 [] ∙ subst (λ (v : Path). new (key k ∷ v) ≡ Some null_label) end null in
      let same : found.0 ≡ null_label = one_label found.0 null_label (sym found.1 ∙ here) in
      true≢false (ap is_null (sym same) ∙ found.2)

  pub made_below : patched (sub old (key k ∷ [])) (sub p (key k ∷ [])) ≡ sub new (key k ∷ [])
  made_below =
      let found = has_member (p (key k ∷ [])) refl in
      fun_ext (merges_below found.0 found.1 found.2)

-- such a `null` below the root
leads_out : (ts : List Text) (old new p : NodeMap) → ts ≢ [] → LeadsToNewNull old new ts → patched old p ≡ new → ⊥
leads_out [] old new p some h made = some refl
leads_out (x ∷ []) old new p some h made = not_at_end old new p x [] made (h.above [] x [] refl) h.null h.not_before refl
leads_out (x ∷ y ∷ ts) old new p some h made =
    let root : new [] ≡ Some an_object = h.above [] x (y ∷ ts) refl in
    leads_out (y ∷ ts) (sub old (key x ∷ [])) (sub new (key x ∷ [])) (sub p (key x ∷ []))
    (λ e. let none : ⊥ = cc in absurd none)
    (record {
      null = h.null;
      not_before = h.not_before;
      above = λ front z rest is. h.above (x ∷ front) z rest (ap (λ (us : List Text). x ∷ us) is);
    })
    (made_below old new p x (keys (y ∷ ts)) made root h.null h.not_before)

pub rules_out : (ts : List Text) (old new p : NodeMap) → IsNewNull old new ts → patched old p ≡ new → ⊥
rules_out ts old new p h = leads_out ts old new p h.0 h.1

-- also at the root, if the patch is not `null`
pub leads_nowhere : (ts : List Text) (old new p : NodeMap) (l : Label) → p [] ≡ Some l → is_null l ≡ false → LeadsToNewNull old new ts → patched old p ≡ new → ⊥
leads_nowhere [] old new p l is other h made =
    let here : p [] ≡ Some null_label = ap (λ (m : NodeMap). m []) made ∙ h.null in
    let same : l ≡ null_label = one_label l null_label (sym is ∙ here) in
    true≢false (ap is_null (sym same) ∙ other)
leads_nowhere (x ∷ ts) old new p l is other h made = leads_out (x ∷ ts) old new p (λ e. let none : ⊥ = cc in absurd none) h made
