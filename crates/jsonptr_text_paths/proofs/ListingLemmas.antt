-- A line from its parts, lines in a row, and which values are leaves.
use Rattle.std.proofs.Common.{◌≡◌, Bool, ◌==◌, ◌↔◌, IsTrue, List, [], ◌∷◌, ◌++◌, length, String, Vec, Global, refl, sym, ap, subst, ◌∙◌, append_assoc, append-nil, true≢false}
use Rattle.std.specs.BTreeMap.{BTreeMap}
use Rattle.std.proofs.Math.Dec.{eqb-suc-zero}
use Rattle.serde_json.specs.Data.{Data, array, object, no_items, no_members}
use Rattle.serde_json.specs.View.{view, items_view, members_view}
use Rattle.serde_json.specs.declared.value.Value.{Value, Array, Object}
use Rattle.serde_json.proofs.Views.{Entry, view-Array, view-Object}
use Rattle.jsonptr.specs.Text.{Text, text}
use Rattle.jsonptr.specs.Content.{FindsContent}
use Rattle.jsonptr.specs.Json.{content}
use Rattle.jsonptr_text_paths.specs.PrivateWalking.{VisitsAll, WalksNodes, AnyPath, content_of}
use Rattle.jsonptr_text_paths.specs.Listing.{IsLeaf, IsField, IsShown, AreShown, Lists}
use Rattle.jsonptr_text_paths.specs.PrivateListing.{IsLine}
use Rattle.jsonptr_text_paths.specs.declared.listing.Listed.{Listed}
use Rattle.jsonptr_text_paths.proofs.VisitingLemmas.{walks_all}

pub line_made : (p short o o1 o2 o3 o4 : Text)
    → ((field : Text) × IsField p field × (o1 ≡ o ++ field))
    → o2 ≡ o1 ++ 9 ∷ []
    → o3 ≡ o2 ++ short
    → o4 ≡ o3 ++ 10 ∷ []
    → (one : Text) × IsLine p short one × (o4 ≡ o ++ one)
line_made p short o o1 o2 o3 o4 f tab value break = (f.0 ++ 9 ∷ (short ++ 10 ∷ []), (f.0, f.1, refl), joined)
  where
    joined : o4 ≡ o ++ (f.0 ++ 9 ∷ (short ++ 10 ∷ []))
    joined =
        break
        ∙ ap (λ l. l ++ 10 ∷ []) (value ∙ ap (λ l. l ++ short) (tab ∙ ap (λ l. l ++ 9 ∷ []) f.2))
        ∙ simp append_assoc

-- the lines that are appended at the visited nodes
pub shows : {S : Type 0} (which : S → Listed) (out : S → Text) (d : Data) (lists : List (List Text)) (s t : S)
    → VisitsAll (λ a ts (v : Value) b. (which b ≡ which a) × ((one : Text) × IsShown (which a) (text ts) (view v) one × (out b ≡ out a ++ one))) (λ ts u. FindsContent (content d) ts (content_of u)) lists s t
    → (lines : Text) × AreShown (which s) d lists lines × (out t ≡ out s ++ lines)
shows which out d [] s t h = ([], refl, ap out h ∙ sym (append-nil (out s)))
shows which out d (ts ∷ lists) s t h =
    let r = shows which out d lists h.1 t h.4 in
    let later : AreShown (which s) d lists r.0 = subst (λ (l : Listed). AreShown l d lists r.0) h.3.0 r.1 in
    (h.3.1.0 ++ r.0, (view h.0, h.3.1.0, r.0, h.2, h.3.1.1, later, refl), r.2 ∙ ap (λ l. l ++ r.0) h.3.1.2 ∙ append_assoc (out s) h.3.1.0 r.0)

pub shows_all : {S : Type 0} (which : S → Listed) (out : S → Text) (v : Value) (root : List Text) (s t : S)
    → root ≡ []
    → out s ≡ []
    → WalksNodes content_of (λ a ts u b. (which b ≡ which a) × ((one : Text) × IsShown (which a) (text ts) (view u) one × (out b ≡ out a ++ one))) v AnyPath root s t
    → Lists (which s) (view v) (out t)
shows_all which out v root s t empty none a =
    let r = walks_all content_of (λ a ts u b. (which b ≡ which a) × ((one : Text) × IsShown (which a) (text ts) (view u) one × (out b ≡ out a ++ one))) v root s t empty a in
    let shown = shows which out (view v) r.0 s t r.2 in
    let all : out t ≡ shown.0 = shown.2 ∙ ap (λ l. l ++ shown.0) none in
    (r.0, r.1, subst (AreShown (which s) (view v) r.0) (sym all) shown.1)

-- arrays and objects without children

no_elements : (vs : List Value) (b : Bool) → b ≡ (length vs == 0) → IsTrue b ↔ (array no_items ≡ array (items_view vs))
no_elements [] b e = (λ _. refl, λ _. e)
no_elements (v ∷ vs) b e = (λ t. absurd (true≢false (sym t ∙ e ∙ eqb-suc-zero (length vs))), λ h. let none : ⊥ = cc in absurd none)

pub leaf_array : (x : Value) (v : Vec Value Global) (b : Bool) → x ≡ Array v → b ≡ (length v.items == 0) → IsTrue b ↔ IsLeaf (view x)
leaf_array x v b is empty = subst (λ (d : Data). IsTrue b ↔ IsLeaf d) (sym (ap view is ∙ view-Array v)) (no_elements v.items b empty)

no_entries : (es : List Entry) (b : Bool) → (IsTrue b ↔ (length es ≡ 0)) → IsTrue b ↔ (object no_members ≡ object (members_view es))
no_entries [] b e = (λ _. refl, λ _. e.1 refl)
no_entries (x ∷ es) b e = (λ t. let wrong = e.0 t in absurd (cc), λ h. let none : ⊥ = cc in absurd none)

pub leaf_object : (x : Value) (m : BTreeMap (String Global) Value) (b : Bool) → x ≡ Object m → (IsTrue b ↔ (length m.entries ≡ 0)) → IsTrue b ↔ IsLeaf (view x)
leaf_object x m b is empty = subst (λ (d : Data). IsTrue b ↔ IsLeaf d) (sym (ap view is ∙ view-Object m)) (no_entries m.entries b empty)
