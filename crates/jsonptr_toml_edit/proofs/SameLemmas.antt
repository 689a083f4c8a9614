-- Values that are the same, part by part.
use Rattle.std.proofs.Common.{◌≡◌, ℕ, suc, ◌<◌, Bool, true, false, not, bytes_eq, length-append, append-nil, List, [], ◌∷◌, ◌++◌, length, get_or, BTreeMap, String, Global, string_bytes, refl, sym, ap, ◌∙◌, arith, true≢false, Vec, rules}
use Rattle.std.specs.Vec.{vec_len}
use Rattle.std.specs.Bool.{⊤}
use Rattle.std.proofs.lemmas.Slice.Eq.{bytes_eq-Decides}
use Rattle.toml.specs.Data.{Data, member, item}
use Rattle.toml.specs.View.{view, items_view, members_view}
use Rattle.toml.specs.declared.value.Value.{Value}
use Rattle.toml.proofs.Views.{Entry}

-- `AllSame es fs`: the entries have the same keys and the same values, one by one
abbrev pub AllSame : List Entry → List Entry → Type 0
AllSame [] [] = ⊤
AllSame (e ∷ es) (f ∷ fs) = (string_bytes e.0 ≡ string_bytes f.0) × (view e.1 ≡ view f.1) × AllSame es fs
AllSame es fs = ⊥

pub same_push : (es fs : List Entry) (e f : Entry) → AllSame es fs → string_bytes e.0 ≡ string_bytes f.0 → view e.1 ≡ view f.1 → AllSame (es ++ e ∷ []) (fs ++ f ∷ [])
same_push [] [] e f all key_same same = (key_same, same, tt)
same_push (x ∷ es) (y ∷ fs) e f all key_same same = (all.0, all.1, same_push es fs e f all.2 key_same same)
same_push [] (y ∷ fs) e f all key_same same = absurd all
same_push (x ∷ es) [] e f all key_same same = absurd all

same_views : (es fs : List Entry) → AllSame es fs → members_view es ≡ members_view fs
same_views [] [] all = refl
same_views (e ∷ es) (f ∷ fs) all =
    ap (λ (k : List ℕ). member k (view e.1) (members_view es)) all.0
    ∙ ap (λ (d : Data). member (string_bytes f.0) d (members_view es)) all.1
    ∙ ap (member (string_bytes f.0) (view f.1)) (same_views es fs all.2)
same_views [] (f ∷ fs) all = absurd all
same_views (e ∷ es) [] all = absurd all

same_long : (es fs : List Entry) → AllSame es fs → length es ≡ length fs
same_long [] [] all = refl
same_long (e ∷ es) (f ∷ fs) all = ap suc (same_long es fs all.2)
same_long [] (f ∷ fs) all = absurd all
same_long (e ∷ es) [] all = absurd all

-- both tables to their ends
pub members_all : (m n : BTreeMap (String Global) Value) (done also rest : List Entry) → m.entries ≡ done → n.entries ≡ also ++ rest → length m.entries ≡ length n.entries → AllSame done also → members_view m.entries ≡ members_view n.entries
members_all m n done also rest is other long all =
    let none : rest ≡ [] = no_rest rest (omega (arith, long, same_long done also all, ap (λ (es : List Entry). length es) is, ap (λ (es : List Entry). length es) other, length-append also rest)) in
    let end : n.entries ≡ also = other ∙ ap (λ (es : List Entry). also ++ es) none ∙ append-nil also in
    ap members_view is ∙ same_views done also all ∙ ap members_view (sym end)
  where
    no_rest : (es : List Entry) → length es ≡ 0 → es ≡ []
    no_rest [] h = refl
    no_rest (e ∷ es) h = absurd (omega (arith, h))

-- both arrays to their ends
pub items_all : (vs ws : List Value) → length vs ≡ length ws → ((i : ℕ) (x : Value) → i < length vs → view (get_or vs i x) ≡ view (get_or ws i x)) → items_view vs ≡ items_view ws
items_all [] [] long all = refl
items_all (v ∷ vs) (w ∷ ws) long all =
    ap (λ (d : Data). item d (items_view vs)) (all 0 v (omega (arith)))
    ∙ ap (item (view w)) (items_all vs ws (omega (arith, long)) (λ i x h. all (suc i) x (omega (arith, h))))
items_all [] (w ∷ ws) long all = absurd (omega (arith, long))
items_all (v ∷ vs) [] long all = absurd (omega (arith, long))

-- texts that the code compares
pub equal_texts : (x y k l : List ℕ) (b : Bool) → x ≡ k → y ≡ l → b ≡ not (bytes_eq x y) → b ≡ false → k ≡ l
equal_texts x y k l b left right is h = sym left ∙ (bytes_eq-Decides x y).0 (by_value (bytes_eq x y) (sym is ∙ h)) ∙ right
  where
    by_value : (c : Bool) → not c ≡ false → c ≡ true
    by_value true e = refl
    by_value false e = absurd (true≢false e)

pub same_len : (v w : Vec Value Global) → vec_len v ≡ vec_len w → length v.items ≡ length w.items
same_len v w h = search (rules, h)
