-- Following selectors, one at a time.
use Rattle.std.proofs.Common.{◌≡◌, ℕ, zero, suc, List, [], ◌∷◌, ◌++◌, length, Bool, true, false, IsTrue, ◌↔◌, Option, Some, None, option_and_then, MatchOption, true≢false, refl, sym, ap, ◌∙◌, subst, arith}
use Rattle.serde_json.specs.Data.{Data, no_items, Members, put}
use Rattle.serde_json.specs.Find.{get_member, get_item}
use Rattle.serde_json.proofs.Views.{get_member-put, get_member-put_other}
use Rattle.jsonptr_text_search.specs.declared.selector.Selector.{Selector}
use Rattle.jsonptr_text_search.specs.declared.outcome.Kind.{Kind}
use Rattle.jsonptr_text_search.specs.declared.outcome.Outcome.{Outcome}
use Rattle.jsonptr_text_search.specs.declared.outcome.Outcome.TheVariants.{Found, Stopped}
use Rattle.jsonptr_text_search.specs.Search.{Choice, choices, items_count, element, chosen, follow, kind_of, Stops, IsOutcome, IsChildOutcome, Visits}
use Rattle.jsonptr_text_search.specs.PrivateReading.{with_items_before}

pub follow_none : (ps : List Selector) (d : Data) → length ps ≡ 0 → follow (choices ps) d ≡ Some d
follow_none [] d e = refl
follow_none (p ∷ ps) d e = absurd (omega arith)

pub outcome_here : (cs : List Choice) (w : Choice) (rest : List Choice) (d : Data) (left : ℕ) (k : Kind) → cs ≡ w ∷ rest → chosen w d ≡ None → k ≡ kind_of d → left ≡ length cs → Stops d cs left k
outcome_here cs w rest d left k e c same len = record {
  front = [];
  next = w;
  rest = rest;
  at = d;
  split = e;
  leads = refl;
  lacks = c;
  kind_is = same;
  left_is = len ∙ ap (λ (xs : List Choice). length xs) e;
}

outcome_below : (w : Choice) (cs : List Choice) (d e : Data) (o : Outcome) → chosen w d ≡ Some e → IsOutcome e cs o → IsOutcome d (w ∷ cs) o
outcome_below w cs d e (Found v) c h = ap (option_and_then (follow cs)) c ∙ h
outcome_below w cs d e (Stopped left k) c h = record {
  front = w ∷ h.front;
  next = h.next;
  rest = h.rest;
  at = h.at;
  split = ap (λ (xs : List Choice). w ∷ xs) h.split;
  leads = ap (option_and_then (follow h.front)) c ∙ h.leads;
  lacks = h.lacks;
  kind_is = h.kind_is;
  left_is = h.left_is;
}

-- the outcome in the child is the outcome in the value
pub or_child : (cs : List Choice) (w : Choice) (rest : List Choice) (d : Data) (found : Option Outcome) (r : Outcome) (left : ℕ) (k : Kind) → cs ≡ w ∷ rest → IsChildOutcome (chosen w d) rest found → MatchOption found (r ≡ Stopped left k) (λ o. r ≡ o) → k ≡ kind_of d → left ≡ length cs → IsOutcome d cs r
or_child cs w rest d None r left k e h is same len = subst (λ (o : Outcome). IsOutcome d cs o) (sym is) (outcome_here cs w rest d left k e h same len)
or_child cs w rest d (Some o) r left k e h is same len = subst (λ (xs : List Choice). IsOutcome d xs r) (sym e) (subst (λ (x : Outcome). IsOutcome d (w ∷ rest) x) (sym is) (outcome_below w rest d h.0 o h.1 h.2))

-- ---- elements

pub len_before : (ds : List Data) → items_count (with_items_before ds no_items) ≡ length ds
len_before [] = refl
len_before (d ∷ ds) = ap suc (len_before ds)

item_here : (ds : List Data) (d : Data) → get_item (length ds) (with_items_before (ds ++ d ∷ []) no_items) ≡ Some d
item_here [] d = refl
item_here (e ∷ ds) d = item_here ds d

item_other : (i : ℕ) (ds : List Data) (d : Data) → (i ≡ length ds → ⊥) → get_item i (with_items_before (ds ++ d ∷ []) no_items) ≡ get_item i (with_items_before ds no_items)
item_other zero [] d h = absurd (h refl)
item_other (suc i) [] d h = refl
item_other zero (e ∷ ds) d h = refl
item_other (suc i) (e ∷ ds) d h = item_other i ds d (λ x. h (ap suc x))

element_other : (index : Option ℕ) (ds : List Data) (d : Data) → (index ≡ Some (length ds) → ⊥) → element index (with_items_before (ds ++ d ∷ []) no_items) ≡ element index (with_items_before ds no_items)
element_other None ds d h = refl
element_other (Some i) ds d h = item_other i ds d (λ x. h (ap (λ (j : ℕ). Some j) x))

pub no_element : (index : Option ℕ) → element index no_items ≡ None
no_element None = refl
no_element (Some i) = refl

visited : (c b : Option Data) (cs : List Choice) (old new : Option Outcome) → new ≡ old → c ≡ b → IsChildOutcome b cs old → IsChildOutcome c cs new
visited c b cs old new e f h = subst (λ (o : Option Outcome). IsChildOutcome c cs o) (sym e) (subst (λ (x : Option Data). IsChildOutcome x cs old) (sym f) h)

pub visited_item : (index : Option ℕ) (ds : List Data) (d : Data) (cs : List Choice) (wanted : Bool) (old new : Option Outcome) → (IsTrue wanted ↔ (index ≡ Some (length ds))) → Visits wanted d cs old new
    → IsChildOutcome (element index (with_items_before ds no_items)) cs old → IsChildOutcome (element index (with_items_before (ds ++ d ∷ []) no_items)) cs new
visited_item index ds d cs true old new iff v h =
    subst (λ (o : Option Outcome). IsChildOutcome (element index (with_items_before (ds ++ d ∷ []) no_items)) cs o) (sym v.1) (d, ap (λ (p : Option ℕ). element p (with_items_before (ds ++ d ∷ []) no_items)) (iff.0 refl) ∙ item_here ds d, v.2)
visited_item index ds d cs false old new iff v h =
    visited _ _ cs old new v (element_other index ds d (λ e. true≢false (sym (iff.1 e)))) h

-- ---- members

pub visited_member : (key name : List ℕ) (d : Data) (ms : Members) (cs : List Choice) (wanted : Bool) (old new : Option Outcome) → (IsTrue wanted ↔ (name ≡ key)) → Visits wanted d cs old new
    → IsChildOutcome (get_member key ms) cs old → IsChildOutcome (get_member key (put name d ms)) cs new
visited_member key name d ms cs true old new iff v h =
    subst (λ (o : Option Outcome). IsChildOutcome (get_member key (put name d ms)) cs o) (sym v.1) (d, ap (λ (k : List ℕ). get_member key (put k d ms)) (iff.0 refl) ∙ get_member-put key d ms, v.2)
visited_member key name d ms cs false old new iff v h =
    visited _ _ cs old new v (get_member-put_other key name d ms (λ e. true≢false (sym (iff.1 (sym e))))) h

pub choices_len : (ps : List Selector) → length (choices ps) ≡ length ps
choices_len [] = refl
choices_len (p ∷ ps) = ap suc (choices_len ps)

pub keyed : (j k : List ℕ) (ms : Members) (cs : List Choice) (o : Option Outcome) → j ≡ k → IsChildOutcome (get_member j ms) cs o → IsChildOutcome (get_member k ms) cs o
keyed j k ms cs o e h = subst (λ (x : List ℕ). IsChildOutcome (get_member x ms) cs o) e h
