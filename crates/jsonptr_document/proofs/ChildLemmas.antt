-- The child that a token names, or the one reason why there is none.
use Rattle.std.proofs.Common.{◌≡◌, ℕ, ◌<◌, ◌≤◌, ◌^◌, ◌⊎◌, inl, inr, [], ◌∷◌, Option, Some, None, IsSome, Result, Ok, Err, IfOk, MatchOption, Bor, option_copied, ok_or, String, BTreeMap, Global, refl, sym, ◌∙◌, subst, arith, ⊎_elim}
use Rattle.std.specs.Prelude.{IsUtf8}
use Rattle.std.specs.BTreeMap.{get_by_text}
use Rattle.std.proofs.lemmas.Bool.{cases_lt}
use Rattle.jsonptr_grammar.specs.Text.{Text}
use Rattle.jsonptr_grammar.proofs.DecLemmas.{dec_one}
use Rattle.jsonptr_tree.specs.Node.{Step, key, place, Path, Scalar, Label, an_object, an_array, a_leaf, NodeMap, NamesStep, IsTree}
use Rattle.jsonptr_tree.specs.Following.{LacksStep}
use Rattle.jsonptr_tree.proofs.FollowingLemmas.{lacks_at_leaf, lacks_at_object, lacks_at_array, cases_step, the_label}
use Rattle.jsonptr_base.specs.Index.{Reads, IsBeyond, IsWithin}
use Rattle.jsonptr_base.specs.Fault.{IfRefused}
use Rattle.jsonptr_base.specs.declared.fault.Fault.{Fault}
use Rattle.jsonptr_base.specs.declared.fault.Fault.TheVariants.{Refused}
use Rattle.jsonptr_base.specs.declared.index.Index.{Index}
use Rattle.jsonptr_base.specs.declared.index.Index.TheVariants.{Num, Next}
use Rattle.jsonptr_base.specs.declared.index.OutOfBoundsError.{OutOfBoundsError}
use Rattle.jsonptr_base.specs.declared.index.ParseIndexError.{ParseIndexError}
use Rattle.jsonptr_document.specs.Child.{FindsChild, IsChildError, RefusesChild}
use Rattle.jsonptr_document.specs.ChildRef.{IsIndexIn}
use Rattle.jsonptr_document.specs.Private.{LacksElement}
use Rattle.jsonptr_document.specs.declared.child.ChildError.{ChildError}
use Rattle.jsonptr_document.specs.declared.child.ChildError.TheVariants.{BadIndex, OutOfBounds, NotFound, Unreachable}
use Rattle.jsonptr_document.proofs.BadIndex.{no_index, no_dash}

-- ---- at an array

pub no_index_place : (len : ℕ) (x : Text) (source : ParseIndexError) → len < 2 ^ 64 → Reads x (Err source) → LacksElement len x (BadIndex source)
no_index_place len x source small reads = record {
  none = λ i p. no_index x source i reads (omega (arith, p.0, small)) p.1;
  why = (len, refl, reads);
}

-- an index that is out of bounds for the length is not below it
beyond : (len : ℕ) (x : Text) (index : Index) (source : OutOfBoundsError) → Reads x (Ok index) → IsWithin index len (Err source) → (i : ℕ) → IsIndexIn len x i → ⊥
beyond len x (Num j) source reads within i p =
    let same : j ≡ i = dec_one j i (sym reads.0 ∙ p.1) in
    omega (arith, within.0, p.0)
beyond len x Next source reads within i p = no_dash i (sym reads ∙ p.1)

pub beyond_place : (len : ℕ) (x : Text) (index : Index) (source : OutOfBoundsError) → Reads x (Ok index) → IsWithin index len (Err source) → LacksElement len x (OutOfBounds source)
beyond_place len x index source reads within = record { none = beyond len x index source reads within; why = (len, index, refl, reads, within) }

pub within_place : (len : ℕ) (x : Text) (index : Index) (i : ℕ) → Reads x (Ok index) → IsWithin index len (Ok i) → IsIndexIn len x i
within_place len x index i reads within =
    let number : Reads x (Ok (Num i)) = subst (λ (j : Index). Reads x (Ok j)) within.0 reads in
    (within.1, number.0)

module _ {D : Type 0} (n : NodeMap) (stands : Path → D → Type 0) (x : Text) where
  pub element : (len i : ℕ) (e : D) → n [] ≡ Some (an_array len) → IsIndexIn len x i → stands (place i ∷ []) e → FindsChild n stands x e
  element len i e is p there = record { step = place i; named = subst (λ (l : Option Label). NamesStep l x (place i)) (sym is) p; there = there }

  -- ---- at an object

  -- the member under the token's text, or the error of the token
  pub member_or : (m : BTreeMap (String Global) D) (o : Option (Bor D)) (r : Result (Bor D) (Fault ChildError))
      → n [] ≡ Some an_object → ((k : Text) → MatchOption (get_by_text m k) (n (key k ∷ []) ≡ None) (stands (key k ∷ []))) → option_copied o ≡ get_by_text m x → r ≡ ok_or o (Refused NotFound)
      → IfOk r (λ e. FindsChild n stands x e.now) × IfRefused r (RefusesChild n x)
  member_or m None r is members read from =
      let none : n (key x ∷ []) ≡ None = subst (λ v. MatchOption v (n (key x ∷ []) ≡ None) (stands (key x ∷ []))) (sym read) (members x) in
      rw from (tt, record { label = an_object; root = is; lacks = lacks_at_object n [] x is none; why = refl })
  member_or m (Some e) r is members read from =
      let there : stands (key x ∷ []) e.now = subst (λ v. MatchOption v (n (key x ∷ []) ≡ None) (stands (key x ∷ []))) (sym read) (members x) in
      let named : NamesStep (n []) x (key x) = subst (λ (l : Option Label). NamesStep l x (key x)) (sym is) refl in
      rw from (record { step = key x; named = named; there = there }, tt)

-- ---- errors

pub refused_at_leaf : (n : NodeMap) (x : Text) (v : Scalar) → n [] ≡ Some (a_leaf v) → RefusesChild n x Unreachable
refused_at_leaf n x v is = record { label = a_leaf v; root = is; lacks = lacks_at_leaf n [] x v is; why = (v, refl) }

pub refused_at_array : (n : NodeMap) (x : Text) (len : ℕ) (e : ChildError) → n [] ≡ Some (an_array len) → LacksElement len x e → RefusesChild n x e
refused_at_array n x len e is h = record { label = an_array len; root = is; lacks = lacks_at_array n [] x len is (λ i low same. h.none i (low, same)); why = h.why }

-- ---- the law

same_bounds : (e f : OutOfBoundsError) → e.length ≡ f.length → e.index ≡ f.index → e ≡ f
same_bounds e f l i = λ j. record { length = l j; index = i j }

beyond_one : (index : Index) (len : ℕ) (e f : OutOfBoundsError) → IsBeyond index len e → IsBeyond index len f → e ≡ f
beyond_one (Num i) len e f h k = same_bounds e f (h.1 ∙ sym k.1) (h.2 ∙ sym k.2)
beyond_one Next len e f h k = same_bounds e f (h.0 ∙ sym k.0) (h.1 ∙ sym k.1)

module _ (reads_one : (s : Text) (r q : Result Index ParseIndexError) → Reads s r → Reads s q → r ≡ q) (label : Label) (x : Text) where
  pub reason_one : (e f : ChildError) → IsChildError label x e → IsChildError label x f → e ≡ f
  reason_one Unreachable Unreachable h k = refl
  reason_one Unreachable NotFound h k = let l : a_leaf h.0 ≡ an_object = sym h.1 ∙ k in cc
  reason_one Unreachable (BadIndex t) h k = let l : a_leaf h.0 ≡ an_array k.0 = sym h.1 ∙ k.1 in cc
  reason_one Unreachable (OutOfBounds t) h k = let l : a_leaf h.0 ≡ an_array k.0 = sym h.1 ∙ k.2 in cc
  reason_one NotFound Unreachable h k = let l : an_object ≡ a_leaf k.0 = sym h ∙ k.1 in cc
  reason_one NotFound NotFound h k = refl
  reason_one NotFound (BadIndex t) h k = let l : an_object ≡ an_array k.0 = sym h ∙ k.1 in cc
  reason_one NotFound (OutOfBounds t) h k = let l : an_object ≡ an_array k.0 = sym h ∙ k.2 in cc
  reason_one (BadIndex s) Unreachable h k = let l : an_array h.0 ≡ a_leaf k.0 = sym h.1 ∙ k.1 in cc
  reason_one (BadIndex s) NotFound h k = let l : an_array h.0 ≡ an_object = sym h.1 ∙ k in cc
  reason_one (BadIndex s) (BadIndex t) h k = let c : Err s ≡ Err t = reads_one x (Err s) (Err t) h.2 k.2 in cc
  reason_one (BadIndex s) (OutOfBounds t) h k = let c : Err s ≡ Ok k.1 = reads_one x (Err s) (Ok k.1) h.2 k.3 in cc
  reason_one (OutOfBounds s) Unreachable h k = let l : an_array h.0 ≡ a_leaf k.0 = sym h.2 ∙ k.1 in cc
  reason_one (OutOfBounds s) NotFound h k = let l : an_array h.0 ≡ an_object = sym h.2 ∙ k in cc
  reason_one (OutOfBounds s) (BadIndex t) h k = let c : Ok h.1 ≡ Err t = reads_one x (Ok h.1) (Err t) h.3 k.2 in cc
  reason_one (OutOfBounds s) (OutOfBounds t) h k =
      let l : an_array h.0 ≡ an_array k.0 = sym h.2 ∙ k.2 in
      let c : Ok h.1 ≡ Ok k.1 = reads_one x (Ok h.1) (Ok k.1) h.3 k.3 in
      let len : h.0 ≡ k.0 = cc in
      let index : h.1 ≡ k.1 = cc in
      let there : IsBeyond k.1 k.0 s = subst (λ (i : Index). IsBeyond i k.0 s) index (subst (λ (m : ℕ). IsBeyond h.1 m s) len h.4) in
      let d : s ≡ t = beyond_one k.1 k.0 s t there k.4 in cc

module _ (reads_some : (s : Text) → IsUtf8 s → (r : Result Index ParseIndexError) × Reads s r) (x : Text) (utf8 : IsUtf8 x) where
  -- at an array, by what the token reads as
  by_reading : (len : ℕ) → ((i : ℕ) → IsIndexIn len x i → ⊥) → (r : Result Index ParseIndexError) → Reads x r → (e : ChildError) × IsChildError (an_array len) x e
  by_reading len none (Err source) h = (BadIndex source, (len, refl, h))
  by_reading len none (Ok Next) h = (OutOfBounds record { length = len; index = len }, (len, Next, refl, h, (refl, refl)))
  by_reading len none (Ok (Num i)) h =
      let over : len ≤ i = ⊎_elim (λ below. absurd (none i (below, h.0))) (λ over. over) (cases_lt i len) in
      (OutOfBounds record { length = len; index = i }, (len, Num i, refl, h, (over, refl, refl)))

  -- a node that lacks the token's index lacks it for some reason
  pub reason_some : (label : Label) → ((len : ℕ) → label ≡ an_array len → (i : ℕ) → IsIndexIn len x i → ⊥) → (e : ChildError) × IsChildError label x e
  reason_some (a_leaf v) none = (Unreachable, (v, refl))
  reason_some an_object none = (NotFound, refl)
  reason_some (an_array len) none = let r = reads_some x utf8 in by_reading len (none len refl) r.0 r.1

  pub child_or_refused : (n : NodeMap) → IsTree n → ((s : Step) × NamesStep (n []) x s × IsSome (n (s ∷ []))) ⊎ ((e : ChildError) × RefusesChild n x e)
  child_or_refused n tree =
      let here = the_label (n []) tree.root in
      ⊎_elim
      (λ step. inl step)
      (λ (lacks : LacksStep n [] x).
      let reason = reason_some here.0 (λ len is i p.
      let root : n [] ≡ Some (an_array len) = subst (λ (l : Label). n [] ≡ Some l) is here.1 in
      lacks (place i) (subst (λ (l : Option Label). NamesStep l x (place i)) (sym root) p) (tree.full [] len i root p.0)) in
      inr (reason.0, record { label = here.0; root = here.1; lacks = lacks; why = reason.1 }))
      (cases_step n [] x tree)
