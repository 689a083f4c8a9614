-- A line adds its value or has one error, and lines build one document or stop at one line.
use Rattle.std.proofs.Common.{◌≡◌, ◌≢◌, inl, inr, ℕ, suc, ◌+◌, List, [], ◌∷◌, ◌++◌, length, Option, Some, None, All, refl, sym, ap, subst, ◌∙◌}
use Rattle.std.proofs.lemmas.List.Elements.{recursion_from_All}
use Rattle.serde_json.specs.Data.{Data, null, string}
use Rattle.serde_json.specs.Read.{read}
use Rattle.jsonptr.specs.Text.{Text, text}
use Rattle.jsonptr.specs.Node.{NodeMap}
use Rattle.jsonptr.specs.Json.{nodes}
use Rattle.jsonptr.specs.Assign.{RefusesAssign}
use Rattle.jsonptr.specs.Assigning.{Assigns}
use Rattle.jsonptr.specs.declared.assign.Error.{Error}
use Rattle.jsonptr.proofs.Calling.{text_one}
use Rattle.jsonptr_io.proofs.LineLemmas.{one_lines}
use Rattle.jsonptr_text_paths.specs.Building.{CutsAt, ReadsField, ReadsLine, FitsDepth, AssignsLine, AssignsLines, Builds, IsLineError, StopsBuilding}
use Rattle.jsonptr_text_paths.specs.declared.build.LineError.{LineError}
use Rattle.jsonptr_text_paths.specs.declared.build.LineError.TheVariants.{NoTab, NotPointer, NotJson, TooDeep, Assign}
use Rattle.jsonptr_text_paths.specs.declared.build.BuildError.TheVariants.{Line}
use Rattle.jsonptr_text_paths.proofs.PlainLemmas.{read_pointer}
use Rattle.jsonptr_text_paths.proofs.RowLemmas.{cut_one, tab_there}

-- ---- a line is read in one way

cuts_one : (l f b g d : Text) → CutsAt 9 l f b → CutsAt 9 l g d → (f ≡ g) × (b ≡ d)
cuts_one l f b g d h k = cut_one 9 f g b d (recursion_from_All (λ z. z ≢ 9) f h.0) (recursion_from_All (λ z. z ≢ 9) g k.0) (sym h.1 ∙ k.1)

no_cut : (l f b : Text) → All (λ z. z ≢ 9) l → CutsAt 9 l f b → ⊥
no_cut l f b h k = tab_there f b (recursion_from_All (λ z. z ≢ 9) (f ++ 9 ∷ b) (subst (All (λ z. z ≢ 9)) k.1 h))

fields_one : (field : Text) (ts us : List Text) → ReadsField field ts → ReadsField field us → ts ≡ us
fields_one field ts us (inl p) (inl q) = text_one ts us (sym p ∙ q)
fields_one field ts us (inl p) (inr q) = absurd (read_pointer ts (string (text us)) (ap read (sym p) ∙ q))
fields_one field ts us (inr p) (inl q) = absurd (read_pointer us (string (text ts)) (ap read (sym q) ∙ p))
fields_one field ts us (inr p) (inr q) =
    let whole : Some (string (text ts)) ≡ Some (string (text us)) = sym p ∙ q in
    let same : text ts ≡ text us = cc in
    text_one ts us same

reads_one : (json : Text) (v w : Data) → read json ≡ Some v → read json ≡ Some w → v ≡ w
reads_one json v w p q =
    let whole : Some v ≡ Some w = sym p ∙ q in
    let same : v ≡ w = cc in
    same

reads_none : (json : Text) (v : Data) → read json ≡ Some v → read json ≡ None → ⊥
reads_none json v p q =
    let whole : Some v ≡ None = sym p ∙ q in
    let wrong : ⊥ = cc in
    wrong

line_one : (l : Text) (ts us : List Text) (v w : Data) → ReadsLine l ts v → ReadsLine l us w → (ts ≡ us) × (v ≡ w)
line_one l ts us v w h k =
    let one = cuts_one l h.0 h.1 k.0 k.1 h.2 k.2 in (
      fields_one k.0 ts us (subst (λ (f : Text). ReadsField f ts) one.0 h.3) k.3,
      reads_one k.1 v w (ap read (sym one.1) ∙ h.4) k.4,
    )

fits_same : (ts us : List Text) (v w : Data) → (ts ≡ us) × (v ≡ w) → FitsDepth ts v → FitsDepth us w
fits_same ts us v w same h = subst (λ (x : Data). FitsDepth us x) same.1 (subst (λ (xs : List Text). FitsDepth xs v) same.0 h)

-- ---- the stages of a line

tab_first : (n : NodeMap) (l : Text) (e : LineError) → All (λ z. z ≢ 9) l → IsLineError n l e → NoTab ≡ e
tab_first n l NoTab h k = refl
tab_first n l NotPointer h k = absurd (no_cut l k.0 k.1 h k.2)
tab_first n l NotJson h k = absurd (no_cut l k.0 k.1 h k.3)
tab_first n l TooDeep h k = absurd (no_cut l k.2.0 k.2.1 h k.2.2)
tab_first n l (Assign e) h k = absurd (no_cut l k.2.0 k.2.1 h k.2.2)

other_field : (l f b g d : Text) (ts : List Text) → CutsAt 9 l f b → ((us : List Text) → ReadsField f us → ⊥) → CutsAt 9 l g d → ReadsField g ts → ⊥
other_field l f b g d ts cut none other reads = none ts (subst (λ (x : Text). ReadsField x ts) (sym (cuts_one l f b g d cut other).0) reads)

pointer_first : (n : NodeMap) (l f b : Text) (e : LineError) → CutsAt 9 l f b → ((us : List Text) → ReadsField f us → ⊥) → IsLineError n l e → NotPointer ≡ e
pointer_first n l f b NoTab cut none k = absurd (no_cut l f b k cut)
pointer_first n l f b NotPointer cut none k = refl
pointer_first n l f b NotJson cut none k = absurd (other_field l f b k.0 k.1 k.2 cut none k.3 k.4)
pointer_first n l f b TooDeep cut none k = absurd (other_field l f b k.2.0 k.2.1 k.0 cut none k.2.2 k.2.3)
pointer_first n l f b (Assign e) cut none k = absurd (other_field l f b k.2.0 k.2.1 k.0 cut none k.2.2 k.2.3)

other_json : (l f b : Text) (us : List Text) (v : Data) → CutsAt 9 l f b → read b ≡ None → ReadsLine l us v → ⊥
other_json l f b us v cut none k = reads_none k.1 v k.4 (ap read (sym (cuts_one l f b k.0 k.1 cut k.2).1) ∙ none)

json_first : (n : NodeMap) (l f b : Text) (ts : List Text) (e : LineError) → CutsAt 9 l f b → ReadsField f ts → read b ≡ None → IsLineError n l e → NotJson ≡ e
json_first n l f b ts NoTab cut field none k = absurd (no_cut l f b k cut)
json_first n l f b ts NotPointer cut field none k = absurd (other_field l k.0 k.1 f b ts k.2 k.3 cut field)
json_first n l f b ts NotJson cut field none k = refl
json_first n l f b ts TooDeep cut field none k = absurd (other_json l f b k.0 k.1 cut none k.2)
json_first n l f b ts (Assign e) cut field none k = absurd (other_json l f b k.0 k.1 cut none k.2)

-- a line that is read has no error of its text
read_first : (n : NodeMap) (l : Text) (ts : List Text) (v : Data) (e f : LineError) → ReadsLine l ts v → IsLineError n l e
    → ((us : List Text) (w : Data) → ReadsLine l us w → (FitsDepth us w → ⊥) → f ≡ TooDeep)
    → ((us : List Text) (w : Data) (x : Error) → ReadsLine l us w → FitsDepth us w → RefusesAssign n us x → f ≡ Assign x)
    → f ≡ e
read_first n l ts v NoTab f r k deep place = absurd (no_cut l r.0 r.1 k r.2)
read_first n l ts v NotPointer f r k deep place = absurd (other_field l k.0 k.1 r.0 r.1 ts k.2 k.3 r.2 r.3)
read_first n l ts v NotJson f r k deep place = absurd (other_json l k.0 k.1 ts v k.3 k.5 r)
read_first n l ts v TooDeep f r k deep place = deep k.0 k.1 k.2 k.3
read_first n l ts v (Assign x) f r k deep place = place k.0 k.1 x k.2 k.3 k.4

deep_first : (n : NodeMap) (l : Text) (ts : List Text) (v : Data) (e : LineError) → ReadsLine l ts v → (FitsDepth ts v → ⊥) → IsLineError n l e → TooDeep ≡ e
deep_first n l ts v e r deep k = read_first n l ts v e TooDeep r k
    (λ us w s d. refl)
    (λ us w x s fits refused. absurd (deep (fits_same us ts w v (line_one l us ts w v s r) fits)))

module _
    (not_both : (n : NodeMap) (ts : List Text) (v m : NodeMap) (old : Option NodeMap) (e : Error) → Assigns n ts v m old → RefusesAssign n ts e → ⊥)
    (one_made : (n : NodeMap) (ts : List Text) (v m k : NodeMap) (old was : Option NodeMap) → Assigns n ts v m old → Assigns n ts v k was → (m ≡ k) × (old ≡ was))
    (one : (n : NodeMap) (ts : List Text) (e f : Error) → RefusesAssign n ts e → RefusesAssign n ts f → e ≡ f) where
  place_first : (n : NodeMap) (l : Text) (ts : List Text) (v : Data) (x : Error) (e : LineError) → ReadsLine l ts v → FitsDepth ts v → RefusesAssign n ts x → IsLineError n l e → Assign x ≡ e
  place_first n l ts v x e r fits refused k = read_first n l ts v e (Assign x) r k
      (λ us w s d. absurd (d (fits_same ts us v w (line_one l ts us v w r s) fits)))
      (λ us w y s f q. ap Assign (one n us x y (subst (λ (xs : List Text). RefusesAssign n xs x) (line_one l ts us v w r s).0 refused) q))

  pub one_line_error : (n : NodeMap) (l : Text) (e f : LineError) → IsLineError n l e → IsLineError n l f → e ≡ f
  one_line_error n l NoTab f h k = tab_first n l f h k
  one_line_error n l NotPointer f h k = pointer_first n l h.0 h.1 f h.2 h.3 k
  one_line_error n l NotJson f h k = json_first n l h.0 h.1 h.2 f h.3 h.4 h.5 k
  one_line_error n l TooDeep f h k = deep_first n l h.0 h.1 f h.2 h.3 k
  one_line_error n l (Assign x) f h k = place_first n l h.0 h.1 x f h.2 h.3 h.4 k

  -- a line adds its value or has an error
  pub line_not_both : (n m : NodeMap) (l : Text) (e : LineError) → AssignsLine n l m → IsLineError n l e → ⊥
  line_not_both n m l NoTab a k = no_cut l a.3.0 a.3.1 k a.3.2
  line_not_both n m l NotPointer a k = other_field l k.0 k.1 a.3.0 a.3.1 a.0 k.2 k.3 a.3.2 a.3.3
  line_not_both n m l NotJson a k = other_json l k.0 k.1 a.0 a.1 k.3 k.5 a.3
  line_not_both n m l TooDeep a k = k.3 (fits_same a.0 k.0 a.1 k.1 (line_one l a.0 k.0 a.1 k.1 a.3 k.2) a.4)
  line_not_both n m l (Assign x) a k =
      not_both n k.0 (nodes a.1) m a.2 x (subst (λ (xs : List Text). Assigns n xs (nodes a.1) m a.2) (line_one l a.0 k.0 a.1 k.1 a.3 k.2).0 a.5) k.4

  -- and it makes one map
  line_made : (n m k : NodeMap) (l : Text) → AssignsLine n l m → AssignsLine n l k → m ≡ k
  line_made n m k l a b =
      let same = line_one l b.0 a.0 b.1 a.1 b.3 a.3 in
      let moved : Assigns n a.0 (nodes a.1) k b.2 =
      subst (λ (x : Data). Assigns n a.0 (nodes x) k b.2) same.1 (subst (λ (xs : List Text). Assigns n xs (nodes b.1) k b.2) same.0 b.5) in
      (one_made n a.0 (nodes a.1) m k a.2 b.2 a.5 moved).0

  stops_same : (xs ys xt yt : List Text) (x y : Text) (n k m : NodeMap) (e f : LineError) → xs ++ x ∷ xt ≡ ys ++ y ∷ yt
      → AssignsLines n xs k → AssignsLines n ys m → IsLineError k x e → IsLineError m y f → (length xs ≡ length ys) × (e ≡ f)
  stops_same [] [] xt yt x y n k m e f same a b h g =
      let first : x ≡ y = cc in
      let there : IsLineError n x e = subst (λ (z : NodeMap). IsLineError z x e) a h in
      let here : IsLineError n x f = subst (λ (z : NodeMap). IsLineError z x f) b (subst (λ (z : Text). IsLineError m z f) (sym first) g) in
      (refl, one_line_error n x e f there here)
  stops_same [] (z ∷ ys) xt yt x y n k m e f same a b h g =
      let first : x ≡ z = cc in
      absurd (line_not_both n b.0 x e (subst (λ (t : Text). AssignsLine n t b.0) (sym first) b.1) (subst (λ (t : NodeMap). IsLineError t x e) a h))
  stops_same (z ∷ xs) [] xt yt x y n k m e f same a b h g =
      let first : z ≡ y = cc in
      absurd (line_not_both n a.0 y f (subst (λ (t : Text). AssignsLine n t a.0) first a.1) (subst (λ (t : NodeMap). IsLineError t y f) b g))
  stops_same (z ∷ xs) (w ∷ ys) xt yt x y n k m e f same a b h g =
      let first : w ≡ z = cc in
      let later : xs ++ x ∷ xt ≡ ys ++ y ∷ yt = cc in
      let made : b.0 ≡ a.0 = line_made n b.0 a.0 z (subst (λ (t : Text). AssignsLine n t b.0) first b.1) a.1 in
      let rest = stops_same xs ys xt yt x y a.0 k m e f later a.2 (subst (λ (t : NodeMap). AssignsLines t ys m) made b.2) h g in
      (ap suc rest.0, rest.1)

  pub one_stop : (t : Text) (i j : ℕ) (e f : LineError) → StopsBuilding t (Line i e) → StopsBuilding t (Line j f) → (i ≡ j) × (e ≡ f)
  one_stop t i j e f h k =
      let lines : h.0 ++ h.2 ∷ h.1 ≡ k.0 ++ k.2 ∷ k.1 = one_lines (h.0 ++ h.2 ∷ h.1) (k.0 ++ k.2 ∷ k.1) t h.4 k.4 in
      let same = stops_same h.0 k.0 h.1 k.1 h.2 k.2 (nodes null) h.3 k.3 e f lines h.6 k.6 h.7 k.7 in
      (h.5 ∙ ap (λ (n : ℕ). n + 1) same.0 ∙ sym k.5, same.1)

  no_stop : (xs xt : List Text) (x : Text) (n k m : NodeMap) (e : LineError) → AssignsLines n (xs ++ x ∷ xt) m → AssignsLines n xs k → IsLineError k x e → ⊥
  no_stop [] xt x n k m e all a h = line_not_both n all.0 x e all.1 (subst (λ (t : NodeMap). IsLineError t x e) a h)
  no_stop (z ∷ xs) xt x n k m e all a h =
      let made : all.0 ≡ a.0 = line_made n all.0 a.0 z all.1 a.1 in
      no_stop xs xt x a.0 k m e (subst (λ (t : NodeMap). AssignsLines t (xs ++ x ∷ xt) m) made all.2) a.2 h

  pub builds_or_stops : (t : Text) (m : NodeMap) (i : ℕ) (e : LineError) → Builds t m → StopsBuilding t (Line i e) → ⊥
  builds_or_stops t m i e b h =
      let lines : b.0 ≡ h.0 ++ h.2 ∷ h.1 = one_lines b.0 (h.0 ++ h.2 ∷ h.1) t b.1 h.4 in
      no_stop h.0 h.1 h.2 (nodes null) h.3 m e (subst (λ (ls : List Text). AssignsLines (nodes null) ls m) lines b.2) h.6 h.7

  made_same : (ls : List Text) (n k m : NodeMap) → AssignsLines n ls k → AssignsLines n ls m → k ≡ m
  made_same [] n k m a b = a ∙ sym b
  made_same (l ∷ ls) n k m a b =
      let made : b.0 ≡ a.0 = line_made n b.0 a.0 l b.1 a.1 in
      made_same ls a.0 k m a.2 (subst (λ (t : NodeMap). AssignsLines t ls m) made b.2)

  pub one_built : (t : Text) (k m : NodeMap) → Builds t k → Builds t m → k ≡ m
  one_built t k m a b =
      let lines : b.0 ≡ a.0 = one_lines b.0 a.0 t b.1 a.1 in
      made_same a.0 (nodes null) k m a.2 (subst (λ (ls : List Text). AssignsLines (nodes null) ls m) lines b.2)
