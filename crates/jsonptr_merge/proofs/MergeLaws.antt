-- Laws of three-way merges.
use Rattle.std.proofs.Common.{◌≡◌, ◌≢◌, ◌⊎◌, inl, inr, ⊎_elim, List, [], ◌∷◌, ◌++◌, Option, Some, None, refl, sym, ap, ◌∙◌, subst}
use Rattle.jsonptr.specs.Node.{Step, Path, Label, an_object, an_array, a_leaf, NodeMap, sub}
use Rattle.jsonptr_merge.specs.Merge.{AreObjects, AllDiffer, IsConflict, IsMerge, HasNoConflict}

pub symmetric : (b o t m : NodeMap) → IsMerge b o t m → IsMerge b t o m
symmetric b o t m h = record {
  theirs = h.ours;
  ours = h.theirs;
  both = λ w same. h.both w (sym same) ∙ sym same;
  objects = λ w three. h.objects w (three.0, three.2, three.1);
}

pub same_conflicts : (b o t : NodeMap) (w : Path) → IsConflict b o t w → IsConflict b t o w
same_conflicts b o t w h = record {
  differ = record { ours = h.differ.theirs; theirs = h.differ.ours; both = λ same. h.differ.both (sym same) };
  no_objects = λ three. h.no_objects (three.0, three.2, three.1);
  above = λ u s v is. (let three = h.above u s v is in (three.0, three.2, three.1));
}

-- ---- below a step

module _ (b o t : NodeMap) (s : Step) where
  pub merge_below : (m : NodeMap) → IsMerge b o t m → IsMerge (sub b (s ∷ [])) (sub o (s ∷ [])) (sub t (s ∷ [])) (sub m (s ∷ []))
  merge_below m h = record {
    theirs = λ w. h.theirs (s ∷ w);
    ours = λ w. h.ours (s ∷ w);
    both = λ w. h.both (s ∷ w);
    objects = λ w. h.objects (s ∷ w);
  }

  -- a conflict below is one, if all three are objects
  pub conflict_below : AreObjects b o t [] → (w : Path) → IsConflict (sub b (s ∷ [])) (sub o (s ∷ [])) (sub t (s ∷ [])) w → IsConflict b o t (s ∷ w)
  conflict_below three w h = record {
    differ = record { ours = h.differ.ours; theirs = h.differ.theirs; both = h.differ.both };
    no_objects = h.no_objects;
    above = above;
  }
    where
      head : (r : Step) (u v : Path) → s ∷ w ≡ r ∷ (u ++ v) → (s ≡ r) × (w ≡ u ++ v)
      head r u v e = (cc, cc)

      above : (u : Path) (r : Step) (v : Path) → s ∷ w ≡ u ++ r ∷ v → AreObjects b o t u
      above [] r v e = three
      above (q ∷ u) r v e =
          let parts = head q u (r ∷ v) e in
          subst (λ (x : Step). AreObjects b o t (x ∷ u)) parts.0 (h.above u r v parts.1)

  pub no_conflict_below : AreObjects b o t [] → HasNoConflict b o t → HasNoConflict (sub b (s ∷ [])) (sub o (s ∷ [])) (sub t (s ∷ []))
  no_conflict_below three none w h = none (s ∷ w) (conflict_below three w h)

-- ---- at most one merge

an_object_or_not : (l : Option Label) → (l ≡ Some an_object) ⊎ (l ≡ Some an_object → ⊥)
an_object_or_not None = inr (λ e. let none : ⊥ = cc in none)
an_object_or_not (Some an_object) = inl refl
an_object_or_not (Some (an_array n)) = inr (λ e. let none : ⊥ = cc in none)
an_object_or_not (Some (a_leaf v)) = inr (λ e. let none : ⊥ = cc in none)

pub objects_or_not : (b o t : NodeMap) (w : Path) → AreObjects b o t w ⊎ (AreObjects b o t w → ⊥)
objects_or_not b o t w = ⊎_elim
    (λ (x : b w ≡ Some an_object). ⊎_elim
    (λ (y : o w ≡ Some an_object). ⊎_elim
    (λ (z : t w ≡ Some an_object). inl (x, y, z))
    (λ (z : t w ≡ Some an_object → ⊥). inr (λ three. z three.2))
    (an_object_or_not (t w)))
    (λ (y : o w ≡ Some an_object → ⊥). inr (λ three. y three.1))
    (an_object_or_not (o w)))
    (λ (x : b w ≡ Some an_object → ⊥). inr (λ three. x three.0))
    (an_object_or_not (b w))

pub nothing_above : {A : Type 0} (u : List A) (s : A) (v : List A) → [] ≡ u ++ s ∷ v → ⊥
nothing_above [] s v e = cc
nothing_above (r ∷ u) s v e = cc

pub conflict_at_root : (b o t : NodeMap) → AllDiffer b o t [] → (AreObjects b o t [] → ⊥) → IsConflict b o t []
conflict_at_root b o t differ no_objects = record {
  differ = differ;
  no_objects = no_objects;
  above = λ u s v e. absurd (nothing_above u s v e);
}

-- where two merges differ, all three maps do
module _ (b o t m l : NodeMap) (h : IsMerge b o t m) (g : IsMerge b o t l) (w : Path) (apart : m w ≢ l w) where
  pub differ_there : AllDiffer b o t []
  differ_there = record {
    ours = λ same. apart (ap (λ (n : NodeMap). n w) (h.theirs [] same) ∙ sym (ap (λ (n : NodeMap). n w) (g.theirs [] same)));
    theirs = λ same. apart (ap (λ (n : NodeMap). n w) (h.ours [] same) ∙ sym (ap (λ (n : NodeMap). n w) (g.ours [] same)));
    both = λ same. apart (ap (λ (n : NodeMap). n w) (h.both [] same) ∙ sym (ap (λ (n : NodeMap). n w) (g.both [] same)));
  }

pub one_merge : (w : Path) (b o t m l : NodeMap) → HasNoConflict b o t → IsMerge b o t m → IsMerge b o t l → m w ≢ l w → ⊥
one_merge [] b o t m l none h g apart = ⊎_elim
    (λ (three : AreObjects b o t []). apart (h.objects [] three ∙ sym (g.objects [] three)))
    (λ (other : AreObjects b o t [] → ⊥). none [] (conflict_at_root b o t (differ_there b o t m l h g [] apart) other))
    (objects_or_not b o t [])
one_merge (s ∷ w) b o t m l none h g apart = ⊎_elim
    (λ (three : AreObjects b o t []). one_merge w (sub b (s ∷ [])) (sub o (s ∷ [])) (sub t (s ∷ [])) (sub m (s ∷ [])) (sub l (s ∷ [])) (no_conflict_below b o t s three none) (merge_below b o t s m h) (merge_below b o t s l g) apart)
    (λ (other : AreObjects b o t [] → ⊥). none [] (conflict_at_root b o t (differ_there b o t m l h g (s ∷ w) apart) other))
    (objects_or_not b o t [])
