-- Operations that are appended to a patch: one after the other, below a step, and from the root.
use Rattle.std.proofs.Common.{◌≡◌, ℕ, ◌<◌, ◌≤◌, ◌⊎◌, ⊎_elim, false, List, [], ◌∷◌, ◌++◌, All, get_or, Option, Some, None, IsSome, inl, inr, refl, sym, ap, ap₂, ◌∙◌, subst, append_assoc, arith}
use mathlib.Core.Path.{fun_ext}
use Rattle.std.proofs.lemmas.List.Elements.{All-append, All-nil}
use Rattle.serde_json.specs.Data.{Data, depth, null}
use Rattle.serde_json.specs.View.{view}
use Rattle.jsonptr.specs.Text.{Text, dec}
use Rattle.jsonptr.specs.Node.{Step, key, place, Path, Label, an_object, an_array, NodeMap, sub, NamesStep, Names}
use Rattle.jsonptr.specs.Put.{rest_after, same_step, put}
use Rattle.jsonptr.specs.Json.{nodes, HasSortedKeys}
use Rattle.jsonptr.specs.Removing.{without_key, without_place, without_step, Deletes}
use Rattle.jsonptr_tree.proofs.NodeLemmas.{sub-root, Names-push, sub-push}
use Rattle.jsonptr_tree.proofs.PutLemmas.{cases_same, rest_after-below, rest_after-other, rest_after-shorter, put_none, put-sub, put-put, sub-put, put_below, Names-put}
use Rattle.jsonptr_tree.proofs.RemovingLemmas.{Deletes_child}
use Rattle.jsonptr_patch.specs.Inserting.{with_place}
use Rattle.jsonptr_patch.specs.Adding.{AddsUnder, Adds}
use Rattle.jsonptr_patch.specs.Operating.{Applies}
use Rattle.jsonptr_patch.specs.Order.{OperationHasSortedKeys}
use Rattle.jsonptr_patch.specs.Patching.{Patches}
use Rattle.jsonptr_patch.specs.declared.operation.Operation.{Operation}
use Rattle.jsonptr_patch.specs.declared.operation.Operation.TheVariants.{Add, Remove, Replace}
use Rattle.jsonptr_patch.proofs.OperatingLemmas.{patches_push}
use Rattle.jsonptr_patch_diff.specs.Diff.{AreOfOneKind, HasValueWithin, IsDoneBefore, IsStepTo, LeadsInBoth, StepsTo}
use Rattle.jsonptr_patch_diff.specs.PrivateDiff.{AppendsReplace, AppendsRemove, AppendsAdd, IsLike, Turns}

-- ---- lists

-- one element more
pub all_push : {T : Type 0} (P : T → Type 0) (os : List T) (o : T) → All P os → P o → All P (os ++ o ∷ [])
all_push P os o all one = All-append P os (o ∷ []) all alone
  where
    alone : All P (o ∷ [])
    alone i d low =
        let here : i ≡ 0 = omega (arith, low) in
        subst (λ (k : ℕ). P (get_or (o ∷ []) k d)) (sym here) one

-- ---- paths that lead in both documents

no_step : (front : Path) (s : Step) (rest : Path) → [] ≡ front ++ s ∷ rest → ⊥
no_step [] s rest e = cc
no_step (a ∷ front) s rest e = cc

-- a path and one step more, split before a step: before the last one, or before one of the path
split_push : (w : Path) (s : Step) (front : Path) (t : Step) (rest : Path) → w ++ s ∷ [] ≡ front ++ t ∷ rest → ((front ≡ w) × (t ≡ s)) ⊎ ((more : Path) × (w ≡ front ++ t ∷ more))
split_push [] s [] t rest e =
    let one : t ≡ s = cc in
    inl (refl, one)
split_push [] s (a ∷ front) t rest e =
    let tail : [] ≡ front ++ t ∷ rest = cc in
    absurd (no_step front t rest tail)
split_push (b ∷ w) s [] t rest e =
    let one : b ≡ t = cc in
    inr (w, ap (λ (a : Step). a ∷ w) one)
split_push (b ∷ w) s (a ∷ front) t rest e =
    let head : b ≡ a = cc in
    let tail : w ++ s ∷ [] ≡ front ++ t ∷ rest = cc in
    ⊎_elim
    (λ (h : (front ≡ w) × (t ≡ s)). inl (ap₂ (λ (x : Step) (p : Path). x ∷ p) (sym head) h.0, h.1))
    (λ (h : (more : Path) × (w ≡ front ++ t ∷ more)). inr (h.0, ap₂ (λ (x : Step) (p : Path). x ∷ p) head h.1))
    (split_push w s front t rest tail)

pub other_place : (i j : ℕ) → (i ≡ j → ⊥) → same_step (place i) (place j) ≡ false
other_place i j apart = ⊎_elim (λ (e : place i ≡ place j). absurd (apart (same e))) (λ (f : same_step (place i) (place j) ≡ false). f) (cases_same (place i) (place j))
  where
    same : place i ≡ place j → i ≡ j
    same e = cc

leads_root : (n m : NodeMap) → LeadsInBoth n m []
leads_root n m front s rest e = absurd (no_step front s rest e)

leads_push : (n m : NodeMap) (w : Path) (s : Step) → LeadsInBoth n m w → AreOfOneKind (n w) (m w) → IsDoneBefore n m w s → LeadsInBoth n m (w ++ s ∷ [])
leads_push n m w s leads kind done front t rest e = ⊎_elim
    (λ (h : (front ≡ w) × (t ≡ s)). subst (λ (p : Path). AreOfOneKind (n p) (m p) × IsDoneBefore n m p t) (sym h.0) (kind, subst (IsDoneBefore n m w) (sym h.1) done))
    (λ (h : (more : Path) × (w ≡ front ++ t ∷ more)). leads front t h.0 h.1)
    (split_push w s front t rest e)

done_below : (n m c g : NodeMap) (w : Path) (s : Step) → c ≡ sub n w → g ≡ sub m w → IsDoneBefore c g [] s → IsDoneBefore n m w s
done_below n m c g w (key k) is to done = tt
done_below n m c g w (place i) is to done = λ j low.
    sym (sub-push n c (sub c (place j ∷ [])) w (place j) is refl) ∙ done j low ∙ sub-push m g (sub g (place j ∷ [])) w (place j) to refl

root_of : (c n : NodeMap) (w : Path) → c ≡ sub n w → c [] ≡ n w
root_of c n w is = ap (λ (q : NodeMap). q []) is ∙ sub-root n w

-- one step below a place
leads_below : (n m c g : NodeMap) (w : Path) (s : Step) → c ≡ sub n w → g ≡ sub m w → LeadsInBoth n m w → AreOfOneKind (c []) (g []) → IsDoneBefore c g [] s → LeadsInBoth n m (w ++ s ∷ [])
leads_below n m c g w s is to leads kind done =
    let one = subst (λ (l : Option Label). AreOfOneKind l (g [])) (root_of c n w is) kind in
    let both : AreOfOneKind (n w) (m w) = subst (λ (l : Option Label). AreOfOneKind (n w) l) (root_of g m w to) one in
    leads_push n m w s leads both (done_below n m c g w s is to done)

done_put : (n m d : NodeMap) (w front : Path) (s : Step) (rest : Path) → w ≡ front ++ s ∷ rest → IsDoneBefore n m front s → IsDoneBefore (put n w d) m front s
done_put n m d w front (key k) rest e done = tt
done_put n m d w front (place i) rest e done = λ j low. fun_ext (λ (p : Path). put_none n w d ((front ++ place j ∷ []) ++ p) (apart j low p)) ∙ done j low
  where
    apart : (j : ℕ) → j < i → (p : Path) → rest_after w ((front ++ place j ∷ []) ++ p) ≡ None
    apart j low p = subst (λ (u : Path). rest_after u ((front ++ place j ∷ []) ++ p) ≡ None) (sym e)
        (ap (rest_after (front ++ place i ∷ rest)) (append_assoc front (place j ∷ []) p)
        ∙ rest_after-below front (place i ∷ rest) (place j ∷ p)
        ∙ rest_after-other (place i) (place j) rest p (other_place i j (λ same. omega (arith, same, low))))

-- what is put there changes nothing before it
leads_put : (n m d : NodeMap) (w : Path) → LeadsInBoth n m w → LeadsInBoth (put n w d) m w
leads_put n m d w leads front s rest e =
    let h = leads front s rest e in
    let none : rest_after w front ≡ None = subst (λ (p : Path). rest_after p front ≡ None) (sym e) (rest_after-shorter front s rest) in (
      subst (λ (l : Option Label). AreOfOneKind l (m front)) (sym (put_none n w d front none)) h.0,
      done_put n m d w front s rest e h.1,
    )

-- one step more
steps_push : (t n k m : NodeMap) (os : List Operation) (o : Operation) → StepsTo t n os k → IsStepTo t k o → Applies k o m → StepsTo t n (os ++ o ∷ []) m
steps_push t n k m [] o is step made =
    (m, subst (λ (q : NodeMap). IsStepTo t q o) is step, subst (λ (q : NodeMap). Applies q o m) is made, refl)
steps_push t n k m (p ∷ os) o h step made = (h.0, h.1, h.2, steps_push t h.0 k m os o h.3 step made)

one_step : (t n m k : NodeMap) (before after : List Operation) (o : Operation) → after ≡ before ++ o ∷ [] → StepsTo t n before m → IsStepTo t m o → Applies m o k → StepsTo t n after k
one_step t n m k before after o is done step made = subst (λ (os : List Operation). StepsTo t n os k) (sym is) (steps_push t n m k before o done step made)

-- ---- no operation, and one list after another

pub turns_nowhere : (goal : Data) (before : List Operation) (base : List Text) (c d : NodeMap) → c ≡ d → Turns goal before before base c d
turns_nowhere goal before base c d same = record {
  leads = λ n m w done named is. subst (λ (k : NodeMap). Patches n before k) (sym (put-sub m w) ∙ ap (put m w) (sym is ∙ same)) done;
  sorted = λ h all. all;
  shallow = λ k h all. all;
  steps = λ t n m w done named is to leads. subst (λ (k : NodeMap). StepsTo t n before k) (sym (put-sub m w) ∙ ap (put m w) (sym is ∙ same)) done;
}

pub turns_further : (goal : Data) (first then after : List Operation) (base : List Text) (c d e : NodeMap) → IsSome (d []) → Turns goal first then base c d → Turns goal then after base d e → Turns goal first after base c e
turns_further goal first then after base c d e root one two = record {
  leads = λ n m w done named is. subst (λ (k : NodeMap). Patches n after k) (put-put m w d e)
      (two.leads n (put m w d) w (one.leads n m w done named is) (Names-put m base w d named root) (sym (sub-put m w d)));
  sorted = λ h all. two.sorted h (one.sorted h all);
  shallow = λ k h all. two.shallow k h (one.shallow k h all);
  steps = λ t n m w done named is to leads. subst (λ (k : NodeMap). StepsTo t n after k) (put-put m w d e)
      (two.steps t n (put m w d) w (one.steps t n m w done named is to leads) (Names-put m base w d named root) (sym (sub-put m w d)) to (leads_put m t d w leads));
}

-- the same of equal maps
pub turns_as : (goal : Data) (before after : List Operation) (base : List Text) (c d e f : NodeMap) → c ≡ e → d ≡ f → Turns goal before after base e f → Turns goal before after base c d
turns_as goal before after base c d e f is to h = record {
  leads = λ n m w done named at. subst (λ (k : NodeMap). Patches n after (put m w k)) (sym to) (h.leads n m w done named (sym is ∙ at));
  sorted = h.sorted;
  shallow = h.shallow;
  steps = λ t n m w done named at final leads. subst (λ (k : NodeMap). StepsTo t n after (put m w k)) (sym to) (h.steps t n m w done named (sym is ∙ at) final leads);
}

-- from an empty list, at the root
pub turns_patches : (goal : Data) (before after : List Operation) (c d : NodeMap) → before ≡ [] → IsSome (c []) → Turns goal before after [] c d → Patches c after d
turns_patches goal before after c d none some h = h.leads c c [] (subst (λ (os : List Operation). Patches c os c) (sym none) refl) some refl

pub turns_sorted : (goal : Data) (before after : List Operation) (base : List Text) (c d : NodeMap) → before ≡ [] → HasSortedKeys goal → Turns goal before after base c d → All OperationHasSortedKeys after
turns_sorted goal before after base c d none s h = h.sorted s (subst (All OperationHasSortedKeys) (sym none) (All-nil OperationHasSortedKeys))

pub turns_shallow : (goal : Data) (before after : List Operation) (base : List Text) (c d : NodeMap) → before ≡ [] → Turns goal before after base c d → All (HasValueWithin (depth goal)) after
turns_shallow goal before after base c d none h =
    h.shallow (depth goal) (omega arith) (subst (All (HasValueWithin (depth goal))) (sym none) (All-nil (HasValueWithin (depth goal))))

pub turns_steps : (goal : Data) (before after : List Operation) (c d : NodeMap) → before ≡ [] → IsSome (c []) → Turns goal before after [] c d → StepsTo (nodes goal) c after d
turns_steps goal before after c d none some h =
    h.steps (nodes goal) c c [] (subst (λ (os : List Operation). StepsTo (nodes goal) c os c) (sym none) refl) some refl refl (leads_root c (nodes goal))

-- a part of the whole, below one step
pub turns_below : (goal part : Data) (before after : List Operation) (base : List Text) (x : Text) (s : Step) (c v d : NodeMap) → IsLike goal part → nodes part ≡ sub (nodes goal) (s ∷ []) → NamesStep (c []) x s → IsSome (c (s ∷ [])) → v ≡ sub c (s ∷ []) → AreOfOneKind (c []) (nodes goal []) → IsDoneBefore c (nodes goal) [] s → Turns part before after (base ++ x ∷ []) v d → Turns goal before after base c (put c (s ∷ []) d)
turns_below goal part before after base x s c v d like child step some at kind done h = record {
  leads = λ n m w first named is.
      subst (λ (k : NodeMap). Patches n after k) (placed m w is)
      (h.leads n m (w ++ s ∷ []) first (there m w named is) (sub-push m c v w s is at));
  sorted = λ s all. h.sorted (like.sorted s) all;
  shallow = λ k deep all. h.shallow k (omega (arith, like.shallow, deep)) all;
  steps = λ t n m w first named is to leads.
      subst (λ (k : NodeMap). StepsTo t n after k) (placed m w is)
      (h.steps t n m (w ++ s ∷ []) first (there m w named is) (sub-push m c v w s is at) (sub-push t (nodes goal) (nodes part) w s to child) (leads_below m t c (nodes goal) w s is to leads kind done));
}
  where
    there : (m : NodeMap) (w : Path) → Names m base w → c ≡ sub m w → Names m (base ++ x ∷ []) (w ++ s ∷ [])
    there m w named is = Names-push m base x w s named (subst (λ (l : Option Label). NamesStep l x s) (root_of c m w is) step) (subst (λ (k : NodeMap). IsSome (k (s ∷ []))) is some)

    placed : (m : NodeMap) (w : Path) → c ≡ sub m w → put m (w ++ s ∷ []) d ≡ put m w (put c (s ∷ []) d)
    placed m w is = put_below m w (s ∷ []) d ∙ ap (λ (k : NodeMap). put m w (put k (s ∷ []) d)) (sym is)

-- ---- one operation more

one_more : (n m k : NodeMap) (before after : List Operation) (o : Operation) → after ≡ before ++ o ∷ [] → Patches n before m → Applies m o k → Patches n after k
one_more n m k before after o is done made = subst (λ (os : List Operation). Patches n os k) (sym is) (patches_push n m k before o done made)

all_of : (P : Operation → Type 0) (before after : List Operation) (o : Operation) → after ≡ before ++ o ∷ [] → P o → All P before → All P after
all_of P before after o is one all = subst (All P) (sym is) (all_push P before o all one)

replaced : (m : NodeMap) (base : List Text) (w : Path) (d : Data) (before after : List Operation) (h : AppendsReplace before after base d) → Names m base w → Applies m (Replace h.path h.value) (put m w (nodes d))
replaced m base w d before after h named = record {
  path = w;
  named = subst (λ (ts : List Text). Names m ts w) (sym h.at) named;
  made = ap (λ (e : Data). put m w (nodes e)) (sym h.clone);
}

-- another value there is replaced
pub turns_replace : (before after : List Operation) (base : List Text) (c : NodeMap) (d : Data) → (c ≡ nodes d → ⊥) → (AreOfOneKind (c []) (nodes d []) → ⊥) → AppendsReplace before after base d → Turns d before after base c (nodes d)
turns_replace before after base c d apart other h = record {
  leads = λ n m w done named there. one_more n m (put m w (nodes d)) before after (Replace h.path h.value) h.appended done (replaced m base w d before after h named);
  sorted = λ s all. all_of OperationHasSortedKeys before after (Replace h.path h.value) h.appended (subst HasSortedKeys (sym h.clone) s) all;
  shallow = λ j deep all. all_of (HasValueWithin j) before after (Replace h.path h.value) h.appended (subst (λ (e : Data). depth e ≤ j) (sym h.clone) deep) all;
  steps = λ t n m w done named there to leads. one_step t n m (put m w (nodes d)) before after (Replace h.path h.value) h.appended done
      (record {
        at = w;
        named = subst (λ (ts : List Text). Names m ts w) (sym h.at) named;
        leads = leads;
        other = λ kind. other (subst (λ (l : Option Label). AreOfOneKind l (nodes d [])) (sym (root_of c m w there)) (subst (λ (l : Option Label). AreOfOneKind (m w) l) (sym (root_of (nodes d) t w to)) kind));
        differs = λ same. apart (there ∙ same ∙ sym to);
        final = ap nodes h.clone ∙ to;
      })
      (replaced m base w d before after h named);
}

module _ (base : List Text) (k : Text) (c m : NodeMap) (w : Path) (named : Names m base w) (is : c ≡ sub m w) (object : c [] ≡ Some an_object) where
  object_there : m w ≡ Some an_object
  object_there = sym (sub-root m w) ∙ sym (ap (λ (q : NodeMap). q []) is) ∙ object

  member_named : IsSome (c (key k ∷ [])) → Names m (base ++ k ∷ []) (w ++ key k ∷ [])
  member_named some = Names-push m base k w (key k) named (subst (λ (l : Option Label). NamesStep l k (key k)) (sym object_there) refl) (subst (λ (q : NodeMap). IsSome (q (key k ∷ []))) is some)

  member_removed : IsSome (c (key k ∷ [])) → Applies m (Remove (base ++ k ∷ [])) (put m w (without_key k c))
  member_removed some =
      let there = member_named some in
      let made : put m w (without_step (key k) (sub m w)) ≡ put m w (without_key k c) = ap (λ (q : NodeMap). put m w (without_key k q)) (sym is) in (
        sub m (w ++ key k ∷ []),
        record {
          found = record { path = w ++ key k ∷ []; named = there; below = refl };
          left = subst (λ (q : NodeMap). Deletes m (base ++ k ∷ []) (nodes null) q) made (Deletes_child m (nodes null) (base ++ k ∷ []) w (key k) there);
        },
      )

  member_added : (v : NodeMap) → Adds m (base ++ k ∷ []) v (put m w (put c (key k ∷ []) v))
  member_added v = inr (record {
    front = base;
    last = k;
    path = w;
    split = refl;
    named = named;
    made = subst (λ (l : Option Label). AddsUnder m w l k v (put m w (put c (key k ∷ []) v))) (sym object_there) (ap (λ (q : NodeMap). put m w (put q (key k ∷ []) v)) is ∙ sym (put_below m w (key k ∷ []) v));
  })

-- the member under a key of an object is removed, which the whole does not have
pub turns_remove_member : (goal : Data) (before after : List Operation) (base : List Text) (k : Text) (c : NodeMap) → AreOfOneKind (c []) (nodes goal []) → nodes goal (key k ∷ []) ≡ None → c [] ≡ Some an_object → IsSome (c (key k ∷ [])) → AppendsRemove before after (base ++ k ∷ []) → Turns goal before after base c (without_key k c)
turns_remove_member goal before after base k c kind lacks object some h = record {
  leads = λ n m w done named there. one_more n m (put m w (without_key k c)) before after (Remove h.path) h.appended done (made m w named there);
  sorted = λ s all. all_of OperationHasSortedKeys before after (Remove h.path) h.appended tt all;
  shallow = λ j deep all. all_of (HasValueWithin j) before after (Remove h.path) h.appended tt all;
  steps = λ t n m w done named there to leads. one_step t n m (put m w (without_key k c)) before after (Remove h.path) h.appended done
      (record {
        front = w;
        step = key k;
        named = subst (λ (ts : List Text). Names m ts (w ++ key k ∷ [])) (sym h.at) (member_named base k c m w named there object some);
        leads = leads_below m t c (nodes goal) w (key k) there to leads kind tt;
        gone = sym (ap (λ (q : NodeMap). q (key k ∷ [])) to) ∙ lacks;
      })
      (made m w named there);
}
  where
    made : (m : NodeMap) (w : Path) → Names m base w → c ≡ sub m w → Applies m (Remove h.path) (put m w (without_key k c))
    made m w named there = subst (λ (ts : List Text). Applies m (Remove ts) (put m w (without_key k c))) (sym h.at) (member_removed base k c m w named there object some)

-- a member of the whole is added to an object that lacks it
pub turns_add_member : (goal : Data) (before after : List Operation) (base : List Text) (k : Text) (c : NodeMap) (d : Data) → IsLike goal d → AreOfOneKind (c []) (nodes goal []) → c (key k ∷ []) ≡ None → nodes d ≡ sub (nodes goal) (key k ∷ []) → c [] ≡ Some an_object → AppendsAdd before after (base ++ k ∷ []) d → Turns goal before after base c (put c (key k ∷ []) (nodes d))
turns_add_member goal before after base k c d like kind lacks child object h = record {
  leads = λ n m w done named there. one_more n m (put m w (put c (key k ∷ []) (nodes d))) before after (Add h.path h.value) h.appended done (made m w named there);
  sorted = λ s all. all_of OperationHasSortedKeys before after (Add h.path h.value) h.appended (subst HasSortedKeys (sym h.clone) (like.sorted s)) all;
  shallow = λ j deep all. all_of (HasValueWithin j) before after (Add h.path h.value) h.appended (subst (λ (e : Data). depth e ≤ j) (sym h.clone) (omega (arith, like.shallow, deep))) all;
  steps = λ t n m w done named there to leads. one_step t n m (put m w (put c (key k ∷ []) (nodes d))) before after (Add h.path h.value) h.appended done
      (record {
        front = base;
        token = k;
        split = h.at;
        at = w;
        step = key k;
        named = named;
        refers = refl;
        leads = leads_below m t c (nodes goal) w (key k) there to leads kind tt;
        vacant = sym (ap (λ (q : NodeMap). q (key k ∷ [])) there) ∙ lacks;
        final = ap nodes h.clone ∙ sub-push t (nodes goal) (nodes d) w (key k) to child;
      })
      (made m w named there);
}
  where
    made : (m : NodeMap) (w : Path) → Names m base w → c ≡ sub m w → Applies m (Add h.path h.value) (put m w (put c (key k ∷ []) (nodes d)))
    made m w named there = subst (λ (ts : List Text). Adds m ts (nodes (view h.value)) (put m w (put c (key k ∷ []) (nodes d)))) (sym h.at)
        (subst (λ (e : Data). Adds m (base ++ k ∷ []) (nodes e) (put m w (put c (key k ∷ []) (nodes d)))) (sym h.clone) (member_added base k c m w named there object (nodes d)))

module _ (base : List Text) (i len : ℕ) (c m : NodeMap) (w : Path) (named : Names m base w) (is : c ≡ sub m w) (array : c [] ≡ Some (an_array len)) where
  array_there : m w ≡ Some (an_array len)
  array_there = sym (sub-root m w) ∙ sym (ap (λ (q : NodeMap). q []) is) ∙ array

  element_named : i < len → IsSome (c (place i ∷ [])) → Names m (base ++ dec i ∷ []) (w ++ place i ∷ [])
  element_named inside some = Names-push m base (dec i) w (place i) named (subst (λ (l : Option Label). NamesStep l (dec i) (place i)) (sym array_there) (inside, refl)) (subst (λ (q : NodeMap). IsSome (q (place i ∷ []))) is some)

  element_removed : i < len → IsSome (c (place i ∷ [])) → Applies m (Remove (base ++ dec i ∷ [])) (put m w (without_place i c))
  element_removed inside some =
      let there = element_named inside some in (
        sub m (w ++ place i ∷ []),
        record {
          found = record { path = w ++ place i ∷ []; named = there; below = refl };
          left = subst (λ (q : NodeMap). Deletes m (base ++ dec i ∷ []) (nodes null) (put m w (without_place i q))) (sym is) (Deletes_child m (nodes null) (base ++ dec i ∷ []) w (place i) there);
        },
      )

  element_added : (v : NodeMap) → i ≤ len → Adds m (base ++ dec i ∷ []) v (put m w (with_place i v c))
  element_added v within = inr (record {
    front = base;
    last = dec i;
    path = w;
    split = refl;
    named = named;
    made = subst (λ (l : Option Label). AddsUnder m w l (dec i) v (put m w (with_place i v c))) (sym array_there) (i, (within, inl refl), ap (λ (q : NodeMap). put m w (with_place i v q)) is);
  })

-- an element of an array is removed, before which all are done
pub turns_remove_element : (goal : Data) (before after : List Operation) (base : List Text) (i len : ℕ) (c : NodeMap) → AreOfOneKind (c []) (nodes goal []) → IsDoneBefore c (nodes goal) [] (place i) → c [] ≡ Some (an_array len) → i < len → IsSome (c (place i ∷ [])) → AppendsRemove before after (base ++ dec i ∷ []) → Turns goal before after base c (without_place i c)
turns_remove_element goal before after base i len c kind done array inside some h = record {
  leads = λ n m w first named there. one_more n m (put m w (without_place i c)) before after (Remove h.path) h.appended first (made m w named there);
  sorted = λ s all. all_of OperationHasSortedKeys before after (Remove h.path) h.appended tt all;
  shallow = λ j deep all. all_of (HasValueWithin j) before after (Remove h.path) h.appended tt all;
  steps = λ t n m w first named there to leads. one_step t n m (put m w (without_place i c)) before after (Remove h.path) h.appended first
      (record {
        front = w;
        step = place i;
        named = subst (λ (ts : List Text). Names m ts (w ++ place i ∷ [])) (sym h.at) (element_named base i len c m w named there array inside some);
        leads = leads_below m t c (nodes goal) w (place i) there to leads kind done;
        gone = tt;
      })
      (made m w named there);
}
  where
    made : (m : NodeMap) (w : Path) → Names m base w → c ≡ sub m w → Applies m (Remove h.path) (put m w (without_place i c))
    made m w named there = subst (λ (ts : List Text). Applies m (Remove ts) (put m w (without_place i c))) (sym h.at) (element_removed base i len c m w named there array inside some)

-- an element of the whole is inserted into an array, where all before it are done
pub turns_add_element : (goal : Data) (before after : List Operation) (base : List Text) (i len : ℕ) (c : NodeMap) (d : Data) → IsLike goal d → AreOfOneKind (c []) (nodes goal []) → IsDoneBefore c (nodes goal) [] (place i) → nodes d ≡ sub (nodes goal) (place i ∷ []) → c [] ≡ Some (an_array len) → i ≤ len → AppendsAdd before after (base ++ dec i ∷ []) d → Turns goal before after base c (with_place i (nodes d) c)
turns_add_element goal before after base i len c d like kind done child array within h = record {
  leads = λ n m w first named there. one_more n m (put m w (with_place i (nodes d) c)) before after (Add h.path h.value) h.appended first (made m w named there);
  sorted = λ s all. all_of OperationHasSortedKeys before after (Add h.path h.value) h.appended (subst HasSortedKeys (sym h.clone) (like.sorted s)) all;
  shallow = λ j deep all. all_of (HasValueWithin j) before after (Add h.path h.value) h.appended (subst (λ (e : Data). depth e ≤ j) (sym h.clone) (omega (arith, like.shallow, deep))) all;
  steps = λ t n m w first named there to leads. one_step t n m (put m w (with_place i (nodes d) c)) before after (Add h.path h.value) h.appended first
      (record {
        front = base;
        token = dec i;
        split = h.at;
        at = w;
        step = place i;
        named = named;
        refers = refl;
        leads = leads_below m t c (nodes goal) w (place i) there to leads kind done;
        vacant = tt;
        final = ap nodes h.clone ∙ sub-push t (nodes goal) (nodes d) w (place i) to child;
      })
      (made m w named there);
}
  where
    made : (m : NodeMap) (w : Path) → Names m base w → c ≡ sub m w → Applies m (Add h.path h.value) (put m w (with_place i (nodes d) c))
    made m w named there = subst (λ (ts : List Text). Adds m ts (nodes (view h.value)) (put m w (with_place i (nodes d) c))) (sym h.at)
        (subst (λ (e : Data). Adds m (base ++ dec i ∷ []) (nodes e) (put m w (with_place i (nodes d) c))) (sym h.clone) (element_added base i len c m w named there array (nodes d) within))
