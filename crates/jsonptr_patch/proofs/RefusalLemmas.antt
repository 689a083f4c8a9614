-- How an operation fails depends on no more than the members that its pointers lead through.
use Rattle.std.proofs.Common.{◌≡◌, ℕ, ◌+◌, ◌≤◌, ◌⊎◌, inl, inr, ⊎_elim, List, [], ◌∷◌, ◌++◌, length, Option, Some, None, IsSome, refl, sym, ap, ap₂, ◌∙◌, subst, arith, append_assoc, length-append}
use Rattle.jsonptr.specs.Text.{Text, text}
use Rattle.jsonptr.specs.Assign.{RefusesAssign}
use Rattle.jsonptr.specs.Delete.{NamesNothing}
use Rattle.jsonptr.specs.Resolve.{Refuses}
use Rattle.jsonptr.specs.declared.resolve.Error.{Error as ResolveError}
use Rattle.jsonptr.specs.declared.assign.Error.{Error as AssignError}
use Rattle.jsonptr.specs.Node.{Step, key, Path, Scalar, Label, an_object, an_array, a_leaf, NodeMap, sub, NamesStep, Names}
use Rattle.jsonptr.specs.Following.{Finds, StopsBefore, LacksStep}
use Rattle.jsonptr.specs.Put.{put}
use Rattle.jsonptr_tree.proofs.FollowingLemmas.{cases_some, lacks_at_object, stops_before, stops-lacks}
use Rattle.jsonptr_tree.proofs.NodeLemmas.{sub-root, sub-sub, NamesStep_one_step, Names-append, Names-split, Names_one_path}
use Rattle.jsonptr_patch.specs.Adding.{LacksParent, HasArray}
use Rattle.jsonptr_patch.specs.Apart.{Diverges}
use Rattle.jsonptr_patch.specs.Inverse.{HasObject, IsElementAt}
use Rattle.jsonptr_patch.specs.Operating.{RefusesTarget, RefusesAdd, RefusesTestBy}
use Rattle.jsonptr_patch.specs.declared.failed_operation.FailedOperation.{FailedOperation}
use Rattle.jsonptr_patch.specs.declared.failed_operation.PatchPointer.{PatchPointer}
use Rattle.jsonptr_patch.specs.declared.failed_operation.PatchPointer.TheVariants as pointer
use Rattle.jsonptr_patch.proofs.MemberLemmas.{IsLocal, put-other_member, Names-above, object-above, first_step, object_step, at_object, other_change}
use Rattle.jsonptr_patch.proofs.LevelLemmas.{local_find}
use Rattle.jsonptr_patch.specs.declared.comparison.Comparison.{Comparison}
use Rattle.jsonptr_patch.specs.declared.comparison.Comparison.TheVariants.{Strict, Numeric}

-- two maps in which tokens lead to the same member `x` of an object at the path `u`

pub record SameMember (n k : NodeMap) (front : List Text) (u : Path) (x : Text) : Type 0 where
  pub named : Names n front u
  pub object : n u ≡ Some an_object
  pub named_too : Names k front u
  pub object_too : k u ≡ Some an_object
  pub same : sub k (u ++ key x ∷ []) ≡ sub n (u ++ key x ∷ [])

-- `IsSeen P`: `P` depends on no more than the member that the tokens lead through
abbrev pub IsSeen : (NodeMap → List Text → Type 0) → Type 0
IsSeen P =
    (n k : NodeMap) (front : List Text) (u : Path) (x : Text) (more : List Text)
    → SameMember n k front u x
    → P n (front ++ x ∷ more) → P k (front ++ x ∷ more)

turned : (n k : NodeMap) (front : List Text) (u : Path) (x : Text) → SameMember n k front u x → SameMember k n front u x
turned n k front u x r = record { named = r.named_too; object = r.object_too; named_too = r.named; object_too = r.object; same = sym r.same }

-- a prefix of tokens

pub cases_prefix : (front f : List Text) (x z : Text) (more rest : List Text) → front ++ x ∷ more ≡ f ++ z ∷ rest → ((f ≡ front) × (z ≡ x)) ⊎ (((g : List Text) × (f ≡ front ++ x ∷ g)) ⊎ ((g : List Text) × (front ≡ f ++ z ∷ g) × (rest ≡ g ++ x ∷ more)))
cases_prefix [] [] x z more rest e = inl (refl, cc)
cases_prefix [] (b ∷ f) x z more rest e =
    let head : x ≡ b = cc in
    inr (inl (f, ap (λ (t : Text). t ∷ f) (sym head)))
cases_prefix (a ∷ front) [] x z more rest e =
    let head : a ≡ z = cc in
    let tail : front ++ x ∷ more ≡ rest = cc in
    inr (inr (front, ap (λ (t : Text). t ∷ front) head, sym tail))
cases_prefix (a ∷ front) (b ∷ f) x z more rest e =
    let head : a ≡ b = cc in
    let tail : front ++ x ∷ more ≡ f ++ z ∷ rest = cc in
    ⊎_elim
    (λ (r : (f ≡ front) × (z ≡ x)). inl (ap₂ (λ (t : Text) (ts : List Text). t ∷ ts) (sym head) r.0, r.1))
    (λ (r : ((g : List Text) × (f ≡ front ++ x ∷ g)) ⊎ ((g : List Text) × (front ≡ f ++ z ∷ g) × (rest ≡ g ++ x ∷ more))). ⊎_elim
    (λ (q : (g : List Text) × (f ≡ front ++ x ∷ g)). inr (inl (q.0, ap₂ (λ (t : Text) (ts : List Text). t ∷ ts) (sym head) q.1)))
    (λ (q : (g : List Text) × (front ≡ f ++ z ∷ g) × (rest ≡ g ++ x ∷ more)). inr (inr (q.0, ap₂ (λ (t : Text) (ts : List Text). t ∷ ts) head q.1, q.2)))
    r)
    (cases_prefix front f x z more rest tail)

-- what is below the member is the same
label_same : (n k : NodeMap) (front : List Text) (u : Path) (x : Text) → SameMember n k front u x → (t : Path) → k ((u ++ key x ∷ []) ++ t) ≡ n ((u ++ key x ∷ []) ++ t)
label_same n k front u x r t = ap (λ (z : NodeMap). z t) r.same

-- tokens that lead through the member lead to the same path
named_below : (n k : NodeMap) (front : List Text) (u : Path) (x : Text) → SameMember n k front u x → (g : List Text) (w : Path) → Names n (front ++ x ∷ g) w → (t : Path) × (w ≡ (u ++ key x ∷ []) ++ t) × Names k (front ++ x ∷ g) ((u ++ key x ∷ []) ++ t)
named_below n k front u x r g w h =
    let parts = Names-split n front (x ∷ g) w h in
    let here : parts.0 ≡ u = Names_one_path n front parts.0 u parts.3 r.named in
    let rest : Names (sub n u) (x ∷ g) parts.1 = subst (λ (v : Path). Names (sub n v) (x ∷ g) parts.1) here parts.4 in
    let next = first_step (sub n u) x g parts.1 (sub-root n u ∙ r.object) rest in
    let below : sub (sub n u) (key x ∷ []) ≡ sub (sub k u) (key x ∷ []) = sub-sub n u (key x ∷ []) ∙ sym r.same ∙ sym (sub-sub k u (key x ∷ [])) in
    let after : Names (sub (sub k u) (key x ∷ [])) g next.0 = subst (λ (z : NodeMap). Names z g next.0) below next.2 in
    let too : Names k (front ++ x ∷ g) (u ++ key x ∷ next.0) = Names-append k front (x ∷ g) u (key x ∷ next.0) r.named_too (at_object (sub k u []) x (sub-root k u ∙ r.object_too), after) in (
      next.0,
      parts.2 ∙ ap (λ (v : Path). v ++ parts.1) here ∙ ap (λ (v : Path). u ++ v) next.1 ∙ sym (append_assoc u (key x ∷ []) next.0),
      subst (λ (v : Path). Names k (front ++ x ∷ g) v) (sym (append_assoc u (key x ∷ []) next.0)) too,
    )

-- where following stops

stops_again : (k : NodeMap) (tokens f : List Text) (z : Text) (rest : List Text) (w : Path) (l : Label) (p o : ℕ) → tokens ≡ f ++ z ∷ rest → Names k f w → k w ≡ Some l → LacksStep k w z → p ≡ length f → o ≡ length (text f) → StopsBefore k tokens p o l z
stops_again k tokens f z rest w l p o split named label lacks is_p is_o =
    subst (λ (i : ℕ). StopsBefore k tokens p i l z) (sym is_o) (subst (λ (i : ℕ). StopsBefore k tokens i (length (text f)) l z) (sym is_p) (stops_before k tokens f z rest w l split named label lacks))

pub seen_stop : (p o : ℕ) (l : Label) (z : Text) → IsSeen (λ n tokens. StopsBefore n tokens p o l z)
seen_stop p o l z n k front u x more r h = ⊎_elim
    (λ (c : (h.front ≡ front) × (z ≡ x)). here c.0 c.1)
    (λ (c : ((g : List Text) × (h.front ≡ front ++ x ∷ g)) ⊎ ((g : List Text) × (front ≡ h.front ++ z ∷ g) × (h.rest ≡ g ++ x ∷ more))). ⊎_elim
    (λ (d : (g : List Text) × (h.front ≡ front ++ x ∷ g)). below d.0 d.1)
    (λ (d : (g : List Text) × (front ≡ h.front ++ z ∷ g) × (h.rest ≡ g ++ x ∷ more)). absurd (above d.0 d.1))
    c)
    (cases_prefix front h.front x z more h.rest h.stops.split)
  where
    tokens : List Text
    tokens = front ++ x ∷ more

    lacks : LacksStep n h.path z
    lacks = stops-lacks n (front ++ x ∷ more) h.front z h.rest h.path h.stops

    -- at the object
    here : h.front ≡ front → z ≡ x → StopsBefore k (front ++ x ∷ more) p o l z
    here is_front is_x =
        let at : h.path ≡ u = Names_one_path n front h.path u (subst (λ (ts : List Text). Names n ts h.path) is_front h.stops.named) r.named in
        let label : k u ≡ Some l = r.object_too ∙ sym r.object ∙ ap n (sym at) ∙ h.label_is in
        let no_member : n (u ++ key x ∷ []) ≡ None = ⊎_elim
        (λ (some : IsSome (n (u ++ key x ∷ []))). absurd (lacks (key x) (subst (λ (w : Path). NamesStep (n w) z (key x)) (sym at) (subst (λ (t : Text). NamesStep (n u) t (key x)) (sym is_x) (at_object (n u) x r.object))) (subst (λ (w : Path). IsSome (n (w ++ key x ∷ []))) (sym at) some)))
        (λ (none : n (u ++ key x ∷ []) ≡ None). none)
        (cases_some (n (u ++ key x ∷ []))) in
        let none_too : k (u ++ key x ∷ []) ≡ None = sym (sub-root k (u ++ key x ∷ [])) ∙ ap (λ (m : NodeMap). m []) r.same ∙ sub-root n (u ++ key x ∷ []) ∙ no_member in
        subst (λ (t : Text). StopsBefore k (front ++ x ∷ more) p o l t) (sym is_x) (stops_again k (front ++ x ∷ more) front x more u l p o refl r.named_too label (lacks_at_object k u x r.object_too none_too) (h.position_is ∙ ap (λ (ts : List Text). length ts) is_front) (h.offset_is ∙ ap (λ (ts : List Text). length (text ts)) is_front))

    -- below the member
    below : (g : List Text) → h.front ≡ front ++ x ∷ g → StopsBefore k (front ++ x ∷ more) p o l z
    below g is =
        let q : Path = u ++ key x ∷ [] in
        let leads = named_below n k front u x r g h.path (subst (λ (ts : List Text). Names n ts h.path) is h.stops.named) in
        let named : Names k h.front (q ++ leads.0) = subst (λ (ts : List Text). Names k ts (q ++ leads.0)) (sym is) leads.2 in
        let label : k (q ++ leads.0) ≡ Some l = label_same n k front u x r leads.0 ∙ ap n (sym leads.1) ∙ h.label_is in
        let lacks_too : LacksStep k (q ++ leads.0) z = λ s step some.
        let label_there : k (q ++ leads.0) ≡ n h.path = label_same n k front u x r leads.0 ∙ ap n (sym leads.1) in
        let child : k ((q ++ leads.0) ++ s ∷ []) ≡ n (h.path ++ s ∷ []) = ap k (append_assoc q leads.0 (s ∷ [])) ∙ label_same n k front u x r (leads.0 ++ s ∷ []) ∙ ap n (sym (append_assoc q leads.0 (s ∷ []))) ∙ ap (λ (w : Path). n (w ++ s ∷ [])) (sym leads.1) in
        lacks s (subst (λ (m : Option Label). NamesStep m z s) label_there step) (subst (λ (m : Option Label). IsSome m) child some) in
        stops_again k (front ++ x ∷ more) h.front z h.rest (q ++ leads.0) l p o h.stops.split named label lacks_too h.position_is h.offset_is

    -- above the object following does not stop
    above : (g : List Text) → front ≡ h.front ++ z ∷ g → ⊥
    above g is =
        let short : length front ≤ length h.front = h.stops.longest front (x ∷ more) u refl r.named in
        let long : length front ≡ length h.front + length (z ∷ g) = ap (λ (ts : List Text). length ts) is ∙ length-append h.front (z ∷ g) in
        omega (arith, short, long)

pub seen_refuses : (e : ResolveError) → IsSeen (λ n tokens. Refuses n tokens e)
seen_refuses e n k front u x more r h = record {
  label = h.label;
  token = h.token;
  stops = seen_stop _ _ h.label h.token n k front u x more r h.stops;
  why = h.why;
}

pub seen_refuses_assign : (e : AssignError) → IsSeen (λ n tokens. RefusesAssign n tokens e)
seen_refuses_assign e n k front u x more r h = record {
  len = h.len;
  token = h.token;
  nowhere = record { stops = seen_stop _ _ (an_array h.len) h.token n k front u x more r h.nowhere.stops; no_dash = h.nowhere.no_dash; no_place = h.nowhere.no_place };
  why = h.why;
}

pub seen_refuses_target : (i : ℕ) (at : PatchPointer) (e : FailedOperation) → IsSeen (λ n tokens. RefusesTarget n i at tokens e)
seen_refuses_target i at e n k front u x more r h = (h.0, h.1, seen_refuses h.0 n k front u x more r h.2)

pub no_end : (g : List Text) (x : Text) (more : List Text) → [] ≡ g ++ x ∷ more → ⊥
no_end [] x more e = cc
no_end (t ∷ g) x more e = cc

seen_lacks_parent : IsSeen LacksParent
seen_lacks_parent n k front u x more r h = record {
  front = h.front;
  last = h.last;
  split = h.split;
  scalar = λ w named. ⊎_elim
      (λ (c : (h.front ≡ front) × (h.last ≡ x)). absurd (here c.0))
      (λ (c : ((g : List Text) × (h.front ≡ front ++ x ∷ g)) ⊎ ((g : List Text) × (front ≡ h.front ++ h.last ∷ g) × ([] ≡ g ++ x ∷ more))). ⊎_elim
      (λ (d : (g : List Text) × (h.front ≡ front ++ x ∷ g)). below w named d.0 d.1)
      (λ (d : (g : List Text) × (front ≡ h.front ++ h.last ∷ g) × ([] ≡ g ++ x ∷ more)). absurd (no_end d.0 x more d.2))
      c)
      (cases_prefix front h.front x h.last more [] h.split);
}
  where
    here : h.front ≡ front → ⊥
    here is =
        let s = h.scalar u (subst (λ (ts : List Text). Names n ts u) (sym is) r.named) in
        let both : Some an_object ≡ Some (a_leaf s.0) = sym r.object ∙ s.1 in
        clash s.0 both
      where
        clash : (a : Scalar) → Some an_object ≡ Some (a_leaf a) → ⊥
        clash a e = cc

    below : (w : Path) → Names k h.front w → (g : List Text) → h.front ≡ front ++ x ∷ g → (a : Scalar) × (k w ≡ Some (a_leaf a))
    below w named g is =
        let back = named_below k n front u x (turned n k front u x r) g w (subst (λ (ts : List Text). Names k ts w) is named) in
        let s = h.scalar ((u ++ key x ∷ []) ++ back.0) (subst (λ (ts : List Text). Names n ts ((u ++ key x ∷ []) ++ back.0)) (sym is) back.2) in
        (s.0, ap k back.1 ∙ label_same n k front u x r back.0 ∙ s.1)

seen_has_array : IsSeen HasArray
seen_has_array n k front u x more r h = ⊎_elim
    (λ (c : (h.front ≡ front) × (h.last ≡ x)). absurd (here c.0))
    (λ (c : ((g : List Text) × (h.front ≡ front ++ x ∷ g)) ⊎ ((g : List Text) × (front ≡ h.front ++ h.last ∷ g) × ([] ≡ g ++ x ∷ more))). ⊎_elim
    (λ (d : (g : List Text) × (h.front ≡ front ++ x ∷ g)). below d.0 d.1)
    (λ (d : (g : List Text) × (front ≡ h.front ++ h.last ∷ g) × ([] ≡ g ++ x ∷ more)). absurd (no_end d.0 x more d.2))
    c)
    (cases_prefix front h.front x h.last more [] h.split)
  where
    here : h.front ≡ front → ⊥
    here is =
        let at : h.path ≡ u = Names_one_path n front h.path u (subst (λ (ts : List Text). Names n ts h.path) is h.named) r.named in
        let both : Some an_object ≡ Some (an_array h.len) = sym r.object ∙ ap n (sym at) ∙ h.array in
        clash h.len both
      where
        clash : (i : ℕ) → Some an_object ≡ Some (an_array i) → ⊥
        clash i e = cc

    below : (g : List Text) → h.front ≡ front ++ x ∷ g → HasArray k (front ++ x ∷ more)
    below g is =
        let leads = named_below n k front u x r g h.path (subst (λ (ts : List Text). Names n ts h.path) is h.named) in
        record {
          front = h.front;
          last = h.last;
          path = (u ++ key x ∷ []) ++ leads.0;
          len = h.len;
          split = h.split;
          named = subst (λ (ts : List Text). Names k ts ((u ++ key x ∷ []) ++ leads.0)) (sym is) leads.2;
          array = label_same n k front u x r leads.0 ∙ ap n (sym leads.1) ∙ h.array;
        }

-- the same array, and an index of it
pub seen_is_element : (element : List Text) → IsSeen (λ n tokens. IsElementAt n tokens element)
seen_is_element element n k front u x more r h = ⊎_elim
    (λ (c : (h.front ≡ front) × (h.last ≡ x)). absurd (here c.0))
    (λ (c : ((g : List Text) × (h.front ≡ front ++ x ∷ g)) ⊎ ((g : List Text) × (front ≡ h.front ++ h.last ∷ g) × ([] ≡ g ++ x ∷ more))). ⊎_elim
    (λ (d : (g : List Text) × (h.front ≡ front ++ x ∷ g)). below d.0 d.1)
    (λ (d : (g : List Text) × (front ≡ h.front ++ h.last ∷ g) × ([] ≡ g ++ x ∷ more)). absurd (no_end d.0 x more d.2))
    c)
    (cases_prefix front h.front x h.last more [] h.split)
  where
    here : h.front ≡ front → ⊥
    here is =
        let at : h.path ≡ u = Names_one_path n front h.path u (subst (λ (ts : List Text). Names n ts h.path) is h.named) r.named in
        let both : Some an_object ≡ Some (an_array h.len) = sym r.object ∙ ap n (sym at) ∙ h.array in
        clash h.len both
      where
        clash : (i : ℕ) → Some an_object ≡ Some (an_array i) → ⊥
        clash i e = cc

    below : (g : List Text) → h.front ≡ front ++ x ∷ g → IsElementAt k (front ++ x ∷ more) element
    below g is =
        let leads = named_below n k front u x r g h.path (subst (λ (ts : List Text). Names n ts h.path) is h.named) in
        record {
          front = h.front;
          last = h.last;
          path = (u ++ key x ∷ []) ++ leads.0;
          len = h.len;
          index = h.index;
          split = h.split;
          named = subst (λ (ts : List Text). Names k ts ((u ++ key x ∷ []) ++ leads.0)) (sym is) leads.2;
          array = label_same n k front u x r leads.0 ∙ ap n (sym leads.1) ∙ h.array;
          means = h.means;
          element_is = h.element_is;
        }

-- the same object
pub seen_has_object : IsSeen HasObject
seen_has_object n k front u x more r h = ⊎_elim
    (λ (c : (h.front ≡ front) × (h.last ≡ x)). here c.0)
    (λ (c : ((g : List Text) × (h.front ≡ front ++ x ∷ g)) ⊎ ((g : List Text) × (front ≡ h.front ++ h.last ∷ g) × ([] ≡ g ++ x ∷ more))). ⊎_elim
    (λ (d : (g : List Text) × (h.front ≡ front ++ x ∷ g)). below d.0 d.1)
    (λ (d : (g : List Text) × (front ≡ h.front ++ h.last ∷ g) × ([] ≡ g ++ x ∷ more)). absurd (no_end d.0 x more d.2))
    c)
    (cases_prefix front h.front x h.last more [] h.split)
  where
    here : h.front ≡ front → HasObject k (front ++ x ∷ more)
    here is = record {
      front = h.front;
      last = h.last;
      path = u;
      split = h.split;
      named = subst (λ (ts : List Text). Names k ts u) (sym is) r.named_too;
      object = r.object_too;
    }

    below : (g : List Text) → h.front ≡ front ++ x ∷ g → HasObject k (front ++ x ∷ more)
    below g is =
        let leads = named_below n k front u x r g h.path (subst (λ (ts : List Text). Names n ts h.path) is h.named) in
        record {
          front = h.front;
          last = h.last;
          path = (u ++ key x ∷ []) ++ leads.0;
          split = h.split;
          named = subst (λ (ts : List Text). Names k ts ((u ++ key x ∷ []) ++ leads.0)) (sym is) leads.2;
          object = label_same n k front u x r leads.0 ∙ ap n (sym leads.1) ∙ h.object;
        }

-- nothing
pub seen_names_nothing : IsSeen NamesNothing
seen_names_nothing n k front u x more r h w named =
    let back = named_below k n front u x (turned n k front u x r) more w named in
    h ((u ++ key x ∷ []) ++ back.0) back.2

pub seen_refuses_add : (i : ℕ) (e : FailedOperation) → IsSeen (λ n tokens. RefusesAdd n i tokens e)
seen_refuses_add i e n k front u x more r (inl h) = inl (h.0, h.1, (seen_lacks_parent n k front u x more r h.2.0, seen_refuses h.0 n k front u x more r h.2.1))
seen_refuses_add i e n k front u x more r (inr h) = inr (h.0, h.1, (seen_has_array n k front u x more r h.2.0, seen_refuses_assign h.0 n k front u x more r h.2.1))

pub seen_finds : (v : NodeMap) → IsSeen (λ n tokens. Finds n tokens v)
seen_finds v n k front u x more r h = (local_find v n k n front u x more r.named r.object r.named_too r.object_too r.same (h, refl)).2.0

-- the path that tokens name
pub seen_names : (w : Path) → IsSeen (λ n tokens. Names n tokens w)
seen_names w n k front u x more r h =
    let below = named_below n k front u x r more w h in
    subst (λ (p : Path). Names k (front ++ x ∷ more) p) (sym below.1) below.2

pub seen_refuses_test : (by : Comparison) (i : ℕ) (v : NodeMap) (e : FailedOperation) → IsSeen (λ n tokens. RefusesTestBy by n i tokens v e)
seen_refuses_test by i v e n k front u x more r (inl h) = inl (seen_refuses_target i pointer.Path e n k front u x more r h)
seen_refuses_test Strict i v e n k front u x more r (inr (inl h)) = inr (inl (h.0, h.1, seen_finds h.1 n k front u x more r h.2, h.3))
seen_refuses_test Strict i v e n k front u x more r (inr (inr h)) = inr (inr (h.0, h.1, record { found = seen_finds h.1 n k front u x more r h.2.found; target_plain = h.2.target_plain; value_plain = h.2.value_plain }, h.3))
seen_refuses_test Numeric i v e n k front u x more r (inr h) = inr (h.0, h.1, seen_finds h.1 n k front u x more r h.2, h.3)

-- the object at which tokens diverge from others

object_of_key : (o : Option Label) (x a : Text) → NamesStep o x (key a) → o ≡ Some an_object
object_of_key None x a h = absurd h
object_of_key (Some an_object) x a h = refl
object_of_key (Some (an_array i)) x a h = absurd h
object_of_key (Some (a_leaf v)) x a h = absurd h

-- what is an object on the way to a path is one in each map in which the same tokens lead to that path
object_on_way : (n k : NodeMap) (f : List Text) (z : Text) (g : List Text) (u w : Path) → Names n (f ++ z ∷ g) u → Names k (f ++ z ∷ g) u → Names n f w → n w ≡ Some an_object → Names k f w × (k w ≡ Some an_object)
object_on_way n k [] z g [] w h i named object = absurd h
object_on_way n k [] z g (s ∷ u) (t ∷ w) h i named object = absurd named
object_on_way n k [] z g (s ∷ u) [] h i named object =
    let step : s ≡ key z = object_step (n []) z s object h.0 in
    let label : k [] ≡ Some an_object = object_of_key (k []) z z (subst (λ (t : Step). NamesStep (k []) z t) step i.0) in
    (subst (λ (l : Option Label). IsSome l) (sym label) refl, label)
object_on_way n k (y ∷ f) z g [] w h i named object = absurd h
object_on_way n k (y ∷ f) z g (s ∷ u) [] h i named object = absurd named
object_on_way n k (y ∷ f) z g (s ∷ u) (t ∷ w) h i named object =
    let same : s ≡ t = NamesStep_one_step (n []) y s t h.0 named.0 in
    let first : Names (sub n (t ∷ [])) (f ++ z ∷ g) u = subst (λ (r : Step). Names (sub n (r ∷ [])) (f ++ z ∷ g) u) same h.1 in
    let second : Names (sub k (t ∷ [])) (f ++ z ∷ g) u = subst (λ (r : Step). Names (sub k (r ∷ [])) (f ++ z ∷ g) u) same i.1 in
    let rest = object_on_way (sub n (t ∷ [])) (sub k (t ∷ [])) f z g u w first second named.1 object in
    ((subst (λ (r : Step). NamesStep (k []) y r) same i.0, rest.0), rest.1)

seen_diverges : (from : List Text) → IsSeen (λ n tokens. Diverges n from tokens)
seen_diverges from n k front u x more r d = ⊎_elim
    (λ (c : (d.front ≡ front) × (d.there ≡ x)). at u (subst (λ (ts : List Text). Names k ts u) (sym c.0) r.named_too) r.object_too)
    (λ (c : ((g : List Text) × (d.front ≡ front ++ x ∷ g)) ⊎ ((g : List Text) × (front ≡ d.front ++ d.there ∷ g) × (d.others ≡ g ++ x ∷ more))). ⊎_elim
    (λ (b : (g : List Text) × (d.front ≡ front ++ x ∷ g)).
    let leads = named_below n k front u x r b.0 d.path (subst (λ (ts : List Text). Names n ts d.path) b.1 d.named) in
    at ((u ++ key x ∷ []) ++ leads.0) (subst (λ (ts : List Text). Names k ts ((u ++ key x ∷ []) ++ leads.0)) (sym b.1) leads.2) (label_same n k front u x r leads.0 ∙ ap n (sym leads.1) ∙ d.object))
    (λ (b : (g : List Text) × (front ≡ d.front ++ d.there ∷ g) × (d.others ≡ g ++ x ∷ more)).
    let way = object_on_way n k d.front d.there b.0 u d.path (subst (λ (ts : List Text). Names n ts u) b.1 r.named) (subst (λ (ts : List Text). Names k ts u) b.1 r.named_too) d.named d.object in
    at d.path way.0 way.1)
    c)
    (cases_prefix front d.front x d.there more d.others d.second)
  where
    at : (w : Path) → Names k d.front w → k w ≡ Some an_object → Diverges k from (front ++ x ∷ more)
    at w named object = record {
      front = d.front;
      path = w;
      here = d.here;
      more = d.more;
      there = d.there;
      others = d.others;
      first = d.first;
      second = d.second;
      differ = d.differ;
      named = named;
      object = object;
    }

-- and that there is none
pub seen_diverges_nowhere : (from : List Text) → IsSeen (λ n tokens. Diverges n from tokens → ⊥)
seen_diverges_nowhere from n k front u x more r apart d = apart (seen_diverges from k n front u x more (turned n k front u x r) d)

-- what is seen is not changed where tokens diverge

pub seen_after : (G : NodeMap → List Text → NodeMap → Type 0) → IsLocal G → (P : NodeMap → List Text → Type 0) → IsSeen P → (n m : NodeMap) (xs ys : List Text) → Diverges n xs ys → G n ys m → P n xs → P m xs
seen_after G g P seen n m xs ys d h p =
    let a = other_change G g n m xs ys d h in
    let same : SameMember n (put n (d.path ++ key d.there ∷ []) a.0) d.front d.path d.here = record {
      named = d.named;
      object = d.object;
      named_too = Names-above n d.path d.there a.0 d.front d.named;
      object_too = object-above n d.path d.there a.0 d.object;
      same = put-other_member n d.path d.there d.here a.0 (λ e. d.differ (sym e));
    } in
    subst (λ (z : NodeMap). P z xs) (sym a.1) (subst (λ (ts : List Text). P (put n (d.path ++ key d.there ∷ []) a.0) ts) (sym d.first) (seen n (put n (d.path ++ key d.there ∷ []) a.0) d.front d.path d.here d.more same (subst (λ (ts : List Text). P n ts) d.first p)))
