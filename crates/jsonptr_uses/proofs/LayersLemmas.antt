-- Which layer a setting comes from.
use Rattle.std.proofs.Common.{◌≡◌, ◌≢◌, ◌⊎◌, inl, inr, Bool, true, false, cond, List, [], ◌∷◌, ◌++◌, All, Option, Some, None, IsSome, is_some, append-nil, refl, sym, ap, ◌∙◌, subst, true≢false}
use mathlib.Core.Path.{fun_ext}
use Rattle.std.specs.Prelude.{MatchOption}
use Rattle.std.proofs.lemmas.List.Elements.{All-nil, All-cons}
use Rattle.serde_json.specs.Data as json
use Rattle.serde_json.specs.Find.{as_object}
use Rattle.serde_json.specs.View.{view}
use Rattle.jsonptr.specs.Text.{Text}
use Rattle.jsonptr.specs.Delete.{NamesNothing}
use Rattle.jsonptr.specs.Following.{Finds}
use Rattle.jsonptr.specs.Json.{content, nodes, FindsValue}
use Rattle.jsonptr.specs.Node.{Step, key, place, Path, Label, an_object, an_array, a_leaf, NodeMap, sub, NamesStep, Names, MayHave}
use Rattle.jsonptr.proofs.Calling.{map_of-IsTree, FindsValue-Finds, Names-root}
use Rattle.jsonptr_merge.specs.MergePatch.{is_null, patched}
use Rattle.jsonptr_merge.proofs.PatchLaws.{at_object, replaces}
use Rattle.jsonptr_uses.specs.Layers.{site_of, settings_of, IsFrom, IsSource}
use Rattle.jsonptr_uses.specs.declared.layers.Layers.{Layers}
use Rattle.jsonptr_uses.specs.declared.layers.Source.TheVariants.{Defaults, Site, User, Members}

-- ---- maps in which each node is where its parent may have it

abbrev HasParents : NodeMap → Type 0
HasParents n = (w : Path) (s : Step) → IsSome (n (w ++ s ∷ [])) → MayHave (n w) s

parents_below : (n : NodeMap) (s : Step) → HasParents n → HasParents (sub n (s ∷ []))
parents_below n s h w = h (s ∷ w)

has_members : (o : Option Label) (k : Text) → MayHave o (key k) → o ≡ Some an_object
has_members None k h = absurd h
has_members (Some an_object) k h = refl
has_members (Some (an_array n)) k h = absurd h
has_members (Some (a_leaf v)) k h = absurd h

an_object_or_not : (o : Option Label) → (o ≡ Some an_object) ⊎ (o ≡ Some an_object → ⊥)
an_object_or_not None = inr (λ e. let none : ⊥ = cc in none)
an_object_or_not (Some an_object) = inl refl
an_object_or_not (Some (an_array n)) = inr (λ e. let none : ⊥ = cc in none)
an_object_or_not (Some (a_leaf v)) = inr (λ e. let none : ⊥ = cc in none)

-- ---- what is below a key of a patch that is an object

module _ (n p : NodeMap) (k : Text) (root : p [] ≡ Some an_object) where
  is_kept : p (key k ∷ []) ≡ None → sub (patched n p) (key k ∷ []) ≡ sub n (key k ∷ [])
  is_kept none = fun_ext (λ (v : Path). at_object n p k v None root none)

  is_merged : (l : Label) → p (key k ∷ []) ≡ Some l → (b : Bool) → is_null l ≡ b → sub (patched n p) (key k ∷ []) ≡ (λ v. cond b None (patched (sub n (key k ∷ [])) (sub p (key k ∷ [])) v))
  is_merged l is b test = fun_ext (λ (v : Path).
      at_object n p k v (Some l) root is
      ∙ ap (λ (c : Bool). cond c None (patched (sub n (key k ∷ [])) (sub p (key k ∷ [])) v)) test)

-- ---- merge patches of such maps

-- the node at this path is where its parent may have it
abbrev HasParent : Path → Step → NodeMap → Type 0
HasParent w s m = IsSome (m (w ++ s ∷ [])) → MayHave (m w) s

patched_parents : (w : Path) (n p : NodeMap) (s : Step) → HasParents n → HasParents p → HasParent w s (patched n p)
patched_parents [] n p (place i) hn hp some = hp [] (place i) some
patched_parents [] n p (key k) hn hp some = by_root (an_object_or_not (p []))
  where
    by_root : (p [] ≡ Some an_object) ⊎ (p [] ≡ Some an_object → ⊥) → MayHave (p []) (key k)
    by_root (inl root) = subst (λ (o : Option Label). MayHave o (key k)) (sym root) tt
    by_root (inr other) = subst (HasParent [] (key k)) (sym (replaces n p other)) (hp [] (key k)) some
patched_parents (place i ∷ w) n p s hn hp some = hp (place i ∷ w) s some
patched_parents (key k ∷ w) n p s hn hp some = by_root (patched_parents w (sub n (key k ∷ [])) (sub p (key k ∷ [])) s (parents_below n (key k) hn) (parents_below p (key k) hp)) (an_object_or_not (p [])) some
  where
    by_member : HasParent w s (patched (sub n (key k ∷ [])) (sub p (key k ∷ []))) → p [] ≡ Some an_object → (o : Option Label) → p (key k ∷ []) ≡ o → HasParent w s (sub (patched n p) (key k ∷ []))
    by_member later root None is = subst (HasParent w s) (sym (is_kept n p k root is)) (parents_below n (key k) hn w s)
    by_member later root (Some l) is = by_test (is_null l) refl
      where
        by_test : (b : Bool) → is_null l ≡ b → HasParent w s (sub (patched n p) (key k ∷ []))
        by_test true test = subst (HasParent w s) (sym (is_merged n p k root l is true test)) (λ some. absurd (true≢false (sym some)))
        by_test false test = subst (HasParent w s) (sym (is_merged n p k root l is false test)) later

    by_root : HasParent w s (patched (sub n (key k ∷ [])) (sub p (key k ∷ []))) → (p [] ≡ Some an_object) ⊎ (p [] ≡ Some an_object → ⊥) → HasParent (key k ∷ w) s (patched n p)
    by_root later (inl root) = by_member later root (p (key k ∷ [])) refl
    by_root later (inr other) = subst (HasParent (key k ∷ w) s) (sym (replaces n p other)) (hp (key k ∷ w) s)

-- ---- one merge patch

-- `IsPatched n p ts w`: the tokens `ts` name the path `w` in the patch `p`, and what is there is the patch's. Or they name nothing
-- there, and what is at `w` is that of `n`
abbrev IsPatched : NodeMap → NodeMap → List Text → Path → Type 0
IsPatched n p ts w =
    (Names p ts w × (sub (patched n p) w ≡ sub p w))
    ⊎ (NamesNothing p ts × Names n ts w × (sub (patched n p) w ≡ sub n w))

nothing_named : (w : Path) (xs : List Text) (n : NodeMap) → n [] ≡ None → Names n xs w → ⊥
nothing_named w xs n is named = true≢false (sym (Names-root n xs w named) ∙ ap is_some is)

replaced : (ts : List Text) (n p : NodeMap) (w : Path) → (p [] ≡ Some an_object → ⊥) → Names (patched n p) ts w → IsPatched n p ts w
replaced ts n p w other named =
    let all = replaces n p other in
    inl (subst (λ (m : NodeMap). Names m ts w) all named, ap (λ (m : NodeMap). sub m w) all)

-- a member of a patch that is an object
module _ (n p : NodeMap) (x : Text) (xs : List Text) (k : Text) (w : Path) (parents : HasParents n) (root : p [] ≡ Some an_object) (same : k ≡ x) where
  step_of : (m : NodeMap) → m [] ≡ Some an_object → NamesStep (m []) x (key k)
  step_of m is = subst (λ (o : Option Label). NamesStep o x (key k)) (sym is) same

  -- where the value below is
  names_below : Names (sub n (key k ∷ [])) xs w → Names n (x ∷ xs) (key k ∷ w)
  names_below named = (step_of n (has_members (n []) k (parents [] (key k) (Names-root (sub n (key k ∷ [])) xs w named))), named)

  -- the tokens after that of the key
  in_member : (v : Path) → Names p (x ∷ xs) v → (u : Path) × Names (sub p (key k ∷ [])) xs u
  in_member [] h = absurd h
  in_member (s ∷ v) h = by_step s (subst (λ (o : Option Label). NamesStep o x s) root h.0) h.1
    where
      by_step : (r : Step) → NamesStep (Some an_object) x r → Names (sub p (r ∷ [])) xs v → (u : Path) × Names (sub p (key k ∷ [])) xs u
      by_step (key l) e named = (v, subst (λ (y : Text). Names (sub p (key y ∷ [])) xs v) (e ∙ sym same) named)
      by_step (place i) e named = absurd e

  no_member : NamesNothing (sub p (key k ∷ [])) xs → NamesNothing p (x ∷ xs)
  no_member none v h = let inside = in_member v h in none inside.0 inside.1

  below : sub (patched n p) (key k ∷ []) ≡ patched (sub n (key k ∷ [])) (sub p (key k ∷ [])) → IsPatched (sub n (key k ∷ [])) (sub p (key k ∷ [])) xs w → IsPatched n p (x ∷ xs) (key k ∷ w)
  below here (inl h) = inl ((step_of p root, h.0), ap (λ (m : NodeMap). sub m w) here ∙ h.1)
  below here (inr h) = inr (no_member h.0, names_below h.1, ap (λ (m : NodeMap). sub m w) here ∙ h.2)

  at_member : (Names (patched (sub n (key k ∷ [])) (sub p (key k ∷ []))) xs w → patched (sub n (key k ∷ [])) (sub p (key k ∷ [])) w ≢ Some an_object → IsPatched (sub n (key k ∷ [])) (sub p (key k ∷ [])) xs w) → Names (sub (patched n p) (key k ∷ [])) xs w → patched n p (key k ∷ w) ≢ Some an_object → (o : Option Label) → p (key k ∷ []) ≡ o → IsPatched n p (x ∷ xs) (key k ∷ w)
  at_member later named apart None is =
      let here = is_kept n p k root is in
      inr (no_member (λ u. nothing_named u xs (sub p (key k ∷ [])) is), names_below (subst (λ (m : NodeMap). Names m xs w) here named), ap (λ (m : NodeMap). sub m w) here)
  at_member later named apart (Some l) is = by_test (is_null l) refl
    where
      by_test : (b : Bool) → is_null l ≡ b → IsPatched n p (x ∷ xs) (key k ∷ w)
      by_test true test = absurd (nothing_named w xs (sub (patched n p) (key k ∷ [])) (ap (λ (m : NodeMap). m []) (is_merged n p k root l is true test)) named)
      by_test false test =
          let here = is_merged n p k root l is false test in
          below here (later (subst (λ (m : NodeMap). Names m xs w) here named) (subst (λ (m : NodeMap). m w ≢ Some an_object) here apart))

is_patched : (ts : List Text) (n p : NodeMap) (w : Path) → HasParents n → Names (patched n p) ts w → patched n p w ≢ Some an_object → IsPatched n p ts w
is_patched [] n p [] parents named apart = replaced [] n p [] apart named
is_patched [] n p (s ∷ w) parents named apart = absurd named
is_patched (x ∷ xs) n p [] parents named apart = absurd named
is_patched (x ∷ xs) n p (place i ∷ w) parents named apart = replaced (x ∷ xs) n p (place i ∷ w) (λ root. subst (λ (o : Option Label). NamesStep o x (place i)) root named.0) named
is_patched (x ∷ xs) n p (key k ∷ w) parents named apart = by_root (is_patched xs (sub n (key k ∷ [])) (sub p (key k ∷ [])) w (parents_below n (key k) parents)) (an_object_or_not (p []))
  where
    by_root : (Names (patched (sub n (key k ∷ [])) (sub p (key k ∷ []))) xs w → patched (sub n (key k ∷ [])) (sub p (key k ∷ [])) w ≢ Some an_object → IsPatched (sub n (key k ∷ [])) (sub p (key k ∷ [])) xs w) → (p [] ≡ Some an_object) ⊎ (p [] ≡ Some an_object → ⊥) → IsPatched n p (x ∷ xs) (key k ∷ w)
    by_root later (inr other) = replaced (x ∷ xs) n p (key k ∷ w) other named
    by_root later (inl root) = at_member n p x xs k w parents root (subst (λ (o : Option Label). NamesStep o x (key k)) root named.0) later named.1 apart (p (key k ∷ [])) refl

-- ---- values

is_object_at : (d : json.Data) (b : Bool) → b ≡ is_some (as_object d) → b ≡ true → nodes d [] ≡ Some an_object
is_object_at json.null b is h = absurd (true≢false (sym h ∙ is))
is_object_at (json.boolean x) b is h = absurd (true≢false (sym h ∙ is))
is_object_at (json.number n) b is h = absurd (true≢false (sym h ∙ is))
is_object_at (json.string s) b is h = absurd (true≢false (sym h ∙ is))
is_object_at (json.array ds) b is h = absurd (true≢false (sym h ∙ is))
is_object_at (json.object ms) b is h = refl

is_other_at : (d : json.Data) (b : Bool) → b ≡ is_some (as_object d) → b ≡ false → nodes d [] ≢ Some an_object
is_other_at json.null b is h e = let none : ⊥ = cc in none
is_other_at (json.boolean x) b is h e = let none : ⊥ = cc in none
is_other_at (json.number n) b is h e = let none : ⊥ = cc in none
is_other_at (json.string s) b is h e = let none : ⊥ = cc in none
is_other_at (json.array ds) b is h e = let none : ⊥ = cc in none
is_other_at (json.object ms) b is h e = true≢false (sym is ∙ h)

parents_of : (d : json.Data) → HasParents (nodes d)
parents_of d = (map_of-IsTree (content d)).parent

pub found_is : {V : Type 0} (o : Option V) (v : V) (A : Type 0) (B : V → Type 0) → o ≡ Some v → MatchOption o A B → B v
found_is None v A B is h = let none : ⊥ = cc in absurd none
found_is (Some u) v A B is h = let same : u ≡ v = cc in subst B same h

pub found_some : {V : Type 0} (o : Option V) (A : Type 0) (B : V → Type 0) (b : Bool) → b ≡ is_some o → b ≡ true → MatchOption o A B → (v : V) × B v
found_some None A B b test is h = absurd (true≢false (sym is ∙ test))
found_some (Some v) A B b test is h = (v, h)

pub found_none : {V : Type 0} (o : Option V) (A : Type 0) (B : V → Type 0) (b : Bool) → b ≡ is_some o → b ≡ false → MatchOption o A B → A
found_none None A B b test is h = h
found_none (Some v) A B b test is h = absurd (true≢false (sym test ∙ is))

-- ---- three layers

-- the setting that is found
module _ (l : Layers) (ts : List Text) (made setting : json.Data) (is : nodes made ≡ settings_of l) (found : FindsValue made ts setting) where
  at_setting : Finds (settings_of l) ts (nodes setting)
  at_setting = subst (λ (n : NodeMap). Finds n ts (nodes setting)) is (FindsValue-Finds made ts setting found)

  pub from_members : (b : Bool) → b ≡ is_some (as_object setting) → b ≡ true → IsSource l ts (Some Members)
  from_members b test h = (nodes setting, at_setting, is_object_at setting b test h)

  -- if it is no object
  module _ (b : Bool) (test : b ≡ is_some (as_object setting)) (h : b ≡ false) where
    label : settings_of l at_setting.path ≢ Some an_object
    label one = is_other_at setting b test h (ap (λ (m : NodeMap). m []) at_setting.below ∙ ap (settings_of l) (append-nil at_setting.path) ∙ one)

    user_or_not : IsPatched (site_of l) (nodes (view l.user)) ts at_setting.path
    user_or_not = is_patched ts (site_of l) (nodes (view l.user)) at_setting.path
        (λ w s. patched_parents w (nodes (view l.defaults)) (nodes (view l.site)) s (parents_of (view l.defaults)) (parents_of (view l.site)))
        at_setting.named label

    as_given : (n : NodeMap) (above : List NodeMap) → Names n ts at_setting.path → sub (settings_of l) at_setting.path ≡ sub n at_setting.path → All (λ m. NamesNothing m ts) above → IsFrom (settings_of l) n above ts
    as_given n above named same nothing = record {
      value = nodes setting;
      there = at_setting;
      given = record { path = at_setting.path; named = named; below = at_setting.below ∙ same };
      not_above = nothing;
      no_object = is_other_at setting b test h;
    }

    pub from_user : (v : json.Data) → FindsValue (view l.user) ts v → IsSource l ts (Some User)
    from_user v given = by_case user_or_not
      where
        by_case : IsPatched (site_of l) (nodes (view l.user)) ts at_setting.path → IsSource l ts (Some User)
        by_case (inl g) = as_given (nodes (view l.user)) [] g.0 g.1 (All-nil (λ m. NamesNothing m ts))
        by_case (inr g) =
            let at = FindsValue-Finds (view l.user) ts v given in
            absurd (g.0 at.path at.named)

    -- if the user has nothing there
    module _ (no_user : NamesNothing (nodes (view l.user)) ts) where
      at_site : Names (site_of l) ts at_setting.path × (sub (settings_of l) at_setting.path ≡ sub (site_of l) at_setting.path)
      at_site = by_case user_or_not
        where
          by_case : IsPatched (site_of l) (nodes (view l.user)) ts at_setting.path → Names (site_of l) ts at_setting.path × (sub (settings_of l) at_setting.path ≡ sub (site_of l) at_setting.path)
          by_case (inl g) = absurd (no_user at_setting.path g.0)
          by_case (inr g) = (g.1, g.2)

      site_or_not : IsPatched (nodes (view l.defaults)) (nodes (view l.site)) ts at_setting.path
      site_or_not = is_patched ts (nodes (view l.defaults)) (nodes (view l.site)) at_setting.path (parents_of (view l.defaults)) at_site.0
          (λ one. label (subst (λ (w : Path). settings_of l w ≡ site_of l w) (append-nil at_setting.path) (ap (λ (m : NodeMap). m []) at_site.1) ∙ one))

      pub from_site : (v : json.Data) → FindsValue (view l.site) ts v → IsSource l ts (Some Site)
      from_site v given = by_case site_or_not
        where
          by_case : IsPatched (nodes (view l.defaults)) (nodes (view l.site)) ts at_setting.path → IsSource l ts (Some Site)
          by_case (inl g) = as_given (nodes (view l.site)) (nodes (view l.user) ∷ []) g.0 (at_site.1 ∙ g.1) (All-cons (λ m. NamesNothing m ts) (nodes (view l.user)) [] no_user (All-nil (λ m. NamesNothing m ts)))
          by_case (inr g) =
              let at = FindsValue-Finds (view l.site) ts v given in
              absurd (g.0 at.path at.named)

      pub from_defaults : NamesNothing (nodes (view l.site)) ts → IsSource l ts (Some Defaults)
      from_defaults no_site = by_case site_or_not
        where
          by_case : IsPatched (nodes (view l.defaults)) (nodes (view l.site)) ts at_setting.path → IsSource l ts (Some Defaults)
          by_case (inl g) = absurd (no_site at_setting.path g.0)
          by_case (inr g) = as_given (nodes (view l.defaults)) (nodes (view l.user) ∷ nodes (view l.site) ∷ []) g.1 (at_site.1 ∙ g.2)
              (All-cons (λ m. NamesNothing m ts) (nodes (view l.user)) (nodes (view l.site) ∷ []) no_user (All-cons (λ m. NamesNothing m ts) (nodes (view l.site)) [] no_site (All-nil (λ m. NamesNothing m ts))))

pub no_source : (l : Layers) (ts : List Text) (made : json.Data) → nodes made ≡ settings_of l → NamesNothing (nodes made) ts → IsSource l ts None
no_source l ts made is none = subst (λ (n : NodeMap). NamesNothing n ts) is none
