-- What is written at a path is there, and writing back what was there restores the content.
use Rattle.std.proofs.Common.{◌≡◌, ℕ, zero, suc, Bool, true, false, cond, bytes_eq, [], ◌∷◌, Option, Some, None, option_and_then, Result, Ok, Err, IfOk, OnErr, refl, ap, ◌∙◌, subst}
use Rattle.jsonptr.specs.Text.{Text}
use Rattle.jsonptr.specs.Node.{Step, key, place, Path}
use Rattle.jsonptr.specs.Content.{Content, scalar, array, object, Items, no_items, item, Members, no_members, member, get_item, get_member, child, content_at}
use Rattle.jsonptr_patch_journal.specs.Writing.{write_item, write_member, write_step, write_below, write_at, At}
use Rattle.jsonptr_patch_journal.specs.Changes.{HasAt}
use Rattle.jsonptr_patch_journal.proofs.WritingLemmas.{write_same}

-- ---- what is written twice is written once

item_there : (ds : Items) (i : ℕ) (c e : Content) → get_item i ds ≡ Some e → (get_item i (write_item i c ds) ≡ Some c) × ((b : Content) → write_item i b (write_item i c ds) ≡ write_item i b ds)
item_there no_items i c e h = let no : ⊥ = cc in absurd no
item_there (item d ds) zero c e h = (refl, λ b. refl)
item_there (item d ds) (suc i) c e h = let later = item_there ds i c e h in (later.0, λ b. ap (item d) (later.1 b))

member_there : (ms : Members) (k : Text) (c e : Content) → get_member k ms ≡ Some e → (get_member k (write_member k c ms) ≡ Some c) × ((b : Content) → write_member k b (write_member k c ms) ≡ write_member k b ms)
member_there no_members k c e h = let no : ⊥ = cc in absurd no
member_there (member l d ms) k c e h = by_test (member_there ms k c e) (bytes_eq k l) refl h
  where
    by_test : (get_member k ms ≡ Some e → (get_member k (write_member k c ms) ≡ Some c) × ((b : Content) → write_member k b (write_member k c ms) ≡ write_member k b ms)) → (t : Bool) → bytes_eq k l ≡ t → cond t (Some d) (get_member k ms) ≡ Some e
        → (get_member k (cond t (member l c ms) (member l d (write_member k c ms))) ≡ Some c) × ((b : Content) → write_member k b (cond t (member l c ms) (member l d (write_member k c ms))) ≡ cond t (member l b ms) (member l d (write_member k b ms)))
    by_test later true is g =
        (ap (λ (t : Bool). cond t (Some c) (get_member k ms)) is, λ b. ap (λ (t : Bool). cond t (member l b ms) (member l c (write_member k b ms))) is)
    by_test later false is g =
        let r = later g in (
          ap (λ (t : Bool). cond t (Some d) (get_member k (write_member k c ms))) is ∙ r.0,
          λ b. ap (λ (t : Bool). cond t (member l b (write_member k c ms)) (member l d (write_member k b (write_member k c ms)))) is ∙ ap (member l d) (r.1 b),
        )

pub step_there : (s : Step) (c e d : Content) → child s d ≡ Some e → (child s (write_step s c d) ≡ Some c) × ((b : Content) → write_step s b (write_step s c d) ≡ write_step s b d)
step_there s c e (scalar v) h = let no : ⊥ = cc in absurd no
step_there (key k) c e (array ds) h = let no : ⊥ = cc in absurd no
step_there (place i) c e (array ds) h = let r = item_there ds i c e h in (r.0, λ b. ap array (r.1 b))
step_there (key k) c e (object ms) h = let r = member_there ms k c e h in (r.0, λ b. ap object (r.1 b))
step_there (place i) c e (object ms) h = let no : ⊥ = cc in absurd no

pub write_there : (p : Path) (c e d : Content) → content_at p d ≡ Some e → (content_at p (write_at p c d) ≡ Some c) × ((b : Content) → write_at p b (write_at p c d) ≡ write_at p b d)
write_there [] c e d h = (refl, λ b. refl)
write_there (t ∷ p) c e d h = below (λ g. write_there p c e g) (child t d) refl h
  where
    below : ((g : Content) → content_at p g ≡ Some e → (content_at p (write_at p c g) ≡ Some c) × ((b : Content) → write_at p b (write_at p c g) ≡ write_at p b g)) → (o : Option Content) → child t d ≡ o → option_and_then (content_at p) o ≡ Some e
        → (content_at (t ∷ p) (write_below t (write_at p c) d o) ≡ Some c) × ((b : Content) → write_at (t ∷ p) b (write_below t (write_at p c) d o) ≡ write_below t (write_at p b) d o)
    below later None is h = let no : ⊥ = cc in absurd no
    below later (Some g) is h =
        let r = later g h in
        let here = step_there t (write_at p c g) g d is in (
          ap (λ (o : Option Content). option_and_then (content_at p) o) here.0 ∙ r.0,
          λ b. ap (write_below t (write_at p b) (write_step t (write_at p c g) d)) here.0
              ∙ here.1 (write_at p b (write_at p c g))
              ∙ ap (λ (x : Content). write_step t x d) (r.1 b),
        )

-- written back
pub write_back : (p : Path) (new old d : Content) → content_at p d ≡ Some old → write_at p old (write_at p new d) ≡ d
write_back p new old d h = (write_there p new old d h).1 old ∙ write_same p old d h

-- ---- a change of the node at a path

pub some_one : (a b : Content) (o : Option Content) → o ≡ Some a → o ≡ Some b → a ≡ b
some_one a b o h k = cc

pub some_not_none : {P : Type 0} (o : Option Content) (c : Content) → o ≡ Some c → o ≡ None → P
some_not_none o c h k = let no : ⊥ = cc in absurd no

-- what is at the path meets `P`
pub here_has : (p : Path) (P : Content → Type 0) (c x : Content) → HasAt p P c → content_at p c ≡ Some x → P x
here_has p P c x h there = subst P (some_one h.0 x (content_at p c) h.1 there) h.2

pub at_ok : {T E : Type 0} (r : Result T E) (p : Path) (R : T → Content → Content → Type 0) (c d old new : Content) → content_at p c ≡ Some old → d ≡ write_at p new c → IfOk r (λ t. R t old new) → IfOk r (λ t. At p (R t) c d)
at_ok (Ok t) p R c d old new there made h = record { old = old; new = new; there = there; made = made; related = h }
at_ok (Err e) p R c d old new there made h = tt

pub same_at : {T E : Type 0} (r : Result T E) (p : Path) (c d old new : Content) → content_at p c ≡ Some old → d ≡ write_at p new c → OnErr r (new ≡ old) → OnErr r (d ≡ c)
same_at (Ok t) p c d old new there made h = tt
same_at (Err e) p c d old new there made h = made ∙ ap (λ (x : Content). write_at p x c) h ∙ write_same p old c there

-- what is at the path is left there
pub kept_at : {T E : Type 0} (r : Result T E) (p : Path) (c d old : Content) → content_at p c ≡ Some old → d ≡ write_at p old c → OnErr r (d ≡ c)
kept_at (Ok t) p c d old there made = tt
kept_at (Err e) p c d old there made = made ∙ write_same p old c there

-- what is at the path after a change
pub changed_there : (p : Path) (R : Content → Content → Type 0) (c d : Content) → (o : At p R c d) → content_at p d ≡ Some o.new
changed_there p R c d o = ap (content_at p) o.made ∙ (write_there p o.new o.old c o.there).0

-- the old node, written back
pub changed_back : (p : Path) (R : Content → Content → Type 0) (c d m : Content) → (o : At p R c d) → m ≡ write_at p o.old d → m ≡ c
changed_back p R c d m o made = made ∙ ap (write_at p o.old) o.made ∙ write_back p o.new o.old c o.there

-- the node changed once more
pub changed_again : (p : Path) (R S : Content → Content → Type 0) (c d m new : Content) → (o : At p R c d) → m ≡ write_at p new d → S o.old new → At p S c m
changed_again p R S c d m new o made related = record {
  old = o.old;
  new = new;
  there = o.there;
  made = made ∙ ap (write_at p new) o.made ∙ (write_there p o.new o.old c o.there).1 new;
  related = related;
}

-- the node as it is after a change is related to the one before
pub changed_related : (p : Path) (R : Content → Content → Type 0) (c d x : Content) → (o : At p R c d) → content_at p d ≡ Some x → R o.old x
changed_related p R c d x o there = subst (R o.old) (some_one o.new x (content_at p d) (changed_there p R c d o) there) o.related

-- the change undone at the node is the change undone
pub undone_at : (p : Path) (R : Content → Content → Type 0) (c d m x new : Content) → (o : At p R c d) → content_at p d ≡ Some x → m ≡ write_at p new d → ((b : Content) → R b x → new ≡ b) → m ≡ c
undone_at p R c d m x new o there made back = changed_back p R c d m o (made ∙ ap (λ (y : Content). write_at p y d) (back o.old (changed_related p R c d x o there)))

-- a weaker relation
pub at_weaker : (p : Path) (R S : Content → Content → Type 0) (c d : Content) → ((a b : Content) → R a b → S a b) → At p R c d → At p S c d
at_weaker p R S c d f o = record { old = o.old; new = o.new; there = o.there; made = o.made; related = f o.old o.new o.related }
