-- What takes an operation back, on a document with nodes that are removed later.
use Rattle.std.proofs.Common.{◌≡◌, ℕ, Some, Result, IfOk, ◌⊎◌, inl, inr, ⊎_elim, Contains, List, [], ◌∷◌, ◌++◌, refl, sym, ap, ap₂, ◌∙◌, subst, append_assoc}
use Rattle.std.proofs.lemmas.List.Elements.{Contains-append_left}
use Rattle.serde_json.specs.Data.{null}
use Rattle.serde_json.specs.View.{view}
use Rattle.serde_json.specs.declared.value.Value.{Value}
use Rattle.jsonptr.specs.Text.{Text, dec}
use Rattle.jsonptr.specs.Node.{Path, an_object, an_array, NodeMap, sub, Names, IsTree}
use Rattle.jsonptr.specs.Following.{Finds}
use Rattle.jsonptr.specs.Json.{nodes, content}
use Rattle.jsonptr_tree.proofs.ContentLemmas.{map_of-IsTree}
use Rattle.jsonptr_tree.proofs.NodeLemmas.{Names-pop, Names_one_path}
use Rattle.jsonptr_tree.proofs.RemovingLemmas.{Deletes_child}
use Rattle.jsonptr_patch.specs.Apart.{Diverges, AllDiverge, pointers}
use Rattle.jsonptr.specs.Delete.{NamesNothing}
use Rattle.jsonptr_patch.specs.Inverse.{HasObject, TakesAddBack, IsReverse, HasNoReverse, TakesMoveBack, TakesBack}
use Rattle.jsonptr_patch.specs.Operating.{IsProperPrefix, Takes, RestoresAt, RefusesAdd, RefusesMove, RefusesCopy, AppliesBy, RefusesOperationBy}
use Rattle.jsonptr_patch.specs.Patching.{Patches}
use Rattle.jsonptr_patch.specs.PrivateInverse.{AppendsBack, AppendsBackOf, IsPlaceBack, RefusesChange}
use Rattle.jsonptr_patch.specs.PrivateLater.{paths_of, removals, IsPending, TakesPlace, Frees}
use Rattle.jsonptr_patch.specs.declared.later.Later.{Later}
use Rattle.jsonptr_patch.specs.declared.operation.Operation.{Operation}
use Rattle.jsonptr_patch.specs.declared.failed_operation.FailedOperation.{FailedOperation}
use Rattle.jsonptr_patch.specs.declared.operation.Operation.TheVariants.{Add, Remove, Replace, Move, Copy, Test}
use Rattle.jsonptr_patch.proofs.ApartLemmas.{after_applied}
use Rattle.jsonptr_patch.proofs.InverseLemmas.{gone_nothing}
use Rattle.jsonptr_patch.proofs.LaterLemmas.{first_in, second_in, removed_after, seen_later, diverges_later}
use Rattle.jsonptr_patch.proofs.LevelLemmas.{local_take}
use Rattle.jsonptr_patch.proofs.MemberLemmas.{same_next, diverges_turned, diverges_after, diverges_way}
use Rattle.jsonptr_patch.proofs.RefusalLemmas.{IsSeen, cases_prefix, no_end, seen_refuses_add, seen_finds, seen_has_object, seen_is_element, seen_names_nothing, seen_diverges_nowhere, seen_after}
use Rattle.jsonptr_patch.proofs.RestoringLemmas.{cases_token}
use Rattle.jsonptr_patch.proofs.WaitingLemmas.{tree_later}
use Rattle.jsonptr_patch.specs.declared.comparison.Comparison.{Comparison}
use Rattle.jsonptr_patch.specs.declared.comparison.Comparison.TheVariants.{Strict}

-- what takes an addition back is seen at its pointer

pub seen_takes_add_back : (o : Operation) → IsSeen (λ n tokens. TakesAddBack n tokens o)
seen_takes_add_back (Add path value) n k front u x more r h = absurd h
seen_takes_add_back (Remove path) n k front u x more r (inl h) = inl (h.0, seen_has_object n k front u x more r h.1, seen_names_nothing n k front u x more r h.2)
seen_takes_add_back (Remove path) n k front u x more r (inr h) = inr (seen_is_element path n k front u x more r h)
seen_takes_add_back (Replace path value) n k front u x more r h = (h.0, seen_finds (nodes (view value)) n k front u x more r h.1, go h.2)
  where
    go : (front ++ x ∷ more ≡ []) ⊎ HasObject n (front ++ x ∷ more) → (front ++ x ∷ more ≡ []) ⊎ HasObject k (front ++ x ∷ more)
    go (inl e) = inl e
    go (inr g) = inr (seen_has_object n k front u x more r g)
seen_takes_add_back (Move from path) n k front u x more r h = absurd h
seen_takes_add_back (Copy from path) n k front u x more r h = absurd h
seen_takes_add_back (Test path value) n k front u x more r h = absurd h

-- in what is left without the nodes

reverse_later : (d n : NodeMap) (from path : List Text) (o : Operation) (back : List Operation) (ls : List Later) → AllDiverge d (from ∷ path ∷ []) (paths_of ls) → Patches d (removals ls) n → IsReverse d from path o back → IsReverse n from path o back
reverse_later d n from path (Add p value) back ls h a r = absurd r
reverse_later d n from path (Remove p) back ls h a r = r
reverse_later d n from path (Replace p value) back ls h a r = (r.0, diverges_later d n from path (from ∷ path ∷ []) ls (second_in from path) h r.1 a)
reverse_later d n from path (Move f p) back ls h a r = absurd r
reverse_later d n from path (Copy f p) back ls h a r = absurd r
reverse_later d n from path (Test p value) back ls h a r = absurd r

no_reverse_later : (d n : NodeMap) (from path : List Text) (o : Operation) (ls : List Later) → AllDiverge d (from ∷ path ∷ []) (paths_of ls) → Patches d (removals ls) n → HasNoReverse d from path o → HasNoReverse n from path o
no_reverse_later d n from path (Add p value) ls h a none back r = absurd r
no_reverse_later d n from path (Remove p) ls h a none back r = none back r
no_reverse_later d n from path (Replace p value) ls h a none back r =
    let nowhere : Diverges d from path → ⊥ = λ w. none (Move p from ∷ Add p value ∷ []) (refl, w) in
    seen_later (λ n ts. Diverges n from ts → ⊥) (seen_diverges_nowhere from) d n path (from ∷ path ∷ []) ls (second_in from path) h nowhere a r.1
no_reverse_later d n from path (Move f p) ls h a none back r = absurd r
no_reverse_later d n from path (Copy f p) ls h a none back r = absurd r
no_reverse_later d n from path (Test p value) ls h a none back r = absurd r

restores_later : (d n : NodeMap) (path : List Text) (o : Operation) (xss : List (List Text)) (ls : List Later) → Contains xss path → AllDiverge d xss (paths_of ls) → Patches d (removals ls) n → RestoresAt d path o → RestoresAt n path o
restores_later d n path o xss ls at h a r = (r.0, r.1, seen_later (λ n ts. Finds n ts (nodes (view r.0))) (seen_finds (nodes (view r.0))) d n path xss ls at h r.2 a)

pub back_later : (d n : NodeMap) (o : Operation) (back : List Operation) (ls : List Later) → AllDiverge d (pointers o) (paths_of ls) → Patches d (removals ls) n → TakesBack d o back → TakesBack n o back
back_later d n (Add path value) back ls h a b = (b.0, b.1, seen_later (λ n ts. TakesAddBack n ts b.0) (seen_takes_add_back b.0) d n path (path ∷ []) ls (first_in path []) h b.2 a)
back_later d n (Remove path) back ls h a b = (b.0, b.1, restores_later d n path b.0 (path ∷ []) ls (first_in path []) h a b.2)
back_later d n (Replace path value) back ls h a b = (b.0, b.1, seen_later (λ n ts. Finds n ts (nodes (view b.0))) (seen_finds (nodes (view b.0))) d n path (path ∷ []) ls (first_in path []) h b.2 a)
back_later d n (Move from path) back ls h a b =
    let xss : List (List Text) = from ∷ path ∷ [] in
    let r = removed_after Strict d b.2 n (Remove from) xss ls (λ xs i. Contains-append_left (from ∷ []) (path ∷ []) xs i) h (b.1, b.3) a in
    let still : AllDiverge b.2 xss (paths_of ls) = after_applied Strict d b.2 (Remove from) xss (paths_of ls) (λ xs i. Contains-append_left (from ∷ []) (path ∷ []) xs i) h (b.1, b.3) in (
      b.0,
      r.1.0,
      r.0,
      r.1.1,
      seen_later (λ n ts. TakesAddBack n ts b.0) (seen_takes_add_back b.0) b.2 r.0 path xss ls (second_in from path) still b.4 r.2,
      ⊎_elim
          (λ (q : IsReverse d from path b.0 back). inl (reverse_later d n from path b.0 back ls h a q))
          (λ (q : HasNoReverse d from path b.0 × (p : Operation) × (back ≡ b.0 ∷ p ∷ []) × RestoresAt d from p). inr (no_reverse_later d n from path b.0 ls h a q.0, q.1, q.2, restores_later d n from q.1 xss ls (first_in from (path ∷ [])) h a q.3))
          b.5,
    )
back_later d n (Copy from path) back ls h a b = (b.0, b.1, seen_later (λ n ts. TakesAddBack n ts b.0) (seen_takes_add_back b.0) d n path (from ∷ path ∷ []) ls (second_in from path) h b.2 a)
back_later d n (Test path value) back ls h a b = b

-- an operation that fails, and is no test, fails however tests compare
pub change_refused : (by : Comparison) (n : NodeMap) (i : ℕ) (o : Operation) (e : FailedOperation) → RefusesChange n i o e → RefusesOperationBy by n i o e
change_refused by n i (Add path value) e r = r
change_refused by n i (Remove path) e r = r
change_refused by n i (Replace path value) e r = r
change_refused by n i (Move from path) e r = r
change_refused by n i (Copy from path) e r = r
change_refused by n i (Test path value) e r = absurd r

-- one operation, and what takes it back
pub later_back : (c : Value) (n : NodeMap) (o : Operation) (back os qs : List Operation) (ls : List Later) → AllDiverge (nodes (view c)) (pointers o) (paths_of ls) → TakesBack (nodes (view c)) o back → AppendsBack os back qs → IsPending (nodes (view c)) ls n → AppendsBackOf n o os qs
later_back c n o back os qs ls h b appended p = (back, back_later (nodes (view c)) n o back ls h p.removed b, appended)

-- a value can be removed

no_ends : (f : List Text) (x : Text) (more : List Text) → f ++ x ∷ more ≡ [] → ⊥
no_ends [] x more e = cc
no_ends (t ∷ f) x more e = cc

pub named_takes : (n : NodeMap) (tokens path : List Text) (w : Path) → Diverges n tokens path → Names n tokens w → (v m : NodeMap) × Takes n tokens v m
named_takes n tokens path w d named = ⊎_elim
    (λ (none : tokens ≡ []). absurd (no_ends d.front d.here d.more (sym d.first ∙ none)))
    (λ (some : (front : List Text) × (x : Text) × (tokens ≡ front ++ x ∷ [])).
    let r = Names-pop n some.0 some.1 w (subst (λ (ts : List Text). Names n ts w) some.2 named) in
    let there : Names n tokens (r.0 ++ r.1 ∷ []) = subst (λ (u : Path). Names n tokens u) r.2 named in
    (sub n (r.0 ++ r.1 ∷ []), _, record { found = record { path = r.0 ++ r.1 ∷ []; named = there; below = refl }; left = Deletes_child n (nodes null) tokens r.0 r.1 there }))
    (cases_token tokens)

-- what takes an addition back is the same without a value that is elsewhere
pub way_back : (n left node : NodeMap) (from path : List Text) (o : Operation) → Diverges n from path → Takes n from node left → TakesAddBack n path o → TakesAddBack left path o
way_back n left node from path o d taken b = seen_after (λ n ts m. Takes n ts node m) (local_take node) (λ n ts. TakesAddBack n ts o) (seen_takes_add_back o) n left path from (diverges_turned n from path d) taken b

-- where the value is, there is nothing above its source
pub place_way : (n : NodeMap) (from path place : List Text) → Diverges n from path → TakesAddBack n path (Remove place) → IsProperPrefix place from → ⊥
place_way n from path place d (inl b) f = diverges_way n path from (diverges_turned n from path d) (subst (λ (ts : List Text). IsProperPrefix ts from) b.0 f)
place_way n from path place d (inr e) f = ⊎_elim
    (λ (c : (e.front ≡ d.front) × (e.last ≡ d.there)).
    let at : e.path ≡ d.path = Names_one_path n d.front e.path d.path (subst (λ (ts : List Text). Names n ts e.path) c.0 e.named) d.named in
    clash e.len (sym e.array ∙ ap n at ∙ d.object))
    (λ (c : ((g : List Text) × (e.front ≡ d.front ++ d.there ∷ g)) ⊎ ((g : List Text) × (d.front ≡ e.front ++ e.last ∷ g) × ([] ≡ g ++ d.there ∷ d.others))). ⊎_elim
    (λ (b : (g : List Text) × (e.front ≡ d.front ++ d.there ∷ g)).
    let tail : List Text = dec e.index ∷ f.0 ∷ f.1 in
    let whole : from ≡ e.front ++ tail = f.2 ∙ ap (λ (ts : List Text). ts ++ f.0 ∷ f.1) e.element_is ∙ append_assoc e.front (dec e.index ∷ []) (f.0 ∷ f.1) in
    let begins : d.front ++ d.here ∷ d.more ≡ d.front ++ d.there ∷ (b.0 ++ tail) = sym d.first ∙ whole ∙ ap (λ (ts : List Text). ts ++ tail) b.1 ∙ append_assoc d.front (d.there ∷ b.0) tail in
    d.differ (same_next d.front d.here d.there d.more (b.0 ++ tail) begins))
    (λ (b : (g : List Text) × (d.front ≡ e.front ++ e.last ∷ g) × ([] ≡ g ++ d.there ∷ d.others)). no_end b.0 d.there d.others b.2)
    c)
    (cases_prefix d.front e.front d.there e.last d.others [] (sym d.second ∙ e.split))
  where
    clash : (i : ℕ) → Some (an_array i) ≡ Some an_object → ⊥
    clash i h = cc

-- and if nothing can be added without the value, nothing can with it
pub way_add_refused : (n : NodeMap) (i : ℕ) (from path : List Text) (w : Path) (e : FailedOperation) → Diverges n from path → Names n from w → RefusesAdd n i path e → RefusesMove n i from path e
way_add_refused n i from path w e d named r =
    let t = named_takes n from path w d named in
    inr (diverges_way n from path d, inr (t.0, t.1, t.2, seen_after (λ n ts m. Takes n ts t.0 m) (local_take t.0) (λ n ts. RefusesAdd n i ts e) (seen_refuses_add i e) n t.1 path from (diverges_turned n from path d) t.2 r))

-- what takes a move back, where the pointers diverge
pub way_taken_back : (n : NodeMap) (from path : List Text) (w : Path) (o : Operation) (back : List Operation) → Diverges n from path → Names n from w → TakesAddBack n path o → TakesMoveBack n from path o back → TakesBack n (Move from path) back
way_taken_back n from path w o back d named b r =
    let t = named_takes n from path w d named in
    (o, t.0, t.1, t.2, way_back n t.1 t.0 from path o d t.2 b, r)

pub way_removed : (n : NodeMap) (from path place to : List Text) → to ≡ from → Diverges n from path → TakesAddBack n path (Remove place) → TakesMoveBack n from path (Remove place) (Move place to ∷ [])
way_removed n from path place to is d b = inl (ap (λ (ts : List Text). Move place ts ∷ []) is, place_way n from path place d b)

pub way_replaced : (n : NodeMap) (from path place again to : List Text) (value : Value) → to ≡ from → again ≡ path → Diverges n from path → TakesAddBack n path (Replace place value) → TakesMoveBack n from path (Replace place value) (Move place to ∷ Add again value ∷ [])
way_replaced n from path place again to value is same d b = inl (ap₂ (λ (ts us : List Text). Move place ts ∷ Add us value ∷ []) is (same ∙ sym b.0), d)

-- a move back, and an addition of the value that was moved

pub move_reversed : (n : NodeMap) (from path : List Text) (o : Operation) (place to : List Text) → o ≡ Remove place → (IsProperPrefix place from → ⊥) → to ≡ from → TakesMoveBack n from path o (Move place to ∷ [])
move_reversed n from path o place to is apart same = subst (λ (p : Operation). TakesMoveBack n from path p (Move place to ∷ [])) (sym is) (inl (ap (λ (ts : List Text). Move place ts ∷ []) same, apart))

pub both_reversed : (n : NodeMap) (from path : List Text) (o again : Operation) → HasNoReverse n from path o → RestoresAt n from again → TakesMoveBack n from path o (o ∷ again ∷ [])
both_reversed n from path o again none restores = inr (none, again, refl, restores)

-- a value that is above its source, or that replaced one without diverging from its source, is not moved back
pub not_reversed : (n : NodeMap) (from path : List Text) (o : Operation) → (Diverges n from path → ⊥) → ((place : List Text) → o ≡ Remove place → IsProperPrefix place from) → HasNoReverse n from path o
not_reversed n from path (Add p value) nowhere above back r = absurd r
not_reversed n from path (Remove p) nowhere above back r = r.1 (above p refl)
not_reversed n from path (Replace p value) nowhere above back r = nowhere r.1
not_reversed n from path (Move f p) nowhere above back r = absurd r
not_reversed n from path (Copy f p) nowhere above back r = absurd r
not_reversed n from path (Test p value) nowhere above back r = absurd r

-- the same for the pointers of an operation

pub copy_add_refused : (n : NodeMap) (i : ℕ) (f p from path : List Text) (w : Path) (e : FailedOperation) → f ≡ from → p ≡ path → Names n f w → RefusesAdd n i p e → RefusesCopy n i from path e
copy_add_refused n i f p from path w e is_from is_path named r = inr (
  sub n w,
  record { path = w; named = subst (λ (ts : List Text). Names n ts w) is_from named; below = refl },
  subst (λ (ts : List Text). RefusesAdd n i ts e) is_path r,
)

pub moved_back : {T E : Type 0} (n : NodeMap) (f p from path : List Text) (os qs : List Operation) (r : Result T E) → f ≡ from → p ≡ path → IfOk r (λ _. (back : List Operation) × TakesBack n (Move f p) back × AppendsBack os back qs) → IfOk r (λ _. (back : List Operation) × TakesBack n (Move from path) back × AppendsBack os back qs)
moved_back n f p from path os qs r is_from is_path a =
    subst (λ (ts : List Text). IfOk r (λ _. (back : List Operation) × TakesBack n (Move from ts) back × AppendsBack os back qs)) is_path
    (subst (λ (ts : List Text). IfOk r (λ _. (back : List Operation) × TakesBack n (Move ts p) back × AppendsBack os back qs)) is_from a)

-- an operation that adds at the location of a node that is removed later

object_back : (k n v : NodeMap) (path tokens : List Text) → path ≡ tokens → IsTree k → Takes k tokens v n → HasObject k tokens → TakesAddBack n path (Remove path)
object_back k n v path tokens is tree t h =
    let r = gone_nothing k n v tokens tree t h in
    inl (refl, subst (λ (ts : List Text). HasObject n ts) (sym is) r.0, subst (λ (ts : List Text). NamesNothing n ts) (sym is) r.1)

place_back : (by : Comparison) (k n v m : NodeMap) (o : Operation) (tokens : List Text) (back : List Operation) → IsTree k → Takes k tokens v n → HasObject k tokens → TakesPlace k o tokens → IsPlaceBack o back → AppliesBy by n o m → TakesBack n o back
place_back by k n v m (Add path value) tokens back tree t h p is a = (Remove path, is, object_back k n v path tokens p tree t h)
place_back by k n v m (Remove path) tokens back tree t h p is a = absurd p
place_back by k n v m (Replace path value) tokens back tree t h p is a = absurd p
place_back by k n v m (Move from path) tokens back tree t h p is a =
    let b : TakesAddBack n path (Remove path) = object_back k n v path tokens p.0 tree t h in
    let away : Diverges k tokens from = diverges_turned k from tokens p.1 in
    let after : Diverges n tokens from = diverges_after (λ n ts m. Takes n ts v m) (local_take v) k n tokens tokens from away away t in
    let way : Diverges n from path = subst (λ (ts : List Text). Diverges n from ts) (sym p.0) (diverges_turned n tokens from after) in
    subst (λ (l : List Operation). TakesBack n (Move from path) l) (sym is)
    (way_taken_back n from path a.taken.found.path (Remove path) (Move path from ∷ []) way a.taken.found.named b (way_removed n from path path from refl way b))
place_back by k n v m (Copy from path) tokens back tree t h p is a = (Remove path, is, object_back k n v path tokens p.0 tree t h)
place_back by k n v m (Test path value) tokens back tree t h p is a = absurd p

pub freed_back : (by : Comparison) (c : Value) (k n m : NodeMap) (o : Operation) (back os qs : List Operation) (ls : List Later) → IsPending (nodes (view c)) ls k → Frees k n o → IsPlaceBack o back → AppendsBack os back qs → AppliesBy by n o m → AppendsBackOf n o os qs
freed_back by c k n m o back os qs ls p f is appended a =
    let tree : IsTree k = tree_later (nodes (view c)) k ls (map_of-IsTree (content (view c))) p.removed in
    (back, place_back by k n f.value m o f.tokens back tree f.taken f.object f.place is a, appended)
