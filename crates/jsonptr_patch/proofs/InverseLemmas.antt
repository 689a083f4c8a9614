-- What takes operations back turns the document after them into the one before them.
use Rattle.std.proofs.Common.{◌≡◌, ℕ, suc, ◌<◌, ◌⊎◌, inl, inr, ⊎_elim, false, List, [], ◌∷◌, ◌++◌, Option, Some, None, IsSome, refl, sym, ap, ◌∙◌, subst, arith, append_assoc, append-nil, reverse, true≢false}
use Rattle.std.proofs.lemmas.List.{reverse-append, reverse-reverse}
use mathlib.Core.Path.{fun_ext}
use Rattle.std.specs.Prelude.{String, string_bytes}
use Rattle.std.specs.declared.alloc.Global.{Global}
use Rattle.serde_json.specs.Data.{null}
use Rattle.serde_json.specs.View.{view}
use Rattle.serde_json.specs.declared.value.Value.{Value}
use Rattle.jsonptr.specs.Text.{Text, dec}
use Rattle.jsonptr.specs.Resolve.{PutsAt}
use Rattle.jsonptr.specs.Delete.{NamesNothing}
use Rattle.jsonptr.specs.Node.{Step, key, place, Path, Label, an_object, an_array, NodeMap, sub, NamesStep, Names, IsTree}
use Rattle.jsonptr.specs.Following.{Finds}
use Rattle.jsonptr.specs.Json.{nodes, content}
use Rattle.jsonptr.specs.Put.{GoesThrough, same_step, rest_after, put}
use Rattle.jsonptr.specs.Removing.{without_key, without_place, Deletes}
use Rattle.jsonptr_tree.proofs.ContentLemmas.{map_of-IsTree}
use Rattle.jsonptr_tree.proofs.FollowingLemmas.{cases_some}
use Rattle.jsonptr_tree.proofs.NodeLemmas.{sub-root, sub-sub, Names-here, Names-push, Names-pop, Names_one_path, IsTree-above}
use Rattle.jsonptr_tree.proofs.PutLemmas.{cases_same, rest_after-append, rest_after-shorter, rest_after-other, put_at, put_none, put_other, put-sub, put-put, put_below, sub-put, Names-put, frame}
use Rattle.jsonptr_tree.proofs.RemovingLemmas.{Deletes_child, Deletes_one, without_key-same, without_key-other}
use Rattle.jsonptr_patch_journal.specs.Location.{path_of}
use Rattle.jsonptr_patch_journal.specs.declared.location.Location.{Location}
use Rattle.jsonptr_patch_journal.specs.declared.addition.Target.TheVariants as target
use Rattle.jsonptr_patch.specs.Inserting.{with_place}
use Rattle.jsonptr_patch.specs.Adding.{AddsUnder, Adds}
use Rattle.jsonptr_patch.specs.Inverse.{HasObject, IsElementAt, TakesAddBack, IsReverse, HasNoReverse, TakesBack, TakesAllBackBy}
use Rattle.jsonptr_patch.specs.Apart.{Diverges}
use Rattle.jsonptr_patch.specs.Operating.{Takes, Moves, Applies, RestoresAt, AppliesBy}
use Rattle.jsonptr_patch.specs.Patching.{Patches, PatchesBy}
use Rattle.jsonptr_patch.specs.PrivateAdding.{IsPlace}
use Rattle.jsonptr_patch.specs.PrivateInverse.{AppendsBack}
use Rattle.jsonptr_patch.specs.declared.operation.Operation.{Operation}
use Rattle.jsonptr_patch.specs.declared.operation.Operation.TheVariants.{Add, Remove, Replace, Move, Copy, Test}
use Rattle.jsonptr_patch.proofs.InsertingLemmas.{with_place-same, with_place-root, without-with}
use Rattle.jsonptr_patch.proofs.LevelLemmas.{local_take, local_add}
use Rattle.jsonptr_patch.proofs.MemberLemmas.{diverges_turned, diverges_after, diverges_way, local_swap}
use Rattle.jsonptr_patch.proofs.OneLemmas.{no_last, adds_one, takes_tree, applies_one, applies_tree}
use Rattle.jsonptr_patch.proofs.PartLemmas.{restoring}
use Rattle.jsonptr_patch.proofs.PatchLemmas.{patches_both}
use Rattle.jsonptr_patch.proofs.RestoringLemmas.{restored}
use Rattle.jsonptr_patch.specs.declared.comparison.Comparison.{Comparison}
use Rattle.jsonptr_patch.specs.declared.comparison.Comparison.TheVariants.{Strict}

-- a value has a root
pub value_root : (value : Value) → IsSome (nodes (view value) [])
value_root value = (map_of-IsTree (content (view value))).root

no_some : (q : Path) → Some q ≡ None → ⊥
no_some q e = cc

no_none : (l : Option Label) → l ≡ None → IsSome l → ⊥
no_none None e some = true≢false (sym some)
no_none (Some x) e some = let no : ⊥ = cc in no

-- the parent of a node that is put
named_above : (n : NodeMap) (xs : List Text) (w : Path) (s : Step) (v : NodeMap) → Names n xs w → Names (put n (w ++ s ∷ []) v) xs w
named_above n xs w s v h = (frame n (put n (w ++ s ∷ []) v) (w ++ s ∷ []) (put_other n (w ++ s ∷ []) v) xs w h away).0
  where
    away : GoesThrough w (w ++ s ∷ []) → ⊥
    away r = no_some r.0 (sym (rest_after-append (w ++ s ∷ []) r.0) ∙ sym (ap (rest_after (w ++ s ∷ [])) r.1) ∙ rest_after-shorter w s [])

label_above : (n : NodeMap) (w : Path) (s : Step) (v : NodeMap) → put n (w ++ s ∷ []) v w ≡ n w
label_above n w s v = put_none n (w ++ s ∷ []) v w (rest_after-shorter w s [])

-- an addition to an object

pub object_made : (n m v : NodeMap) (tokens : List Text) → Adds n tokens v m → (h : HasObject n tokens) → m ≡ put n (h.path ++ key h.last ∷ []) v
object_made n m v tokens a h = adds_one n tokens v m (put n (h.path ++ key h.last ∷ []) v) a (inr (record {
  front = h.front;
  last = h.last;
  path = h.path;
  split = h.split;
  named = h.named;
  made = subst (λ (l : Option Label). AddsUnder n h.path l h.last v (put n (h.path ++ key h.last ∷ []) v)) (sym h.object) refl;
}))

object_step : (l : Option Label) (x : Text) → l ≡ Some an_object → NamesStep l x (key x)
object_step l x e = subst (λ (o : Option Label). NamesStep o x (key x)) (sym e) refl

-- an object without a member that it did not have is the old one
without_new : (n : NodeMap) (k : Text) (v : NodeMap) → ((p : Path) → n (key k ∷ p) ≡ None) → without_key k (put n (key k ∷ []) v) ≡ n
without_new n k v none = fun_ext go
  where
    go : (p : Path) → without_key k (put n (key k ∷ []) v) p ≡ n p
    go [] = refl
    go (t ∷ p) = ⊎_elim
        (λ (e : key k ≡ t). subst (λ (s : Step). without_key k (put n (key k ∷ []) v) (s ∷ p) ≡ n (s ∷ p)) e (without_key-same k (put n (key k ∷ []) v) p ∙ sym (none p)))
        (λ (e : same_step (key k) t ≡ false). without_key-other k (put n (key k ∷ []) v) t p e ∙ put_none n (key k ∷ []) v (t ∷ p) (rest_after-other (key k) t [] p e))
        (cases_same (key k) t)

-- tokens that name nothing below an object lead to no node, nor to one below it
none_below : (n : NodeMap) (tokens : List Text) → IsTree n → (h : HasObject n tokens) → NamesNothing n tokens → (p : Path) → n (h.path ++ key h.last ∷ p) ≡ None
none_below n tokens tree h nothing p = ⊎_elim
    (λ (some : IsSome (n (h.path ++ key h.last ∷ p))).
    let above : IsSome (n (h.path ++ key h.last ∷ [])) = IsTree-above n tree (h.path ++ key h.last ∷ []) p (subst (λ (w : Path). IsSome (n w)) (sym (append_assoc h.path (key h.last ∷ []) p)) some) in
    absurd (nothing (h.path ++ key h.last ∷ []) (subst (λ (ts : List Text). Names n ts (h.path ++ key h.last ∷ [])) (sym h.split) (Names-push n h.front h.last h.path (key h.last) h.named (object_step (n h.path) h.last h.object) above))))
    (λ (e : n (h.path ++ key h.last ∷ p) ≡ None). e)
    (cases_some (n (h.path ++ key h.last ∷ p)))

-- a new member is removed
new_member : (n m v : NodeMap) (tokens : List Text) → IsTree n → IsSome (v []) → Adds n tokens v m → HasObject n tokens → NamesNothing n tokens → Takes m tokens v n
new_member n m v tokens tree some a h nothing =
    let q : Path = h.path ++ key h.last ∷ [] in
    let made : m ≡ put n q v = object_made n m v tokens a h in
    let k : NodeMap = put n q v in
    let there : IsSome (k q) = subst (λ (l : Option Label). IsSome l) (sym (put_at n q v)) some in
    let named : Names k tokens q = subst (λ (ts : List Text). Names k ts q) (sym h.split) (Names-push k h.front h.last h.path (key h.last) (named_above n h.front h.path (key h.last) v h.named) (object_step (k h.path) h.last (label_above n h.path (key h.last) v ∙ h.object)) there) in
    let level : sub k h.path ≡ put (sub n h.path) (key h.last ∷ []) v = ap (λ (z : NodeMap). sub z h.path) (put_below n h.path (key h.last ∷ []) v) ∙ sub-put n h.path (put (sub n h.path) (key h.last ∷ []) v) in
    let old : without_key h.last (sub k h.path) ≡ sub n h.path = ap (without_key h.last) level ∙ without_new (sub n h.path) h.last v (none_below n tokens tree h nothing) in
    let whole : put k h.path (without_key h.last (sub k h.path)) ≡ n =
    ap (put k h.path) old
    ∙ ap (λ (z : NodeMap). put z h.path (sub n h.path)) (put_below n h.path (key h.last ∷ []) v)
    ∙ put-put n h.path (put (sub n h.path) (key h.last ∷ []) v) (sub n h.path)
    ∙ put-sub n h.path in
    subst (λ (z : NodeMap). Takes z tokens v n) (sym made) (record {
      found = record { path = q; named = named; below = sym (sub-put n q v) };
      left = subst (λ (z : NodeMap). Deletes k tokens (nodes null) z) whole (Deletes_child k (nodes null) tokens h.path (key h.last) named);
    })

key_step : (l : Option Label) (x : Text) (s : Step) → l ≡ Some an_object → NamesStep l x s → s ≡ key x
key_step l x (key a) e h = ap key (subst (λ (o : Option Label). NamesStep o x (key a)) e h)
key_step l x (place i) e h = absurd (subst (λ (o : Option Label). NamesStep o x (place i)) e h)

pub named_child : (n : NodeMap) (front : List Text) (x : Text) (w p : Path) → Names n front w → n w ≡ Some an_object → Names n (front ++ x ∷ []) p → p ≡ w ++ key x ∷ []
named_child n front x w p named object at =
    let r = Names-pop n front x p at in
    let here : r.0 ≡ w = Names_one_path n front r.0 w r.3 named in
    let step : r.1 ≡ key x = key_step (n w) x r.1 object (subst (λ (u : Path). NamesStep (n u) x r.1) here r.4) in
    r.2 ∙ ap (λ (u : Path). u ++ r.1 ∷ []) here ∙ ap (λ (s : Step). w ++ s ∷ []) step

-- a member that was replaced is replaced by the old one
old_member : (n m v old : NodeMap) (tokens : List Text) → IsSome (v []) → Adds n tokens v m → HasObject n tokens → Finds n tokens old → PutsAt m tokens old n
old_member n m v old tokens some a h found =
    let q : Path = h.path ++ key h.last ∷ [] in
    let made : m ≡ put n q v = object_made n m v tokens a h in
    let at : Names n (h.front ++ h.last ∷ []) found.path = subst (λ (ts : List Text). Names n ts found.path) h.split found.named in
    let here : found.path ≡ q = named_child n h.front h.last h.path found.path h.named h.object at in
    let named : Names n tokens q = subst (λ (w : Path). Names n tokens w) here found.named in
    record {
      path = q;
      named = subst (λ (z : NodeMap). Names z tokens q) (sym made) (Names-put n tokens q v named some);
      made = sym (ap (λ (z : NodeMap). put z q old) made ∙ put-put n q v old ∙ ap (put n q) (found.below ∙ ap (sub n) here) ∙ put-sub n q);
    }

-- an insertion into an array

array_made : (n m v : NodeMap) (tokens element : List Text) → Adds n tokens v m → (h : IsElementAt n tokens element) → m ≡ put n h.path (with_place h.index v (sub n h.path))
array_made n m v tokens element a h = adds_one n tokens v m (put n h.path (with_place h.index v (sub n h.path))) a (inr (record {
  front = h.front;
  last = h.last;
  path = h.path;
  split = h.split;
  named = h.named;
  made = subst (λ (l : Option Label). AddsUnder n h.path l h.last v (put n h.path (with_place h.index v (sub n h.path)))) (sym h.array) (h.index, h.means, refl);
}))

element_step : (l : Option Label) (len i : ℕ) → l ≡ Some (an_array (suc len)) → i < suc len → NamesStep l (dec i) (place i)
element_step l len i e b = subst (λ (o : Option Label). NamesStep o (dec i) (place i)) (sym e) (b, refl)

-- the new element is removed
new_element : (n m v : NodeMap) (tokens element : List Text) → IsSome (v []) → Adds n tokens v m → IsElementAt n tokens element → Takes m element v n
new_element n m v tokens element some a h =
    let level : NodeMap = sub n h.path in
    let inserted : NodeMap = with_place h.index v level in
    let k : NodeMap = put n h.path inserted in
    let q : Path = h.path ++ place h.index ∷ [] in
    let made : m ≡ k = array_made n m v tokens element a h in
    let array : level [] ≡ Some (an_array h.len) = sub-root n h.path ∙ h.array in
    let longer : inserted [] ≡ Some (an_array (suc h.len)) = with_place-root h.index h.len v level array in
    let root : IsSome (inserted []) = subst (λ (l : Option Label). IsSome l) (sym longer) refl in
    let child : sub k q ≡ v = sym (sub-sub k h.path (place h.index ∷ [])) ∙ ap (λ (z : NodeMap). sub z (place h.index ∷ [])) (sub-put n h.path inserted) ∙ with_place-same h.index v level in
    let there : IsSome (k q) = subst (λ (l : Option Label). IsSome l) (sym (sym (sub-root k q) ∙ ap (λ (z : NodeMap). z []) child)) some in
    let within : h.index < suc h.len = omega (arith, h.means.0) in
    let named : Names k element q = subst (λ (ts : List Text). Names k ts q) (sym h.element_is) (Names-push k h.front (dec h.index) h.path (place h.index) (Names-put n h.front h.path inserted h.named root) (element_step (k h.path) h.len h.index (put_at n h.path inserted ∙ longer) within) there) in
    let whole : put k h.path (without_place h.index (sub k h.path)) ≡ n =
    ap (λ (z : NodeMap). put k h.path (without_place h.index z)) (sub-put n h.path inserted)
    ∙ ap (put k h.path) (without-with level h.index h.len v array)
    ∙ put-put n h.path inserted level
    ∙ put-sub n h.path in
    subst (λ (z : NodeMap). Takes z element v n) (sym made) (record {
      found = record { path = q; named = named; below = sym child };
      left = subst (λ (z : NodeMap). Deletes k element (nodes null) z) whole (Deletes_child k (nodes null) element h.path (place h.index) named);
    })

-- the whole document

no_name : (n : NodeMap) (w : Path) → Names n [] w → w ≡ []
no_name n [] h = refl
no_name n (s ∷ w) h = absurd h

old_whole : (n m v old : NodeMap) (tokens : List Text) → IsSome (v []) → tokens ≡ [] → m ≡ v → Finds n tokens old → PutsAt m tokens old n
old_whole n m v old tokens some root made found =
    let here : found.path ≡ [] = no_name n found.path (subst (λ (ts : List Text). Names n ts found.path) root found.named) in
    let named : Names m [] [] = subst (λ (z : NodeMap). IsSome (z [])) (sym made) some in
    record {
      path = [];
      named = subst (λ (ts : List Text). Names m ts []) (sym root) named;
      made = sym (found.below ∙ ap (sub n) here);
    }

-- an addition

-- what was added is taken out
takes_added : (n m v : NodeMap) (tokens p : List Text) → IsTree n → IsSome (v []) → Adds n tokens v m → TakesAddBack n tokens (Remove p) → Takes m p v n
takes_added n m v tokens p tree some a (inl b) = subst (λ (ts : List Text). Takes m ts v n) (sym b.0) (new_member n m v tokens tree some a b.1 b.2)
takes_added n m v tokens p tree some a (inr b) = new_element n m v tokens p some a b

pub adds_back : (n m v : NodeMap) (tokens : List Text) (o : Operation) → IsTree n → IsSome (v []) → Adds n tokens v m → TakesAddBack n tokens o → Applies m o n
adds_back n m v tokens (Add path value) tree some a b = absurd b
adds_back n m v tokens (Remove path) tree some a b = (v, takes_added n m v tokens path tree some a b)
adds_back n m v tokens (Replace path value) tree some a b = subst (λ (ts : List Text). PutsAt m ts (nodes (view value)) n) (sym b.0) (go a b.2)
  where
    go : Adds n tokens v m → (tokens ≡ []) ⊎ HasObject n tokens → PutsAt m tokens (nodes (view value)) n
    go (inl c) d = old_whole n m v (nodes (view value)) tokens some c.0 c.1 b.1
    go (inr c) (inl e) = absurd (no_last c.front c.last (sym e ∙ c.split))
    go (inr c) (inr h) = old_member n m v (nodes (view value)) tokens some (inr c) h b.1
adds_back n m v tokens (Move from path) tree some a b = absurd b
adds_back n m v tokens (Copy from path) tree some a b = absurd b
adds_back n m v tokens (Test path value) tree some a b = absurd b

-- a replacement
pub puts_back : (n m v old : NodeMap) (tokens : List Text) → IsSome (v []) → PutsAt n tokens v m → Finds n tokens old → PutsAt m tokens old n
puts_back n m v old tokens some puts found =
    let here : found.path ≡ puts.path = Names_one_path n tokens found.path puts.path found.named puts.named in
    record {
      path = puts.path;
      named = subst (λ (z : NodeMap). Names z tokens puts.path) (sym puts.made) (Names-put n tokens puts.path v puts.named some);
      made = sym (ap (λ (z : NodeMap). put z puts.path old) puts.made ∙ put-put n puts.path v old ∙ ap (put n puts.path) (found.below ∙ ap (sub n) here) ∙ put-sub n puts.path);
    }

-- a member and its object

pub adds_where_gone : (k n v u m : NodeMap) (tokens : List Text) → IsTree k → Takes k tokens v n → HasObject k tokens → Adds k tokens u m → Adds n tokens u m
adds_where_gone k n v u m tokens tree t h a =
    let q : Path = h.path ++ key h.last ∷ [] in
    let level : NodeMap = without_key h.last (sub k h.path) in
    let at : t.found.path ≡ q = named_child k h.front h.last h.path t.found.path h.named h.object (subst (λ (ts : List Text). Names k ts t.found.path) h.split t.found.named) in
    let named : Names k tokens q = subst (λ (w : Path). Names k tokens w) at t.found.named in
    let gone : n ≡ put k h.path level = Deletes_one k (nodes null) tokens n (put k h.path level) tree t.left (Deletes_child k (nodes null) tokens h.path (key h.last) named) in
    let root : IsSome (level []) = subst (λ (l : Option Label). IsSome l) (sym (sub-root k h.path ∙ h.object)) refl in
    let g : HasObject n tokens = record {
      front = h.front;
      last = h.last;
      path = h.path;
      split = h.split;
      named = subst (λ (z : NodeMap). Names z h.front h.path) (sym gone) (Names-put k h.front h.path level h.named root);
      object = ap (λ (z : NodeMap). z h.path) gone ∙ put_at k h.path level ∙ sub-root k h.path ∙ h.object;
    } in
    let old : k ≡ put n q v = object_made n k v tokens (restored k n v (nodes null) tokens t.found t.left) g in
    let whole : m ≡ put n q u = object_made k m u tokens a h ∙ ap (λ (z : NodeMap). put z q u) old ∙ put-put n q v u in
    inr (record {
      front = h.front;
      last = h.last;
      path = h.path;
      split = h.split;
      named = g.named;
      made = subst (λ (l : Option Label). AddsUnder n h.path l h.last u m) (sym g.object) whole;
    })

-- what is left without a member has its object, and no such member
pub gone_nothing : (k n v : NodeMap) (tokens : List Text) → IsTree k → Takes k tokens v n → HasObject k tokens → HasObject n tokens × NamesNothing n tokens
gone_nothing k n v tokens tree t h =
    let q : Path = h.path ++ key h.last ∷ [] in
    let level : NodeMap = without_key h.last (sub k h.path) in
    let at : t.found.path ≡ q = named_child k h.front h.last h.path t.found.path h.named h.object (subst (λ (ts : List Text). Names k ts t.found.path) h.split t.found.named) in
    let named : Names k tokens q = subst (λ (w : Path). Names k tokens w) at t.found.named in
    let gone : n ≡ put k h.path level = Deletes_one k (nodes null) tokens n (put k h.path level) tree t.left (Deletes_child k (nodes null) tokens h.path (key h.last) named) in
    let root : IsSome (level []) = subst (λ (l : Option Label). IsSome l) (sym (sub-root k h.path ∙ h.object)) refl in
    let g : HasObject n tokens = record {
      front = h.front;
      last = h.last;
      path = h.path;
      split = h.split;
      named = subst (λ (z : NodeMap). Names z h.front h.path) (sym gone) (Names-put k h.front h.path level h.named root);
      object = ap (λ (z : NodeMap). z h.path) gone ∙ put_at k h.path level ∙ sub-root k h.path ∙ h.object;
    } in
    let none : n q ≡ None = sym (sub-root n q) ∙ ap (λ (z : NodeMap). z []) (sym (sub-sub n h.path (key h.last ∷ [])) ∙ ap (λ (z : NodeMap). sub z (key h.last ∷ [])) (ap (λ (z : NodeMap). sub z h.path) gone ∙ sub-put k h.path level)) ∙ without_key-same h.last (sub k h.path) [] in (
      g,
      λ w there.
          let here : w ≡ q = named_child n h.front h.last h.path w g.named g.object (subst (λ (ts : List Text). Names n ts w) h.split there) in
          no_none (n q) none (Names-here n tokens q (subst (λ (u : Path). Names n tokens u) here there)),
    )

-- a move back

-- the value is moved back, and the member that it replaced is added again
member_again : (n left m node old : NodeMap) (from path : List Text) → IsTree left → IsSome (node []) → Takes n from node left → Adds left path node m → HasObject left path → Finds left path old → Diverges n from path → (l : NodeMap) × Moves m path from l × Adds l path old n
member_again n left m node old from path tree some taken added h found way =
    let q : Path = h.path ++ key h.last ∷ [] in
    let level : NodeMap = without_key h.last (sub left h.path) in
    let gone : NodeMap = put left h.path level in
    let at : found.path ≡ q = named_child left h.front h.last h.path found.path h.named h.object (subst (λ (ts : List Text). Names left ts found.path) h.split found.named) in
    let named : Names left path q = subst (λ (w : Path). Names left path w) at found.named in
    let removed : Takes left path old gone = record { found = found; left = Deletes_child left (nodes null) path h.path (key h.last) named } in
    let root : IsSome (level []) = subst (λ (l : Option Label). IsSome l) (sym (sub-root left h.path ∙ h.object)) refl in
    let g : HasObject gone path = record {
      front = h.front;
      last = h.last;
      path = h.path;
      split = h.split;
      named = Names-put left h.front h.path level h.named root;
      object = put_at left h.path level ∙ sub-root left h.path ∙ h.object;
    } in
    let none : gone q ≡ None = sym (sub-root gone q) ∙ ap (λ (z : NodeMap). z []) (sym (sub-sub gone h.path (key h.last ∷ [])) ∙ ap (λ (z : NodeMap). sub z (key h.last ∷ [])) (sub-put left h.path level)) ∙ without_key-same h.last (sub left h.path) [] in
    let nothing : NamesNothing gone path = λ w there.
    let here : w ≡ q = named_child gone h.front h.last h.path w g.named g.object (subst (λ (ts : List Text). Names gone ts w) h.split there) in
    no_none (gone q) none (Names-here gone path q (subst (λ (u : Path). Names gone path u) here there)) in
    let tree_gone : IsTree gone = (takes_tree left path old gone tree removed).1 in
    let again : Adds gone path node m = adds_where_gone left gone old node m path tree removed h added in
    let out : Takes m path node gone = new_member gone m node path tree_gone some again g nothing in
    let from_left : Diverges left path from = diverges_turned left from path (diverges_after (λ n ts m. Takes n ts node m) (local_take node) n left from from path way way taken) in
    let from_gone : Diverges gone path from = diverges_after (λ n ts m. Takes n ts old m) (local_take old) left gone path path from from_left from_left removed in
    let swapped = local_swap (λ n ts m. Adds n ts old m) (λ n ts m. Adds n ts node m) (local_add old) (local_add node) gone left n path from from_gone (restored left gone old (nodes null) path found removed.left) (restored n left node (nodes null) from taken.found taken.left) in (
      swapped.0,
      record { node = node; left = gone; apart = diverges_way gone path from from_gone; taken = out; added = swapped.1 },
      swapped.2,
    )

no_ends : (f : List Text) (x : Text) (more : List Text) → [] ≡ f ++ x ∷ more → ⊥
no_ends [] x more e = cc
no_ends (t ∷ f) x more e = cc

reversed : (n left m node : NodeMap) (from path : List Text) (o : Operation) (back : List Operation) → IsTree left → IsSome (node []) → Takes n from node left → Adds left path node m → TakesAddBack left path o → IsReverse n from path o back → Patches m back n
reversed n left m node from path (Add p value) back tree some taken added b r = absurd r
reversed n left m node from path (Remove p) back tree some taken added b r = subst (λ (os : List Operation). Patches m os n) (sym r.0)
    (n, record { node = node; left = left; apart = r.1; taken = takes_added left m node path p tree some added b; added = restored n left node (nodes null) from taken.found taken.left }, refl)
reversed n left m node from path (Replace p value) back tree some taken added b r = ⊎_elim
    (λ (none : path ≡ []). absurd (no_ends r.1.front r.1.there r.1.others (sym none ∙ r.1.second)))
    (λ (h : HasObject left path).
    let k = member_again n left m node (nodes (view value)) from path tree some taken added h b.1 r.1 in
    subst (λ (os : List Operation). Patches m os n) (sym r.0) (subst (λ (ts : List Text). Patches m (Move ts from ∷ Add ts value ∷ []) n) (sym b.0) (k.0, k.1, (n, k.2, refl))))
    b.2
reversed n left m node from path (Move f p) back tree some taken added b r = absurd r
reversed n left m node from path (Copy f p) back tree some taken added b r = absurd r
reversed n left m node from path (Test p value) back tree some taken added b r = absurd r

-- operations

one_operation : (n m : NodeMap) (o : Operation) (back : List Operation) → back ≡ o ∷ [] → Applies m o n → Patches m back n
one_operation n m o back is h = subst (λ (os : List Operation). Patches m os n) (sym is) (n, h, refl)

-- what takes an operation back does
pub taken_back : (by : Comparison) (n m : NodeMap) (o : Operation) (back : List Operation) → IsTree n → AppliesBy by n o m → TakesBack n o back → Patches m back n
taken_back by n m (Add path value) back tree a b = one_operation n m b.0 back b.1 (adds_back n m (nodes (view value)) path b.0 tree (value_root value) a b.2)
taken_back by n m (Remove path) back tree a b = one_operation n m b.0 back b.1 (restoring n m path b.0 b.2 a.1.left)
taken_back by n m (Replace path value) back tree a b = one_operation n m (Replace path b.0) back b.1 (puts_back n m (nodes (view value)) (nodes (view b.0)) path (value_root value) a b.2)
taken_back by n m (Move from path) back tree a b =
    let left : b.2 ≡ a.left = Deletes_one n (nodes null) from b.2 a.left tree b.3.left a.taken.left in
    let tree_left : IsTree a.left = (takes_tree n from a.node a.left tree a.taken).1 in
    let root : IsSome (a.node []) = subst (λ (v : NodeMap). IsSome (v [])) (sym a.taken.found.below) (subst (λ (l : Option Label). IsSome l) (sym (sub-root n a.taken.found.path)) (Names-here n from a.taken.found.path a.taken.found.named)) in
    let way : TakesAddBack a.left path b.0 = subst (λ (z : NodeMap). TakesAddBack z path b.0) left b.4 in
    ⊎_elim
    (λ (r : IsReverse n from path b.0 back). reversed n a.left m a.node from path b.0 back tree_left root a.taken a.added way r)
    (λ (r : HasNoReverse n from path b.0 × (p : Operation) × (back ≡ b.0 ∷ p ∷ []) × RestoresAt n from p).
    let first : Applies m b.0 a.left = adds_back a.left m a.node path b.0 tree_left root a.added way in
    let second : Applies a.left r.1 n = restoring n a.left from r.1 r.3 a.taken.left in
    subst (λ (os : List Operation). Patches m os n) (sym r.2) (a.left, first, (n, second, refl)))
    b.5
taken_back by n m (Copy from path) back tree a b =
    let root : IsSome (a.node []) = subst (λ (v : NodeMap). IsSome (v [])) (sym a.found.below) (subst (λ (l : Option Label). IsSome l) (sym (sub-root n a.found.path)) (Names-here n from a.found.path a.found.named)) in
    one_operation n m b.0 back b.1 (adds_back n m a.node path b.0 tree root a.added b.2)
taken_back by n m (Test path value) back tree a b = subst (λ (os : List Operation). Patches m os n) (sym b) (sym a.1)

-- what takes a list of operations back does
pub all_taken_back : (c : Comparison) (n m : NodeMap) (os back : List Operation) → IsTree n → PatchesBy c n os m → TakesAllBackBy c n os back → Patches m back n
all_taken_back c n m [] back tree a b = subst (λ (os : List Operation). Patches m os n) (sym b) (sym a)
all_taken_back c n m (o ∷ os) back tree a b =
    let same : a.0 ≡ b.0 = applies_one c n a.0 b.0 o tree a.1 b.3 in
    let rest : Patches m b.2 a.0 = all_taken_back c a.0 m os b.2 (applies_tree c n a.0 o tree a.1) a.2 (subst (λ (z : NodeMap). TakesAllBackBy c z os b.2) (sym same) b.5) in
    let first : Patches a.0 b.1 n = taken_back c n a.0 o b.1 tree a.1 b.4 in
    subst (λ (l : List Operation). Patches m l n) (sym b.6) (patches_both Strict m a.0 n b.2 b.1 rest first)

-- and one operation more
pub push_back : (c : Comparison) (n m l : NodeMap) (os back : List Operation) (o : Operation) (more : List Operation) → IsTree n → PatchesBy c n os m → AppliesBy c m o l → TakesAllBackBy c n os back → TakesBack m o more → TakesAllBackBy c n (os ++ o ∷ []) (more ++ back)
push_back c n m l [] back o more tree a h b t =
    let first : AppliesBy c n o l = subst (λ (z : NodeMap). AppliesBy c z o l) a h in
    let taken : TakesBack n o more = subst (λ (z : NodeMap). TakesBack z o more) a t in
    (l, more, [], first, taken, refl, ap (λ (ps : List Operation). more ++ ps) b ∙ append-nil more)
push_back c n m l (p ∷ os) back o more tree a h b t =
    let same : a.0 ≡ b.0 = applies_one c n a.0 b.0 p tree a.1 b.3 in
    let rest : TakesAllBackBy c b.0 (os ++ o ∷ []) (more ++ b.2) = push_back c b.0 m l os b.2 o more (applies_tree c n b.0 p tree b.3) (subst (λ (z : NodeMap). PatchesBy c z os m) same a.2) h b.5 t in
    (b.0, b.1, more ++ b.2, b.3, b.4, rest, ap (λ (ps : List Operation). more ++ ps) b.6 ∙ sym (append_assoc more b.2 b.1))

-- operations that take changes back, the last one first

pub one_back : (os ps : List Operation) (o : Operation) → ps ≡ os ++ o ∷ [] → AppendsBack os (o ∷ []) ps
one_back os ps o is = is

pub two_back : (os ps : List Operation) (o p : Operation) → ps ≡ (os ++ p ∷ []) ++ o ∷ [] → AppendsBack os (o ∷ p ∷ []) ps
two_back os ps o p is = is ∙ append_assoc os (p ∷ []) (o ∷ [])

pub none_back : (os ps : List Operation) → ps ≡ os → AppendsBack os [] ps
none_back os ps is = is ∙ sym (append-nil os)

pub pushed_back : (c : Comparison) (n m l : NodeMap) (os ps qs back : List Operation) (o : Operation) → IsTree n → PatchesBy c n os m → AppliesBy c m o l → TakesAllBackBy c n os (reverse ps) → TakesBack m o back → AppendsBack ps back qs → TakesAllBackBy c n (os ++ o ∷ []) (reverse qs)
pushed_back c n m l os ps qs back o tree a h b t is =
    let whole : reverse qs ≡ back ++ reverse ps = ap (λ (r : List Operation). reverse r) is ∙ reverse-append ps (reverse back) ∙ ap (λ (r : List Operation). r ++ reverse ps) (reverse-reverse back) in
    subst (λ (r : List Operation). TakesAllBackBy c n (os ++ o ∷ []) r) (sym whole) (push_back c n m l os (reverse ps) o back tree a h b t)

-- what place says of the parent

pub place_object : (n : NodeMap) (tokens : List Text) (l : Location) (k : String Global) → IsPlace n tokens (target.Member l k) → HasObject n tokens
place_object n tokens l k h = record { front = h.front; last = string_bytes k; path = path_of l; split = h.split; named = h.named; object = h.label }

pub place_element : (n : NodeMap) (tokens element : List Text) (l : Location) (i : ℕ) → IsPlace n tokens (target.Element l i) → ((front : List Text) (last : Text) → tokens ≡ front ++ last ∷ [] → element ≡ front ++ dec i ∷ []) → IsElementAt n tokens element
place_element n tokens element l i h is =
    let r = h.2 in
    record { front = r.front; last = h.1; path = path_of l; len = h.0; index = i; split = r.split; named = r.named; array = r.label; means = h.3; element_is = is r.front h.1 r.split }
