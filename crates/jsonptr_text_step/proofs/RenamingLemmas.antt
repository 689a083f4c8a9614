-- A member that is renamed, in the words of moves.
use Rattle.std.proofs.Common.{◌≡◌, ◌+◌, ◌⊎◌, inl, inr, List, [], ◌∷◌, ◌++◌, length, Option, Some, None, IsSome, option_map, option_and_then, false, refl, sym, ap, ◌∙◌, subst, arith, length-append}
use mathlib.Core.Path.{fun_ext}
use Rattle.serde_json.specs.Data as json
use Rattle.serde_json.specs.Data.{Data, null, depth}
use Rattle.serde_json.specs.Find.{get_member}
use Rattle.serde_json.specs.Read.{read}
use Rattle.jsonptr.specs.Text.{Text}
use Rattle.jsonptr.specs.Node.{Step, key, place, Path, Label, an_object, NodeMap, sub, NamesStep, Names}
use Rattle.jsonptr.specs.Content as tree
use Rattle.jsonptr.specs.Content.{Content, label_of, content_at}
use Rattle.jsonptr.specs.Following.{Finds}
use Rattle.jsonptr.specs.Json.{content, nodes}
use Rattle.jsonptr.specs.Put.{put, same_step}
use Rattle.jsonptr.specs.Removing.{without_key, Deletes}
use Rattle.jsonptr_tree.proofs.ContentLemmas.{content_at-push}
use Rattle.jsonptr_tree.proofs.JsonLemmas.{FindsValue-Finds}
use Rattle.jsonptr_tree.proofs.NodeLemmas.{sub-root, sub-sub, Names-push}
use Rattle.jsonptr_tree.proofs.PutLemmas.{cases_same, rest_after-shorter, put_none, put_at, put-sub, sub-put, put-put, put_below, same_by_step, put-step, put-other_step, Names-put}
use Rattle.jsonptr_tree.proofs.RemovingLemmas.{Deletes_child, without_key-same, without_key-other}
use Rattle.jsonptr_text_resolve.proofs.SearchLemmas.{member_content}
use Rattle.jsonptr_patch.specs.Adding.{AddsUnder}
use Rattle.jsonptr_patch.specs.Operating.{IsProperPrefix, Moves}
use Rattle.jsonptr_patch.proofs.OneLemmas.{last_one}
use Rattle.jsonptr_text_check.specs.Editing.{RenamesKey, RenamesMember}
use Rattle.jsonptr_text_step.specs.PrivateReaching.{ReachedInText}
use Rattle.jsonptr_text_step.specs.PrivateRenaming.{IsMemberInText}
use Rattle.jsonptr_text_step.specs.Renaming.{IsMember, Renames, RenamesInText}
use Rattle.jsonptr_text_step.proofs.EditLemmas.{label_there, map_there}
use Rattle.jsonptr_text_step.proofs.ReachingLemmas.{below, same_below, other_key}

-- ---- a member of an object

pub member_named : (n : NodeMap) (tokens : List Text) (m : IsMember n tokens) → Names n tokens (m.path ++ key m.x ∷ [])
member_named n tokens m = subst (λ (ts : List Text). Names n ts (m.path ++ key m.x ∷ [])) (sym m.split)
    (Names-push n m.front m.x m.path (key m.x) m.named (subst (λ (l : Option Label). NamesStep l m.x (key m.x)) (sym m.object) refl) m.there)

-- what is left without it
left_is : (n blank left : NodeMap) (tokens : List Text) (m : IsMember n tokens) → Deletes n tokens blank left → left ≡ put n m.path (without_key m.x (sub n m.path))
left_is n blank left tokens m h = h.child m.path (key m.x) (member_named n tokens m)

-- the object is still there
pub left_object : (n blank left : NodeMap) (tokens : List Text) (m : IsMember n tokens) → Deletes n tokens blank left → Names left m.front m.path × (left m.path ≡ Some an_object)
left_object n blank left tokens m h =
    let is = left_is n blank left tokens m h in
    let root : without_key m.x (sub n m.path) [] ≡ Some an_object = sub-root n m.path ∙ m.object in (
      subst (λ (l : NodeMap). Names l m.front m.path) (sym is) (Names-put n m.front m.path (without_key m.x (sub n m.path)) m.named (subst (λ (o : Option Label). IsSome o) (sym root) refl)),
      ap (λ (l : NodeMap). l m.path) is ∙ put_at n m.path (without_key m.x (sub n m.path)) ∙ root,
    )

-- a sibling is not below it
pub not_below : (front : List Text) (x k : Text) → IsProperPrefix (front ++ x ∷ []) (front ++ k ∷ []) → ⊥
not_below front x k h =
    let one : length (front ++ k ∷ []) ≡ length front + length (k ∷ []) = length-append front (k ∷ []) in
    let other : length (front ++ x ∷ []) ≡ length front + length (x ∷ []) = length-append front (x ∷ []) in
    let all : length (front ++ k ∷ []) ≡ length (front ++ x ∷ []) + length (h.0 ∷ h.1) = ap length h.2 ∙ length-append (front ++ x ∷ []) (h.0 ∷ h.1) in
    omega (arith, one, other, all)

-- a member that is taken away and added under a key
moves_member : (n m v : NodeMap) (front : List Text) (x k : Text) (o : IsMember n (front ++ x ∷ [])) → Finds n (front ++ x ∷ []) v → m ≡ put n o.path (put (without_key x (sub n o.path)) (key k ∷ []) v) → Moves n (front ++ x ∷ []) (front ++ k ∷ []) m
moves_member n m v front x k o found made = record {
  node = v;
  left = left;
  apart = not_below front x k;
  taken = record { found = found; left = taken };
  added = inr (record {
    front = front;
    last = k;
    path = o.path;
    split = refl;
    named = subst (λ (f : List Text). Names left f o.path) same.0 object.0;
    made = subst (λ (l : Option Label). AddsUnder left o.path l k v m) (sym object.1) all;
  });
}
  where
    less : NodeMap
    less = without_key x (sub n o.path)

    left : NodeMap
    left = put n o.path less

    same : (o.front ≡ front) × (o.x ≡ x)
    same = last_one o.front front o.x x (sym o.split)

    taken : Deletes n (front ++ x ∷ []) (nodes null) left
    taken = Deletes_child n (nodes null) (front ++ x ∷ []) o.path (key x) (subst (λ (y : Text). Names n (front ++ x ∷ []) (o.path ++ key y ∷ [])) same.1 (member_named n (front ++ x ∷ []) o))

    object : Names left o.front o.path × (left o.path ≡ Some an_object)
    object = left_object n (nodes null) left (front ++ x ∷ []) o taken

    all : m ≡ put left (o.path ++ key k ∷ []) v
    all = made ∙ sym (put_below left o.path (key k ∷ []) v ∙ ap (λ (l : NodeMap). put left o.path (put l (key k ∷ []) v)) (sub-put n o.path less) ∙ put-put n o.path less (put less (key k ∷ []) v))

-- ---- the members of an object

-- the map of an object whose member `e` has the key `k` instead of `x`
renamed_map : (ms ms2 : json.Members) (x k : Text) (e : Data) → RenamesKey x k e ms ms2 → nodes (json.object ms2) ≡ put (without_key x (nodes (json.object ms))) (key k ∷ []) (nodes e)
renamed_map ms ms2 x k e h = same_by_step (nodes (json.object ms2)) (put less (key k ∷ []) (nodes e))
    (sym (put_none less (key k ∷ []) (nodes e) [] (rest_after-shorter [] (key k) [])))
    (λ t. at t (cases_same (key k) t))
  where
    less : NodeMap
    less = without_key x (nodes (json.object ms))

    there : tree.child (key k) (content (json.object ms2)) ≡ Some (content e)
    there = member_content k ms2 ∙ ap (option_map content) h.is

    gone : tree.child (key x) (content (json.object ms2)) ≡ None
    gone = member_content x ms2 ∙ ap (option_map content) h.gone

    others : (t : Step) → same_step (key k) t ≡ false → same_step (key x) t ≡ false → tree.child t (content (json.object ms2)) ≡ tree.child t (content (json.object ms))
    others (place j) apart away = refl
    others (key l) apart away = member_content l ms2 ∙ ap (option_map content) (h.others l (other_key x l away) (other_key k l apart)) ∙ sym (member_content l ms)

    other : (t : Step) → same_step (key k) t ≡ false → (key x ≡ t) ⊎ (same_step (key x) t ≡ false) → sub (nodes (json.object ms2)) (t ∷ []) ≡ sub less (t ∷ [])
    other t apart (inl same) = subst (λ (u : Step). sub (nodes (json.object ms2)) (u ∷ []) ≡ sub less (u ∷ [])) same
        (fun_ext (λ (p : Path). ap (λ (o : Option Content). option_map label_of (option_and_then (content_at p) o)) gone ∙ sym (without_key-same x (nodes (json.object ms)) p)))
    other t apart (inr away) = same_below (content (json.object ms)) (content (json.object ms2)) t (others t apart away) ∙ fun_ext (λ (p : Path). sym (without_key-other x (nodes (json.object ms)) t p away))

    at : (t : Step) → (key k ≡ t) ⊎ (same_step (key k) t ≡ false) → sub (nodes (json.object ms2)) (t ∷ []) ≡ sub (put less (key k ∷ []) (nodes e)) (t ∷ [])
    at t (inl same) = subst (λ (u : Step). sub (nodes (json.object ms2)) (u ∷ []) ≡ sub (put less (key k ∷ []) (nodes e)) (u ∷ [])) same
        (sym (below (content (json.object ms2)) (content e) (key k) there) ∙ sym (put-step less (key k) [] (nodes e)))
    at t (inr apart) = other t apart (cases_same (key x) t) ∙ sym (put-other_step less (key k) t [] (nodes e) apart)

-- the same member put back
back_map : (n : NodeMap) (x : Text) → n ≡ put (without_key x n) (key x ∷ []) (sub n (key x ∷ []))
back_map n x = same_by_step n (put (without_key x n) (key x ∷ []) (sub n (key x ∷ [])))
    (sym (put_none (without_key x n) (key x ∷ []) (sub n (key x ∷ [])) [] (rest_after-shorter [] (key x) [])))
    (λ t. at t (cases_same (key x) t))
  where
    at : (t : Step) → (key x ≡ t) ⊎ (same_step (key x) t ≡ false) → sub n (t ∷ []) ≡ sub (put (without_key x n) (key x ∷ []) (sub n (key x ∷ []))) (t ∷ [])
    at t (inl same) = subst (λ (u : Step). sub n (u ∷ []) ≡ sub (put (without_key x n) (key x ∷ []) (sub n (key x ∷ []))) (u ∷ [])) same
        (sym (put-step (without_key x n) (key x) [] (sub n (key x ∷ []))))
    at t (inr apart) = fun_ext (λ (p : Path). sym (without_key-other x n t p apart)) ∙ sym (put-other_step (without_key x n) (key x) t [] (sub n (key x ∷ [])) apart)

-- ---- in place

pub renamed : (old new : Text) (front : List Text) (x k : Text) → ReachedInText old new front (RenamesMember x k) → RenamesInText old (front ++ x ∷ []) k new
renamed old new front x k h = (h.0, h.1, h.2, h.3, record { member = member; free = λ apart. free; moves = moves })
  where
    n : NodeMap
    n = nodes h.0

    ms : json.Members
    ms = h.4.changes.ms

    e : Data
    e = h.4.changes.e

    w : Path
    w = h.4.path

    there : content_at w (content h.0) ≡ Some (content (json.object ms))
    there = h.4.there ∙ ap (λ (d : Data). Some (content d)) h.4.changes.old

    child : (l : Text) → content_at (w ++ key l ∷ []) (content h.0) ≡ option_map content (get_member l ms)
    child l = content_at-push w (key l) (content h.0) (content (json.object ms)) there ∙ member_content l ms

    here : content_at (w ++ key x ∷ []) (content h.0) ≡ Some (content e)
    here = child x ∙ ap (option_map content) h.4.changes.renames.was

    free : n (w ++ key k ∷ []) ≡ None
    free = ap (option_map label_of) (child k ∙ ap (option_map content) h.4.changes.renames.free)

    member : IsMember n (front ++ x ∷ [])
    member = record {
      front = front;
      x = x;
      path = w;
      split = refl;
      named = h.4.named;
      object = label_there h.0 (json.object ms) w there;
      there = subst (λ (o : Option Content). IsSome (option_map label_of o)) (sym here) refl;
    }

    found : Finds n (front ++ x ∷ []) (nodes e)
    found = FindsValue-Finds h.0 (front ++ x ∷ []) e (record { path = w ++ key x ∷ []; named = member_named n (front ++ x ∷ []) member; there = here })

    made : nodes h.1 ≡ put n w (put (without_key x (sub n w)) (key k ∷ []) (nodes e))
    made = h.4.made ∙ ap (put n w) (ap nodes h.4.changes.new ∙ renamed_map ms h.4.changes.ms2 x k e h.4.changes.renames ∙ ap (λ (o : NodeMap). put (without_key x o) (key k ∷ []) (nodes e)) (map_there h.0 (json.object ms) w there))

    moves : Moves n (front ++ x ∷ []) (front ++ k ∷ []) (nodes h.1)
    moves = moves_member n (nodes h.1) (nodes e) front x k member found made

-- a member that keeps its key
kept_moves : (n : NodeMap) (front : List Text) (x : Text) (o : IsMember n (front ++ x ∷ [])) → Moves n (front ++ x ∷ []) (front ++ x ∷ []) n
kept_moves n front x o = moves_member n n (sub n (o.path ++ key x ∷ [])) front x x o
    (record { path = o.path ++ key x ∷ []; named = subst (λ (y : Text). Names n (front ++ x ∷ []) (o.path ++ key y ∷ [])) same (member_named n (front ++ x ∷ []) o); below = refl })
    (sym (put-sub n o.path) ∙ ap (put n o.path) (back_map (sub n o.path) x ∙ ap (λ (v : NodeMap). put (without_key x (sub n o.path)) (key x ∷ []) v) (sub-sub n o.path (key x ∷ []))))
  where
    same : o.x ≡ x
    same = (last_one o.front front o.x x (sym o.split)).1

kept_key : (n : NodeMap) (tokens front : List Text) (k : Text) → tokens ≡ front ++ k ∷ [] → IsMember n tokens → Renames n tokens k n
kept_key n tokens front k split o =
    let same = last_one o.front front o.x k (sym o.split ∙ split) in record {
      member = o;
      free = λ apart. absurd (apart (sym same.1));
      moves = subst (λ (ts : List Text). Moves n ts (o.front ++ k ∷ []) n) (sym split)
          (subst (λ (f : List Text). Moves n (front ++ k ∷ []) (f ++ k ∷ []) n) (sym same.0)
          (kept_moves n front k (subst (λ (ts : List Text). IsMember n ts) split o)));
    }

pub kept_in_text : (old new : Text) (tokens front : List Text) (k : Text) → tokens ≡ front ++ k ∷ [] → new ≡ old → IsMemberInText old tokens → RenamesInText old tokens k new
kept_in_text old new tokens front k split same m = (m.0, m.0, m.1, ap read same ∙ m.1, kept_key (nodes m.0) tokens front k split m.2)
