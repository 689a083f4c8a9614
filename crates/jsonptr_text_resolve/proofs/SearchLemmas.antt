-- Following selectors, and evaluating the tokens that they are made of.
use Rattle.std.proofs.Common.{◌≡◌, ℕ, zero, suc, ◌<◌, ◌^◌, List, [], ◌∷◌, ◌++◌, length, Bool, cond, Option, Some, None, option_map, option_and_then, Ordering, Less, Equal, Greater, nat_cmp, is_eq, refl, sym, ap, ◌∙◌, subst, arith}
use Rattle.std.proofs.lemmas.Map.Text.{is_eq-slice_cmp}
use Rattle.std.specs.Cmp.Lexicographic.{slice_cmp}
use Rattle.std.specs.Ordering.{match_ordering}
use Rattle.serde_json.specs.Data as json
use Rattle.serde_json.specs.Data.{Data}
use Rattle.serde_json.specs.Find as find
use Rattle.jsonptr_text_search.specs.Search as json_search
use Rattle.jsonptr_text_search.specs.Search.{Choice, chosen, follow, kind_of, element, Stops}
use Rattle.jsonptr_text_search.specs.declared.outcome.Kind.{Kind}
use Rattle.jsonptr_text_search.specs.declared.outcome.Kind.TheVariants as kind
use Rattle.jsonptr.specs.Text.{Text}
use Rattle.jsonptr.specs.Node.{Step, key, place, Path, of_json, NamesStep, Names, sub, NodeMap}
use Rattle.jsonptr.specs.Following.{LacksStep}
use Rattle.jsonptr.specs.Content as tree
use Rattle.jsonptr.specs.Content.{Content, items_len, get_item, get_member, label_of, content_at, map_of, FindsContent}
use Rattle.jsonptr.specs.Json.{content, items, members, nodes}
use Rattle.jsonptr_tree.proofs.ContentLemmas.{map_of-sub, content_at-push}
use Rattle.jsonptr_tree.proofs.FollowingLemmas.{lacks_at_leaf, lacks_at_object, lacks_at_array, stops_before}
use Rattle.jsonptr_text_resolve.specs.Selecting.{IsChoiceOf, AreChoicesOf, StopsLeft}

-- ---- elements and members

item_content : (ds : json.Items) (i : ℕ) (e : Data) → find.get_item i ds ≡ Some e → get_item i (items ds) ≡ Some (content e)
item_content json.no_items i e h = absurd (cc)
item_content (json.item d ds) zero e h = let same : d ≡ e = cc in ap (λ (x : Data). Some (content x)) same
item_content (json.item d ds) (suc i) e h = item_content ds i e h

item_below : (ds : json.Items) (i : ℕ) (e : Data) → find.get_item i ds ≡ Some e → i < items_len (items ds)
item_below json.no_items i e h = absurd (cc)
item_below (json.item d ds) zero e h = omega arith
item_below (json.item d ds) (suc i) e h = let below = item_below ds i e h in omega arith

item_there : (ds : json.Items) (i : ℕ) → i < items_len (items ds) → find.get_item i ds ≡ None → ⊥
item_there json.no_items i low h = omega arith
item_there (json.item d ds) zero low h = cc
item_there (json.item d ds) (suc i) low h = item_there ds i (omega arith) h

pub len_same : (ds : json.Items) → items_len (items ds) ≡ json_search.items_count ds
len_same json.no_items = refl
len_same (json.item d ds) = ap suc (len_same ds)

first_or : (o : Ordering) (g : Option Data) (e : Data) (t : Option Content) → t ≡ option_map content g → cond (is_eq o) (Some (content e)) t ≡ option_map content (match_ordering o g (Some e) g)
first_or Less g e t h = h
first_or Equal g e t h = refl
first_or Greater g e t h = h

pub member_content : (k : Text) (ms : json.Members) → get_member k (members ms) ≡ option_map content (find.get_member k ms)
member_content k json.no_members = refl
member_content k (json.member l e ms) =
    ap (λ (b : Bool). cond b (Some (content e)) (get_member k (members ms))) (sym (is_eq-slice_cmp k l)) ∙ first_or (slice_cmp nat_cmp k l) (find.get_member k ms) e _ (member_content k ms)

-- ---- a step

Steps : Text → Data → Data → Type 0
Steps x d c = (s : Step) × NamesStep (nodes d []) x s × (tree.child s (content d) ≡ Some (content c))

step : (x : Text) (w : Choice) (d c : Data) → IsChoiceOf x w → chosen w d ≡ Some c → Steps x d c
unfolding Steps
step x w json.null c is h = absurd (cc)
step x w (json.boolean b) c is h = absurd (cc)
step x w (json.number n) c is h = absurd (cc)
step x w (json.string s) c is h = absurd (cc)
step x w (json.array ds) c is h = at w.1 refl h
  where
    at : (o : Option ℕ) → w.1 ≡ o → element o ds ≡ Some c → (s : Step) × NamesStep (nodes (json.array ds) []) x s × (tree.child s (content (json.array ds)) ≡ Some (content c))
    at None e g = absurd (cc)
    at (Some i) e g = (place i, (item_below ds i c g, is.index_is i e), item_content ds i c g)
step x w (json.object ms) c is h = (key x, refl, member_content x ms ∙ ap (option_map content) (ap (λ (k : Text). find.get_member k ms) (sym is.key_is) ∙ h))

-- ---- following

one_step : (s : Step) (d c : Content) → tree.child s d ≡ Some c → content_at (s ∷ []) d ≡ Some c
one_step s d c h = ap (option_and_then (content_at [])) h

pub found : (tokens : List Text) (ws : List Choice) (d e : Data) → AreChoicesOf tokens ws → follow ws d ≡ Some e → FindsContent (content d) tokens (content e)
unfolding Steps
found [] [] d e are h = let same : d ≡ e = cc in record { path = []; named = refl; there = ap (λ (x : Data). Some (content x)) same }
found [] (w ∷ ws) d e are h = absurd are
found (x ∷ xs) [] d e are h = absurd are
found (x ∷ xs) (w ∷ ws) d e are h = below (λ c g. found xs ws c e are.1 g) (chosen w d) refl h
  where
    below : ((c : Data) → follow ws c ≡ Some e → FindsContent (content c) xs (content e)) → (o : Option Data) → chosen w d ≡ o → option_and_then (follow ws) o ≡ Some e → FindsContent (content d) (x ∷ xs) (content e)
    below later None is g = absurd (cc)
    below later (Some c) is g =
        let s = step x w d c are.0 is in
        let r = later c g in
        let map : map_of (content c) ≡ sub (map_of (content d)) (s.0 ∷ []) = map_of-sub (s.0 ∷ []) (content d) (content c) (one_step s.0 (content d) (content c) s.2) in
        record {
          path = s.0 ∷ r.path;
          named = (s.1, subst (λ (n : NodeMap). Names n xs r.path) map r.named);
          there = ap (option_and_then (content_at r.path)) s.2 ∙ r.there;
        }

-- ---- stopping

record Split (tokens : List Text) (front : List Choice) (w : Choice) (rest : List Choice) : Type 0 where
  pub before : List Text
  pub token : Text
  pub after : List Text
  pub split : tokens ≡ before ++ token ∷ after
  pub choices_before : AreChoicesOf before front
  pub choice : IsChoiceOf token w
  pub choices_after : AreChoicesOf after rest

split_at : (tokens : List Text) (front : List Choice) (w : Choice) (rest : List Choice) → AreChoicesOf tokens (front ++ w ∷ rest) → Split tokens front w rest
split_at [] [] w rest are = absurd are
split_at [] (v ∷ front) w rest are = absurd are
split_at (x ∷ xs) [] w rest are = record { before = []; token = x; after = xs; split = refl; choices_before = tt; choice = are.0; choices_after = are.1 }
split_at (x ∷ xs) (v ∷ front) w rest are =
    let r = split_at xs front w rest are.1 in
    record { before = x ∷ r.before; token = r.token; after = r.after; split = ap (λ (ts : List Text). x ∷ ts) r.split; choices_before = (are.0, r.choices_before); choice = r.choice; choices_after = r.choices_after }

as_many : (tokens : List Text) (ws : List Choice) → AreChoicesOf tokens ws → length tokens ≡ length ws
as_many [] [] are = refl
as_many [] (w ∷ ws) are = absurd are
as_many (x ∷ xs) [] are = absurd are
as_many (x ∷ xs) (w ∷ ws) are = ap suc (as_many xs ws are.1)

lacks : (d e : Data) (path : Path) (x : Text) (w : Choice) (k : Kind) → content_at path (content d) ≡ Some (content e) → IsChoiceOf x w → chosen w e ≡ None → ((len : ℕ) → k ≡ kind.Array len → len < 2 ^ 64) → k ≡ kind_of e → LacksStep (nodes d) path x
lacks d json.null path x w k there is none small same = lacks_at_leaf (nodes d) path x (of_json json.null) (ap (option_map label_of) there)
lacks d (json.boolean b) path x w k there is none small same = lacks_at_leaf (nodes d) path x (of_json (json.boolean b)) (ap (option_map label_of) there)
lacks d (json.number n) path x w k there is none small same = lacks_at_leaf (nodes d) path x (of_json (json.number n)) (ap (option_map label_of) there)
lacks d (json.string s) path x w k there is none small same = lacks_at_leaf (nodes d) path x (of_json (json.string s)) (ap (option_map label_of) there)
lacks d (json.array ds) path x w k there is none small same =
    lacks_at_array (nodes d) path x (items_len (items ds)) (ap (option_map label_of) there) (λ i low e.
    let few : json_search.items_count ds < 2 ^ 64 = small (json_search.items_count ds) same in
    let len : items_len (items ds) ≡ json_search.items_count ds = len_same ds in
    let here : w.1 ≡ Some i = is.each_index i (omega arith) e in
    item_there ds i low (ap (λ (o : Option ℕ). element o ds) (sym here) ∙ none))
lacks d (json.object ms) path x w k there is none small same =
    lacks_at_object (nodes d) path x (ap (option_map label_of) there)
    (ap (option_map label_of) (content_at-push path (key x) (content d) (content (json.object ms)) there ∙ member_content x ms ∙ ap (option_map content) (ap (λ (k : Text). find.get_member k ms) (sym is.key_is) ∙ none)))

pub stops : (d : Data) (tokens : List Text) (ws : List Choice) (left : ℕ) (k : Kind) → AreChoicesOf tokens ws → ((len : ℕ) → k ≡ kind.Array len → len < 2 ^ 64) → Stops d ws left k → StopsLeft d tokens left k
stops d tokens ws left k are small h =
    let r = split_at tokens h.front h.next h.rest (subst (λ (vs : List Choice). AreChoicesOf tokens vs) h.split are) in
    let f = found r.before h.front d h.at r.choices_before h.leads in
    let lack = lacks d h.at f.path r.token h.next k f.there r.choice h.lacks small h.kind_is in
    record {
      front = r.before;
      token = r.token;
      rest = r.after;
      at = h.at;
      split = r.split;
      left_is = h.left_is ∙ ap suc (sym (as_many r.after h.rest r.choices_after));
      kind_is = h.kind_is;
      stops = stops_before (nodes d) tokens r.before r.token r.after f.path (label_of (content h.at)) r.split f.named (ap (option_map label_of) f.there) lack;
    }
