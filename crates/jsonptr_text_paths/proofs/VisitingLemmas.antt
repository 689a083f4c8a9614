-- Visiting the nodes of a value, part by part. `content_of` is what a value contains, for a value of any kind.
use Rattle.std.proofs.Common.{◌≡◌, ℕ, ◌+◌, ◌<◌, ◌≤◌, ◌⊎◌, List, [], ◌∷◌, ◌++◌, length, get_or, Option, Some, IsSome, option_map, String, Global, string_bytes, string_cmp, refl, sym, ap, subst, ◌∙◌, arith, append_assoc, append-nil}
use Rattle.std.specs.BTreeMap.{BTreeMap, get_by_text}
use Rattle.std.specs.List.Sorted.{IsStrictlySortedBy}
use Rattle.std.specs.Map.{keys_of}
use Rattle.jsonptr.specs.Content.{Content, content_at, map_of, label_of, FindsContent}
use Rattle.jsonptr_tree.proofs.ContentLemmas.{content_at-below, map_of-sub}
use Rattle.jsonptr_tree.proofs.NodeLemmas.{Names-push_below}
use Rattle.jsonptr.specs.Text.{Text, dec}
use Rattle.jsonptr.specs.Node.{Step, key, place, Path, Label, an_object, an_array, a_leaf, NodeMap, NamesStep}
use Rattle.jsonptr.proofs.Calling.{map_of-IsTree}
use Rattle.jsonptr_text_paths.specs.Walking.{Before, IsWalk}
use Rattle.jsonptr_text_paths.specs.PrivateWalking.{token_of, AddsPointers, AnyPath, NotRoot, VisitsAll, WalksNodes, InFirst}
use Rattle.jsonptr_text_paths.proofs.WalkingLemmas.{EntryOf, Under, adds_part, adds_none, adds_same, adds_root, leaf_below, in_none, in_more, in_cases, in_before, in_below, below_in, key_last, under_none, under_more, under_cases, under_before, under_below, below_under, entry_there, walk_whole}

-- some nodes, and then others
pub visits_both : {S V : Type 0} (visits : S → List Text → V → S → Type 0) (finds : List Text → V → Type 0) (xs ys : List (List Text)) (s t u : S) → VisitsAll visits finds xs s t → VisitsAll visits finds ys t u → VisitsAll visits finds (xs ++ ys) s u
visits_both visits finds [] ys s t u h k = subst (λ x. VisitsAll visits finds ys x u) h k
visits_both visits finds (x ∷ xs) ys s t u h k = (h.0, h.1, h.2, h.3, visits_both visits finds xs ys h.1 t u h.4 k)

-- the same pointers after others
pub adds_later : (n : NodeMap) (P : Path → Type 0) (prefix : List Text) (old lists : List (List Text)) → AddsPointers n P prefix [] lists → AddsPointers n P prefix old (old ++ lists)
adds_later n P prefix old lists a = record {
  paths = a.paths;
  listed = ap (λ l. old ++ l) a.listed;
  there = a.there;
  all = a.all;
  order = a.order;
}

-- one token more finds a child
pub finds_child : (d c e : Content) (prefix : List Text) (x : Text) (s : Step) → FindsContent d prefix c → NamesStep (map_of c []) x s → content_at (s ∷ []) c ≡ Some e → FindsContent d (prefix ++ x ∷ []) e
finds_child d c e prefix x s f names there = record {
  path = f.path ++ s ∷ [];
  named = Names-push_below (map_of d) (map_of c) prefix x f.path s (map_of-sub f.path d c f.there) f.named names (subst (λ (o : Option Content). IsSome (option_map label_of o)) (sym there) refl);
  there = content_at-below f.path (s ∷ []) d c f.there ∙ there;
}

module _ {S V : Type 0} (content_of : V → Content) (visits : S → List Text → V → S → Type 0) where
  -- nothing yet
  pub walks_none : (v : V) (P : Path → Type 0) (prefix : List Text) (s : S) → ((w : Path) → P w → IsSome (map_of (content_of v) w) → ⊥) → WalksNodes content_of visits v P prefix s s
  walks_none v P prefix s none = record {
    lists = [];
    adds = adds_none (map_of (content_of v)) P prefix [] none;
    visited = λ d f. refl;
  }

  -- the same for paths that have one property exactly if they have the other
  pub walks_same : (v : V) (P Q : Path → Type 0) (prefix : List Text) (s t : S) → ((w : Path) → P w → Q w) → ((w : Path) → Q w → IsSome (map_of (content_of v) w) → P w) → WalksNodes content_of visits v P prefix s t → WalksNodes content_of visits v Q prefix s t
  walks_same v P Q prefix s t weaker stronger a = record {
    lists = a.lists;
    adds = adds_same (map_of (content_of v)) P Q prefix [] a.lists a.adds weaker stronger;
    visited = a.visited;
  }

  -- the root, and then all below it
  pub walks_whole : (v w : V) (prefix : List Text) (s m t : S) → v ≡ w → visits s prefix v m → WalksNodes content_of visits w NotRoot prefix m t → WalksNodes content_of visits v AnyPath prefix s t
  walks_whole v w prefix s m t is visit a = subst (λ u. WalksNodes content_of visits u AnyPath prefix s t) (sym is) whole
    where
      whole : WalksNodes content_of visits w AnyPath prefix s t
      whole = record {
        lists = prefix ∷ a.lists;
        adds = adds_root (map_of (content_of w)) prefix [] (prefix ∷ []) (prefix ∷ a.lists) refl (map_of-IsTree (content_of w)).root (adds_later (map_of (content_of w)) NotRoot prefix (prefix ∷ []) a.lists a.adds);
        visited = λ d f. (w, m, f, subst (λ u. visits s prefix u m) is visit, a.visited d f);
      }

  -- a scalar is its root alone
  pub walks_leaf : (v : V) (l : _) (prefix : List Text) (s t : S) → map_of (content_of v) [] ≡ Some (a_leaf l) → visits s prefix v t → WalksNodes content_of visits v AnyPath prefix s t
  walks_leaf v l prefix s t leaf visit = walks_whole v v prefix s t t refl visit (walks_none v NotRoot prefix t (leaf_below (map_of (content_of v)) l (map_of-IsTree (content_of v)) leaf))

  -- some of the nodes, and then one child
  walks_part : (v e : V) (x : Step) (P Q : Path → Type 0) (prefix at : List Text) (s m t : S)
      → at ≡ prefix ++ token_of x ∷ []
      → content_at (x ∷ []) (content_of v) ≡ Some (content_of e)
      → NamesStep (map_of (content_of v) []) (token_of x) x
      → ((w : Path) → P w → Q w)
      → ((w : Path) → Q (x ∷ w))
      → ((w : Path) → Q w → P w ⊎ ((u : Path) × (w ≡ x ∷ u)))
      → ((w u : Path) → P w → Before w (x ∷ u))
      → WalksNodes content_of visits v P prefix s m
      → WalksNodes content_of visits e AnyPath at m t
      → WalksNodes content_of visits v Q prefix s t
  walks_part v e x P Q prefix at s m t leads there names weaker here cases before a b = record {
    lists = a.lists ++ b.lists;
    adds = adds_part (map_of (content_of v)) (map_of (content_of e)) P Q prefix x [] a.lists (a.lists ++ b.lists) a.adds
        (adds_later (map_of (content_of e)) AnyPath (prefix ++ token_of x ∷ []) a.lists b.lists (subst (λ (ts : List Text). AddsPointers (map_of (content_of e)) AnyPath ts [] b.lists) leads b.adds))
        (map_of-sub (x ∷ []) (content_of v) (content_of e) there)
        weaker
        here
        cases
        before;
    visited = λ d f. visits_both visits (λ ts u. FindsContent d ts (content_of u)) a.lists b.lists s m t (a.visited d f)
        (b.visited d (subst (λ (ts : List Text). FindsContent d ts (content_of e)) (sym leads) (finds_child d (content_of v) (content_of e) prefix (token_of x) x f names there)));
  }

  -- elements

  pub no_element : (v : V) (prefix : List Text) (s : S) → WalksNodes content_of visits v (InFirst 0) prefix s s
  no_element v prefix s = walks_none v (InFirst 0) prefix s (λ w p some. in_none w p)

  pub one_element : (v e : V) (items vs : List V) (i : ℕ) (prefix at : List Text) (s m t : S)
      → map_of (content_of v) [] ≡ Some (an_array (length items))
      → ((j : ℕ) (x : V) → j < length items → content_at (place j ∷ []) (content_of v) ≡ Some (content_of (get_or items j x)))
      → vs ≡ items
      → i < length vs
      → e ≡ get_or vs i e
      → at ≡ prefix ++ dec i ∷ []
      → WalksNodes content_of visits v (InFirst i) prefix s m
      → WalksNodes content_of visits e AnyPath at m t
      → WalksNodes content_of visits v (InFirst (i + 1)) prefix s t
  one_element v e items vs i prefix at s m t label element same short read leads a b =
      let inner : i < length items = subst (λ (l : List V). i < length l) same short in
      let here : e ≡ get_or items i e = read ∙ ap (λ (l : List V). get_or l i e) same in
      let there : content_at (place i ∷ []) (content_of v) ≡ Some (content_of e) = element i e inner ∙ ap (λ u. Some (content_of u)) (sym here) in
      walks_part v e (place i) (InFirst i) (InFirst (i + 1)) prefix at s m t leads there (subst (λ (o : Option Label). NamesStep o (dec i) (place i)) (sym label) (inner, refl)) (in_more i) (λ w. omega arith) (in_cases i) (in_before i) a b

  pub all_elements : (v : V) (len i : ℕ) (prefix : List Text) (s t : S) → map_of (content_of v) [] ≡ Some (an_array len) → len ≤ i → WalksNodes content_of visits v (InFirst i) prefix s t → WalksNodes content_of visits v NotRoot prefix s t
  all_elements v len i prefix s t label long a = walks_same v (InFirst i) NotRoot prefix s t (in_below i) (below_in (map_of (content_of v)) len i (map_of-IsTree (content_of v)) label long) a

  -- members

  pub no_member : (v : V) (prefix : List Text) (s : S) → WalksNodes content_of visits v (Under {V = V} []) prefix s s
  no_member v prefix s = walks_none v (Under {V = V} []) prefix s (λ w p some. under_none V w p)

  pub one_member : (v : V) (m : BTreeMap (String Global) V) (done : List (EntryOf V)) (e : EntryOf V) (more : List (EntryOf V)) (prefix at : List Text) (s r t : S)
      → map_of (content_of v) [] ≡ Some an_object
      → ((k : List ℕ) → content_at (key k ∷ []) (content_of v) ≡ option_map content_of (get_by_text m k))
      → m.entries ≡ done ++ e ∷ more
      → IsStrictlySortedBy string_cmp (keys_of m.entries)
      → at ≡ prefix ++ string_bytes e.0 ∷ []
      → WalksNodes content_of visits v (Under done) prefix s r
      → WalksNodes content_of visits e.1 AnyPath at r t
      → WalksNodes content_of visits v (Under (done ++ e ∷ [])) prefix s t
  one_member v m done e more prefix at s r t label member is sorted leads a b =
      let there : content_at (key (string_bytes e.0) ∷ []) (content_of v) ≡ Some (content_of e.1) = member (string_bytes e.0) ∙ ap (option_map content_of) (entry_there m done e more is sorted) in
      walks_part v e.1 (key (string_bytes e.0)) (Under done) (Under (done ++ e ∷ [])) prefix at s r t leads there
      (subst (λ (o : Option Label). NamesStep o (string_bytes e.0) (key (string_bytes e.0))) (sym label) refl)
      (under_more done e)
      (λ w. key_last done e)
      (under_cases done e)
      (under_before done e more (subst (λ (es : List (EntryOf V)). IsStrictlySortedBy string_cmp (keys_of es)) is sorted))
      a
      b

  pub all_members : (v : V) (m : BTreeMap (String Global) V) (done : List (EntryOf V)) (prefix : List Text) (s t : S) → map_of (content_of v) [] ≡ Some an_object → ((k : List ℕ) → content_at (key k ∷ []) (content_of v) ≡ option_map content_of (get_by_text m k)) → m.entries ≡ done → WalksNodes content_of visits v (Under done) prefix s t → WalksNodes content_of visits v NotRoot prefix s t
  all_members v m done prefix s t label member all a = walks_same v (Under done) NotRoot prefix s t (under_below done)
      (subst (λ (es : List (EntryOf V)). (w : Path) → NotRoot w → IsSome (map_of (content_of v) w) → Under es w) all (below_under content_of (content_of v) m label member)) a

  -- all nodes of a document are visited in a walk
  pub walks_all : (v : V) (root : List Text) (s t : S) → root ≡ [] → WalksNodes content_of visits v AnyPath root s t → (lists : List (List Text)) × IsWalk (map_of (content_of v)) lists × VisitsAll visits (λ ts u. FindsContent (content_of v) ts (content_of u)) lists s t
  walks_all v root s t empty a = (
    a.lists,
    walk_whole (map_of (content_of v)) a.lists root [] empty refl (map_of-IsTree (content_of v)) a.adds,
    a.visited (content_of v) (subst (λ (ts : List Text). FindsContent (content_of v) ts (content_of v)) (sym empty) (record { path = []; named = refl; there = refl })),
  )

-- the pointers that are collected are those of the visited nodes
collects : {S V : Type 0} (found : S → List (List Text)) (finds : List Text → V → Type 0) (lists : List (List Text)) (s t : S) → VisitsAll (λ a ts (v : V) b. found b ≡ found a ++ ts ∷ []) finds lists s t → found t ≡ found s ++ lists
collects found finds [] s t h = ap found h ∙ sym (append-nil (found s))
collects found finds (x ∷ lists) s t h = collects found finds lists h.1 t h.4 ∙ ap (λ l. l ++ lists) h.3 ∙ append_assoc (found s) (x ∷ []) lists

pub collects_all : {S V : Type 0} (content_of : V → Content) (found : S → List (List Text)) (v : V) (root : List Text) (s t : S) → root ≡ [] → found s ≡ [] → WalksNodes content_of (λ a ts u b. found b ≡ found a ++ ts ∷ []) v AnyPath root s t → IsWalk (map_of (content_of v)) (found t)
collects_all content_of found v root s t empty none a =
    let r = walks_all content_of (λ a ts u b. found b ≡ found a ++ ts ∷ []) v root s t empty a in
    let all : found t ≡ r.0 = collects found _ r.0 s t r.2 ∙ ap (λ l. l ++ r.0) none in
    subst (λ (ls : List (List Text)). IsWalk (map_of (content_of v)) ls) (sym all) r.1
