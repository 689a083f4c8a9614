-- Contents with others written in them.
use Rattle.std.proofs.Common.{◌≡◌, ℕ, zero, suc, ◌<◌, ◌≤◌, ◌+◌, ◌^◌, Bool, true, false, cond, List, [], ◌∷◌, ◌++◌, length, get_or, set, Option, Some, None, option_map, option_and_then, bytes_eq, nat_cmp, String, string_bytes, Vec, BTreeMap, Global, refl, sym, ap, ◌∙◌, subst, arith, append_assoc, append-nil}
use Rattle.std.proofs.lemmas.Map.Text.{is_eq-slice_cmp}
use Rattle.std.proofs.lemmas.List.{length-append}
use Rattle.std.specs.BTreeMap.{get_by_text, is_at, WritesThrough}
use Rattle.std.specs.Cmp.Lexicographic.{slice_cmp}
use Rattle.std.specs.Map.{set_value}
use Rattle.std.specs.Vec.{with_item}
use Rattle.std.specs.Prelude.{string_cmp}
use Rattle.serde_json.specs.Data as json
use Rattle.serde_json.specs.Find.{as_array, as_object}
use Rattle.serde_json.specs.View.{view, items_view, members_view}
use Rattle.serde_json.specs.declared.value.Value.{Value, Array, Object}
use Rattle.jsonptr.specs.Text.{Text}
use Rattle.jsonptr.specs.Node.{Step, key, place, Path}
use Rattle.jsonptr.specs.Content.{Content, scalar, array, object, Items, no_items, item, Members, no_members, member, get_item, get_member, items_len, child, content_at}
use Rattle.jsonptr.specs.Json.{content}
use Rattle.jsonptr_tree.proofs.LevelLemmas.{items_by, members_by, items_len-by, get_item-by, get_member-by}
use Rattle.jsonptr_tree.proofs.ContentLemmas.{content_at-below, content_at-push}
use Rattle.jsonptr_tree.proofs.JsonLemmas.{array_is, object_is}
use Rattle.jsonptr_document.proofs.JsonLevel.{array_at, object_at}
use Rattle.jsonptr_patch_journal.specs.declared.location.LocationStep.{LocationStep}
use Rattle.jsonptr_patch_journal.specs.Location.{path_step, steps_of, contents_of, LeadsNowhereAt}
use Rattle.jsonptr_patch_journal.specs.PrivateNodeMut.{MovesTo, MovesBack, IsLost}
use Rattle.jsonptr_patch_journal.specs.Writing.{write_item, write_member, write_step, write_below, write_at}
use Rattle.jsonptr_patch_journal.specs.PrivateNodeMut.{nth}

-- ---- the step at a position

pub nth_at : (ps : List LocationStep) (i : ℕ) (p : LocationStep) → i < length ps → p ≡ get_or ps i p → nth i (steps_of ps) ≡ Some (path_step p)
nth_at [] i p h is = absurd (omega arith)
nth_at (q ∷ ps) zero p h is = ap (λ (r : LocationStep). Some (path_step r)) (sym is)
nth_at (q ∷ ps) (suc i) p h is = nth_at ps i p (omega arith) is

pub nth_past : (ps : List LocationStep) (i : ℕ) → length ps ≤ i → nth i (steps_of ps) ≡ None
nth_past [] i h = refl
nth_past (q ∷ ps) zero h = absurd (omega arith)
nth_past (q ∷ ps) (suc i) h = nth_past ps i (omega arith)

-- ---- one level written

items-write : (vs : List Value) (i : ℕ) (w : Value) → items_by contents_of (set vs i w) ≡ write_item i (contents_of w) (items_by contents_of vs)
items-write [] i w = refl
items-write (v ∷ vs) zero w = refl
items-write (v ∷ vs) (suc i) w = ap (item (contents_of v)) (items-write vs i w)

module _ (k : Text) (w : Value) where
  abbrev test : String Global → Bool
  test = is_at (λ q. slice_cmp nat_cmp k (string_bytes q))

  write_or : (b : Bool) (e : String Global × Value) (es : List (String Global × Value)) → members_by contents_of (set_value test es w) ≡ write_member k (contents_of w) (members_by contents_of es)
      → members_by contents_of (cond b ((e.0, w) ∷ es) (e ∷ set_value test es w)) ≡ cond b (member (string_bytes e.0) (contents_of w) (members_by contents_of es)) (member (string_bytes e.0) (contents_of e.1) (write_member k (contents_of w) (members_by contents_of es)))
  write_or true e es h = refl
  write_or false e es h = ap (member (string_bytes e.0) (contents_of e.1)) h

  pub members-write : (es : List (String Global × Value)) → members_by contents_of (set_value test es w) ≡ write_member k (contents_of w) (members_by contents_of es)
  members-write [] = refl
  members-write (e ∷ es) =
      write_or (test e.0) e es (members-write es)
      ∙ ap (λ (b : Bool). cond b (member (string_bytes e.0) (contents_of w) (members_by contents_of es)) (member (string_bytes e.0) (contents_of e.1) (write_member k (contents_of w) (members_by contents_of es)))) (is_eq-slice_cmp k (string_bytes e.0))

no_array : (d : json.Data) (i : ℕ) → None ≡ as_array d → child (place i) (content d) ≡ None
no_array json.null i e = refl
no_array (json.boolean b) i e = refl
no_array (json.number n) i e = refl
no_array (json.string s) i e = refl
no_array (json.array ds) i e = let no : ⊥ = cc in absurd no
no_array (json.object ms) i e = refl

no_object : (d : json.Data) (k : Text) → None ≡ as_object d → child (key k) (content d) ≡ None
no_object json.null k e = refl
no_object (json.boolean b) k e = refl
no_object (json.number n) k e = refl
no_object (json.string s) k e = refl
no_object (json.array ds) k e = refl
no_object (json.object ms) k e = let no : ⊥ = cc in absurd no

get_past : (ds : Items) (i : ℕ) → items_len ds ≤ i → get_item i ds ≡ None
get_past no_items i h = refl
get_past (item d ds) zero h = absurd (omega arith)
get_past (item d ds) (suc i) h = get_past ds i (omega arith)

pub no_element : (at : Value) (i : ℕ) → None ≡ as_array (view at) → child (place i) (contents_of at) ≡ None
no_element at i e = no_array (view at) i e

pub no_member : (at : Value) (k : Text) → None ≡ as_object (view at) → child (key k) (contents_of at) ≡ None
no_member at k e = no_object (view at) k e

-- at an array
module _ (at : Value) (vs : Vec Value Global) (is : Some (items_view vs.items) ≡ as_array (view at)) where
  elements_are : contents_of at ≡ array (items_by contents_of vs.items)
  elements_are = array_at at vs is ∙ array_is vs

  pub array_same : contents_of (Array vs) ≡ contents_of at
  array_same = sym (array_at at vs is)

  pub element_beyond : (i : ℕ) → length vs.items ≤ i → child (place i) (contents_of at) ≡ None
  element_beyond i h = ap (child (place i)) elements_are ∙ get_past (items_by contents_of vs.items) i (subst (λ (n : ℕ). n ≤ i) (sym (items_len-by contents_of vs.items)) h)

  pub element_found : (i : ℕ) (e : Value) → i < length vs.items → e ≡ get_or vs.items i e → child (place i) (contents_of at) ≡ Some (contents_of e)
  element_found i e h there = ap (child (place i)) elements_are ∙ get_item-by contents_of vs.items i e h ∙ ap (λ (v : Value). Some (contents_of v)) (sym there)

  pub element_written : (i : ℕ) (w : Value) → contents_of (Array (with_item vs i w)) ≡ write_step (place i) (contents_of w) (contents_of at)
  element_written i w = array_is (with_item vs i w) ∙ ap array (items-write vs.items i w) ∙ sym (ap (write_step (place i) (contents_of w)) elements_are)

-- at an object
module _ (at : Value) (m : BTreeMap (String Global) Value) (is : Some (members_view m.entries) ≡ as_object (view at)) where
  members_are : contents_of at ≡ object (members_by contents_of m.entries)
  members_are = object_at at m is ∙ object_is m

  pub object_same : (n : BTreeMap (String Global) Value) → n ≡ m → contents_of (Object n) ≡ contents_of at
  object_same n same = ap (λ (t : BTreeMap (String Global) Value). contents_of (Object t)) same ∙ sym (object_at at m is)

  pub member_lacking : (k : Text) → None ≡ get_by_text m k → child (key k) (contents_of at) ≡ None
  member_lacking k none = ap (child (key k)) members_are ∙ get_member-by contents_of m k ∙ ap (option_map contents_of) (sym none)

  pub member_found : (k : Text) (e : Value) → Some e ≡ get_by_text m k → child (key k) (contents_of at) ≡ Some (contents_of e)
  member_found k e there = ap (child (key k)) members_are ∙ get_member-by contents_of m k ∙ ap (option_map contents_of) (sym there)

  pub member_written : (k : Text) (n : BTreeMap (String Global) Value) (w : Value) → WritesThrough string_cmp (λ q. slice_cmp nat_cmp k (string_bytes q)) m w n → contents_of (Object n) ≡ write_step (key k) (contents_of w) (contents_of at)
  member_written k n w writes = object_is n ∙ ap object (ap (members_by contents_of) writes.0 ∙ members-write k w m.entries) ∙ sym (ap (write_step (key k) (contents_of w)) members_are)

-- ---- a path written

-- one step more
pub write_more : (p : Path) (s : Step) (c d e : Content) (f : Content) → content_at p d ≡ Some e → child s e ≡ Some f → write_at (p ++ s ∷ []) c d ≡ write_at p (write_step s c e) d
write_more [] s c d e f there next =
    let same : d ≡ e = cc in
    ap (write_below s (λ _. c) d) (ap (child s) same ∙ next) ∙ ap (write_step s c) same
write_more (t ∷ p) s c d e f there next = below (λ g. write_more p s c g e f) (child t d) there
  where
    below : ((g : Content) → content_at p g ≡ Some e → child s e ≡ Some f → write_at (p ++ s ∷ []) c g ≡ write_at p (write_step s c e) g) → (o : Option Content) → option_and_then (content_at p) o ≡ Some e → write_below t (write_at (p ++ s ∷ []) c) d o ≡ write_below t (write_at p (write_step s c e)) d o
    below later None is = refl
    below later (Some g) is = ap (λ (x : Content). write_step t x d) (later g is next)

-- what stood there, written there again

item_same : (ds : Items) (i : ℕ) (e : Content) → get_item i ds ≡ Some e → write_item i e ds ≡ ds
item_same no_items i e h = refl
item_same (item d ds) zero e h = let same : e ≡ d = cc in ap (λ (c : Content). item c ds) same
item_same (item d ds) (suc i) e h = ap (item d) (item_same ds i e h)

member_same : (ms : Members) (k : Text) (e : Content) → get_member k ms ≡ Some e → write_member k e ms ≡ ms
member_same no_members k e h = refl
member_same (member l d ms) k e h = by_test (member_same ms k e) (bytes_eq k l) h
  where
    by_test : (get_member k ms ≡ Some e → write_member k e ms ≡ ms) → (b : Bool) → cond b (Some d) (get_member k ms) ≡ Some e → cond b (member l e ms) (member l d (write_member k e ms)) ≡ member l d ms
    by_test later true g = let same : e ≡ d = cc in ap (λ (c : Content). member l c ms) same
    by_test later false g = ap (member l d) (later g)

step_same : (s : Step) (e d : Content) → child s d ≡ Some e → write_step s e d ≡ d
step_same s e (scalar v) h = refl
step_same (key k) e (array ds) h = refl
step_same (place i) e (array ds) h = ap array (item_same ds i e h)
step_same (key k) e (object ms) h = ap object (member_same ms k e h)
step_same (place i) e (object ms) h = refl

pub write_same : (p : Path) (e d : Content) → content_at p d ≡ Some e → write_at p e d ≡ d
write_same [] e d h = let same : e ≡ d = cc in same
write_same (t ∷ p) e d h = below (λ g. write_same p e g) (child t d) refl h
  where
    below : ((g : Content) → content_at p g ≡ Some e → write_at p e g ≡ g) → (o : Option Content) → child t d ≡ o → option_and_then (content_at p) o ≡ Some e → write_below t (write_at p e) d o ≡ d
    below later None is h = refl
    below later (Some g) is h = ap (λ (x : Content). write_step t x d) (later g h) ∙ step_same t g d is

-- ---- a way

one_step : (s t : Step) (o : Option Step) → o ≡ Some s → o ≡ Some t → s ≡ t
one_step s t o h k = cc

pub moves_back : (path : Path) (i : ℕ) (s : Step) (at w m : Value) → nth i path ≡ Some s → contents_of m ≡ write_step s (contents_of w) (contents_of at) → MovesBack path i true at w m
moves_back path i s at w m named made t h = subst (λ (u : Step). contents_of m ≡ write_step u (contents_of w) (contents_of at)) (one_step s t (nth i path) named h) made

pub move_fits : (path : Path) (i : ℕ) (down : Bool) (d : Value) (next : ℕ) (e : Value) → MovesTo path i down d next e → next < 2 ^ 64
move_fits path i true d next e m = m.0
move_fits path i false d next e m = m.0

-- the steps before the i-th lead from doc to x, and once x becomes y, doc becomes F y
pub record Kept (path : Path) (doc x : Value) (F : Value → Value) (i : ℕ) : Type 0 where
  pub front : Path
  pub left : Path
  pub split : path ≡ front ++ left
  pub long : i ≡ length front
  pub there : content_at front (contents_of doc) ≡ Some (contents_of x)
  pub made : (y : Value) → contents_of (F y) ≡ write_at front (contents_of y) (contents_of doc)

nth_behind : (front left : Path) → nth (length front) (front ++ left) ≡ nth 0 left
nth_behind [] left = refl
nth_behind (s ∷ front) left = nth_behind front left

nth_left : (path : Path) (i : ℕ) (front left : Path) → path ≡ front ++ left → i ≡ length front → nth i path ≡ nth 0 left
nth_left path i front left split long = ap (λ (p : Path). nth i p) split ∙ ap (λ (n : ℕ). nth n (front ++ left)) long ∙ nth_behind front left

first_left : (left : Path) (s : Step) → nth 0 left ≡ Some s → (rest : Path) × (left ≡ s ∷ rest)
first_left [] s h = let no : ⊥ = cc in absurd no
first_left (t ∷ rest) s h = let same : t ≡ s = cc in (rest, ap (λ (u : Step). u ∷ rest) same)

none_left : (left : Path) → nth 0 left ≡ None → left ≡ []
none_left [] h = refl
none_left (t ∷ rest) h = let no : ⊥ = cc in absurd no

pub kept_none : (path : Path) (doc : Value) → Kept path doc doc (λ y. y) 0
kept_none path doc = record { front = []; left = path; split = refl; long = refl; there = refl; made = λ y. refl }

pub kept_within : (path : Path) (doc x : Value) (F : Value → Value) (i : ℕ) → Kept path doc x F i → i ≤ length path
kept_within path doc x F i k =
    let whole : length path ≡ length k.front + length k.left = ap (λ (p : Path). length p) k.split ∙ length-append k.front k.left in
    let here : i ≡ length k.front = k.long in
    omega arith

module _ (path : Path) (doc x : Value) (F : Value → Value) (i : ℕ) (k : Kept path doc x F i) where
  pub kept_more : (e : Value) (G : Value → Value) (next : ℕ) → MovesTo path i true x next e → ((w : Value) → MovesBack path i true x w (G w)) → Kept path doc e (λ y. F (G y)) next
  kept_more e G next m back =
      let s : Step = m.2 in
      let first = first_left k.left s (sym (nth_left path i k.front k.left k.split k.long) ∙ m.3) in
      let next_is : next ≡ suc i = m.1 in
      let here : i ≡ length k.front = k.long in
      let longer : length (k.front ++ s ∷ []) ≡ length k.front + 1 = length-append k.front (s ∷ []) in
      record {
        front = k.front ++ s ∷ [];
        left = first.0;
        split = k.split ∙ ap (λ (p : Path). k.front ++ p) first.1 ∙ sym (append_assoc k.front (s ∷ []) first.0);
        long = omega arith;
        there = content_at-push k.front s (contents_of doc) (contents_of x) k.there ∙ m.4;
        made = λ y. k.made (G y) ∙ ap (λ (c : Content). write_at k.front c (contents_of doc)) (back y s m.3) ∙ sym (write_more k.front s (contents_of y) (contents_of doc) (contents_of x) (contents_of e) k.there m.4);
      }

  whole_front : nth i path ≡ None → k.front ≡ path
  whole_front none = sym (k.split ∙ ap (λ (p : Path). k.front ++ p) (none_left k.left (sym (nth_left path i k.front k.left k.split k.long) ∙ none)) ∙ append-nil k.front)

  pub kept_here : (e : Value) (G : Value → Value) → e ≡ x → ((w : Value) → G w ≡ w) → Kept path doc e (λ y. F (G y)) i
  kept_here e G is back = record { front = k.front; left = k.left; split = k.split; long = k.long; there = k.there ∙ ap (λ (v : Value). Some (contents_of v)) (sym is); made = λ y. ap (λ (v : Value). contents_of (F v)) (back y) ∙ k.made y }

  pub kept_leads : nth i path ≡ None → content_at path (contents_of doc) ≡ Some (contents_of x)
  kept_leads none = subst (λ (p : Path). content_at p (contents_of doc) ≡ Some (contents_of x)) (whole_front none) k.there

  pub kept_puts : nth i path ≡ None → (w : Value) → contents_of (F w) ≡ write_at path (contents_of w) (contents_of doc)
  kept_puts none w = subst (λ (p : Path). contents_of (F w) ≡ write_at p (contents_of w) (contents_of doc)) (whole_front none) (k.made w)

  pub kept_lost : IsLost path i x → content_at path (contents_of doc) ≡ None
  kept_lost lost =
      let s : Step = lost.0 in
      let first = first_left k.left s (sym (nth_left path i k.front k.left k.split k.long) ∙ lost.1) in
      ap (λ (p : Path). content_at p (contents_of doc)) (k.split ∙ ap (λ (p : Path). k.front ++ p) first.1)
      ∙ content_at-below k.front (s ∷ first.0) (contents_of doc) (contents_of x) k.there
      ∙ ap (λ (o : Option Content). option_and_then (content_at first.0) o) lost.2

  pub kept_nowhere : IsLost path i x → LeadsNowhereAt path (contents_of doc) i
  kept_nowhere lost =
      let s : Step = lost.0 in
      let first = first_left k.left s (sym (nth_left path i k.front k.left k.split k.long) ∙ lost.1) in
      (k.front, s, first.0, contents_of x, k.split ∙ ap (λ (p : Path). k.front ++ p) first.1, sym k.long, k.there, lost.2)

  pub kept_same : (y : Value) → contents_of y ≡ contents_of x → contents_of (F y) ≡ contents_of doc
  kept_same y same = k.made y ∙ ap (λ (c : Content). write_at k.front c (contents_of doc)) same ∙ write_same k.front (contents_of x) (contents_of doc) k.there
