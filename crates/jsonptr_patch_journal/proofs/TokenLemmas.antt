-- Following the tokens of a pointer in a content, one at a time.
use Rattle.std.proofs.Common.{◌≡◌, ℕ, ◌-◌, ◌<◌, ◌^◌, List, [], ◌∷◌, ◌++◌, length, Bool, true, false, Option, Some, None, IsSome, is_some, option_and_then, option_map, Vec, BTreeMap, String, Global, refl, sym, ap, ◌∙◌, subst, arith, append_assoc, append-nil}
use Rattle.serde_json.specs.Find.{as_array, as_object}
use Rattle.serde_json.specs.View.{view, items_view, members_view}
use Rattle.serde_json.specs.declared.value.Value.{Value}
use Rattle.jsonptr.specs.Text.{Text, HasNoTilde, esc, text}
use Rattle.jsonptr_grammar.proofs.EscapeLemmas.{unesc-plain, unesc-esc}
use Rattle.jsonptr_grammar.proofs.PointerLemmas.{length-text-append, length-text-cons}
use Rattle.jsonptr.specs.Node.{Step, key, place, Path, Label, an_array, NamesStep, Names, sub}
use Rattle.jsonptr.specs.Content.{Content, scalar, array, object, items_len, child, content_at, label_of, map_of, FindsContent}
use Rattle.jsonptr.specs.Following.{LacksStep, StopsBefore}
use Rattle.jsonptr_tree.proofs.ContentLemmas.{content_at-push, map_of-sub}
use Rattle.jsonptr_tree.proofs.FollowingLemmas.{stops_before, lacks_below}
use Rattle.jsonptr_tree.proofs.NodeLemmas.{NamesStep_one_step, Names-push_below, Names_one_path}
use Rattle.jsonptr_walk.specs.PrivateDescend.{Begins}
use Rattle.jsonptr_walk.proofs.DescendLemmas.{one_front, plain_token, next_of}
use Rattle.jsonptr_patch_journal.specs.Location.{contents_of}
use Rattle.jsonptr_patch_journal.specs.Writing.{write_step, write_at}
use Rattle.jsonptr_patch_journal.specs.Leading.{StopsAtOffset}
use Rattle.jsonptr_patch_journal.specs.PrivateTokenStep.{IsTokenAt, IsElementIn, MovesByToken, MovesBackByToken, IsLostAtToken}
use Rattle.jsonptr_patch_journal.specs.Children.{items_in}
use Rattle.jsonptr_patch_journal.proofs.NodeLemmas.{array_there, object_there, items_in-length}
use Rattle.jsonptr_patch_journal.proofs.WritingLemmas.{write_more, write_same}

-- ---- one token

-- a token without `~` is its encoded text
pub plain_text : (x : Text) → HasNoTilde (esc x) → esc x ≡ x
plain_text x plain = sym (unesc-plain (esc x) plain) ∙ unesc-esc x

pub token_found : (tokens : List Text) (offset : ℕ) (front : List Text) (x : Text) (rest : List Text) → Begins tokens offset front (x ∷ rest) → (n m next : ℕ) → n ≡ length (text tokens) → m ≡ length (text rest) → next ≡ n - m → next < 2 ^ 64 → IsTokenAt tokens offset x next
token_found tokens offset front x rest b n m next all after is fits =
    let r = next_of tokens offset front x rest b n m all after in
    let here : offset ≡ length (text front) = b.1 in
    let next_is : next ≡ length (text (front ++ x ∷ [])) = is ∙ r.1 in
    record {
      front = front;
      rest = rest;
      begins = b;
      next_is = next_is;
      farther = omega (arith, length-text-append front (x ∷ []), length-text-cons x []);
      within = omega arith;
      fits = fits;
    }

-- the element of an array that a token names
same_label : (a b : Label) → Some a ≡ Some b → a ≡ b
same_label a b e = cc

pub no_element_in : (c : Content) (x : Text) (l : Label) → map_of c [] ≡ Some l → ((i : ℕ) → l ≡ an_array i → ⊥) → (i : ℕ) → IsElementIn c x i → ⊥
no_element_in c x l is other i e = other e.0 (same_label l (an_array e.0) (sym is ∙ e.1))

module _ (at : Value) (vs : Vec Value Global) (is : Some (items_view vs.items) ≡ as_array (view at)) (x : Text) (i : ℕ) (e : IsElementIn (contents_of at) x i) where
  pub element_within : i < length vs.items
  element_within =
      let whole : map_of (contents_of at) [] ≡ Some (an_array (items_len (items_in vs.items))) = ap (λ (c : Content). map_of c []) (array_there at vs is) in
      let same : an_array e.0 ≡ an_array (items_len (items_in vs.items)) = same_label (an_array e.0) (an_array (items_len (items_in vs.items))) (sym e.1 ∙ whole) in
      let len : e.0 ≡ items_len (items_in vs.items) = cc in
      omega (arith, e.2.0, items_in-length vs.items)

pub element_named : (c : Content) (x : Text) (i : ℕ) → IsElementIn c x i → NamesStep (map_of c []) x (place i)
element_named c x i e = subst (λ (o : Option Label). NamesStep o x (place i)) (sym e.1) e.2

pub member_named : (at : Value) (m : BTreeMap (String Global) Value) (x : Text) → Some (members_view m.entries) ≡ as_object (view at) → NamesStep (map_of (contents_of at) []) x (key x)
member_named at m x is = subst (λ (c : Content). NamesStep (map_of c []) x (key x)) (sym (object_there at m is)) refl

-- a value that has neither such an element nor such a member
pub lacks_step : (c : Content) (x : Text) → ((i : ℕ) → IsElementIn c x i → ⊥) → child (key x) c ≡ None → LacksStep (map_of c) [] x
lacks_step (scalar v) x absent none s named there = absurd named
lacks_step (array ds) x absent none (key k) named there = absurd named
lacks_step (array ds) x absent none (place i) named there = absent i (items_len ds, refl, named)
lacks_step (object ms) x absent none (place i) named there = absurd named
lacks_step (object ms) x absent none (key k) named there =
    let gone : map_of (object ms) (key x ∷ []) ≡ None = ap (λ (o : Option Content). option_map label_of (option_and_then (content_at []) o)) none in
    let here : IsSome (map_of (object ms) (key x ∷ [])) = subst (λ (t : Text). IsSome (map_of (object ms) (key t ∷ []))) named there in
    let never : ⊥ = cc in
    absurd never

-- ---- the tokens up to an offset

module _ (tokens : List Text) where
  -- the text of the tokens before the offset names the path of x in doc, and once x becomes y, doc becomes F y
  pub record Trail (doc x : Value) (F : Value → Value) (offset : ℕ) : Type 0 where
    pub front : List Text
    pub left : List Text
    pub path : Path
    pub begins : Begins tokens offset front left
    pub named : Names (map_of (contents_of doc)) front path
    pub there : content_at path (contents_of doc) ≡ Some (contents_of x)
    pub made : (y : Value) → contents_of (F y) ≡ write_at path (contents_of y) (contents_of doc)

  pub trail_none : (doc : Value) → Trail doc doc (λ y. y) 0
  trail_none doc = record { front = []; left = tokens; path = []; begins = (refl, refl); named = refl; there = refl; made = λ y. refl }

  pub move_fits : (offset : ℕ) (down : Bool) (d : Value) (next : ℕ) (e : Value) → MovesByToken tokens offset down d next e → next < 2 ^ 64
  move_fits offset true d next e m = m.0
  move_fits offset false d next e m = m.0

  pub move_back : (offset : ℕ) (x : Text) (next : ℕ) (s : Step) (d w m : Value) → IsTokenAt tokens offset x next → (HasNoTilde (text tokens) → NamesStep (map_of (contents_of d) []) x s) → (HasNoTilde (text tokens) → contents_of m ≡ write_step s (contents_of w) (contents_of d)) → MovesBackByToken tokens offset true d w m
  move_back offset x next s d w m t named made plain front y rest u b here =
      let one = one_front t.front front (x ∷ t.rest) (y ∷ rest) (sym t.begins.0 ∙ b.0) (sym t.begins.1 ∙ b.1) in
      let same : x ≡ y = let e : x ∷ t.rest ≡ y ∷ rest = one.1 in cc in
      let step : s ≡ u = NamesStep_one_step (map_of (contents_of d) []) x s u (named plain) (subst (λ (z : Text). NamesStep (map_of (contents_of d) []) z u) (sym same) here) in
      subst (λ (r : Step). contents_of m ≡ write_step r (contents_of w) (contents_of d)) step (made plain)

  pub move_down : (offset : ℕ) (x : Text) (next : ℕ) (s : Step) (d e : Value) → IsTokenAt tokens offset x next → (HasNoTilde (text tokens) → NamesStep (map_of (contents_of d) []) x s) → (HasNoTilde (text tokens) → child s (contents_of d) ≡ Some (contents_of e)) → MovesByToken tokens offset true d next e
  move_down offset x next s d e t named there = (
    t.fits,
    t.farther,
    t.within,
    λ plain front left b. let one = one_front t.front front (x ∷ t.rest) left (sym t.begins.0 ∙ b.0) (sym t.begins.1 ∙ b.1) in record {
      token = x;
      rest = t.rest;
      step = s;
      split = sym one.1;
      next_is = t.next_is ∙ ap (λ (f : List Text). length (text (f ++ x ∷ []))) one.0;
      named = named plain;
      there = there plain;
    },
  )

  -- a token of a text without `~` is its encoded text
  pub plain_at : (offset : ℕ) (x : Text) (next : ℕ) → IsTokenAt tokens offset x next → HasNoTilde (text tokens) → esc x ≡ x
  plain_at offset x next t plain = plain_text x (plain_token tokens offset t.front x t.rest t.begins plain)

  module _ (doc x : Value) (F : Value → Value) (offset : ℕ) (h : Trail doc x F offset) where
    pub trail_more : (e : Value) (G : Value → Value) (next : ℕ) → HasNoTilde (text tokens) → MovesByToken tokens offset true x next e → ((w : Value) → MovesBackByToken tokens offset true x w (G w)) → Trail doc e (λ y. F (G y)) next
    trail_more e G next plain m back =
        let f = m.3 plain h.front h.left h.begins in
        let s : Step = f.step in
        let map_x : map_of (contents_of x) ≡ sub (map_of (contents_of doc)) h.path = map_of-sub h.path (contents_of doc) (contents_of x) h.there in
        let split : tokens ≡ h.front ++ f.token ∷ f.rest = h.begins.0 ∙ ap (λ (ts : List Text). h.front ++ ts) f.split in
        let inside : IsSome (map_of (contents_of x) (s ∷ [])) = ap (λ (o : Option Content). is_some (option_map label_of (option_and_then (content_at []) o))) f.there in
        record {
          front = h.front ++ f.token ∷ [];
          left = f.rest;
          path = h.path ++ s ∷ [];
          begins = (split ∙ sym (append_assoc h.front (f.token ∷ []) f.rest), f.next_is);
          named = Names-push_below (map_of (contents_of doc)) (map_of (contents_of x)) h.front f.token h.path s map_x h.named f.named inside;
          there = content_at-push h.path s (contents_of doc) (contents_of x) h.there ∙ f.there;
          made = λ y. h.made (G y) ∙ ap (λ (c : Content). write_at h.path c (contents_of doc)) (back y plain h.front f.token f.rest s (split, h.begins.1) f.named) ∙ sym (write_more h.path s (contents_of y) (contents_of doc) (contents_of x) (contents_of e) h.there f.there);
        }

    pub trail_here : (e : Value) (G : Value → Value) → e ≡ x → ((w : Value) → G w ≡ w) → Trail doc e (λ y. F (G y)) offset
    trail_here e G is back = record {
      front = h.front;
      left = h.left;
      path = h.path;
      begins = h.begins;
      named = h.named;
      there = h.there ∙ ap (λ (v : Value). Some (contents_of v)) (sym is);
      made = λ y. ap (λ (v : Value). contents_of (F v)) (back y) ∙ h.made y;
    }

    trail_named : ((front left : List Text) → Begins tokens offset front left → left ≡ []) → Names (map_of (contents_of doc)) tokens h.path
    trail_named none = subst (λ (ts : List Text). Names (map_of (contents_of doc)) ts h.path) (sym (h.begins.0 ∙ ap (λ (ts : List Text). h.front ++ ts) (none h.front h.left h.begins) ∙ append-nil h.front)) h.named

    pub trail_leads : ((front left : List Text) → Begins tokens offset front left → left ≡ []) → FindsContent (contents_of doc) tokens (contents_of x)
    trail_leads none = record { path = h.path; named = trail_named none; there = h.there }

    pub trail_puts : ((front left : List Text) → Begins tokens offset front left → left ≡ []) → (w : Value) (p : Path) → Names (map_of (contents_of doc)) tokens p → contents_of (F w) ≡ write_at p (contents_of w) (contents_of doc)
    trail_puts none w p named = subst (λ (q : Path). contents_of (F w) ≡ write_at q (contents_of w) (contents_of doc)) (Names_one_path (map_of (contents_of doc)) tokens h.path p (trail_named none) named) (h.made w)

    pub trail_lost : HasNoTilde (text tokens) → IsLostAtToken tokens offset x → StopsAtOffset (map_of (contents_of doc)) tokens offset
    trail_lost plain lost =
        let r = lost plain in
        let y : Text = r.1 in
        let rest : List Text = r.2 in
        let one = one_front r.0 h.front (y ∷ rest) h.left (sym r.3.0 ∙ h.begins.0) (sym r.3.1 ∙ h.begins.1) in
        let split : tokens ≡ h.front ++ y ∷ rest = h.begins.0 ∙ ap (λ (ts : List Text). h.front ++ ts) (sym one.1) in
        let below = lacks_below (map_of (contents_of doc)) (map_of (contents_of x)) h.path y (map_of-sub h.path (contents_of doc) (contents_of x) h.there) r.4 in (
          length h.front,
          label_of (contents_of x),
          y,
          subst (λ (o : ℕ). StopsBefore (map_of (contents_of doc)) tokens (length h.front) o (label_of (contents_of x)) y) (sym h.begins.1)
              (stops_before (map_of (contents_of doc)) tokens h.front y rest h.path (label_of (contents_of x)) split h.named (ap (option_map label_of) h.there) below),
        )

    pub trail_same : (y : Value) → contents_of y ≡ contents_of x → contents_of (F y) ≡ contents_of doc
    trail_same y same = h.made y ∙ ap (λ (c : Content). write_at h.path c (contents_of doc)) same ∙ write_same h.path (contents_of x) (contents_of doc) h.there
