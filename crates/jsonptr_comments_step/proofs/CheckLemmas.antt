-- What is checked by offsets is one edit.
use Rattle.std.proofs.Common.{◌≡◌, ℕ, ◌+◌, ◌-◌, ◌<◌, ◌≤◌, ◌⊎◌, List, [], ◌∷◌, ◌++◌, Bool, true, false, Option, length, drop, take, slice_index, refl, sym, ap, ◌∙◌, subst, inl, inr, arith, append_assoc, append-nil, length-append, length-drop, take_at, drop_at, get_or, Result, Ok, Err, IfOk, IsTrue, ◌==◌, eqb-true}
use Rattle.std.specs.declared.alloc.AllocError.{AllocError}
use Rattle.std.proofs.Math.Seq.{drop-length}
use Rattle.std.proofs.lemmas.List.{drop-drop, drop_more}
use Rattle.serde_json.specs.Data.{Data, string as json_string}
use Rattle.jsonptr.specs.Text.{Text}
use Rattle.jsonptr_comments.specs.Comments.{Piece, other, Pieces, IsWithoutComments}
use Rattle.jsonptr_comments.specs.Parts.{spelling, AreAllowed}
use Rattle.jsonptr_comments.specs.declared.piece.Allowed.{Allowed}
use Rattle.jsonptr_comments.specs.declared.piece.Allowed.TheVariants.{Any, NoComment, Blank}
use Rattle.jsonptr_comments.proofs.PartLemmas.{one_after, text_of_pieces, no_comments}
use Rattle.jsonptr_text_piece.specs.Spacing.{IsBlank, IsSpaced}
use Rattle.jsonptr_text_check.specs.Child.{IsChildText, IsValueText, HaveOneComma, child_value}
use Rattle.jsonptr_text_check.specs.PrivateChild.{IsCutChild}
use Rattle.jsonptr_text_step.specs.Placing.{IsAt}
use Rattle.jsonptr_text_step.specs.Locating.{IsLocated}
use Rattle.jsonptr_comments_step.specs.Edits.{IsScalarText, IsOneEdit, IsRenaming}
use Rattle.jsonptr_comments_step.specs.PrivateChecking.{IsSpan, AreFrom, IsRun, IsOneRun, IsComma, IsFramed, IsChanged, IsValueAt, IsChildAt, IsChildCut, IsExactChild, BeginsChild, AreRunsOfChild, AreRunsOfName, IsNameCut, IsNameAt}

-- ---- what follows a part

pub rest_of_part : (t rest : Text) (from to : ℕ) → from ≤ to → rest ≡ drop from t → drop (to - from) rest ≡ drop to t
rest_of_part t rest from to l e =
    let sum : from + (to - from) ≡ to = omega arith in
    ap (λ (r : Text). drop (to - from) r) e ∙ drop-drop (to - from) from t ∙ ap (λ (n : ℕ). drop n t) sum

pub run_from : (allowed : Allowed) (t rest : Text) (from to : ℕ) → IsSpan t from to → rest ≡ drop from t → ((ps : List Piece) × Pieces rest ps (drop (to - from) rest) × AreAllowed allowed ps) → IsRun allowed t from to
run_from allowed t rest from to s e h = record {
  ps = h.0;
  pieces = subst (λ (r : Text). Pieces r h.0 (drop to t)) e (subst (λ (r : Text). Pieces rest h.0 r) (rest_of_part t rest from to s.order e) h.1);
  are = h.2;
  span = s;
}

pub one_run_from : (t rest : Text) (from to : ℕ) (t2 rest2 : Text) (from2 to2 n : ℕ) → IsSpan t from to → IsSpan t2 from2 to2 → rest ≡ drop from t → rest2 ≡ drop from2 t2 → n ≡ to - from → n ≡ to2 - from2
    → ((ps : List Piece) × Pieces rest ps (drop n rest) × Pieces rest2 ps (drop n rest2)) → IsOneRun t from to t2 from2 to2
one_run_from t rest from to t2 rest2 from2 to2 n s s2 e e2 l l2 h =
    let end = ap (λ (k : ℕ). drop k rest) l ∙ rest_of_part t rest from to s.order e in
    let end2 = ap (λ (k : ℕ). drop k rest2) l2 ∙ rest_of_part t2 rest2 from2 to2 s2.order e2 in
    record {
      ps = h.0;
      pieces = subst (λ (r : Text). Pieces r h.0 (drop to t)) e (subst (λ (r : Text). Pieces rest h.0 r) end h.1);
      others = subst (λ (r : Text). Pieces r h.0 (drop to2 t2)) e2 (subst (λ (r : Text). Pieces rest2 h.0 r) end2 h.2);
      span = s;
    }

pub no_comma : (t : Text) (from to : ℕ) → from ≡ to → IsComma t from to
no_comma t from to e = record { ps = []; pieces = ap (λ (n : ℕ). drop n t) e; is = inl refl }

pub comma_from : (t rest : Text) (from to : ℕ) → IsSpan t from to → rest ≡ drop from t → to - from ≡ 1 → slice_index rest 0 ≡ 44 → IsComma t from to
comma_from t rest from to s e l b =
    let within : from < length t = omega (arith, s.order, s.within, l) in
    let next : from + 1 ≡ to = omega (arith, s.order, l) in
    let first : rest ≡ get_or t from 0 ∷ drop (from + 1) t = e ∙ drop_more t from 0 within in
    let byte : get_or t from 0 ≡ 44 = sym (ap (λ (r : Text). slice_index r 0) first) ∙ b in
    record {
      ps = other 44 ∷ [];
      pieces = (
        drop to t,
        drop_more t from 0 within ∙ ap (λ (x : ℕ). x ∷ drop (from + 1) t) byte ∙ ap (λ (n : ℕ). 44 ∷ drop n t) next,
        (λ w. omega (arith, w), λ w. absurd (omega (arith, w))),
        refl,
      );
      is = inr refl;
    }

-- ---- one run after another

pub joined : (t : Text) (a b c : ℕ) (ps qs : List Piece) → AreFrom t a ps b → AreFrom t b qs c → AreFrom t a (ps ++ qs) c
joined t a b c ps qs h k = one_after (drop a t) (drop b t) (drop c t) ps qs h k

-- the offset after pieces
pub end_of : (t : Text) (a b : ℕ) (ps : List Piece) → a ≤ b → b ≤ length t → AreFrom t a ps b → a + length (spelling ps) ≡ b
end_of t a b ps l m h =
    omega (arith, ap length (text_of_pieces (drop a t) ps (drop b t) h), length-append (spelling ps) (drop b t), length-drop a t, length-drop b t)

-- ---- the frame

pub framed : (text : Text) (a b from to : ℕ) (made : Text) (a2 b2 from2 to2 : ℕ)
    → IsComma text a b → IsComma made a2 b2 → IsOneRun text 0 a made 0 a2 → IsOneRun text b from made b2 from2 → IsOneRun text to (length text) made to2 (length made)
    → IsFramed text from to made from2 to2
framed text a b from to made a2 b2 from2 to2 comma added head gap tail = record {
  head = head.ps;
  comma = comma.ps;
  added = added.ps;
  gap = gap.ps;
  tail = tail.ps;
  text_front = joined text 0 a from head.ps (comma.ps ++ gap.ps) head.pieces (joined text a b from comma.ps gap.ps comma.pieces gap.pieces);
  made_front = joined made 0 a2 from2 head.ps (added.ps ++ gap.ps) head.others (joined made a2 b2 from2 added.ps gap.ps added.pieces gap.others);
  text_back = subst (λ (t : Text). Pieces (drop to text) tail.ps t) (drop-length text) tail.pieces;
  made_back = subst (λ (t : Text). Pieces (drop to2 made) tail.ps t) (drop-length made) tail.others;
  taken = comma.is;
  put = added.is;
  within = omega (arith, gap.span.order, gap.span.within);
}

five : (p q r s t : List Piece) → (p ++ (q ++ r)) ++ (s ++ t) ≡ p ++ (q ++ (r ++ (s ++ t)))
five p q r s t = append_assoc p (q ++ r) (s ++ t) ∙ ap (λ (ps : List Piece). p ++ ps) (append_assoc q r (s ++ t))

pub one_edit : (text : Text) (from to : ℕ) (made : Text) (from2 to2 : ℕ) (bare : Text) (tokens : List Text)
    → IsWithoutComments text bare → IsFramed text from to made from2 to2 → IsChanged bare tokens text from to made from2 to2 → IsOneEdit text tokens made
one_edit text from to made from2 to2 bare tokens w f c =
    let front = f.head ++ (f.comma ++ f.gap) in
    let start : length (spelling front) ≡ from =
    omega (arith, ap length (text_of_pieces text front (drop from text) f.text_front), length-append (spelling front) (drop from text), length-drop from text, f.within) in
    let old : Pieces text (front ++ (c.inner ++ f.tail)) [] = one_after text (drop from text) [] front (c.inner ++ f.tail) f.text_front (one_after (drop from text) (drop to text) [] c.inner f.tail c.was f.text_back) in
    let new : Pieces made ((f.head ++ (f.added ++ f.gap)) ++ (c.new ++ f.tail)) [] =
    one_after made (drop from2 made) [] (f.head ++ (f.added ++ f.gap)) (c.new ++ f.tail) f.made_front (one_after (drop from2 made) (drop to2 made) [] c.new f.tail c.is f.made_back) in
    record {
      head = f.head;
      comma = f.comma;
      added = f.added;
      gap = f.gap;
      inner = c.inner;
      new = c.new;
      tail = f.tail;
      text_is = subst (λ (ps : List Piece). Pieces text ps []) (five f.head f.comma f.gap c.inner f.tail) old;
      made_is = subst (λ (ps : List Piece). Pieces made ps []) (five f.head f.added f.gap c.new f.tail) new;
      taken = f.taken;
      put = f.put;
      bare = bare;
      without = w;
      what = c.change front start;
    }

-- ---- the three changes

pub addition_changed : (bare : Text) (tokens : List Text) (text : Text) (from to : ℕ) (made : Text) (from2 to2 : ℕ) → IsRun Blank text from to → IsRun NoComment made from2 to2 → IsChanged bare tokens text from to made from2 to2
addition_changed bare tokens text from to made from2 to2 r s = record {
  inner = r.ps;
  new = s.ps;
  was = r.pieces;
  is = s.pieces;
  change = λ front l. inl (record { blank = r.are; fresh = no_comments s.ps s.are });
}

pub no_more : (is_end : Bool) (more : List Text) (value : Text) → (is_end ≡ true → more ≡ []) → (is_end ≡ true) ⊎ IsScalarText value → (more ≡ []) ⊎ IsScalarText value
no_more is_end more value h (inl e) = inl (h e)
no_more is_end more value h (inr s) = inr s

pub replacement_changed : (bare : Text) (tokens way more : List Text) (is_end : Bool) (text : Text) (from to : ℕ) (made : Text) (from2 to2 : ℕ)
    → tokens ≡ way ++ more → (is_end ≡ true → more ≡ []) → IsRun Any text from to → IsRun NoComment made from2 to2 → IsValueAt bare way is_end from to
    → IsChanged bare tokens text from to made from2 to2
replacement_changed bare tokens way more is_end text from to made from2 to2 e h r s v = record {
  inner = r.ps;
  new = s.ps;
  was = r.pieces;
  is = s.pieces;
  change = λ front l. inr (inl (record {
    way = way;
    more = more;
    tokens_are = e;
    value = v.value;
    under = record {
      before = v.before;
      after = v.after;
      bare_is = v.bare_is;
      starts = v.starts ∙ sym l;
      spans = omega (arith, v.spans, end_of text from to r.ps r.span.order r.span.within r.pieces);
    };
    is_at = v.is_at;
    ends = no_more is_end more v.value h v.ends;
    fresh = no_comments s.ps s.are;
  }));
}

pub removal_changed : (bare : Text) (tokens : List Text) (text : Text) (from start end kept_from kept_to to : ℕ) (made : Text) (from2 to2 : ℕ)
    → AreRunsOfChild text from start end kept_from kept_to to made from2 to2 → IsChildAt bare tokens from start end to → IsChanged bare tokens text from to made from2 to2
removal_changed bare tokens text from start end kept_from kept_to to made from2 to2 r c =
    let x = c.exact in
    let lead = r.lead.ps in
    let child = r.child.ps in
    let beside = r.beside.ps in
    let new = r.kept.ps in
    let rest = r.rest.ps in
    let inner = lead ++ (child ++ (beside ++ (new ++ rest))) in
    let was : AreFrom text from inner to =
    joined text from start to lead (child ++ (beside ++ (new ++ rest))) r.lead.pieces
    (joined text start end to child (beside ++ (new ++ rest)) r.child.pieces
    (joined text end kept_from to beside (new ++ rest) r.beside.pieces (joined text kept_from kept_to to new rest r.kept.pieces r.rest.pieces))) in
    let order : from ≤ to = omega (arith, r.lead.span.order, r.child.span.order, r.beside.span.order, r.kept.span.order, r.rest.span.order) in
    let middle = c.lead ++ (c.child ++ c.trail) in
    record {
      inner = inner;
      new = new;
      was = was;
      is = r.kept.others;
      change = λ front l. inr (inr (record {
        lead = lead;
        child = child;
        beside = beside;
        rest = rest;
        inner_is = refl;
        nothing_before = no_comments lead r.lead.are;
        on_its_line = r.beside.are;
        nothing_after = no_comments rest r.rest.are;
        key = x.key;
        value = x.e;
        text = middle;
        under = record {
          before = c.before;
          after = c.after;
          bare_is = c.cut.bare_is;
          starts = c.cut.starts ∙ sym l;
          spans = omega (arith, end_of text from to inner order r.rest.span.within was, c.cut.leads, c.cut.spans, c.cut.trails, length-append c.lead (c.child ++ c.trail), length-append c.child c.trail);
        };
        one = record { lead = c.lead; child = c.child; trail = c.trail; is = refl; whole = x.whole; beside = c.beside };
        starts = omega (arith, c.cut.leads, end_of text from start lead r.lead.span.order r.lead.span.within r.lead.pieces);
        spans = omega (arith, c.cut.spans, end_of text start end child r.child.span.order r.child.span.within r.child.pieces);
        is_at = subst (λ (v : Text). IsAt bare tokens v (c.trail ++ c.after)) (sym x.value_is) c.is_at;
      }));
    }

-- ---- the text of a child, and where its value is

-- texts of one length with which a text begins are equal
same_front : (a b x y : Text) → length a ≡ length b → a ++ x ≡ b ++ y → (a ≡ b) × (x ≡ y)
same_front a b x y l e = (
  sym (take_at a x (length a) refl) ∙ ap (λ (t : Text). take (length a) t) e ∙ take_at b y (length a) (sym l),
  sym (drop_at a x (length a) refl) ∙ ap (λ (t : Text). drop (length a) t) e ∙ drop_at b y (length a) (sym l),
)

-- a comma or white space has no first byte that begins a child
blank_first : (t after : Text) → IsBlank t → BeginsChild (t ++ after) → t ≡ []
blank_first [] after h b = refl
blank_first (x ∷ t) after h b = absurd (let wrong : true ≡ false = sym (h 0 x (omega arith)) ∙ b.0 in cc)

comma_first : (t after : Text) → IsSpaced 44 t → BeginsChild (t ++ after) → t ≡ []
comma_first t after s b = at s.0 s.2 (subst (λ (r : Text). BeginsChild (r ++ after)) s.4 b)
  where
    at : (before : Text) → IsBlank before → BeginsChild ((before ++ 44 ∷ s.1) ++ after) → t ≡ []
    at [] h c = absurd (c.1 refl)
    at (x ∷ before) h c = absurd (let wrong : true ≡ false = sym (h 0 x (omega arith)) ∙ c.0 in cc)

no_lead : (lead trail after : Text) → HaveOneComma lead trail → BeginsChild (lead ++ after) → lead ≡ []
no_lead lead trail after (inl h) b = blank_first lead after h.0 b
no_lead lead trail after (inr (inl h)) b = comma_first lead after h.0 b
no_lead lead trail after (inr (inr h)) b = blank_first lead after h.0 b

-- a text of one child with nothing beside it
pub exact_child : (key : Option Text) (e : Data) (t lead name value trail : Text) → IsCutChild key e t value trail → t ≡ lead ++ (name ++ (value ++ trail)) → trail ≡ [] → BeginsChild t → IsExactChild t value
exact_child key e t lead name value trail c is none begins =
    let one = c.one in
    let first : one.lead ≡ [] = no_lead one.lead one.trail (one.child ++ one.trail) one.beside (subst BeginsChild one.is begins) in
    let last : one.trail ≡ [] = c.trail_is ∙ none in
    let same : one.child ≡ t =
    sym (one.is ∙ ap (λ (r : Text). r ++ (one.child ++ one.trail)) first ∙ ap (λ (r : Text). one.child ++ r) last ∙ append-nil one.child) in
    let moved = subst (λ (u : Text). (w : IsChildText key e u) × (child_value key e u w ≡ value)) same (one.whole, c.value_is) in
    record {
      key = key;
      e = e;
      front = lead ++ name;
      is = is ∙ ap (λ (r : Text). lead ++ (name ++ (value ++ r))) none ∙ ap (λ (r : Text). lead ++ (name ++ r)) (append-nil value) ∙ sym (append_assoc lead name value);
      whole = moved.0;
      value_is = moved.1;
    }

pub child_at : (bare : Text) (tokens : List Text) (from start end to : ℕ) (before lead child trail after value lb lv la : Text)
    → IsChildCut bare from start end to before lead child trail after → HaveOneComma lead trail → IsExactChild child value → IsLocated bare tokens lb lv la
    → length lb ≡ end - length value → end - length value + length lv ≡ end → IsChildAt bare tokens from start end to
child_at bare tokens from start end to before lead child trail after value lb lv la cut beside exact located at spans =
    let front = exact.front in
    let whole : bare ≡ (before ++ (lead ++ front)) ++ (value ++ (trail ++ after)) =
    cut.bare_is
    ∙ ap (λ (r : Text). before ++ ((lead ++ (r ++ trail)) ++ after)) exact.is
    ∙ simp append_assoc in
    let long : length child ≡ length front + length value = ap length exact.is ∙ length-append front value in
    let one = same_front lb (before ++ (lead ++ front)) (lv ++ la) (value ++ (trail ++ after))
    (omega (arith, at, long, cut.starts, cut.leads, cut.spans, length-append before (lead ++ front), length-append lead front)) (sym located.parts ∙ whole) in
    let two = same_front lv value la (trail ++ after) (omega (arith, spans, long, cut.spans)) one.1 in
    record {
      before = before;
      lead = lead;
      child = child;
      trail = trail;
      after = after;
      cut = cut;
      beside = beside;
      value = value;
      exact = exact;
      is_at = subst (λ (r : Text). IsAt bare tokens value r) two.1 (subst (λ (v : Text). IsAt bare tokens v la) two.0 located.is_at);
    }

-- ---- the name of a member

pub name_at : (bare : Text) (tokens front : List Text) (x : Text) (from to start : ℕ) (before name colon after lb lv la : Text)
    → tokens ≡ front ++ x ∷ [] → IsNameCut bare from to start before name colon after → IsSpaced 58 colon → IsValueText (json_string x) name
    → IsLocated bare tokens lb lv la → start ≡ length lb → IsNameAt bare tokens from to
name_at bare tokens front x from to start before name colon after lb lv la e cut spaced named located at =
    let whole : bare ≡ (before ++ (name ++ colon)) ++ after = cut.bare_is ∙ simp append_assoc in
    let one = same_front (before ++ (name ++ colon)) lb after (lv ++ la)
    (omega (arith, at, cut.starts, cut.spans, cut.ends, length-append before (name ++ colon), length-append name colon)) (sym whole ∙ located.parts) in
    record {
      before = before;
      name = name;
      after = colon ++ after;
      bare_is = cut.bare_is;
      starts = cut.starts;
      spans = cut.spans;
      is_name = record {
        front = front;
        x = x;
        tokens_are = e;
        named = named;
        colon = colon;
        value = lv;
        rest = la;
        after_is = ap (λ (r : Text). colon ++ r) one.1;
        spaced = spaced;
        is_at = located.is_at;
      };
    }

to_end : (t : Text) (ps : List Piece) → AreFrom t 0 ps (length t) → Pieces t ps []
to_end t ps h = subst (λ (r : Text). Pieces t ps r) (drop-length t) h

pub renaming : (text bare made : Text) (tokens : List Text) (from to from2 to2 : ℕ)
    → IsWithoutComments text bare → AreRunsOfName text from to made from2 to2 → IsNameAt bare tokens from to → IsRenaming text tokens made
renaming text bare made tokens from to from2 to2 w r n = record {
  head = r.head.ps;
  inner = r.was.ps;
  new = r.is.ps;
  tail = r.tail.ps;
  text_is = to_end text (r.head.ps ++ (r.was.ps ++ r.tail.ps)) (joined text 0 from (length text) r.head.ps (r.was.ps ++ r.tail.ps) r.head.pieces (joined text from to (length text) r.was.ps r.tail.ps r.was.pieces r.tail.pieces));
  made_is = to_end made (r.head.ps ++ (r.is.ps ++ r.tail.ps)) (joined made 0 from2 (length made) r.head.ps (r.is.ps ++ r.tail.ps) r.head.others (joined made from2 to2 (length made) r.is.ps r.tail.ps r.is.pieces r.tail.others));
  nothing_lost = no_comments r.was.ps r.was.are;
  fresh = no_comments r.is.ps r.is.are;
  bare = bare;
  without = w;
  name = n.name;
  under = record {
    before = n.before;
    after = n.after;
    bare_is = n.bare_is;
    starts = omega (arith, n.starts, end_of text 0 from r.head.ps r.head.span.order r.head.span.within r.head.pieces);
    spans = omega (arith, n.spans, end_of text from to r.was.ps r.was.span.order r.was.span.within r.was.pieces);
  };
  is_name = n.is_name;
}

-- ---- results

pub if_so : (P Q : Type 0) (r : Result Bool AllocError) → (P → Q) → IfOk r (λ b. IsTrue b → P) → IfOk r (λ b. IsTrue b → Q)
if_so P Q (Err e) f h = h
if_so P Q (Ok b) f h = λ t. f (h t)

pub value_at : (bare : Text) (way : List Text) (is_end : Bool) (from to : ℕ) (lb lv la : Text) → IsLocated bare way lb lv la → (length lb ≡ from) × (from + length lv ≡ to) → (is_end ≡ true) ⊎ IsScalarText lv
    → IsValueAt bare way is_end from to
value_at bare way is_end from to lb lv la l at ends = record {
  before = lb;
  value = lv;
  after = la;
  bare_is = l.parts;
  starts = at.0;
  spans = at.1;
  is_at = l.is_at;
  ends = ends;
}

pub empty_text : (t : Text) → (length t == 0) ≡ true → t ≡ []
empty_text [] h = refl
empty_text (x ∷ t) h = absurd (omega (arith, eqb-true (length (x ∷ t)) 0 h))
