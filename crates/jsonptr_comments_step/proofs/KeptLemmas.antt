-- Which comments an edit and a patch keep.
use Rattle.std.proofs.Common.{◌≡◌, ℕ, List, [], ◌∷◌, ◌++◌, refl, sym, ap, ◌∙◌, subst, inl, inr, append_assoc, append-nil}
use Rattle.jsonptr.specs.Text.{Text}
use Rattle.jsonptr_comments.specs.Comments.{Piece, string, comment, other, Pieces}
use Rattle.jsonptr_comments.specs.Parts.{comments_of, AreAllowed}
use Rattle.jsonptr_comments.specs.declared.piece.Allowed.TheVariants.{Blank}
use Rattle.jsonptr_comments.proofs.PartLemmas.{comments-append}
use Rattle.jsonptr_comments.proofs.FirstLemmas.{unique}
use Rattle.jsonptr_patch.specs.declared.operation.Operation.{Operation}
use Rattle.jsonptr_patch.specs.declared.operation.Operation.TheVariants.{Add, Remove, Replace, Move, Copy, Test}
use Rattle.jsonptr_comments_step.specs.Edits.{IsCommaOrNone, IsChange, IsOneEdit, IsRenaming}
use Rattle.jsonptr_comments_step.specs.Kept.{pieces_lost, lost, kept_before, kept_after, LeavesOut}
use Rattle.jsonptr_comments_step.specs.Patches.{IsMadeInTwo, OperationEdits, PatchEdits}

-- ---- one edit

no_comma_comment : (ps : List Piece) → IsCommaOrNone ps → comments_of ps ≡ []
no_comma_comment ps (inl e) = ap comments_of e
no_comma_comment ps (inr e) = ap comments_of e

white_comments : (ps : List Piece) → AreAllowed Blank ps → comments_of ps ≡ []
white_comments [] h = refl
white_comments (string s ∷ ps) h = cc (h.0)
white_comments (comment s ∷ ps) h = cc (h.0)
white_comments (other x ∷ ps) h = white_comments ps h.1

three : (p q r : List Piece) → comments_of (p ++ (q ++ r)) ≡ comments_of p ++ (comments_of q ++ comments_of r)
three p q r = comments-append p (q ++ r) ∙ ap (λ (x : List (List ℕ)). comments_of p ++ x) (comments-append q r)

removal_comments : (lead child beside new rest : List Piece) → comments_of lead ≡ [] → comments_of rest ≡ []
    → comments_of (lead ++ (child ++ (beside ++ (new ++ rest)))) ≡ comments_of (child ++ beside) ++ comments_of new
removal_comments lead child beside new rest h k =
    comments-append lead (child ++ (beside ++ (new ++ rest)))
    ∙ ap (λ (r : List (List ℕ)). r ++ comments_of (child ++ (beside ++ (new ++ rest)))) h
    ∙ ap comments_of (sym (append_assoc child beside (new ++ rest)))
    ∙ three (child ++ beside) new rest
    ∙ ap (λ (r : List (List ℕ)). comments_of (child ++ beside) ++ (comments_of new ++ r)) k
    ∙ ap (λ (r : List (List ℕ)). comments_of (child ++ beside) ++ r) (append-nil (comments_of new))

inner_comments : (bare : Text) (tokens : List Text) (front inner new : List Piece) (c : IsChange bare tokens front inner new)
    → comments_of inner ≡ comments_of (pieces_lost inner c) ++ comments_of new
inner_comments bare tokens front inner new (inl a) = white_comments inner a.blank ∙ sym a.fresh
inner_comments bare tokens front inner new (inr (inl r)) = sym (append-nil (comments_of inner)) ∙ ap (λ (x : List (List ℕ)). comments_of inner ++ x) (sym r.fresh)
inner_comments bare tokens front inner new (inr (inr r)) =
    ap comments_of r.inner_is ∙ removal_comments r.lead r.child r.beside new r.rest r.nothing_before r.nothing_after

framed_comments : (head comma gap inner tail : List Piece) → comments_of comma ≡ []
    → comments_of (head ++ (comma ++ (gap ++ (inner ++ tail)))) ≡ comments_of (head ++ gap) ++ (comments_of inner ++ comments_of tail)
framed_comments head comma gap inner tail h =
    three head comma (gap ++ (inner ++ tail))
    ∙ ap (λ (r : List (List ℕ)). comments_of head ++ (r ++ comments_of (gap ++ (inner ++ tail)))) h
    ∙ sym (comments-append head (gap ++ (inner ++ tail)))
    ∙ ap comments_of (sym (append_assoc head gap (inner ++ tail)))
    ∙ three (head ++ gap) inner tail

same_pieces : (text : Text) (ps qs : List Piece) → Pieces text ps [] → Pieces text qs [] → ps ≡ qs
same_pieces text ps qs h k = (unique text ps qs [] [] h k (inl refl) (inl refl)).0

pub comments_before : (text : Text) (tokens : List Text) (made : Text) (e : IsOneEdit text tokens made) (ps : List Piece) → Pieces text ps []
    → comments_of ps ≡ kept_before e ++ (lost e ++ kept_after e)
comments_before text tokens made e ps h =
    let front = e.head ++ (e.comma ++ e.gap) in
    ap comments_of (same_pieces text ps (e.head ++ (e.comma ++ (e.gap ++ (e.inner ++ e.tail)))) h e.text_is)
    ∙ framed_comments e.head e.comma e.gap e.inner e.tail (no_comma_comment e.comma e.taken)
    ∙ ap (λ (r : List (List ℕ)). kept_before e ++ (r ++ comments_of e.tail)) (inner_comments e.bare tokens front e.inner e.new e.what)
    ∙ ap (λ (r : List (List ℕ)). kept_before e ++ r) (append_assoc (lost e) (comments_of e.new) (comments_of e.tail))
    ∙ ap (λ (r : List (List ℕ)). kept_before e ++ (lost e ++ r)) (sym (comments-append e.new e.tail))

pub comments_after : (text : Text) (tokens : List Text) (made : Text) (e : IsOneEdit text tokens made) (ps : List Piece) → Pieces made ps []
    → comments_of ps ≡ kept_before e ++ kept_after e
comments_after text tokens made e ps h =
    ap comments_of (same_pieces made ps (e.head ++ (e.added ++ (e.gap ++ (e.new ++ e.tail)))) h e.made_is)
    ∙ framed_comments e.head e.added e.gap e.new e.tail (no_comma_comment e.added e.put)
    ∙ ap (λ (r : List (List ℕ)). kept_before e ++ r) (sym (comments-append e.new e.tail))

-- ---- renaming

-- pieces without a comment do not count
unnamed_comments : (head name tail : List Piece) → comments_of name ≡ [] → comments_of (head ++ (name ++ tail)) ≡ comments_of head ++ comments_of tail
unnamed_comments head name tail h = three head name tail ∙ ap (λ (r : List (List ℕ)). comments_of head ++ (r ++ comments_of tail)) h

pub renaming_keeps : (text : Text) (tokens : List Text) (made : Text) (ps qs : List Piece) → IsRenaming text tokens made → Pieces text ps [] → Pieces made qs []
    → comments_of qs ≡ comments_of ps
renaming_keeps text tokens made ps qs r h k =
    ap comments_of (same_pieces made qs (r.head ++ (r.new ++ r.tail)) k r.made_is)
    ∙ unnamed_comments r.head r.new r.tail r.fresh
    ∙ sym (ap comments_of (same_pieces text ps (r.head ++ (r.inner ++ r.tail)) h r.text_is) ∙ unnamed_comments r.head r.inner r.tail r.nothing_lost)

-- ---- lists with some elements left out

leaves_all : (xs : List (List ℕ)) → LeavesOut xs xs
leaves_all [] = refl
leaves_all (x ∷ xs) = inr (xs, refl, leaves_all xs)

leaves_front : (fs xs ys : List (List ℕ)) → LeavesOut xs ys → LeavesOut (fs ++ xs) (fs ++ ys)
leaves_front [] xs ys h = h
leaves_front (f ∷ fs) xs ys h = inr (fs ++ ys, refl, leaves_front fs xs ys h)

leaves_middle : (ms xs : List (List ℕ)) → LeavesOut (ms ++ xs) xs
leaves_middle [] xs = leaves_all xs
leaves_middle (m ∷ ms) xs = inl (leaves_middle ms xs)

leaves_next : (x : List ℕ) (xs ys zs : List (List ℕ)) → ((ws : List (List ℕ)) → LeavesOut ys ws → LeavesOut xs ws) → LeavesOut (x ∷ ys) zs → LeavesOut (x ∷ xs) zs
leaves_next x xs ys zs f (inl l) = inl (f zs l)
leaves_next x xs ys zs f (inr l) = inr (l.0, l.1, f l.0 l.2)

leaves_twice : (xs ys zs : List (List ℕ)) → LeavesOut xs ys → LeavesOut ys zs → LeavesOut xs zs
leaves_twice [] ys zs h k = subst (λ (l : List (List ℕ)). LeavesOut l zs) h k
leaves_twice (x ∷ xs) ys zs (inl h) k = inl (leaves_twice xs ys zs h k)
leaves_twice (x ∷ xs) ys zs (inr h) k =
    leaves_next x xs h.0 zs (λ (ws : List (List ℕ)) m. leaves_twice xs h.0 ws h.2 m) (subst (λ (l : List (List ℕ)). LeavesOut l zs) h.1 k)

-- ---- patches

abbrev pub Keeps : Text → Text → Type 0
Keeps text made = (ps qs : List Piece) → Pieces text ps [] → Pieces made qs [] → LeavesOut (comments_of ps) (comments_of qs)

edit_keeps : (text : Text) (tokens : List Text) (made : Text) → IsOneEdit text tokens made → Keeps text made
edit_keeps text tokens made e ps qs h k =
    subst (λ (xs : List (List ℕ)). LeavesOut xs (comments_of qs)) (sym (comments_before text tokens made e ps h))
    (subst (λ (ys : List (List ℕ)). LeavesOut (kept_before e ++ (lost e ++ kept_after e)) ys) (sym (comments_after text tokens made e qs k))
    (leaves_front (kept_before e) (lost e ++ kept_after e) (kept_after e) (leaves_middle (lost e) (kept_after e))))

same_keeps : (text made : Text) → made ≡ text → Keeps text made
same_keeps text made e ps qs h k =
    subst (λ (xs : List Piece). LeavesOut (comments_of ps) (comments_of xs)) (same_pieces text ps qs h (subst (λ (t : Text). Pieces t qs []) e k)) (leaves_all (comments_of ps))

-- `Has text`: the text is pieces alone
abbrev Has : Text → Type 0
Has text = (ps : List Piece) × Pieces text ps []

keeps_twice : (a b c : Text) → Has b → Keeps a b → Keeps b c → Keeps a c
keeps_twice a b c m h k ps qs x y = leaves_twice (comments_of ps) (comments_of m.0) (comments_of qs) (h ps m.0 x m.1) (k m.0 qs m.1 y)

made_pieces : (text : Text) (tokens : List Text) (made : Text) → IsOneEdit text tokens made → Has made
made_pieces text tokens made e = (e.head ++ (e.added ++ (e.gap ++ (e.new ++ e.tail))), e.made_is)

two_keep : (text : Text) (from path : List Text) (made : Text) → IsMadeInTwo text from path made → Keeps text made
two_keep text from path made h = keeps_twice text h.0 made (made_pieces text from h.0 h.1) (edit_keeps text from h.0 h.1) (edit_keeps h.0 path made h.2)

operation_keeps : (text : Text) (o : Operation) (made : Text) → Has text → OperationEdits text o made → Keeps text made × Has made
operation_keeps text (Add path value) made p h = (edit_keeps text path made h, made_pieces text path made h)
operation_keeps text (Remove path) made p h = (edit_keeps text path made h, made_pieces text path made h)
operation_keeps text (Replace path value) made p h = (edit_keeps text path made h, made_pieces text path made h)
operation_keeps text (Move from path) made p h = (two_keep text from path made h, made_pieces h.0 path made h.2)
operation_keeps text (Copy from path) made p h = (edit_keeps text path made h, made_pieces text path made h)
operation_keeps text (Test path value) made p h = (same_keeps text made h, subst Has (sym h) p)

pub patch_keeps : (text made : Text) (os : List Operation) (ps qs : List Piece) → PatchEdits text os made → Pieces text ps [] → Pieces made qs [] → LeavesOut (comments_of ps) (comments_of qs)
patch_keeps text made [] ps qs h x y = same_keeps text made h ps qs x y
patch_keeps text made (o ∷ os) ps qs h x y =
    let step = operation_keeps text o h.0 (ps, x) h.1 in
    leaves_twice (comments_of ps) (comments_of step.1.0) (comments_of qs) (step.0 ps step.1.0 x step.1.1) (patch_keeps h.0 made os step.1.0 qs h.2 step.1.1 y)
