-- The bytes of an edit, put back.
use Rattle.std.proofs.Common.{◌≢◌, List, [], ◌∷◌, ◌++◌, Option, refl, sym, subst, arith}
use Rattle.std.specs.Prelude.{◌↔◌}
use Rattle.std.proofs.lemmas.List.Elements.{All-nil, All-cons, All-head, All-tail, All-append}
use Rattle.serde_json.specs.Data.{Data}
use Rattle.jsonptr.specs.Text.{Text}
use Rattle.jsonptr_text_resolve.specs.InText.{FindsInText}
use Rattle.jsonptr_io.specs.Lines.{IsOneLine}
use Rattle.jsonptr_text_piece.specs.Spacing.{IsBlank, Splices}
use Rattle.jsonptr_text_step.specs.Bytes.{AddsPiece, CutsBytes, ReplacesBytes}

pub put_back : (old new : Text) (tokens : List Text) (e : Data) (h : ReplacesBytes old new tokens e) → FindsInText new tokens e → ReplacesBytes new old tokens h.value
put_back old new tokens e h found = record {
  middle = h.piece;
  piece = h.middle;
  value = e;
  splices = record { before = h.splices.before; after = h.splices.after; old_is = h.splices.new_is; new_is = h.splices.old_is };
  found = found;
  whole = h.made;
  made = h.whole;
  was_at = h.is_at;
  is_at = h.was_at;
}

pub cut_again : (old new : Text) (tokens : List Text) (key : Option Text) (e : Data) → AddsPiece old new tokens key e → (left blank : Text) × CutsBytes new left tokens key e × IsBlank blank × Splices old left blank []
cut_again old new tokens key e h = (
  h.splices.before ++ h.splices.after,
  h.middle,
  record {
    middle = h.piece;
    splices = record { before = h.splices.before; after = h.splices.after; old_is = h.splices.new_is; new_is = refl };
    child = h.child;
    was_at = h.is_at;
  },
  h.blank,
  record { before = h.splices.before; after = h.splices.after; old_is = h.splices.old_is; new_is = refl },
)

pub added_again : (old new : Text) (tokens : List Text) (key : Option Text) (v : Data) → CutsBytes old new tokens key v → AddsPiece new old tokens key v
added_again old new tokens key v h = record {
  middle = [];
  piece = h.middle;
  splices = record { before = h.splices.before; after = h.splices.after; old_is = h.splices.new_is; new_is = h.splices.old_is };
  blank = λ k d low. absurd (omega (arith, low));
  child = h.child;
  is_at = h.was_at;
}

-- ---- one line

line_parts : (xs ys : Text) → IsOneLine (xs ++ ys) → IsOneLine xs × IsOneLine ys
line_parts [] ys h = (All-nil (λ b. b ≢ 10), h)
line_parts (x ∷ xs) ys h =
    let rest = line_parts xs ys (All-tail (λ b. b ≢ 10) x (xs ++ ys) h) in
    (All-cons (λ b. b ≢ 10) x xs (All-head (λ b. b ≢ 10) x (xs ++ ys) h) rest.0, rest.1)

pub one_line_if : (old new middle piece : Text) → Splices old new middle piece → IsOneLine old → (IsOneLine new ↔ IsOneLine piece)
one_line_if old new middle piece h one =
    let outer = line_parts h.before (middle ++ h.after) (subst IsOneLine h.old_is one) in
    let inner = line_parts middle h.after outer.1 in (
      λ k. (line_parts piece h.after (line_parts h.before (piece ++ h.after) (subst IsOneLine h.new_is k)).1).0,
      λ k. subst IsOneLine (sym h.new_is)
          (All-append (λ b. b ≢ 10) h.before (piece ++ h.after) outer.0 (All-append (λ b. b ≢ 10) piece h.after k inner.1)),
    )
