-- What a call returns and an error of it exclude each other.
use Rattle.std.proofs.Common.{◌≡◌, ◌⊎◌, inl, inr, ℕ, ◌+◌, ◌-◌, ◌<◌, ◌≤◌, min, List, [], ◌∷◌, ◌++◌, Bool, true, false, IsTrue, IsUtf8, Option, Some, None, option_map, length, slice_get, take, refl, sym, ap, ap₂, ◌∙◌, subst, arith}
use Rattle.std.specs.Prelude.{All}
use Rattle.std.specs.Float.{Float}
use Rattle.std.proofs.lemmas.Bool.{false≢true, true_from_ne_false}
use Rattle.std.proofs.lemmas.List.{length-take}
use Rattle.std.proofs.lemmas.List.Elements.{All-cons, All-head, All-tail}
use Rattle.std.proofs.lemmas.List.Sums.{sum_by-cons}
use Rattle.json.specs.Layout.{pretty}
use Rattle.json.specs.Token.{Token, number}
use Rattle.serde_json.specs.Data.{Data, Num, depth, float, string}
use Rattle.serde_json.specs.Find.{as_str}
use Rattle.serde_json.specs.Read.{max_depth, number_of, read}
use Rattle.serde_json.specs.View.{view}
use Rattle.serde_json.specs.Written.{has_float}
use Rattle.serde_json.specs.declared.value.Value.{Value}
use Rattle.serde_json.proofs.Nesting.{depth-read}
use Rattle.serde_json.proofs.Texts.{tokens_from_order}
use Rattle.jsonptr.specs.Assign.{AssignsValue, assign_offset_of, assign_position_of}
use Rattle.jsonptr.specs.Documents.{IsDocument}
use Rattle.jsonptr.specs.Grammar.{IsPointer}
use Rattle.jsonptr.specs.Json.{nodes, content, FindsValue, HasSortedKeys}
use Rattle.jsonptr.specs.Node.{NodeMap}
use Rattle.jsonptr.specs.ParseError.{IsParseErrorOf}
use Rattle.jsonptr.specs.Resolve.{Refuses}
use Rattle.jsonptr.specs.Text.{Text, esc, text}
use Rattle.jsonptr.specs.Types.ParseError.{ParseError}
use Rattle.jsonptr.proofs.Calling.{ascends_read, map_of-IsTree, map_of-finite, text_one, FindsValue_one, Names-root, Refuses-NamesNothing}
use Rattle.jsonptr_tree.proofs.AssigningLemmas.{Assigns-LandsNowhere}
use Rattle.jsonptr_text_resolve.specs.InText.{FindsInText}
use Rattle.jsonptr_text_resolve.specs.declared.format.Format.{Format}
use Rattle.jsonptr_text_resolve.specs.declared.format.Format.TheVariants.{Compact, Pretty}
use Rattle.jsonptr_text_digits.specs.Digits.{AreKept, KeepsDigits}
use Rattle.jsonptr_text_digits.specs.Kept.{IsKeptNumber, IsLost}
use Rattle.jsonptr_text_digits.specs.Lost.{Loses}
use Rattle.jsonptr_text_digits.specs.declared.lost.Lost.{Lost}
use Rattle.jsonptr_patch.specs.Inverse.{TakesAllBackBy}
use Rattle.jsonptr_patch.specs.Order.{OperationHasSortedKeys}
use Rattle.jsonptr_patch.specs.Patching.{PatchesBy, FailsBy}
use Rattle.jsonptr_patch.specs.declared.comparison.Comparison.{Comparison}
use Rattle.jsonptr_patch.specs.declared.comparison.Comparison.TheVariants.{Numeric}
use Rattle.jsonptr_patch.specs.declared.failed_operation.FailedOperation.{FailedOperation}
use Rattle.jsonptr_patch.specs.declared.operation.Operation.{Operation}
use Rattle.jsonptr_patch.specs.declared.operation.Operation.TheVariants.{Add, Remove, Replace, Move, Copy, Test}
use Rattle.jsonptr_patch_document.specs.Document.{IsPatch, IsNoPatch}
use Rattle.jsonptr_patch_document.specs.Same.{IsSameOperation, AreSameOperations}
use Rattle.jsonptr_patch_document.specs.declared.error.PatchDocumentError.{PatchDocumentError}
use Rattle.jsonptr_patch_document.specs.Writing.{document_of}
use Rattle.jsonptr_patch_document.proofs.SameLemmas.{same_effects}
use Rattle.jsonptr_patch_document.proofs.SortingLemmas.{patch_sorted}
use Rattle.jsonptr_c_calls.specs.Handle.{Holds}
use Rattle.jsonptr_c_calls.specs.declared.handle.Handle.{Handle}
use Rattle.jsonptr_c_calls.specs.Depths.{HasFewTokens, StaysShallow, descent, descent_of, level_of, max_levels}
use Rattle.jsonptr_c_calls.specs.Editing.{AssignsAtPointer, DeletesAtPointer, IsNotAssigned, IsNotDeleted, IsTextNotAssigned, RefusesAt}
use Rattle.jsonptr_c_calls.specs.Exactness.{IsNotParsedBy, IsNotParsedExactly, IsNotPointedTo, LacksPointerOfFloat, LacksPointerOfLost, LosesDigits, LosesDigitsOfFloat, LosesFloat}
use Rattle.jsonptr_c_calls.specs.Failures.{FailsOnHandle, IsNoPointer, IsNoToken, IsNotEscaped, IsNotParsed, IsNotPopped, IsNotPrinted, IsNotPushed, IsNotRead, IsNotUtf8, IsNotWritten, IsOutOfMemory, IsTooShort, LacksRoom, LacksRoomForFloat, LacksString, LacksToken, Unfound}
use Rattle.jsonptr_c_calls.specs.InTexts.{FindsAtPointerInText, FindsTextIn, IsNotPrintedFrom, LacksRoomForFloatIn, LacksValue}
use Rattle.jsonptr_c_calls.specs.Locations.{IsNotLocated, IsNotPointedAt, LacksLocation, LacksPointerAt, LocatesInText, PointsAt}
use Rattle.jsonptr_c_calls.specs.Nodes.{FindsNode}
use Rattle.jsonptr_c_calls.specs.Patches.{AppliesText, AppliesWithInverse, IsDiffText, IsNotApplied, IsNotAppliedList, IsNotAppliedListWithInverse, IsNotAppliedWithInverse, IsInverseText, IsNotCompared, IsNotPatchText, IsPatchText, LacksInverse}
use Rattle.jsonptr_c_calls.specs.Pointers.{Extends, HasCount, HasToken, ParsesTo, Shortens}
use Rattle.jsonptr_c_calls.specs.Values.{Changes, FindsAtPointer, FindsString, FindsTextOf, HoldsWith, IsJsonText, ReadsInto}
use Rattle.jsonptr_c_calls.specs.declared.call_error.Argument.TheVariants as argument
use Rattle.jsonptr_c_calls.specs.declared.call_error.CallError.{CallError}
use Rattle.jsonptr_c_calls.specs.declared.call_error.CallError.TheVariants.{NotLocated}
use Rattle.jsonptr_c_calls.specs.declared.node.NodeInfo.{NodeInfo}
use Rattle.jsonptr_c_calls.proofs.LawLemmas.{no_pointer-parses, tokens_one, no_read, extended, found, applied, found_in_text, value-found}

-- ---- a buffer

-- a buffer that has the result is not too short for it
pub fits : (out : List ℕ) (n : ℕ) (s : List ℕ) (e : CallError) → take n out ≡ s → LacksRoom (length s) (length out) e → ⊥
fits out n s e is h =
    let short : length out < length s = h.0 in
    let copied : length (take n out) ≡ min n (length out) = length-take n out in
    let same : length (take n out) ≡ length s = ap (λ (x : List ℕ). length x) is in
    omega (arith, short, copied, same)

pub not_escaped : (token out : List ℕ) (n : ℕ) (e : CallError) → IsUtf8 token → take n out ≡ esc token → IsNotEscaped token (length out) e → IsOutOfMemory e
not_escaped token out n e u is (inl h) = absurd (h.0 u)
not_escaped token out n e u is (inr (inl h)) = h
not_escaped token out n e u is (inr (inr h)) = absurd (fits out n (esc token) e is h.1)

pub not_written : (s out : List ℕ) (n : ℕ) (e : CallError) → take n out ≡ s → IsNotWritten s (length out) e → IsOutOfMemory e
not_written s out n e is (inl h) = h
not_written s out n e is (inr h) = absurd (fits out n s e is h)

-- ---- a handle

-- what fails on a handle fails on the document that it holds
pub on_held : (d : Handle) (P : Value → Type 0) (v : Value) (e : CallError) → Holds d v → FailsOnHandle d P e → P v
on_held d P v e holds (inl h) = absurd (false≢true (sym h.1 ∙ holds.0))
on_held d P v e holds (inr h) =
    let content : Some h.0 ≡ Some v = sym h.1.1 ∙ holds.1 in
    let value : h.0 ≡ v = cc in
    subst P value h.2

one_held : (d : Handle) (v w : Value) → Holds d v → Holds d w → v ≡ w
one_held d v w h k =
    let content : Some v ≡ Some w = sym h.1 ∙ k.1 in
    let value : v ≡ w = cc in
    value

-- ---- reading

pub not_parsed : (t : List ℕ) (document : Handle) (e : CallError) → IsUtf8 t → ReadsInto t document → IsNotParsed t e → IsOutOfMemory e
not_parsed t document e u is h = no_read t (view is.0) e h u is.2

kept_at : (before after : List Token) (raw : List ℕ) → AreKept (before ++ number raw ∷ after) → IsKeptNumber raw
kept_at [] after raw h = h.0
kept_at (t ∷ before) after raw h = kept_at before after raw h.1

float_of : (raw : List ℕ) (n : Num) → number_of raw ≡ Some n → IsLost raw → (x : Float) × (number_of raw ≡ Some (float x))
float_of raw n is (inl none) = absurd (let no : None ≡ Some n = sym none ∙ is in cc)
float_of raw n is (inr h) = (h.0, h.2)

-- if each number is kept, one that is lost is read as a float
loses_float : (t : List ℕ) (lost : Lost) → KeepsDigits t → Loses t lost → LosesFloat t lost
loses_float t lost kept loses =
    let is : IsKeptNumber loses.raw = kept_at loses.first.before loses.first.after loses.raw (subst AreKept loses.first.split kept) in
    let x = float_of loses.raw is.0 is.1 loses.first.lost in
    (x.0, loses, x.1)

digits_of_float : (t : List ℕ) (e : CallError) → KeepsDigits t → LosesDigits t e → LosesDigitsOfFloat t e
digits_of_float t e kept h = (h.0, loses_float t h.0 kept h.1.3, h.2)

pub not_parsed_exactly : (t : List ℕ) (document : Handle) (e : CallError) → IsUtf8 t → ReadsInto t document → KeepsDigits t → IsNotParsedExactly t e → IsOutOfMemory e ⊎ LosesDigitsOfFloat t e
not_parsed_exactly t document e u is kept (inl h) = inl (no_read t (view is.0) e h u is.2)
not_parsed_exactly t document e u is kept (inr h) = inr (digits_of_float t e kept h)

pub not_parsed_by : (is_exact : Bool) (t : List ℕ) (document : Handle) (e : CallError) → IsUtf8 t → ReadsInto t document → (IsTrue is_exact → KeepsDigits t) → IsNotParsedBy is_exact t e → IsOutOfMemory e ⊎ (IsTrue is_exact × LosesDigitsOfFloat t e)
not_parsed_by is_exact t document e u is kept (inl h) = inl (no_read t (view is.0) e h u is.2)
not_parsed_by is_exact t document e u is kept (inr h) = inr (h.0, digits_of_float t e (kept h.0) h.1)

pub not_pointed_to : (t : List ℕ) (d : Data) (room : ℕ) (e : CallError) → IsUtf8 t → read t ≡ Some d → IsNotPointedTo t room e → IsOutOfMemory e ⊎ LacksPointerOfLost t room e
not_pointed_to t d room e u reads (inl h) = inl (no_read t d e h u reads)
not_pointed_to t d room e u reads (inr h) = inr (h.0, h.1.3, h.2)

pub none_lost : (t : List ℕ) (d : Data) (room : ℕ) (e : CallError) → IsUtf8 t → read t ≡ Some d → KeepsDigits t → IsNotPointedTo t room e → IsOutOfMemory e ⊎ LacksPointerOfFloat t room e
none_lost t d room e u reads kept (inl h) = inl (no_read t d e h u reads)
none_lost t d room e u reads kept (inr h) = inr (h.0, loses_float t h.0 kept h.1.3, h.2)

-- ---- a value and its text

value_one : (d v w : Data) (bytes : List ℕ) → FindsAtPointer d bytes v → FindsAtPointer d bytes w → v ≡ w
value_one d v w bytes h k =
    let tokens : h.0 ≡ k.0 = text_one h.0 k.0 (h.1 ∙ sym k.1) in
    FindsValue_one d k.0 v w (subst (λ (ts : List Text). FindsValue d ts v) tokens h.2) k.2

value_in_text_one : (t bytes : List ℕ) (v w : Value) → FindsAtPointerInText t bytes v → FindsAtPointerInText t bytes w → view v ≡ view w
value_in_text_one t bytes v w h k =
    let tokens : h.0 ≡ k.0 = text_one h.0 k.0 (h.1 ∙ sym k.1) in
    let again : Some h.2.0 ≡ Some k.2.0 = sym h.2.1 ∙ k.2.1 in
    let one : h.2.0 ≡ k.2.0 = cc in
    let there : FindsValue h.2.0 k.0 (view v) = subst (λ (ts : List Text). FindsValue h.2.0 ts (view v)) tokens h.2.2 in
    FindsValue_one k.2.0 k.0 (view v) (view w) (subst (λ (d : Data). FindsValue d k.0 (view v)) one there) k.2.2

-- a value without floats has one text in each format
text_of_one : (format : Format) (v : Data) (s t : List ℕ) → has_float v ≡ false → IsJsonText format v s → IsJsonText format v t → s ≡ t
text_of_one Compact v s t plain h k = h.exact plain ∙ sym (k.exact plain)
text_of_one Pretty v s t plain h k =
    let same = tokens_from_order s v h.order plain ∙ sym (tokens_from_order t v k.order plain) in
    h.lines ∙ ap (λ (ts : List Token). pretty ts) same ∙ sym k.lines

-- a value whose text is copied, and is longer, contains a float
has_float-long : (format : Format) (v w : Data) (out s : List ℕ) (n : ℕ) (e : CallError) → v ≡ w → IsJsonText format v (take n out) → IsJsonText format w s → LacksRoom (length s) (length out) e → has_float w ≡ true
has_float-long format v w out s n e is h k lacks =
    true_from_ne_false (has_float w)
    (λ plain. fits out n s e (text_of_one format w (take n out) s plain (subst (λ (x : Data). IsJsonText format x (take n out)) is h) k) lacks)

-- ---- operations that are the same stay as shallow

levels_same : (o p : Operation) → IsSameOperation o p → level_of o ≡ level_of p
levels_same (Add path v) (Add other w) s = ap (λ (ts : List Text). length ts) s.0
levels_same (Remove path) (Remove other) s = refl
levels_same (Replace path v) (Replace other w) s = ap (λ (ts : List Text). length ts) s.0
levels_same (Move from path) (Move source other) s = refl
levels_same (Copy from path) (Copy source other) s = refl
levels_same (Test path v) (Test other w) s = refl
levels_same o p s = absurd s

descent_same : (o p : Operation) → IsSameOperation o p → descent_of o ≡ descent_of p
descent_same (Add path v) (Add other w) s = refl
descent_same (Remove path) (Remove other) s = refl
descent_same (Replace path v) (Replace other w) s = refl
descent_same (Move from path) (Move source other) s = ap₂ (λ (ts us : List Text). length us - length ts) s.0 s.1
descent_same (Copy from path) (Copy source other) s = ap₂ (λ (ts us : List Text). length us - length ts) s.0 s.1
descent_same (Test path v) (Test other w) s = refl
descent_same o p s = absurd s

descents_same : (os ps : List Operation) → AreSameOperations os ps → descent os ≡ descent ps
descents_same [] [] s = refl
descents_same [] (p ∷ ps) s = absurd s
descents_same (o ∷ os) [] s = absurd s
descents_same (o ∷ os) (p ∷ ps) s =
    sum_by-cons descent_of o os ∙ ap₂ (λ (a b : ℕ). a + b) (descent_same o p s.0) (descents_same os ps s.1) ∙ sym (sum_by-cons descent_of p ps)

-- `Within k o`: the operation `o` adds no value too deep, if values are moved down by `k` levels
abbrev Within : ℕ → Operation → Type 0
Within k o = level_of o + k ≤ max_levels

within_same : (k : ℕ) (os ps : List Operation) → AreSameOperations os ps → All (Within k) os → All (Within k) ps
within_same k [] [] s h = h
within_same k [] (p ∷ ps) s h = absurd s
within_same k (o ∷ os) [] s h = absurd s
within_same k (o ∷ os) (p ∷ ps) s h =
    let first : Within k p = subst (λ (l : ℕ). l + k ≤ max_levels) (levels_same o p s.0) (All-head (Within k) o os h) in
    All-cons (Within k) p ps first (within_same k os ps s.1 (All-tail (Within k) o os h))

shallow_same : (d : Data) (os ps : List Operation) → AreSameOperations os ps → StaysShallow d os → StaysShallow d ps
shallow_same d os ps s h =
    let down : descent os ≡ descent ps = descents_same os ps s in
    record {
      moved = subst (λ (k : ℕ). k ≤ max_levels) down h.moved;
      added = within_same (descent ps) os ps s (subst (λ (k : ℕ). All (Within k) os) down h.added);
      held = subst (λ (k : ℕ). 0 < k → depth d + k ≤ max_depth + max_levels) down h.held;
    }

-- ---- calls with a pointer

module _ (not_both : (s : Text) (e : ParseError) → IsPointer s → IsParseErrorOf s e → ⊥) where
  pub not_counted : (bytes : List ℕ) (n : ℕ) (e : CallError) → IsUtf8 bytes → HasCount bytes n → IsNoPointer bytes e → ⊥
  not_counted bytes n e u is h = no_pointer-parses not_both bytes is.0 e h (u, is.1)

  token_there : (ts : List Text) (position : ℕ) (out : List ℕ) (n : ℕ) (e : CallError) → slice_get ts position ≡ Some (take n out) → LacksToken ts position (length out) e → ⊥
  token_there ts position out n e is (inl h) = let no : None ≡ Some (take n out) = sym h.0 ∙ is in cc
  token_there ts position out n e is (inr h) =
      let one : Some (take n out) ≡ Some h.0 = sym is ∙ h.1 in
      let same : take n out ≡ h.0 = cc in
      fits out n h.0 e same h.2

  pub no_token : (bytes : List ℕ) (position : ℕ) (out : List ℕ) (n : ℕ) (e : CallError) → IsUtf8 bytes → HasToken bytes position (take n out) → IsNoToken bytes position (length out) e → IsOutOfMemory e
  no_token bytes position out n e u is (inl h) = absurd (no_pointer-parses not_both bytes is.0 e h (u, is.1))
  no_token bytes position out n e u is (inr (inl h)) = h
  no_token bytes position out n e u is (inr (inr h)) =
      let tokens : h.0 ≡ is.0 = tokens_one bytes h.0 is.0 h.1 (u, is.1) in
      absurd (token_there is.0 position out n e is.2 (subst (λ (ts : List Text). LacksToken ts position (length out) e) tokens h.2))

  pub not_pushed : (length_before : ℕ) (old new token : List ℕ) (n : ℕ) (e : CallError) → length new ≡ length old → length_before ≤ length old → IsUtf8 (take length_before old) → IsUtf8 token → Extends (take length_before old) token (take n new) → IsNotPushed length_before old token e → IsOutOfMemory e
  not_pushed k old new token n e long within u v is (inl h) = absurd (omega (arith, h.0, within))
  not_pushed k old new token n e long within u v is (inr (low, inl h)) =
      extended not_both (take k old) token is.0 e h (u, is.1) v
  not_pushed k old new token n e long within u v is (inr (low, inr h)) =
      let tokens : h.0 ≡ is.0 = tokens_one (take k old) h.0 is.0 h.1 (u, is.1) in
      let lacks : LacksRoom (length (text (is.0 ++ token ∷ []))) (length old) e = subst (λ (ts : List Text). LacksRoom (length (text (ts ++ token ∷ []))) (length old) e) tokens h.3 in
      absurd (fits new n (text (is.0 ++ token ∷ [])) e (sym is.2) (subst (λ (room : ℕ). LacksRoom (length (text (is.0 ++ token ∷ []))) room e) (sym long) lacks))

  no_last : (ts : List Text) (x : Text) → [] ≡ ts ++ x ∷ [] → ⊥
  no_last [] x same = cc
  no_last (t ∷ ts) x same = cc

  pub not_popped : (bytes : List ℕ) (n : ℕ) (e : CallError) → IsUtf8 bytes → Shortens bytes n → IsNotPopped bytes e → ⊥
  not_popped bytes n e u is (inl h) = no_pointer-parses not_both bytes (is.1.0 ++ is.0 ∷ []) e h (u, is.1.2)
  not_popped bytes n e u is (inr h) =
      no_last is.1.0 is.0 (tokens_one bytes [] (is.1.0 ++ is.0 ∷ []) h.0 (u, is.1.2))

  printed : (format : Format) (d : Data) (bytes out : List ℕ) (n : ℕ) (e : CallError) → IsUtf8 bytes → FindsTextOf format d bytes (take n out) → IsNotPrinted format d bytes (length out) e → IsOutOfMemory e ⊎ LacksRoomForFloat format d bytes (length out) e
  printed format d bytes out n e u is (inl h) = inl (found not_both d is.0 bytes e h u is.1)
  printed format d bytes out n e u is (inr h) =
      inr (h.0, h.1, h.3, has_float-long format is.0 h.0 out h.1 n e (value_one d is.0 h.0 bytes is.1 h.3) is.2 h.4 h.5, h.4, h.5)

  pub not_printed : (document : Handle) (format : Format) (bytes out : List ℕ) (n : ℕ) (e : CallError) → IsUtf8 bytes → HoldsWith document (λ v. FindsTextOf format (view v) bytes (take n out)) → FailsOnHandle document (λ v. IsNotPrinted format (view v) bytes (length out) e) e → IsOutOfMemory e ⊎ HoldsWith document (λ v. LacksRoomForFloat format (view v) bytes (length out) e)
  not_printed document format bytes out n e u is h =
      elim (printed format (view is.0) bytes out n e u is.2 (on_held document (λ v. IsNotPrinted format (view v) bytes (length out) e) is.0 e is.1 h)) [
        | inl x ↦ inl x
        | inr x ↦ inr (is.0, is.1, x)
      ]

  string_there : (v : Data) (out : List ℕ) (n : ℕ) (e : CallError) → string (take n out) ≡ v → LacksString v (length out) e → ⊥
  string_there v out n e is (inl h) = let no : None ≡ Some (take n out) = sym h.0 ∙ ap as_str (sym is) in cc
  string_there v out n e is (inr h) =
      let one : string (take n out) ≡ string h.0 = is ∙ h.1 in
      let same : take n out ≡ h.0 = cc in
      fits out n h.0 e same h.2

  string_read : (d : Data) (bytes out : List ℕ) (n : ℕ) (e : CallError) → IsUtf8 bytes → FindsString d bytes (take n out) → IsNotRead d bytes (length out) e → IsOutOfMemory e
  string_read d bytes out n e u is (inl h) = found not_both d (string (take n out)) bytes e h u is
  string_read d bytes out n e u is (inr h) =
      absurd (string_there h.0 out n e (value_one d (string (take n out)) h.0 bytes is h.2) h.3)

  pub not_read : (document : Handle) (bytes out : List ℕ) (n : ℕ) (e : CallError) → IsUtf8 bytes → HoldsWith document (λ v. FindsString (view v) bytes (take n out)) → FailsOnHandle document (λ v. IsNotRead (view v) bytes (length out) e) e → IsOutOfMemory e
  not_read document bytes out n e u is h =
      string_read (view is.0) bytes out n e u is.2 (on_held document (λ v. IsNotRead (view v) bytes (length out) e) is.0 e is.1 h)

  pub not_described : (document : Handle) (bytes : List ℕ) (node : NodeInfo) (e : CallError) → IsUtf8 bytes → HoldsWith document (λ v. FindsNode (view v) bytes node) → FailsOnHandle document (λ v. Unfound (view v) bytes e) e → IsOutOfMemory e
  not_described document bytes node e u is h =
      found not_both (view is.0) is.2.0 bytes e (on_held document (λ v. Unfound (view v) bytes e) is.0 e is.1 h) u is.2.1

  placed : (d v n : Data) (ts : List Text) (old : Option Value) (e : CallError) → HasFewTokens ts → AssignsValue (nodes d) ts (nodes v) (nodes n) (λ r. nodes (view r)) (λ us r. FindsValue d us (view r)) old → RefusesAt d ts e → ⊥
  placed d v n ts old e few is (inl h) = let short : length ts ≤ max_levels = few in omega (arith, h.0, short)
  placed d v n ts old e few is (inr h) =
      Assigns-LandsNowhere (nodes d) ts (nodes v) (nodes n) (option_map (λ r. nodes (view r)) old) (assign_position_of h.0) (assign_offset_of h.0) h.2.len h.2.token is.assigned h.2.nowhere

  pub assigned : (d v n : Data) (bytes : List ℕ) (e : CallError) → IsUtf8 bytes → AssignsAtPointer d bytes v n → IsNotAssigned d bytes e → IsOutOfMemory e
  assigned d v n bytes e u is (inl h) = absurd (no_pointer-parses not_both bytes is.0 e h (u, is.2))
  assigned d v n bytes e u is (inr (inl h)) = h
  assigned d v n bytes e u is (inr (inr h)) =
      let tokens : h.0 ≡ is.0 = tokens_one bytes h.0 is.0 h.1 (u, is.2) in
      absurd (placed d v n is.0 is.1 e is.3 is.4 (subst (λ (ts : List Text). RefusesAt d ts e) tokens h.2))

  pub not_assigned : (t : List ℕ) (document new : Handle) (bytes : List ℕ) (v : Value) (e : CallError) → IsUtf8 t → IsUtf8 bytes → read t ≡ Some (view v) → Changes document (λ d n. AssignsAtPointer d bytes (view v) n) new → IsTextNotAssigned t document bytes e → IsOutOfMemory e
  not_assigned t document new bytes v e ut u reads is (inl h) = no_read t (view v) e h ut reads
  not_assigned t document new bytes v e ut u reads is (inr h) =
      assigned (view is.0) (view v) (view is.1) bytes e u is.4 (on_held document (λ w. IsNotAssigned (view w) bytes e) is.0 e is.2 h.3)

  deleted : (bytes : List ℕ) (ts : List Text) (e : CallError) → ParsesTo bytes ts → IsNotDeleted bytes e → IsOutOfMemory e
  deleted bytes ts e is (inl h) = absurd (no_pointer-parses not_both bytes ts e h is)
  deleted bytes ts e is (inr h) = h

  pub not_deleted : (document new : Handle) (bytes : List ℕ) (there : Bool) (e : CallError) → IsUtf8 bytes → Changes document (λ d n. DeletesAtPointer d bytes there n) new → FailsOnHandle document (λ v. IsNotDeleted bytes e) e → IsOutOfMemory e
  not_deleted document new bytes there e u is h =
      deleted bytes is.4.0 e (u, is.4.1) (on_held document (λ v. IsNotDeleted bytes e) is.0 e is.2 h)

  pub not_printed_from : (format : Format) (t bytes out : List ℕ) (n : ℕ) (e : CallError) → IsUtf8 t → IsUtf8 bytes → FindsTextIn format t bytes (take n out) → IsNotPrintedFrom format t bytes (length out) e → IsOutOfMemory e ⊎ LacksRoomForFloatIn format t bytes (length out) e
  not_printed_from format t bytes out n e ut u is (inl h) = inl (found_in_text not_both t bytes is.0 e h u ut is.1)
  not_printed_from format t bytes out n e ut u is (inr (inl h)) = inl h
  not_printed_from format t bytes out n e ut u is (inr (inr h)) =
      let same : view is.0 ≡ view h.3.0 = value_in_text_one t bytes is.0 h.3.0 is.1 h.3.1 in
      inr (h.3.0, h.0, h.3.1, has_float-long format (view is.0) (view h.3.0) out h.0 n e same is.2 h.3.2 h.4, h.3.2, h.4)

  located : (t : List ℕ) (ts : List Text) (v : Data) (e : CallError) → IsUtf8 t → FindsInText t ts v → IsNotUtf8 argument.Text t e ⊎ (IsUtf8 t × LacksLocation t ts e) → IsOutOfMemory e ⊎ (e ≡ NotLocated)
  located t ts v e u there (inl h) = absurd (h.0 u)
  located t ts v e u there (inr (w, inl h)) = inl h
  located t ts v e u there (inr (w, inr (inl h))) = absurd (value-found not_both t ts v e h there)
  located t ts v e u there (inr (w, inr (inr h))) = inr h.2

  pub not_located : (t bytes : List ℕ) (start end : ℕ) (e : CallError) → IsUtf8 t → IsUtf8 bytes → LocatesInText t bytes start end → IsNotLocated t bytes e → IsOutOfMemory e ⊎ (e ≡ NotLocated)
  not_located t bytes start end e ut u is (inl h) = absurd (no_pointer-parses not_both bytes is.0 e h (u, is.4))
  not_located t bytes start end e ut u is (inr h) =
      let tokens : h.0 ≡ is.0 = tokens_one bytes h.0 is.0 h.1 (u, is.4) in
      located t is.0 is.5.value e ut is.5.found (subst (λ (ts : List Text). IsNotUtf8 argument.Text t e ⊎ (IsUtf8 t × LacksLocation t ts e)) tokens h.2)

-- ---- a location in a text

-- in a text in which some value is found, so is the document
root_there : (t : List ℕ) (ts : List Text) (v : Data) (e : CallError) → FindsInText t ts v → LacksValue t [] e → ⊥
root_there t ts v e there (inl h) = let no : None ≡ Some there.0 = sym h.1 ∙ there.1 in cc
root_there t ts v e there (inr h) =
    let again : Some h.1.0 ≡ Some there.0 = sym h.1.1 ∙ there.1 in
    let one : h.1.0 ≡ there.0 = cc in
    Refuses-NamesNothing (nodes there.0) [] h.0 (subst (λ (x : Data). Refuses (nodes x) [] h.0) one h.1.2) [] (Names-root (nodes there.0) ts there.2.path there.2.named)

root_located : (t : List ℕ) (ts : List Text) (v : Data) (e : CallError) → FindsInText t ts v → LacksLocation t [] e → IsOutOfMemory e ⊎ (e ≡ NotLocated)
root_located t ts v e there (inl h) = inl h
root_located t ts v e there (inr (inl h)) = absurd (root_there t ts v e there h)
root_located t ts v e there (inr (inr h)) = inr h.2

pub not_pointed_at : (t : List ℕ) (k : ℕ) (out : List ℕ) (n : ℕ) (e : CallError) → IsUtf8 t → PointsAt t k (take n out) → IsNotPointedAt t k (length out) e → IsOutOfMemory e ⊎ ((e ≡ NotLocated) ⊎ LacksPointerAt t k (length out) e)
not_pointed_at t k out n e u is (inl h) = absurd (h.0 u)
not_pointed_at t k out n e u is (inr (w, inl h)) =
    elim (root_located t is.0 is.5.0.value e is.5.0.found h) [
      | inl x ↦ inl x
      | inr x ↦ inr (inl x)
    ]
not_pointed_at t k out n e u is (inr (w, inr h)) = inr (inr h)

-- ---- patches

module _
    (one_patch : (d : Data) (os ps : List Operation) → IsPatch d os → IsPatch d ps → AreSameOperations os ps)
    (no_patch : (d : Data) (os : List Operation) (e : PatchDocumentError) → IsPatch d os → IsNoPatch d e → ⊥)
    (apart : (n m : NodeMap) (os : List Operation) (f : FailedOperation) → IsDocument n → PatchesBy Numeric n os m → FailsBy Numeric n os f → ⊥)
    (not_both : (s : Text) (e : ParseError) → IsPointer s → IsParseErrorOf s e → ⊥)
    (same_back : (c : Comparison) (n : NodeMap) (os ps back : List Operation) → AreSameOperations os ps → TakesAllBackBy c n os back → TakesAllBackBy c n ps back)
    (same_depth : (c : Comparison) (n : NodeMap) (os back others : List Operation) (k : ℕ) → IsDocument n → TakesAllBackBy c n os back → TakesAllBackBy c n os others → All OperationHasSortedKeys others → depth (document_of back) ≤ k + 2 → depth (document_of others) ≤ k + 2) where
  same_patch : (t : List ℕ) (os ps : List Operation) → IsPatchText t os → IsPatchText t ps → AreSameOperations os ps
  same_patch t os ps h k =
      let again : Some h.0 ≡ Some k.0 = sym h.1 ∙ k.1 in
      let one : h.0 ≡ k.0 = cc in
      one_patch k.0 os ps (subst (λ (d : Data). IsPatch d os) one h.2) k.2

  patch_read : (t : List ℕ) (os : List Operation) (e : CallError) → IsUtf8 t → IsPatchText t os → IsNotPatchText t e → IsOutOfMemory e
  patch_read t os e u is (inl h) = no_read t is.0 e h u is.1
  patch_read t os e u is (inr h) =
      let again : Some is.0 ≡ Some h.0 = sym is.1 ∙ h.3 in
      let one : is.0 ≡ h.0 = cc in
      absurd (no_patch h.0 os h.1 (subst (λ (d : Data). IsPatch d os) one is.2) h.4)

  -- the operations of the text are applied, in whatever memory their values are
  applies_again : (t : List ℕ) (d n : Data) (ps : List Operation) → AppliesText t d n → IsPatchText t ps → StaysShallow d ps × PatchesBy Numeric (nodes d) ps (nodes n)
  applies_again t d n ps h k =
      let same : AreSameOperations h.0 ps = same_patch t h.0 ps h.1 k in
      (shallow_same d h.0 ps same h.2, same_effects Numeric (nodes d) (nodes n) h.0 ps same h.3)

  pub not_applied : (t : List ℕ) (document new : Handle) (e : CallError) → IsUtf8 t → Changes document (λ d n. AppliesText t d n) new → IsNotPatchText t e ⊎ IsNotApplied t document e → IsOutOfMemory e
  not_applied t document new e u is (inl h) = patch_read t is.4.0 e u is.4.1 h
  not_applied t document new e u is (inr h) =
      let again = applies_again t (view is.0) (view is.1) h.0 is.4 h.2 in
      applied not_both apart (view is.0) (view is.1) h.0 e (on_held document (λ v. IsNotAppliedList (view v) h.0 e) is.0 e is.2 h.3) again.0 again.1

  -- what takes the operations back is read, so it is not too deep
  not_deep : (format : Format) (t out : List ℕ) (d n : Data) (os ps : List Operation) (e : CallError) → HasSortedKeys d → IsPatchText t os → IsInverseText format d os n out → IsPatchText t ps → LacksInverse d ps e → ⊥
  not_deep format t out d n os ps e sorted patch inverse again lacks =
      let back : TakesAllBackBy Numeric (nodes d) ps inverse.0 = same_back Numeric (nodes d) os ps inverse.0 (same_patch t os ps patch again) inverse.3 in
      let values : All OperationHasSortedKeys lacks.0 = lacks.2 (patch_sorted again.0 ps (ascends_read t again.0 again.1) again.2) sorted in
      let low : depth (document_of inverse.0) ≤ max_depth = depth-read out (document_of inverse.0) inverse.5 in
      omega (arith, lacks.3, same_depth Numeric (nodes d) ps inverse.0 lacks.0 125 (map_of-IsTree (content d), map_of-finite (content d)) back lacks.1 values (omega (arith, low)))

  inverted : (format : Format) (t out : List ℕ) (d n : Data) (ps : List Operation) (room : ℕ) (e : CallError) → HasSortedKeys d → IsPatchText t ps → AppliesWithInverse format t d n out → IsNotAppliedListWithInverse format d ps room e → IsOutOfMemory e ⊎ IsTooShort room e
  inverted format t out d n ps room e sorted patch is (inl (inl h)) =
      let again = applies_again t d n ps is.0 patch in
      inl (applied not_both apart d n ps e h again.0 again.1)
  inverted format t out d n ps room e sorted patch is (inl (inr h)) = absurd (not_deep format t out d n is.1.0 ps e sorted is.1.1 is.1.2 patch h.3)
  inverted format t out d n ps room e sorted patch is (inr h) = inr (length h.1, h.5)

  pub not_inverted : (format : Format) (t : List ℕ) (document new : Handle) (out : List ℕ) (n : ℕ) (e : CallError) → IsUtf8 t → HoldsWith document (λ v. HasSortedKeys (view v)) → Changes document (λ d m. AppliesWithInverse format t d m (take n out)) new → IsNotPatchText t e ⊎ IsNotAppliedWithInverse format t document (length out) e → IsOutOfMemory e ⊎ IsTooShort (length out) e
  not_inverted format t document new out n e u sorted is (inl h) = inl (patch_read t is.4.0.0 e u is.4.0.1 h)
  not_inverted format t document new out n e u sorted is (inr h) =
      let one : sorted.0 ≡ is.0 = one_held document sorted.0 is.0 sorted.1 is.2 in
      inverted format t (take n out) (view is.0) (view is.1) h.0 (length out) e (subst (λ (v : Value). HasSortedKeys (view v)) one sorted.2) h.2 is.4 (on_held document (λ v. IsNotAppliedListWithInverse format (view v) h.0 (length out) e) is.0 e is.2 h.3)

compared : (format : Format) (d n : Data) (room : ℕ) (e : CallError) → IsNotCompared format d n room e → IsOutOfMemory e ⊎ IsTooShort room e
compared format d n room e (inl h) = inl h
compared format d n room e (inr h) = inr (length h.0, h.2)

pub not_compared : (format : Format) (old new : Handle) (out : List ℕ) (n : ℕ) (e : CallError) → HoldsWith old (λ v. HoldsWith new (λ w. IsDiffText format (view v) (view w) (take n out))) → FailsOnHandle old (λ v. FailsOnHandle new (λ w. IsNotCompared format (view v) (view w) (length out) e) e) e → IsOutOfMemory e ⊎ IsTooShort (length out) e
not_compared format old new out n e is h =
    let second = on_held old (λ v. FailsOnHandle new (λ w. IsNotCompared format (view v) (view w) (length out) e) e) is.0 e is.1 h in
    compared format (view is.0) (view is.2.0) (length out) e
    (on_held new (λ w. IsNotCompared format (view is.0) (view w) (length out) e) is.2.0 e is.2.1 second)
