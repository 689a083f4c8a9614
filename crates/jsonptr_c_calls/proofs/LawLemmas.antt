-- What a call is passed fixes the status with which it fails.
use Rattle.std.proofs.Common.{◌≡◌, ◌⊎◌, inl, inr, ℕ, ◌≤◌, List, [], IsUtf8, Some, None, length, take, refl, sym, ap, ◌∙◌, subst, arith}
use Rattle.std.proofs.lemmas.Bool.{false≢true}
use Rattle.serde_json.specs.Data.{Data}
use Rattle.serde_json.specs.Find.{as_str}
use Rattle.serde_json.specs.Read.{read}
use Rattle.serde_json.specs.View.{view}
use Rattle.serde_json.specs.declared.value.Value.{Value}
use Rattle.jsonptr.specs.Documents.{IsDocument}
use Rattle.jsonptr.specs.Json.{nodes, content, FindsValue}
use Rattle.jsonptr.specs.Node.{NodeMap}
use Rattle.jsonptr.specs.ParseError.{IsParseErrorOf}
use Rattle.jsonptr.specs.Resolve.{Refuses}
use Rattle.jsonptr.specs.Text.{Text}
use Rattle.jsonptr.specs.Types.ParseError.{ParseError}
use Rattle.jsonptr.proofs.Calling.{IsPointer-text, map_of-IsTree, map_of-finite, text_one, FindsValue_one, Refuses-NamesNothing}
use Rattle.jsonptr.specs.Grammar.{IsPointer}
use Rattle.jsonptr_c_calls.specs.declared.handle.Handle.{Handle}
use Rattle.jsonptr_c_calls.specs.Editing.{IsNotAssigned, IsNotDeleted, IsTextNotAssigned, RefusesAt}
use Rattle.jsonptr_text_digits.specs.declared.lost.Lost.{Lost}
use Rattle.jsonptr_c_calls.specs.Exactness.{IsNotParsedExactly, LacksPointerOfNumber}
use Rattle.jsonptr_c_calls.specs.Failures.{FailsOnHandle, IsNoPointer, IsNoToken, IsNotEscaped, IsNotExtended, IsNotParsed, IsNotPopped, IsNotPrinted, IsNotPushed, IsNotRead, IsNotUtf8, IsOutOfMemory, LacksRoom, LacksString, LacksToken, SameStatus, Unfound}
use Rattle.jsonptr_text_resolve.specs.InText.{FindsInText}
use Rattle.jsonptr_c_calls.specs.Locations.{IsNotLocated, LacksLocation}
use Rattle.jsonptr_c_calls.specs.InTexts.{FindsAtPointerInText, IsNotInText, IsNotPrintedFrom, LacksValue}
use Rattle.jsonptr_patch.specs.Patching.{PatchesBy, FailsBy}
use Rattle.jsonptr_patch.specs.declared.failed_operation.FailedOperation.{FailedOperation}
use Rattle.jsonptr_patch.specs.declared.operation.Operation.{Operation}
use Rattle.jsonptr_patch.specs.declared.comparison.Comparison.TheVariants.{Numeric}
use Rattle.jsonptr_c_calls.specs.Patches.{FailsList, IsNotAppliedList, IsNotPatched, IsNotPatchText}
use Rattle.jsonptr_c_calls.specs.Pointers.{ParsesTo}
use Rattle.jsonptr_c_calls.specs.ErrorNumbers.{status_number}
use Rattle.jsonptr_c_calls.specs.Values.{FindsAtPointer}
use Rattle.jsonptr_c_calls.specs.declared.call_error.Argument.{Argument}
use Rattle.jsonptr_c_calls.specs.declared.call_error.Argument.TheVariants as argument
use Rattle.jsonptr_c_calls.specs.declared.call_error.CallError.{CallError}
use Rattle.jsonptr_c_calls.specs.declared.call_error.CallError.TheVariants.{NoRoom, NoDocument, NotUtf8, NotJson, NotExact, NotPointer, NoToken, Resolve, NotLocated, OtherType, Assign, NotPatch, PatchFailed, TooDeep, InverseTooDeep}
use Rattle.jsonptr_text_resolve.specs.declared.format.Format.{Format}
use Rattle.jsonptr_c_calls.specs.Depths.{max_levels, StaysShallow}

-- a JSON value is a document
pub is_document : (d : Data) → IsDocument (nodes d)
is_document d = (map_of-IsTree (content d), map_of-finite (content d))

pub same : (e f x y : CallError) → e ≡ x → f ≡ y → status_number x ≡ status_number y → SameStatus e f
same e f x y p q s = inr (inr (ap status_number p ∙ s ∙ sym (ap status_number q)))

pub rooms : (e f : CallError) (n m room : ℕ) → LacksRoom n room e → LacksRoom m room f → SameStatus e f
rooms e f n m room h k = same e f (NoRoom n) (NoRoom m) h.1 k.1 refl

pub not_utf8 : (a : Argument) (bytes : List ℕ) (e f : CallError) → IsNotUtf8 a bytes e → IsNotUtf8 a bytes f → SameStatus e f
not_utf8 a bytes e f h k = same e f (NotUtf8 a _) (NotUtf8 a _) h.1 k.1 refl

pub tokens_one : (bytes : List ℕ) (ts us : List Text) → ParsesTo bytes ts → ParsesTo bytes us → ts ≡ us
tokens_one bytes ts us h k = text_one ts us (h.1 ∙ sym k.1)

pub no_pointers : (bytes : List ℕ) (e f : CallError) → IsNoPointer bytes e → IsNoPointer bytes f → SameStatus e f
no_pointers bytes e f (inl h) (inl k) = not_utf8 _ bytes e f h k
no_pointers bytes e f (inl h) (inr k) = absurd (h.0 k.1)
no_pointers bytes e f (inr h) (inl k) = absurd (k.0 h.1)
no_pointers bytes e f (inr h) (inr k) = same e f (NotPointer h.0) (NotPointer k.0) h.3 k.3 refl

pub not_escaped : (token : List ℕ) (room : ℕ) (e f : CallError) → IsNotEscaped token room e → IsNotEscaped token room f → SameStatus e f
not_escaped token room e f (inr (inl h)) k = inl h
not_escaped token room e f (inl h) (inr (inl k)) = inr (inl k)
not_escaped token room e f (inr (inr h)) (inr (inl k)) = inr (inl k)
not_escaped token room e f (inl h) (inl k) = not_utf8 _ token e f h k
not_escaped token room e f (inl h) (inr (inr k)) = absurd (h.0 k.0)
not_escaped token room e f (inr (inr h)) (inl k) = absurd (k.0 h.0)
not_escaped token room e f (inr (inr h)) (inr (inr k)) = rooms e f _ _ room h.1 k.1

pub not_parsed : (t : List ℕ) (e f : CallError) → IsNotParsed t e → IsNotParsed t f → SameStatus e f
not_parsed t e f (inr (inl h)) k = inl h
not_parsed t e f (inl h) (inr (inl k)) = inr (inl k)
not_parsed t e f (inr (inr h)) (inr (inl k)) = inr (inl k)
not_parsed t e f (inl h) (inl k) = not_utf8 _ t e f h k
not_parsed t e f (inl h) (inr (inr k)) = absurd (h.0 k.1)
not_parsed t e f (inr (inr h)) (inl k) = absurd (k.0 h.1)
not_parsed t e f (inr (inr h)) (inr (inr k)) = same e f (NotJson h.0) (NotJson k.0) h.3 k.3 refl

-- a text that is read has no error but a failed allocation
pub no_read : (t : List ℕ) (d : Data) (e : CallError) → IsNotParsed t e → IsUtf8 t → read t ≡ Some d → IsOutOfMemory e
no_read t d e (inl h) u r = absurd (h.0 u)
no_read t d e (inr (inl h)) u r = h
no_read t d e (inr (inr h)) u r = absurd (let no : None ≡ Some d = sym h.2 ∙ r in cc)

pub not_parsed_exactly : (t : List ℕ) (e f : CallError) → IsNotParsedExactly t e → IsNotParsedExactly t f → SameStatus e f
not_parsed_exactly t e f (inl h) (inl k) = not_parsed t e f h k
not_parsed_exactly t e f (inl h) (inr k) = inl (no_read t k.1.0 e h k.1.1 k.1.2)
not_parsed_exactly t e f (inr h) (inl k) = inr (inl (no_read t h.1.0 f k h.1.1 h.1.2))
not_parsed_exactly t e f (inr h) (inr k) = same e f (NotExact h.0) (NotExact k.0) h.2 k.2 refl

pub pointer_lacked : (lost : Lost) (room : ℕ) (e f : CallError) → LacksPointerOfNumber lost room e → LacksPointerOfNumber lost room f → SameStatus e f
pointer_lacked lost room e f (inl h) (inl k) = same e f (NotExact lost) (NotExact lost) h.1 k.1 refl
pointer_lacked lost room e f (inl h) (inr k) = absurd (let no : None ≡ Some k.0 = sym h.0 ∙ k.1 in cc)
pointer_lacked lost room e f (inr h) (inl k) = absurd (let no : None ≡ Some h.0 = sym k.0 ∙ h.1 in cc)
pointer_lacked lost room e f (inr h) (inr k) = rooms e f _ _ room h.2 k.2

-- what fails on the document in a handle
pub on_document : (d : Handle) (P : Value → CallError → Type 0) (e f : CallError) → ((v : Value) → P v e → P v f → SameStatus e f) → FailsOnHandle d (λ v. P v e) e → FailsOnHandle d (λ v. P v f) f → SameStatus e f
on_document d P e f one (inl h) (inl k) = same e f NoDocument NoDocument h.0 k.0 refl
on_document d P e f one (inl h) (inr k) = absurd (false≢true (sym h.1 ∙ k.1.0))
on_document d P e f one (inr h) (inl k) = absurd (false≢true (sym k.1 ∙ h.1.0))
on_document d P e f one (inr h) (inr k) =
    let content : Some h.0 ≡ Some k.0 = sym h.1.1 ∙ k.1.1 in
    let value : h.0 ≡ k.0 = cc in
    one k.0 (subst (λ (v : Value). P v e) value h.2) k.2

-- operations fail with one error
pub failed_one : ((n : NodeMap) (os : List Operation) (f g : FailedOperation) → IsDocument n → FailsBy Numeric n os f → FailsBy Numeric n os g → f ≡ g) → (d : Data) (os : List Operation) (e f : CallError) → FailsList (nodes d) os e → FailsList (nodes d) os f → e ≡ f
failed_one one d os e f h k = h.2 ∙ ap PatchFailed (one (nodes d) os h.0 k.0 (is_document d) h.1 k.1) ∙ sym k.2

module _ (not_both : (s : Text) (e : ParseError) → IsPointer s → IsParseErrorOf s e → ⊥) where
  -- a pointer has no error
  pub no_pointer-parses : (bytes : List ℕ) (ts : List Text) (e : CallError) → IsNoPointer bytes e → ParsesTo bytes ts → ⊥
  no_pointer-parses bytes ts e (inl h) p = h.0 p.0
  no_pointer-parses bytes ts e (inr h) p = not_both bytes h.0 (subst IsPointer p.1 (IsPointer-text ts)) h.2

  tokens_lacked : (ts : List Text) (position room : ℕ) (e f : CallError) → LacksToken ts position room e → LacksToken ts position room f → SameStatus e f
  tokens_lacked ts position room e f (inl h) (inl k) = same e f NoToken NoToken h.1 k.1 refl
  tokens_lacked ts position room e f (inl h) (inr k) = absurd (let no : None ≡ Some k.0 = sym h.0 ∙ k.1 in cc)
  tokens_lacked ts position room e f (inr h) (inl k) = absurd (let no : None ≡ Some h.0 = sym k.0 ∙ h.1 in cc)
  tokens_lacked ts position room e f (inr h) (inr k) = rooms e f _ _ room h.2 k.2

  pub no_tokens : (bytes : List ℕ) (position room : ℕ) (e f : CallError) → IsNoToken bytes position room e → IsNoToken bytes position room f → SameStatus e f
  no_tokens bytes position room e f (inr (inl h)) k = inl h
  no_tokens bytes position room e f (inl h) (inr (inl k)) = inr (inl k)
  no_tokens bytes position room e f (inr (inr h)) (inr (inl k)) = inr (inl k)
  no_tokens bytes position room e f (inl h) (inl k) = no_pointers bytes e f h k
  no_tokens bytes position room e f (inl h) (inr (inr k)) = absurd (no_pointer-parses bytes k.0 e h k.1)
  no_tokens bytes position room e f (inr (inr h)) (inl k) = absurd (no_pointer-parses bytes h.0 f k h.1)
  no_tokens bytes position room e f (inr (inr h)) (inr (inr k)) =
      tokens_lacked k.0 position room e f (subst (λ (ts : List Text). LacksToken ts position room e) (tokens_one bytes h.0 k.0 h.1 k.1) h.2) k.2

  not_extended : (bytes token : List ℕ) (e f : CallError) → IsNotExtended bytes token e → IsNotExtended bytes token f → SameStatus e f
  not_extended bytes token e f (inr (inl h)) k = inl h
  not_extended bytes token e f (inl h) (inr (inl k)) = inr (inl k)
  not_extended bytes token e f (inr (inr h)) (inr (inl k)) = inr (inl k)
  not_extended bytes token e f (inl h) (inl k) = no_pointers bytes e f h k
  not_extended bytes token e f (inl h) (inr (inr k)) = absurd (no_pointer-parses bytes k.0 e h k.1)
  not_extended bytes token e f (inr (inr h)) (inl k) = absurd (no_pointer-parses bytes h.0 f k h.1)
  not_extended bytes token e f (inr (inr h)) (inr (inr k)) = not_utf8 _ token e f h.2 k.2

  -- a pointer that can be extended
  pub extended : (bytes token : List ℕ) (ts : List Text) (e : CallError) → IsNotExtended bytes token e → ParsesTo bytes ts → IsUtf8 token → IsOutOfMemory e
  extended bytes token ts e (inl h) p u = absurd (no_pointer-parses bytes ts e h p)
  extended bytes token ts e (inr (inl h)) p u = h
  extended bytes token ts e (inr (inr h)) p u = absurd (h.2.0 u)

  pub not_pushed : (n : ℕ) (buffer token : List ℕ) (e f : CallError) → IsNotPushed n buffer token e → IsNotPushed n buffer token f → SameStatus e f
  not_pushed n buffer token e f (inl h) (inl k) = rooms e f _ _ _ h k
  not_pushed n buffer token e f (inl h) (inr k) = absurd (omega (arith, h.0, k.0))
  not_pushed n buffer token e f (inr h) (inl k) = absurd (omega (arith, k.0, h.0))
  not_pushed n buffer token e f (inr (low, inl h)) (inr (more, inl k)) = not_extended (take n buffer) token e f h k
  not_pushed n buffer token e f (inr (low, inl h)) (inr (more, inr k)) = inl (extended (take n buffer) token k.0 e h k.1 k.2)
  not_pushed n buffer token e f (inr (low, inr h)) (inr (more, inl k)) =
      inr (inl (extended (take n buffer) token h.0 f k h.1 h.2))
  not_pushed n buffer token e f (inr (low, inr h)) (inr (more, inr k)) = rooms e f _ _ _ h.3 k.3

  pub not_popped : (bytes : List ℕ) (e f : CallError) → IsNotPopped bytes e → IsNotPopped bytes f → SameStatus e f
  not_popped bytes e f (inl h) (inl k) = no_pointers bytes e f h k
  not_popped bytes e f (inl h) (inr k) = absurd (no_pointer-parses bytes [] e h k.0)
  not_popped bytes e f (inr h) (inl k) = absurd (no_pointer-parses bytes [] f k h.0)
  not_popped bytes e f (inr h) (inr k) = same e f NoToken NoToken h.1 k.1 refl

  pub unfound : (d : Data) (bytes : List ℕ) (e f : CallError) → Unfound d bytes e → Unfound d bytes f → SameStatus e f
  unfound d bytes e f (inr (inl h)) k = inl h
  unfound d bytes e f (inl h) (inr (inl k)) = inr (inl k)
  unfound d bytes e f (inr (inr h)) (inr (inl k)) = inr (inl k)
  unfound d bytes e f (inl h) (inl k) = no_pointers bytes e f h k
  unfound d bytes e f (inl h) (inr (inr k)) = absurd (no_pointer-parses bytes k.0 e h k.2)
  unfound d bytes e f (inr (inr h)) (inl k) = absurd (no_pointer-parses bytes h.0 f k h.2)
  unfound d bytes e f (inr (inr h)) (inr (inr k)) = same e f (Resolve h.1) (Resolve k.1) h.4 k.4 refl

  -- a value that is found
  pub found : (d v : Data) (bytes : List ℕ) (e : CallError) → Unfound d bytes e → IsUtf8 bytes → FindsAtPointer d bytes v → IsOutOfMemory e
  found d v bytes e (inl h) u at = absurd (no_pointer-parses bytes at.0 e h (u, at.1))
  found d v bytes e (inr (inl h)) u at = h
  found d v bytes e (inr (inr h)) u at =
      let there : FindsValue d h.0 v = subst (λ (ts : List Text). FindsValue d ts v) (tokens_one bytes at.0 h.0 (u, at.1) h.2) at.2 in
      absurd (Refuses-NamesNothing (nodes d) h.0 h.1 h.3 there.path there.named)

  pub not_printed : (format : Format) (d : Data) (bytes : List ℕ) (room : ℕ) (e f : CallError) → IsNotPrinted format d bytes room e → IsNotPrinted format d bytes room f → SameStatus e f
  not_printed format d bytes room e f (inl h) (inl k) = unfound d bytes e f h k
  not_printed format d bytes room e f (inl h) (inr k) = inl (found d k.0 bytes e h k.2 k.3)
  not_printed format d bytes room e f (inr h) (inl k) = inr (inl (found d h.0 bytes f k h.2 h.3))
  not_printed format d bytes room e f (inr h) (inr k) = rooms e f _ _ room h.5 k.5

  pub not_printed_in : (d : Handle) (format : Format) (bytes : List ℕ) (room : ℕ) (e f : CallError) → FailsOnHandle d (λ v. IsNotPrinted format (view v) bytes room e) e → FailsOnHandle d (λ v. IsNotPrinted format (view v) bytes room f) f → SameStatus e f
  not_printed_in d format bytes room e f = on_document d (λ v x. IsNotPrinted format (view v) bytes room x) e f (λ v. not_printed format (view v) bytes room e f)

  strings : (v w : Data) (room : ℕ) (e f : CallError) → v ≡ w → LacksString v room e → LacksString w room f → SameStatus e f
  strings v w room e f is (inl h) (inl k) = same e f OtherType OtherType h.1 k.1 refl
  strings v w room e f is (inl h) (inr k) =
      absurd (let no : None ≡ Some k.0 = sym h.0 ∙ ap as_str (is ∙ k.1) in cc)
  strings v w room e f is (inr h) (inl k) =
      absurd (let no : None ≡ Some h.0 = sym k.0 ∙ ap as_str (sym is ∙ h.1) in cc)
  strings v w room e f is (inr h) (inr k) = rooms e f _ _ room h.2 k.2

  not_read : (d : Data) (bytes : List ℕ) (room : ℕ) (e f : CallError) → IsNotRead d bytes room e → IsNotRead d bytes room f → SameStatus e f
  not_read d bytes room e f (inl h) (inl k) = unfound d bytes e f h k
  not_read d bytes room e f (inl h) (inr k) = inl (found d k.0 bytes e h k.1 k.2)
  not_read d bytes room e f (inr h) (inl k) = inr (inl (found d h.0 bytes f k h.1 h.2))
  not_read d bytes room e f (inr h) (inr k) =
      let tokens : h.2.0 ≡ k.2.0 = tokens_one bytes h.2.0 k.2.0 (h.1, h.2.1) (k.1, k.2.1) in
      strings h.0 k.0 room e f (FindsValue_one d k.2.0 h.0 k.0 (subst (λ (ts : List Text). FindsValue d ts h.0) tokens h.2.2) k.2.2) h.3 k.3

  pub not_read_in : (d : Handle) (bytes : List ℕ) (room : ℕ) (e f : CallError) → FailsOnHandle d (λ v. IsNotRead (view v) bytes room e) e → FailsOnHandle d (λ v. IsNotRead (view v) bytes room f) f → SameStatus e f
  not_read_in d bytes room e f = on_document d (λ v x. IsNotRead (view v) bytes room x) e f (λ v. not_read (view v) bytes room e f)

  pub unfound_in : (d : Handle) (bytes : List ℕ) (e f : CallError) → FailsOnHandle d (λ v. Unfound (view v) bytes e) e → FailsOnHandle d (λ v. Unfound (view v) bytes f) f → SameStatus e f
  unfound_in d bytes e f = on_document d (λ v x. Unfound (view v) bytes x) e f (λ v. unfound (view v) bytes e f)

  refused_at : (d : Data) (ts : List Text) (e f : CallError) → RefusesAt d ts e → RefusesAt d ts f → SameStatus e f
  refused_at d ts e f (inl h) (inl k) = same e f TooDeep TooDeep h.1 k.1 refl
  refused_at d ts e f (inl h) (inr k) = absurd (let short : length ts ≤ max_levels = k.1 in omega (arith, h.0, short))
  refused_at d ts e f (inr h) (inl k) = absurd (let short : length ts ≤ max_levels = h.1 in omega (arith, k.0, short))
  refused_at d ts e f (inr h) (inr k) = same e f (Assign h.0) (Assign k.0) h.3 k.3 refl

  pub not_assigned : (d : Data) (bytes : List ℕ) (e f : CallError) → IsNotAssigned d bytes e → IsNotAssigned d bytes f → SameStatus e f
  not_assigned d bytes e f (inr (inl h)) k = inl h
  not_assigned d bytes e f (inl h) (inr (inl k)) = inr (inl k)
  not_assigned d bytes e f (inr (inr h)) (inr (inl k)) = inr (inl k)
  not_assigned d bytes e f (inl h) (inl k) = no_pointers bytes e f h k
  not_assigned d bytes e f (inl h) (inr (inr k)) = absurd (no_pointer-parses bytes k.0 e h k.1)
  not_assigned d bytes e f (inr (inr h)) (inl k) = absurd (no_pointer-parses bytes h.0 f k h.1)
  not_assigned d bytes e f (inr (inr h)) (inr (inr k)) =
      refused_at d k.0 e f (subst (λ (ts : List Text). RefusesAt d ts e) (tokens_one bytes h.0 k.0 h.1 k.1) h.2) k.2

  pub not_assigned_in : (t : List ℕ) (d : Handle) (bytes : List ℕ) (e f : CallError) → IsTextNotAssigned t d bytes e → IsTextNotAssigned t d bytes f → SameStatus e f
  not_assigned_in t d bytes e f (inl h) (inl k) = not_parsed t e f h k
  not_assigned_in t d bytes e f (inl h) (inr k) = inl (no_read t k.0 e h k.1 k.2)
  not_assigned_in t d bytes e f (inr h) (inl k) = inr (inl (no_read t h.0 f k h.1 h.2))
  not_assigned_in t d bytes e f (inr h) (inr k) =
      on_document d (λ v x. IsNotAssigned (view v) bytes x) e f (λ v. not_assigned (view v) bytes e f) h.3 k.3

  not_deleted : (bytes : List ℕ) (e f : CallError) → IsNotDeleted bytes e → IsNotDeleted bytes f → SameStatus e f
  not_deleted bytes e f (inr h) k = inl h
  not_deleted bytes e f (inl h) (inr k) = inr (inl k)
  not_deleted bytes e f (inl h) (inl k) = no_pointers bytes e f h k

  pub not_deleted_in : (d : Handle) (bytes : List ℕ) (e f : CallError) → FailsOnHandle d (λ _. IsNotDeleted bytes e) e → FailsOnHandle d (λ _. IsNotDeleted bytes f) f → SameStatus e f
  not_deleted_in d bytes e f = on_document d (λ v x. IsNotDeleted bytes x) e f (λ v. not_deleted bytes e f)

  pub not_patch : (t : List ℕ) (e f : CallError) → IsNotPatchText t e → IsNotPatchText t f → SameStatus e f
  not_patch t e f (inl h) (inl k) = not_parsed t e f h k
  not_patch t e f (inl h) (inr k) = inl (no_read t k.0 e h k.2 k.3)
  not_patch t e f (inr h) (inl k) = inr (inl (no_read t h.0 f k h.2 h.3))
  not_patch t e f (inr h) (inr k) = same e f (NotPatch h.1) (NotPatch k.1) h.5 k.5 refl

  pub not_applied : (d : Data) (os : List Operation) (e f : CallError) → IsNotAppliedList d os e → IsNotAppliedList d os f → SameStatus e f
  not_applied d os e f (inr (inl h)) k = inl h
  not_applied d os e f (inl h) (inr (inl k)) = inr (inl k)
  not_applied d os e f (inr (inr h)) (inr (inl k)) = inr (inl k)
  not_applied d os e f (inl h) (inl k) = same e f TooDeep TooDeep h.1 k.1 refl
  not_applied d os e f (inl h) (inr (inr k)) = absurd (h.0 k.0)
  not_applied d os e f (inr (inr h)) (inl k) = absurd (k.0 h.0)
  not_applied d os e f (inr (inr h)) (inr (inr k)) = same e f (PatchFailed h.1.0) (PatchFailed k.1.0) h.1.2 k.1.2 refl

  -- operations that are applied
  pub applied : ((n m : NodeMap) (os : List Operation) (f : FailedOperation) → IsDocument n → PatchesBy Numeric n os m → FailsBy Numeric n os f → ⊥) → (d n : Data) (os : List Operation) (e : CallError) → IsNotAppliedList d os e → StaysShallow d os → PatchesBy Numeric (nodes d) os (nodes n) → IsOutOfMemory e
  applied apart d n os e (inl h) shallow made = absurd (h.0 shallow)
  applied apart d n os e (inr (inl h)) shallow made = h
  applied apart d n os e (inr (inr h)) shallow made = absurd (apart (nodes d) (nodes n) os h.1.0 (is_document d) made h.1.1)

  pub not_patched : ((n m : NodeMap) (os : List Operation) (f : FailedOperation) → IsDocument n → PatchesBy Numeric n os m → FailsBy Numeric n os f → ⊥) → (d : Data) (os : List Operation) (e f : CallError) → IsNotPatched d os e → IsNotPatched d os f → SameStatus e f
  not_patched apart d os e f (inl h) (inl k) = not_applied d os e f h k
  not_patched apart d os e f (inl h) (inr k) = inl (applied apart d k.0 os e h k.1 k.2)
  not_patched apart d os e f (inr h) (inl k) = inr (inl (applied apart d h.0 os f k h.1 h.2))
  not_patched apart d os e f (inr h) (inr k) = same e f InverseTooDeep InverseTooDeep h.3.4 k.3.4 refl

  lacks_value : (t : List ℕ) (ts : List Text) (e f : CallError) → LacksValue t ts e → LacksValue t ts f → SameStatus e f
  lacks_value t ts e f (inl h) (inl k) = same e f (NotJson h.0) (NotJson k.0) h.2 k.2 refl
  lacks_value t ts e f (inl h) (inr k) = absurd (let no : None ≡ Some k.1.0 = sym h.1 ∙ k.1.1 in cc)
  lacks_value t ts e f (inr h) (inl k) = absurd (let no : None ≡ Some h.1.0 = sym k.1 ∙ h.1.1 in cc)
  lacks_value t ts e f (inr h) (inr k) = same e f (Resolve h.0) (Resolve k.0) h.2 k.2 refl

  -- the errors of a text in which these tokens are looked for
  abbrev InText : List ℕ → List Text → CallError → Type 0
  InText t ts e = IsNotUtf8 argument.Text t e ⊎ (IsOutOfMemory e ⊎ (IsUtf8 t × LacksValue t ts e))

  in_text : (t : List ℕ) (ts : List Text) (e f : CallError) → InText t ts e → InText t ts f → SameStatus e f
  in_text t ts e f (inr (inl h)) k = inl h
  in_text t ts e f (inl h) (inr (inl k)) = inr (inl k)
  in_text t ts e f (inr (inr h)) (inr (inl k)) = inr (inl k)
  in_text t ts e f (inl h) (inl k) = not_utf8 _ t e f h k
  in_text t ts e f (inl h) (inr (inr k)) = absurd (h.0 k.0)
  in_text t ts e f (inr (inr h)) (inl k) = absurd (k.0 h.0)
  in_text t ts e f (inr (inr h)) (inr (inr k)) = lacks_value t ts e f h.1 k.1

  not_in_text : (t bytes : List ℕ) (e f : CallError) → IsNotInText t bytes e → IsNotInText t bytes f → SameStatus e f
  not_in_text t bytes e f (inl h) (inl k) = no_pointers bytes e f h k
  not_in_text t bytes e f (inl h) (inr k) = absurd (no_pointer-parses bytes k.0 e h k.1)
  not_in_text t bytes e f (inr h) (inl k) = absurd (no_pointer-parses bytes h.0 f k h.1)
  not_in_text t bytes e f (inr h) (inr k) =
      in_text t k.0 e f (subst (λ (ts : List Text). InText t ts e) (tokens_one bytes h.0 k.0 h.1 k.1) h.2) k.2

  -- a value that is found in a text
  in_text-found : (t : List ℕ) (ts : List Text) (d v : Data) (e : CallError) → InText t ts e → IsUtf8 t → read t ≡ Some d → FindsValue d ts v → IsOutOfMemory e
  in_text-found t ts d v e (inl h) u r there = absurd (h.0 u)
  in_text-found t ts d v e (inr (inl h)) u r there = h
  in_text-found t ts d v e (inr (inr (w, inl h))) u r there = absurd (let no : None ≡ Some d = sym h.1 ∙ r in cc)
  in_text-found t ts d v e (inr (inr (w, inr h))) u r there =
      let again : Some h.1.0 ≡ Some d = sym h.1.1 ∙ r in
      let one : h.1.0 ≡ d = cc in
      absurd (Refuses-NamesNothing (nodes d) ts h.0 (subst (λ (x : Data). Refuses (nodes x) ts h.0) one h.1.2) there.path there.named)

  pub found_in_text : (t bytes : List ℕ) (v : Value) (e : CallError) → IsNotInText t bytes e → IsUtf8 bytes → IsUtf8 t → FindsAtPointerInText t bytes v → IsOutOfMemory e
  found_in_text t bytes v e (inl h) u w there = absurd (no_pointer-parses bytes there.0 e h (u, there.1))
  found_in_text t bytes v e (inr h) u w there =
      let tokens : h.0 ≡ there.0 = tokens_one bytes h.0 there.0 h.1 (u, there.1) in
      in_text-found t there.0 there.2.0 (view v) e (subst (λ (ts : List Text). InText t ts e) tokens h.2) w there.2.1 there.2.2

  pub not_printed_from : (format : Format) (t bytes : List ℕ) (room : ℕ) (e f : CallError) → IsNotPrintedFrom format t bytes room e → IsNotPrintedFrom format t bytes room f → SameStatus e f
  not_printed_from format t bytes room e f (inr (inl h)) k = inl h
  not_printed_from format t bytes room e f (inl h) (inr (inl k)) = inr (inl k)
  not_printed_from format t bytes room e f (inr (inr h)) (inr (inl k)) = inr (inl k)
  not_printed_from format t bytes room e f (inl h) (inl k) = not_in_text t bytes e f h k
  not_printed_from format t bytes room e f (inl h) (inr (inr k)) = inl (found_in_text t bytes k.3.0 e h k.1 k.2 k.3.1)
  not_printed_from format t bytes room e f (inr (inr h)) (inl k) =
      inr (inl (found_in_text t bytes h.3.0 f k h.1 h.2 h.3.1))
  not_printed_from format t bytes room e f (inr (inr h)) (inr (inr k)) = rooms e f _ _ room h.4 k.4

  -- a value that is found has no error
  pub value-found : (t : List ℕ) (ts : List Text) (v : Data) (e : CallError) → LacksValue t ts e → FindsInText t ts v → ⊥
  value-found t ts v e (inl h) there = let no : None ≡ Some there.0 = sym h.1 ∙ there.1 in cc
  value-found t ts v e (inr h) there =
      let again : Some h.1.0 ≡ Some there.0 = sym h.1.1 ∙ there.1 in
      let one : h.1.0 ≡ there.0 = cc in
      Refuses-NamesNothing (nodes there.0) ts h.0 (subst (λ (x : Data). Refuses (nodes x) ts h.0) one h.1.2) there.2.path there.2.named

  pub lacks_location : (t : List ℕ) (ts : List Text) (e f : CallError) → LacksLocation t ts e → LacksLocation t ts f → SameStatus e f
  lacks_location t ts e f (inl h) k = inl h
  lacks_location t ts e f (inr h) (inl k) = inr (inl k)
  lacks_location t ts e f (inr (inl h)) (inr (inl k)) = lacks_value t ts e f h k
  lacks_location t ts e f (inr (inl h)) (inr (inr k)) = absurd (value-found t ts k.0 e h k.1)
  lacks_location t ts e f (inr (inr h)) (inr (inl k)) = absurd (value-found t ts h.0 f k h.1)
  lacks_location t ts e f (inr (inr h)) (inr (inr k)) = same e f NotLocated NotLocated h.2 k.2 refl

  -- the errors of a text in which the bytes of a value are looked for
  abbrev Unlocated : List ℕ → List Text → CallError → Type 0
  Unlocated t ts e = IsNotUtf8 argument.Text t e ⊎ (IsUtf8 t × LacksLocation t ts e)

  unlocated : (t : List ℕ) (ts : List Text) (e f : CallError) → Unlocated t ts e → Unlocated t ts f → SameStatus e f
  unlocated t ts e f (inl h) (inl k) = not_utf8 _ t e f h k
  unlocated t ts e f (inl h) (inr k) = absurd (h.0 k.0)
  unlocated t ts e f (inr h) (inl k) = absurd (k.0 h.0)
  unlocated t ts e f (inr h) (inr k) = lacks_location t ts e f h.1 k.1

  pub not_located : (t bytes : List ℕ) (e f : CallError) → IsNotLocated t bytes e → IsNotLocated t bytes f → SameStatus e f
  not_located t bytes e f (inl h) (inl k) = no_pointers bytes e f h k
  not_located t bytes e f (inl h) (inr k) = absurd (no_pointer-parses bytes k.0 e h k.1)
  not_located t bytes e f (inr h) (inl k) = absurd (no_pointer-parses bytes h.0 f k h.1)
  not_located t bytes e f (inr h) (inr k) =
      unlocated t k.0 e f (subst (λ (ts : List Text). Unlocated t ts e) (tokens_one bytes h.0 k.0 h.1 k.1) h.2) k.2
