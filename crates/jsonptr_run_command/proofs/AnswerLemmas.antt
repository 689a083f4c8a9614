-- From what is known about the document to what is known about the bytes of the input.
use Rattle.std.proofs.Common.{◌≡◌, ℕ, List, Option, Some, None, Result, Ok, Err, MatchOption, ◌⊎◌, refl, sym, ap, ◌∙◌, subst, inl, inr}
use Rattle.std.specs.Prelude.{IfSome, IfErr, OnErr, String, option_map, alloc_error}
use Rattle.std.specs.Str.{IsUtf8}
use Rattle.std.specs.declared.alloc.Global.{Global}
use Rattle.serde_json.specs.Data.{Data}
use Rattle.serde_json.specs.View.{view}
use Rattle.serde_json.specs.declared.value.Value.{Value}
use Rattle.jsonptr.specs.Text.{Text}
use Rattle.jsonptr_text_resolve.specs.InText.{FindsInText, IsInSliceError}
use Rattle.jsonptr_text_resolve.specs.declared.resolve.InTextError.{InTextError}
use Rattle.jsonptr_text_resolve.specs.declared.resolve.InTextError.TheVariants.{NotJson}
use Rattle.jsonptr_text_resolve.specs.declared.resolve.InTextError.TheVariants as in_text
use Rattle.jsonptr_run_command.specs.JsonText.{json_of}
use Rattle.jsonptr_io.specs.Streams.{ForInput}
use Rattle.jsonptr_run_command.proofs.JsonLemmas.{json_of-utf8, json_of-None}
use Rattle.jsonptr_run_command.specs.Run.{ComesAfterInput, IsRunOutcome, HasValueOf, IsOperationFault, IsRequestFault, LeavesValue, NeedsInput, SplitsInTwo, OnDocument, Resolves, resolving}
use Rattle.jsonptr_run_command.specs.Faults.{IsInputFault, of_in_text_fault}
use Rattle.jsonptr_run_command.specs.Private.{asked_by, Changes, ComesBeforeDocument, IsFaultOf, IsLineOf, IsNoValue}
use Rattle.jsonptr_run_command.specs.declared.run.Change.{Change}
use Rattle.jsonptr_run_command.specs.declared.run.Change.TheVariants.{Assign, Delete, Patch}
use Rattle.jsonptr_run_command.specs.declared.fault.RunFault.{RunFault}
use Rattle.jsonptr_run_command.specs.declared.fault.RunFault.TheVariants.{Usage, BadPointer, ValueNotJson, NoValue, BadPlace, NotThere, BadSplit, BadPatch, InputNotJson, Memory, Read, Write}

-- a property of the bytes, weakened
pub ForInput-map : (known : Option (List ℕ)) (P Q : List ℕ → Type 0) → ((bytes : List ℕ) → P bytes → Q bytes) → ForInput known P → ForInput known Q
ForInput-map None P Q f h = (h.0, f h.0 h.1)
ForInput-map (Some bytes) P Q f h = f bytes h

abbrev some : Data → Option Data
some d = Some d

abbrev refusal : RunFault → Result Data RunFault
refusal e = Err e

-- the result on a document is the result on its bytes
on_document : (bytes : List ℕ) (d : Data) (r : Result Data RunFault) (P : Data → Type 0) → json_of bytes ≡ Some d → P d → OnDocument bytes r P
on_document bytes d r P is h = subst (λ (o : Option Data). MatchOption o (r ≡ Err InputNotJson) P) (sym is) h

-- bytes that are not a document have that error as their result
no_document : (bytes : List ℕ) (e : RunFault) (P : Data → Type 0) → json_of bytes ≡ None → e ≡ InputNotJson → OnDocument bytes (Err e) P
no_document bytes e P none is =
    subst (λ (o : Option Data). MatchOption o (refusal e ≡ refusal InputNotJson) P) (sym none) (ap refusal is)

-- a change needs the input
needs : (change : Change) → NeedsInput (asked_by change)
needs (Assign p v) = tt
needs (Delete p) = tt
needs (Patch patch) = tt

-- and its result on the bytes is the one on the document
gives : (change : Change) (bytes : List ℕ) (r : Result Data RunFault) → OnDocument bytes r (λ d. Changes change d r) → IsRunOutcome (asked_by change) bytes r
gives (Assign p v) bytes r h = h
gives (Delete p) bytes r h = h
gives (Patch patch) bytes r h = h

module _ (change : Change) (known : Option (List ℕ)) where
  -- a fault of the input is one of the request
  pub input_fault_given : (e : RunFault) → IsInputFault known e → IsRequestFault (asked_by change) known e
  input_fault_given e (inl memory) = inr (inl memory)
  input_fault_given e (inr (inl read)) = inr (inr (needs change, read))
  input_fault_given e (inr (inr h)) =
      inl
      (ForInput-map known (λ bytes. json_of bytes ≡ None) (λ bytes. IsRunOutcome (asked_by change) bytes (Err e))
      (λ bytes none. gives change bytes (Err e) (no_document bytes e (λ d. Changes change d (Err e)) none h.1)) h.0)

  module _ (d : Data) (read : ForInput known (λ bytes. json_of bytes ≡ Some d)) where
    -- a line of the result on the document is one of the result on the bytes
    pub line_given : (line : Text) → IsLineOf (Changes change d) line → ForInput known (λ bytes. IsLineOf (IsRunOutcome (asked_by change) bytes) line)
    line_given line h =
        ForInput-map known (λ bytes. json_of bytes ≡ Some d) (λ bytes. IsLineOf (IsRunOutcome (asked_by change) bytes) line)
        (λ bytes is. (h.0, gives change bytes (Ok h.0) (on_document bytes d (Ok h.0) (λ d. Changes change d (Ok h.0)) is h.1), h.2)) read

    -- and so is a fault
    pub fault_given : (e : RunFault) → IsFaultOf (Changes change d) e → IsRequestFault (asked_by change) known e
    fault_given e (inl h) =
        inl
        (ForInput-map known (λ bytes. json_of bytes ≡ Some d) (λ bytes. IsRunOutcome (asked_by change) bytes (Err e))
        (λ bytes is. gives change bytes (Err e) (on_document bytes d (Err e) (λ d. Changes change d (Err e)) is h)) read)
    fault_given e (inr memory) = inr (inl memory)

    -- the document after the change is the value of its request
    pub value_given : (new : Data) → Changes change d (Ok new) → ForInput known (λ bytes. HasValueOf (asked_by change) bytes (Some new))
    value_given new h =
        ForInput-map known (λ bytes. json_of bytes ≡ Some d) (λ bytes. HasValueOf (asked_by change) bytes (Some new))
        (λ bytes is. (new, refl, gives change bytes (Ok new) (on_document bytes d (Ok new) (λ d. Changes change d (Ok new)) is h))) read

    -- what is left where an allocation fails is the document before or after the change
    pub either_given : (new : Data) → (new ≡ d) ⊎ Changes change d (Ok new) → ForInput known (λ bytes. (some new ≡ json_of bytes) ⊎ HasValueOf (asked_by change) bytes (Some new))
    either_given new (inl same) =
        ForInput-map known (λ bytes. json_of bytes ≡ Some d) (λ bytes. (some new ≡ json_of bytes) ⊎ HasValueOf (asked_by change) bytes (Some new))
        (λ bytes is. inl (ap some same ∙ sym is)) read
    either_given new (inr h) =
        ForInput-map known (λ bytes. HasValueOf (asked_by change) bytes (Some new)) (λ bytes. (some new ≡ json_of bytes) ⊎ HasValueOf (asked_by change) bytes (Some new))
        (λ bytes k. inr k) (value_given new h)

-- ---- a pointer that is resolved in the bytes

-- the value that it resolves to
pub found_given : (bytes : List ℕ) (ts : List Text) (v : Data) → IsUtf8 bytes × FindsInText bytes ts v → IsRunOutcome (resolving ts) bytes (Ok v)
found_given bytes ts v h = on_document bytes h.1.0 (Ok v) (λ d. Resolves d ts (Ok v)) (json_of-utf8 bytes h.0 ∙ h.1.1) h.1.2

-- why there is none
pub error_given : (bytes : List ℕ) (ts : List Text) (e : InTextError) → IsInSliceError bytes ts e → IsFaultOf (IsRunOutcome (resolving ts) bytes) (of_in_text_fault e)
error_given bytes ts NotJson h = inl (no_document bytes InputNotJson (λ d. Resolves d ts (Err InputNotJson)) (json_of-None bytes h) refl)
error_given bytes ts (in_text.Resolve f) h = inl (on_document bytes h.1.0 (Err (NoValue f)) (λ d. Resolves d ts (Err (NoValue f))) (json_of-utf8 bytes h.0 ∙ h.1.1) (f, h.1.2, refl))
error_given bytes ts (in_text.Memory e) h = inr refl

-- what holds of the bytes that were read holds of those of the input
pub for_read : (known : Option (List ℕ)) (bytes : List ℕ) (P : List ℕ → Type 0) → IfSome known (λ xs. bytes ≡ xs) → P bytes → ForInput known P
for_read None bytes P e h = (bytes, h)
for_read (Some xs) bytes P e h = subst P e h

-- ---- errors that do not come together

-- an error on a document is none of the words or of the input
pub after_document : (change : Change) (d : Data) (e : RunFault) → IsFaultOf (Changes change d) e → ComesBeforeDocument e → ⊥
after_document change d e (inr is) before = subst ComesBeforeDocument is before
after_document (Assign p v) d e (inl h) before = subst ComesBeforeDocument h.2 before
after_document (Delete p) d e (inl h) before = subst ComesBeforeDocument h.1 before
after_document (Patch patch) d e (inl h) before = subst ComesBeforeDocument h.4 before

-- the bytes of which a property holds
some_bytes : (known : Option (List ℕ)) (P : List ℕ → Type 0) → ForInput known P → (bytes : List ℕ) × P bytes
some_bytes None P h = h
some_bytes (Some bytes) P h = (bytes, h)

-- an error on the bytes is that they are not a document, or one on it
error_on : (o : Option Data) (e : RunFault) (P : Data → Type 0) → MatchOption o (refusal e ≡ refusal InputNotJson) P → (e ≡ InputNotJson) ⊎ ((d : Data) × P d)
error_on None e P h = let is : e ≡ InputNotJson = cc in inl is
error_on (Some d) e P h = inr (d, h)

-- on a document, no change fails since a pointer resolves to no value
finds_value : (change : Change) (d : Data) (e : RunFault) → Changes change d (Err e) → IsNoValue e → ⊥
finds_value (Assign p v) d e h none = let is = h.2 in let other = none.1 in cc
finds_value (Delete p) d e h none = let is = h.1 in let other = none.1 in cc
finds_value (Patch patch) d e h none = let is = h.4 in let other = none.1 in cc

-- the result of a change on the bytes is the one on their document
takes : (change : Change) (bytes : List ℕ) (r : Result Data RunFault) → IsRunOutcome (asked_by change) bytes r → OnDocument bytes r (λ d. Changes change d r)
takes (Assign p v) bytes r h = h
takes (Delete p) bytes r h = h
takes (Patch patch) bytes r h = h

module _ (known : Option (List ℕ)) (e : RunFault) where
  -- no change fails since a pointer resolves to no value
  pub not_no_value : (change : Change) → IsRequestFault (asked_by change) known e → IsNoValue e → ⊥
  not_no_value change (inr (inl is)) none = let other = none.1 in cc
  not_no_value change (inr (inr h)) none = let is = h.1 in let other = none.1 in cc
  not_no_value change (inl h) none =
      let found = some_bytes known (λ bytes. IsRunOutcome (asked_by change) bytes (Err e)) h in
      by_error (error_on (json_of found.0) e (λ d. Changes change d (Err e)) (takes change found.0 (Err e) found.1))
    where
      by_error : (e ≡ InputNotJson) ⊎ ((d : Data) × Changes change d (Err e)) → ⊥
      by_error (inl is) = let other = none.1 in cc
      by_error (inr g) = finds_value change g.0 e g.1 none

  -- resolving fails with nothing else once the input is read
  pub resolve_is_no_value : (ts : List Text) → IsRequestFault (resolving ts) known e → IsOperationFault e → (IsNoValue e → ⊥) → ⊥
  resolve_is_no_value ts (inr (inl is)) fault not = subst ComesAfterInput is fault.0
  resolve_is_no_value ts (inr (inr h)) fault not = subst ComesAfterInput h.1 fault.0
  resolve_is_no_value ts (inl h) fault not =
      let found = some_bytes known (λ bytes. IsRunOutcome (resolving ts) bytes (Err e)) h in
      by_error (error_on (json_of found.0) e (λ d. Resolves d ts (Err e)) found.1)
    where
      by_error : (e ≡ InputNotJson) ⊎ ((d : Data) × Resolves d ts (Err e)) → ⊥
      by_error (inl is) = fault.1 is
      by_error (inr g) = not (g.1.0, g.1.2)

-- ---- what an error leaves of the value

abbrev some_value : Option Value → Option Data
some_value v = option_map view v

module _ (known : Option (List ℕ)) (P Q : List ℕ → Type 0) (more : (bytes : List ℕ) → P bytes → Q bytes) (old new : Option Data) where
  either_more : (bytes : List ℕ) → (new ≡ json_of bytes) ⊎ P bytes → (new ≡ json_of bytes) ⊎ Q bytes
  either_more bytes (inl is) = inl is
  either_more bytes (inr h) = inr (more bytes h)

  memory_more : (new ≡ old) ⊎ ForInput known (λ bytes. (new ≡ json_of bytes) ⊎ P bytes) → (new ≡ old) ⊎ ForInput known (λ bytes. (new ≡ json_of bytes) ⊎ Q bytes)
  memory_more (inl is) = inl is
  memory_more (inr h) = inr (ForInput-map known (λ bytes. (new ≡ json_of bytes) ⊎ P bytes) (λ bytes. (new ≡ json_of bytes) ⊎ Q bytes) either_more h)

  pub leaves_more : (e : RunFault) → LeavesValue known P old new e → LeavesValue known Q old new e
  leaves_more Usage h = h
  leaves_more (BadPointer f) h = h
  leaves_more ValueNotJson h = h
  leaves_more (BadSplit position count) h = h
  leaves_more (NoValue f) h = h
  leaves_more (BadPlace f) h = h
  leaves_more NotThere h = h
  leaves_more (BadPatch f) h = h
  leaves_more InputNotJson h = h
  leaves_more (Memory f) h = memory_more h
  leaves_more Read h = h
  leaves_more Write h = tt

-- where nothing was changed
module _ (known : Option (List ℕ)) (P : List ℕ → Type 0) (old new : Option Data) (same : new ≡ old) where
  same_left : (e : RunFault) → (IsOperationFault e → (IsNoValue e → ⊥) → ⊥) → LeavesValue known P old new e
  same_left Usage not = same
  same_left (BadPointer f) not = same
  same_left ValueNotJson not = same
  same_left (BadSplit position count) not = same
  same_left (NoValue f) not = same
  same_left (BadPlace f) not = absurd (not (tt, (λ is. let no : ⊥ = cc in no), (λ is. let no : ⊥ = cc in no)) (λ none. let is = none.1 in let no : ⊥ = cc in no))
  same_left NotThere not = absurd (not (tt, (λ is. let no : ⊥ = cc in no), (λ is. let no : ⊥ = cc in no)) (λ none. let is = none.1 in let no : ⊥ = cc in no))
  same_left (BadPatch f) not = absurd (not (tt, (λ is. let no : ⊥ = cc in no), (λ is. let no : ⊥ = cc in no)) (λ none. let is = none.1 in let no : ⊥ = cc in no))
  same_left InputNotJson not = same
  same_left (Memory f) not = inl same
  same_left Read not = same
  same_left Write not = tt

-- a pointer that is resolved leaves the value unchanged
pub found_left : (ts : List Text) (known : Option (List ℕ)) (P : List ℕ → Type 0) (old new : Option Value) (r : Result (String Global) RunFault)
    → IfErr r (IsRequestFault (resolving ts) known) → OnErr r (new ≡ old) → IfErr r (LeavesValue known P (some_value old) (some_value new))
found_left ts known P old new (Ok s) fault same = tt
found_left ts known P old new (Err e) fault same = same_left known P (some_value old) (some_value new) (ap some_value same) e (resolve_is_no_value known e ts fault)

-- a change of a document
module _ (change : Change) (known : Option (List ℕ)) (old new : Option Data) where
  abbrev Made : List ℕ → Type 0
  Made bytes = HasValueOf (asked_by change) bytes new

  change_left : (e : RunFault) → IsRequestFault (asked_by change) known e → (ComesBeforeDocument e → new ≡ old)
      → (IsOperationFault e → ForInput known (λ bytes. new ≡ json_of bytes))
      → (e ≡ Memory alloc_error → (new ≡ old) ⊎ ForInput known (λ bytes. (new ≡ json_of bytes) ⊎ Made bytes))
      → LeavesValue known Made old new e
  change_left Usage fault before after memory = before tt
  change_left (BadPointer f) fault before after memory = before tt
  change_left ValueNotJson fault before after memory = before tt
  change_left (BadSplit position count) fault before after memory = before tt
  change_left (NoValue f) fault before after memory = absurd (not_no_value known (NoValue f) change fault (f, refl))
  change_left (BadPlace f) fault before after memory = after (tt, (λ is. let no : ⊥ = cc in no), (λ is. let no : ⊥ = cc in no))
  change_left NotThere fault before after memory = after (tt, (λ is. let no : ⊥ = cc in no), (λ is. let no : ⊥ = cc in no))
  change_left (BadPatch f) fault before after memory = after (tt, (λ is. let no : ⊥ = cc in no), (λ is. let no : ⊥ = cc in no))
  change_left InputNotJson fault before after memory = before tt
  change_left (Memory f) fault before after memory = memory refl
  change_left Read fault before after memory = before tt
  change_left Write fault before after memory = tt

pub value_left : (change : Change) (known : Option (List ℕ)) (old new : Option Value) (r : Result (String Global) RunFault)
    → IfErr r (IsRequestFault (asked_by change) known) → IfErr r (λ e. ComesBeforeDocument e → new ≡ old)
    → IfErr r (λ e. IsOperationFault e → ForInput known (λ bytes. some_value new ≡ json_of bytes))
    → IfErr r (λ e. e ≡ Memory alloc_error → (new ≡ old) ⊎ ForInput known (λ bytes. (some_value new ≡ json_of bytes) ⊎ HasValueOf (asked_by change) bytes (some_value new)))
    → IfErr r (LeavesValue known (λ bytes. HasValueOf (asked_by change) bytes (some_value new)) (some_value old) (some_value new))
value_left change known old new (Ok s) fault before after memory = tt
value_left change known old new (Err e) fault before after memory =
    change_left change known (some_value old) (some_value new) e fault (λ h. ap some_value (before h)) after (λ is. views (memory is))
  where
    views : {A : Type 0} → (new ≡ old) ⊎ A → (some_value new ≡ some_value old) ⊎ A
    views (inl same) = inl (ap some_value same)
    views (inr h) = inr h

-- the line of a pointer alone leaves the value unchanged
pub split_left : (ts : List Text) (n : ℕ) (known : Option (List ℕ)) (P : List ℕ → Type 0) (value : Option Value) (r : Result (String Global) RunFault)
    → IfErr r (IsFaultOf (SplitsInTwo ts n)) → IfErr r (LeavesValue known P (some_value value) (some_value value))
split_left ts n known P value (Ok s) fault = tt
split_left ts n known P value (Err e) fault = same_left known P (some_value value) (some_value value) refl e (no_operation fault)
  where
    no_operation : IsFaultOf (SplitsInTwo ts n) e → IsOperationFault e → (IsNoValue e → ⊥) → ⊥
    no_operation (inl h) operation not = subst ComesAfterInput h.1 operation.0
    no_operation (inr is) operation not = subst ComesAfterInput is operation.0
