-- How words fail by their pointer or their value, and the words of a patch.
use Rattle.std.proofs.Common.{◌≡◌, ◌⊎◌, inl, inr, Bool, true, false, ℕ, List, [], ◌∷◌, map, take, codes, Result, Ok, Err, IfErr, refl, sym, ap, ◌∙◌}
use Rattle.std.specs.Str.{bytes_eq}
use Rattle.std.proofs.lemmas.List.Elements.{All-nil, Contains-push}
use Rattle.std.specs.Result.{IsErrAnd}
use Rattle.std.proofs.lemmas.Result.{err_from_is_err_and}
use Rattle.jsonptr.specs.Text.{Text}
use Rattle.jsonptr.specs.Grammar.{IsPointer}
use Rattle.jsonptr.specs.ParseError.{IsParseErrorOf}
use Rattle.jsonptr.specs.Types.ParseError.{ParseError}
use Rattle.jsonptr.specs.Index.{Reads}
use Rattle.jsonptr.specs.Types.Index.{Index}
use Rattle.jsonptr.specs.Types.Index.TheVariants.{Num, Next}
use Rattle.jsonptr.specs.Types.ParseIndexError.{ParseIndexError}
use Rattle.jsonptr.proofs.Calling.{Reads_one}
use Rattle.jsonptr_run_command.specs.Operations.{OperationWords, words_of, values_of}
use Rattle.jsonptr_run_command.specs.PrivateOperations.{RefusesOperations}
use Rattle.jsonptr_run_command.specs.Run.{Asks, HaveOperations, HaveValue, IsWordsMemory, TakePointer, TakePointers}
use Rattle.jsonptr_run_command.specs.Faults.{RefusesValue}
use Rattle.jsonptr_run_command.specs.Private.{RefusesCommand}
use Rattle.jsonptr_run_command.specs.declared.fault.RunFault.{RunFault}
use Rattle.jsonptr_run_command.specs.declared.fault.RunFault.TheVariants.{BadPointer}

-- three words are a command, the text of a pointer and one more
pub three_words : (command pointer third word shown : Text) → command ≡ word → shown ≡ pointer → command ∷ pointer ∷ third ∷ [] ≡ word ∷ shown ∷ third ∷ []
three_words command pointer third word shown is read = cc

-- words are the text of the first, and the rest
pub first_and_rest : {A : Type 0} (f : A → Text) (ws rest : List A) (a : A) (first : Text) → ws ≡ a ∷ rest → first ≡ f a → map f ws ≡ first ∷ map f rest
first_and_rest f ws rest a first are shown = ap (map f) are ∙ ap (λ (t : Text). t ∷ map f rest) (sym shown)

-- words fail as their pointer does
pub pointer_refused : {T : Type 0} (words : List Text) (r : Result T RunFault) (pointer : Text) (f : ParseError) → IsErrAnd r (λ e. e ≡ BadPointer f)
    → TakePointer words pointer → IsParseErrorOf pointer f → IfErr r (RefusesCommand words)
pointer_refused words r pointer f refused take tells =
    let p = err_from_is_err_and r refused in
    rw p.1 (inr (inl (pointer, f, take, tells, p.2)))

-- and as the value to assign
pub value_refused : {T : Type 0} (words : List Text) (r : Result T RunFault) (ts : List Text) (value : Text) (e : RunFault) → IsErrAnd r (λ f. f ≡ e) → HaveValue words ts value → RefusesValue value e → IfErr r (RefusesCommand words)
value_refused words r ts value e refused have none =
    let p = err_from_is_err_and r refused in
    rw (p.1, p.2) (inr (inr (ts, value, have, none)))

-- ---- words of a patch, and others

-- whether the words begin with `patch`
unfoldable pub begins : List Text → Bool
begins [] = false
begins (c ∷ ws) = bytes_eq c (codes "patch")

pub begins_so : (words : List Text) (forms : List OperationWords) → HaveOperations words forms → begins words ≡ true
unfolding begins
begins_so words forms h = rw h refl

pub begins_otherwise : (words : List Text) (pointer : Text) → TakePointer words pointer → begins words ≡ false
unfolding begins
begins_otherwise words p (inl h) = rw h refl
begins_otherwise words p (inr (inl h)) = rw h refl
begins_otherwise words p (inr (inr (inl h))) = rw h.1 refl
begins_otherwise words p (inr (inr (inr (inl h)))) = rw h refl
begins_otherwise words p (inr (inr (inr (inr h)))) = rw h.1.1 refl

pub no_both : (words : List Text) → begins words ≡ true → begins words ≡ false → ⊥
no_both words h k = let both : true ≡ false = sym h ∙ k in cc

-- the words after the first
pub behind_first : List Text → List Text
behind_first [] = []
behind_first (c ∷ ws) = ws

pub same_behind : (words rest more : List Text) → words ≡ codes "patch" ∷ rest → words ≡ codes "patch" ∷ more → rest ≡ more
unfolding behind_first
same_behind words rest more h k = ap behind_first (sym h ∙ k)

-- the words of another command fail as its pointer or its value does
pub command_refused : (command : Text) (rest words : List Text) (e : RunFault) → words ≡ command ∷ rest → (command ≡ codes "patch" → ⊥) → RefusesCommand (command ∷ rest) e
    → Asks words (Err e) ⊎ IsWordsMemory words e
command_refused command rest words e are other (inl h) = rw are (inl (inl (none, h.1)))
  where
    none : (pointers : List Text) → TakePointers (command ∷ rest) pointers → ⊥
    none pointers (inl t) = h.0 t.0 t.1
    none pointers (inr t) = let same : command ∷ rest ≡ codes "patch" ∷ words_of t.0 = t.1 in other cc
command_refused command rest words e are other (inr (inl h)) =
    rw are (inl (inr (inl ([], h.0, [], h.1, inl (h.0, h.2, refl), All-nil IsPointer, h.3, h.4))))
command_refused command rest words e are other (inr (inr h)) = rw are (by_value h.3)
  where
    by_value : RefusesValue h.1 e → Asks (command ∷ rest) (Err e) ⊎ IsWordsMemory (command ∷ rest) e
    by_value (inl none) = inl (inr (inr (h.1 ∷ [], h.1, inl (h.0, h.1, h.2, refl), Contains-push [] h.1, none.0, none.1)))
    by_value (inr memory) = inr (inl (h.0, h.1, h.2), memory)

-- and those of a patch as its operations do
pub patch_refused : (words rest : List Text) (e : RunFault) → words ≡ codes "patch" ∷ rest → RefusesOperations rest e → Asks words (Err e) ⊎ IsWordsMemory words e
unfolding begins
patch_refused words rest e are (inl h) = inl (inl (none, h.1))
  where
    none : (pointers : List Text) → TakePointers words pointers → ⊥
    none pointers (inl t) = no_both words (rw are refl) (begins_otherwise words t.0 t.1)
    none pointers (inr t) = h.0 t.0 (same_behind words rest (words_of t.0) are t.1)
patch_refused words rest e are (inr (inl h)) =
    let have : HaveOperations words h.0 = are ∙ ap (λ (l : List Text). codes "patch" ∷ l) h.2 in
    inl (inr (inl (h.3.0, h.3.1, h.3.2, h.1, inr (h.0, have, sym h.3.3), h.3.4, h.3.5, h.4)))
patch_refused words rest e are (inr (inr (inl h))) =
    let have : HaveOperations words h.0 = are ∙ ap (λ (l : List Text). codes "patch" ∷ l) h.1 in
    inl (inr (inr (values_of h.0, h.3.0, inr (h.0, have, h.2, refl), h.3.1, h.3.2, h.3.3)))
patch_refused words rest e are (inr (inr (inr memory))) = inr (inr (rest, are), memory)

-- a text parses as one number, and as none if it parses as something else
abbrev index_of_number : ℕ → Result Index ParseIndexError
index_of_number n = Ok (Num n)

pub number_one : (s : Text) (n m : ℕ) → Reads s (Ok (Num n)) → Reads s (Ok (Num m)) → n ≡ m
number_one s n m h k = let same : index_of_number n ≡ index_of_number m = Reads_one s (Ok (Num n)) (Ok (Num m)) h k in cc

pub no_number : (s : Text) (r : Result Index ParseIndexError) → Reads s r → ((n : ℕ) → r ≡ Ok (Num n) → ⊥) → (n : ℕ) → Reads s (Ok (Num n)) → ⊥
no_number s r h other n k = other n (Reads_one s r (Ok (Num n)) h k)

pub next_is_no_number : (r : Result Index ParseIndexError) (i : Index) → r ≡ Ok i → i ≡ Next → (n : ℕ) → r ≡ Ok (Num n) → ⊥
next_is_no_number r i is next n e = cc

pub fault_is_no_number : (r : Result Index ParseIndexError) (f : ParseIndexError) → r ≡ Err f → (n : ℕ) → r ≡ Ok (Num n) → ⊥
fault_is_no_number r f is n e = cc
