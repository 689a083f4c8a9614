-- The result of a run is unique.
use Rattle.std.proofs.Common.{◌≡◌, ◌⊎◌, ℕ, List, [], ◌∷◌, ◌++◌, Option, Some, None, Result, Ok, Err, MatchOption, option_map, map, if◌then◌else◌, codes, Bool, true, false, length, take, drop, refl, sym, ◌∙◌, ap, ap₂, subst, inl, inr, arith, length-append}
use Rattle.std.specs.Prelude.{All}
use Rattle.std.proofs.lemmas.List.{take_at, drop_at}
use Rattle.std.proofs.lemmas.List.Elements.{All-nil, All-cons, All-head, All-tail, All-contains}
use Rattle.std.specs.Str.{bytes_eq}
use Rattle.serde_json.specs.Data.{Data, null}
use Rattle.serde_json.specs.Written.{has_float}
use Rattle.jsonptr.specs.Text.{Text, text, tokens_of}
use Rattle.jsonptr.specs.Grammar.{IsPointer}
use Rattle.jsonptr.specs.Node.{NodeMap, IsTree}
use Rattle.jsonptr.specs.Following.{Finds}
use Rattle.jsonptr.specs.Assigning.{Assigns}
use Rattle.jsonptr.specs.Removing.{Deletes}
use Rattle.jsonptr.specs.Json.{nodes, content, HasSortedKeys}
use Rattle.jsonptr.proofs.Calling.{tokens_of-text, IsPointer-text, FindsValue_one, FindsValue-Finds, map_of-IsTree, map_of-finite}
use Rattle.jsonptr.specs.Documents.{IsDocument}
use Rattle.jsonptr_patch.specs.Order.{OperationHasSortedKeys}
use Rattle.jsonptr_patch.specs.Patching.{Patches, RefusesPatch}
use Rattle.jsonptr_patch.specs.declared.operation.Operation.{Operation}
use Rattle.jsonptr_patch.specs.declared.operation.PatchError.{PatchError}
use Rattle.jsonptr.specs.Index.{Reads}
use Rattle.jsonptr.specs.Types.Index.TheVariants.{Num}
use Rattle.jsonptr.specs.ParseError.{IsParseErrorOf}
use Rattle.jsonptr.specs.Resolve.{Refuses}
use Rattle.jsonptr.specs.Assign.{RefusesAssign}
use Rattle.jsonptr.specs.Types.ParseError.{ParseError}
use Rattle.jsonptr.specs.declared.resolve.Error as resolve
use Rattle.jsonptr.specs.declared.assign.Error as assign
use Rattle.jsonptr_run_command.proofs.CommandLemmas.{number_one, begins, begins_so, begins_otherwise, no_both, same_behind}
use Rattle.jsonptr_run_command.proofs.OperationWordsLemmas.{operations_one}
use Rattle.jsonptr_run_command.proofs.OperationDataLemmas.{IsJson, one_value_json, mean_one, mean_pointers, mean_values, mean_in_order, patches_same, refused_same}
use Rattle.jsonptr_run_command.proofs.OrderLemmas.{ascends_json}
use Rattle.jsonptr_run_command.specs.JsonText.{json_of, IsJsonLine}
use Rattle.jsonptr_run_command.specs.Operations.{OperationWords, words_of, pointers_of, OperationData, data_of, AreOperationsOf}
use Rattle.jsonptr_run_command.specs.Run.{Request, resolving, listing, assigning, deleting, splitting, patching, AskFor, HaveValue, HaveOperations, HaveValues, TakePointer, TakePointers, IsWordsFault, IsPointerFault, IsValueFault, Asks, AssignsAt, DeletesAt, IsRunOutcome, PatchesOrFails, Resolves, texts_value}
use Rattle.jsonptr_run_command.specs.declared.fault.RunFault.{RunFault}
use Rattle.jsonptr_run_command.specs.declared.fault.RunFault.TheVariants.{BadPointer, NoValue, BadPlace, BadPatch, InputNotJson}

-- ---- the words

-- whether a request is one of a patch
is_patch : Request → Bool
is_patch (resolving ts) = false
is_patch (listing ts) = false
is_patch (assigning ts v) = false
is_patch (deleting ts) = false
is_patch (splitting ts n) = false
is_patch (patching os) = true

begins_as_asked : (words : List Text) (request : Request) → AskFor words request → begins words ≡ is_patch request
unfolding begins is_patch
begins_as_asked words (resolving ts) h = rw h refl
begins_as_asked words (listing ts) h = rw h refl
begins_as_asked words (assigning ts v) h = rw h.1 refl
begins_as_asked words (deleting ts) h = rw h refl
begins_as_asked words (splitting ts n) h = rw h.1 refl
begins_as_asked words (patching os) h = rw h.1 refl

same_operations : (words : List Text) (fs gs : List OperationWords) → HaveOperations words fs → HaveOperations words gs → fs ≡ gs
same_operations words fs gs h k = operations_one fs gs (same_behind words (words_of fs) (words_of gs) h k)

-- what words ask for, if their command is not `patch`, their pointer is valid, and their position, if they have one,
-- is n
asked : ℕ → List Text → Option Request
asked n [] = None
asked n (c ∷ []) = None
asked n (c ∷ p ∷ []) =
    if bytes_eq c (codes "resolve")
    then Some (resolving (tokens_of p))
    else if bytes_eq c (codes "tokens") then Some (listing (tokens_of p)) else Some (deleting (tokens_of p))
asked n (c ∷ p ∷ value ∷ ws) =
    if bytes_eq c (codes "split")
    then Some (splitting (tokens_of p) n)
    else option_map (λ v. assigning (tokens_of p) v) (json_of value)

-- the position in a request
position_in : Request → ℕ
position_in (resolving ts) = 0
position_in (listing ts) = 0
position_in (assigning ts v) = 0
position_in (deleting ts) = 0
position_in (splitting ts n) = n
position_in (patching os) = 0

is_asked : (words : List Text) (request : Request) → is_patch request ≡ false → AskFor words request → asked (position_in request) words ≡ Some request
unfolding asked position_in is_patch
is_asked words (resolving ts) other h = rw h (ap (λ (us : List Text). Some (resolving us)) (tokens_of-text ts))
is_asked words (listing ts) other h = rw h (ap (λ (us : List Text). Some (listing us)) (tokens_of-text ts))
is_asked words (assigning ts v) other h = rw (h.1, h.2) (ap (λ (us : List Text). Some (assigning us v)) (tokens_of-text ts))
is_asked words (deleting ts) other h = rw h (ap (λ (us : List Text). Some (deleting us)) (tokens_of-text ts))
is_asked words (splitting ts n) other h = rw h.1 (ap (λ (us : List Text). Some (splitting us n)) (tokens_of-text ts))
is_asked words (patching os) other h = let no : ⊥ = cc in absurd no

-- the position in the words, or 0 if their command takes none
PositionIf : Bool → Text → ℕ → Type 0
PositionIf true position n = Reads position (Ok (Num n))
PositionIf false position n = n ≡ 0

HasPosition : List Text → ℕ → Type 0
HasPosition [] n = n ≡ 0
HasPosition (c ∷ []) n = n ≡ 0
HasPosition (c ∷ p ∷ []) n = n ≡ 0
HasPosition (c ∷ p ∷ position ∷ ws) n = PositionIf (bytes_eq c (codes "split")) position n

has_position : (words : List Text) (request : Request) → is_patch request ≡ false → AskFor words request → HasPosition words (position_in request)
unfolding HasPosition PositionIf position_in is_patch
has_position words (resolving ts) other h = rw h refl
has_position words (listing ts) other h = rw h refl
has_position words (assigning ts v) other h = rw h.1 refl
has_position words (deleting ts) other h = rw h refl
has_position words (splitting ts n) other h = rw h.1 h.2
has_position words (patching os) other h = let no : ⊥ = cc in absurd no

position_if_one : (b : Bool) (position : Text) (n m : ℕ) → PositionIf b position n → PositionIf b position m → n ≡ m
unfolding PositionIf
position_if_one true position n m h k = number_one position n m h k
position_if_one false position n m h k = h ∙ sym k

position_one : (words : List Text) (n m : ℕ) → HasPosition words n → HasPosition words m → n ≡ m
unfolding HasPosition
position_one [] n m h k = h ∙ sym k
position_one (c ∷ []) n m h k = h ∙ sym k
position_one (c ∷ p ∷ []) n m h k = h ∙ sym k
position_one (c ∷ p ∷ position ∷ ws) n m h k = position_if_one (bytes_eq c (codes "split")) position n m h k

other_request_one : (words : List Text) (r q : Request) → is_patch r ≡ false → is_patch q ≡ false → AskFor words r → AskFor words q → r ≡ q
other_request_one words r q other another h k =
    let position : position_in r ≡ position_in q = position_one words (position_in r) (position_in q) (has_position words r other h) (has_position words q another k) in
    let same : Some r ≡ Some q = sym (is_asked words r other h) ∙ ap (λ (n : ℕ). asked n words) position ∙ is_asked words q another k in
    cc

-- a request of a patch has its operations
patch_asked : (words : List Text) (request : Request) → is_patch request ≡ true → AskFor words request → (os : List OperationData) × (forms : List OperationWords) × (request ≡ patching os) × HaveOperations words forms × AreOperationsOf forms os
unfolding is_patch
patch_asked words (resolving ts) is h = let no : ⊥ = cc in absurd no
patch_asked words (listing ts) is h = let no : ⊥ = cc in absurd no
patch_asked words (assigning ts v) is h = let no : ⊥ = cc in absurd no
patch_asked words (deleting ts) is h = let no : ⊥ = cc in absurd no
patch_asked words (splitting ts n) is h = let no : ⊥ = cc in absurd no
patch_asked words (patching os) is h = (os, h.0, refl, h.1, h.2)

patch_request_one : (words : List Text) (r q : Request) → is_patch r ≡ true → is_patch q ≡ true → AskFor words r → AskFor words q → r ≡ q
patch_request_one words r q is same h k =
    let a = patch_asked words r is h in
    let b = patch_asked words q same k in
    let forms : a.1 ≡ b.1 = same_operations words a.1 b.1 a.3 b.3 in
    let meanings : a.0 ≡ b.0 = mean_one b.1 a.0 b.0 (subst (λ (fs : List OperationWords). AreOperationsOf fs a.0) forms a.4) b.4 in
    a.2 ∙ ap (λ (os : List OperationData). patching os) meanings ∙ sym b.2

pub request_one : (words : List Text) (r q : Request) → AskFor words r → AskFor words q → r ≡ q
request_one words r q h k = by_kind (is_patch r) refl
  where
    same : is_patch r ≡ is_patch q
    same = sym (begins_as_asked words r h) ∙ begins_as_asked words q k

    by_kind : (b : Bool) → is_patch r ≡ b → r ≡ q
    by_kind true is = patch_request_one words r q is (sym same ∙ is) h k
    by_kind false is = other_request_one words r q is (sym same ∙ is) h k

-- the second word
second : List Text → Text
second [] = []
second (c ∷ []) = []
second (c ∷ p ∷ ws) = p

is_second : (words : List Text) (pointer : Text) → TakePointer words pointer → second words ≡ pointer
unfolding second
is_second words p (inl h) = ap second h
is_second words p (inr (inl h)) = ap second h
is_second words p (inr (inr (inl h))) = ap second h.1
is_second words p (inr (inr (inr (inl h)))) = ap second h
is_second words p (inr (inr (inr (inr h)))) = ap second h.1.1

pointer_one : (words : List Text) (p q : Text) → TakePointer words p → TakePointer words q → p ≡ q
pointer_one words p q h k = sym (is_second words p h) ∙ is_second words q k

-- the pointers of words are unique
pointers_one : (words : List Text) (ps qs : List Text) → TakePointers words ps → TakePointers words qs → ps ≡ qs
pointers_one words ps qs (inl h) (inl k) =
    h.2 ∙ ap (λ (p : Text). p ∷ []) (pointer_one words h.0 k.0 h.1 k.1) ∙ sym k.2
pointers_one words ps qs (inl h) (inr k) =
    absurd (no_both words (begins_so words k.0 k.1) (begins_otherwise words h.0 h.1))
pointers_one words ps qs (inr h) (inl k) =
    absurd (no_both words (begins_so words h.0 h.1) (begins_otherwise words k.0 k.1))
pointers_one words ps qs (inr h) (inr k) = h.2 ∙ ap (λ (fs : List OperationWords). pointers_of fs) (same_operations words h.0 k.0 h.1 k.1) ∙ sym k.2

-- words whose pointers are valid
abbrev TakeGood : List Text → Type 0
TakeGood words = (pointers : List Text) × TakePointers words pointers × All IsPointer pointers

take_one : (words : List Text) (ts : List Text) → TakePointer words (text ts) → TakeGood words
take_one words ts h =
    (text ts ∷ [], inl (text ts, h, refl), All-cons IsPointer (text ts) [] (IsPointer-text ts) (All-nil IsPointer))

take_patch : (words : List Text) (forms : List OperationWords) → HaveOperations words forms → All IsPointer (pointers_of forms) → TakeGood words
take_patch words forms h all = (pointers_of forms, inr (forms, h, refl), all)

takes : (words : List Text) (request : Request) → AskFor words request → TakeGood words
takes words (resolving ts) h = take_one words ts (inl h)
takes words (listing ts) h = take_one words ts (inr (inl h))
takes words (assigning ts v) h = take_one words ts (inr (inr (inl (h.0, h.1))))
takes words (deleting ts) h = take_one words ts (inr (inr (inr (inl h))))
takes words (splitting ts n) h = take_one words ts (inr (inr (inr (inr (n, h)))))
takes words (patching os) h = take_patch words h.0 h.1 (mean_pointers h.0 os h.2)

takes_values : (words values : List Text) → HaveValues words values → TakeGood words
takes_values words values (inl h) = take_one words h.0 (inr (inr (inl (h.1, h.2))))
takes_values words values (inr h) = take_patch words h.0 h.1 h.2

-- the words are those of an assignment
assigns : List Text → Bool
assigns [] = false
assigns (c ∷ ws) = bytes_eq c (codes "assign")

third : List Text → Text
third [] = []
third (c ∷ []) = []
third (c ∷ p ∷ []) = []
third (c ∷ p ∷ value ∷ ws) = value

no_assignment : (words ts : List Text) (value : Text) (C : Type 0) → HaveValue words ts value → assigns words ≡ false → C
unfolding assigns
no_assignment words ts value C h other =
    let is : assigns words ≡ true = rw h refl in
    let both : true ≡ false = sym is ∙ other in
    cc

no_patch : (words : List Text) (request : Request) (forms : List OperationWords) (C : Type 0) → is_patch request ≡ false → AskFor words request → HaveOperations words forms → C
no_patch words request forms C other h k =
    absurd (no_both words (begins_so words forms k) (begins_as_asked words request h ∙ other))

-- all values of words that ask for something are JSON texts
values_json : (words values : List Text) (request : Request) → AskFor words request → HaveValues words values → All IsJson values
unfolding assigns is_patch third
values_json words values (resolving ts) h (inl k) = no_assignment words k.0 k.1 (All IsJson values) k.2 (rw h refl)
values_json words values (listing ts) h (inl k) = no_assignment words k.0 k.1 (All IsJson values) k.2 (rw h refl)
values_json words values (assigning ts v) h (inl k) =
    let same : h.0 ≡ k.1 = ap third (sym h.1 ∙ k.2) in
    rw k.3 (one_value_json k.1 v (ap json_of (sym same) ∙ h.2))
values_json words values (deleting ts) h (inl k) = no_assignment words k.0 k.1 (All IsJson values) k.2 (rw h refl)
values_json words values (splitting ts n) h (inl k) = no_assignment words k.0 k.1 (All IsJson values) k.2 (rw h.1 refl)
values_json words values (patching os) h (inl k) = no_assignment words k.0 k.1 (All IsJson values) k.2 (rw h.1 refl)
values_json words values (resolving ts) h (inr k) = no_patch words (resolving ts) k.0 (All IsJson values) refl h k.1
values_json words values (listing ts) h (inr k) = no_patch words (listing ts) k.0 (All IsJson values) refl h k.1
values_json words values (assigning ts v) h (inr k) = no_patch words (assigning ts v) k.0 (All IsJson values) refl h k.1
values_json words values (deleting ts) h (inr k) = no_patch words (deleting ts) k.0 (All IsJson values) refl h k.1
values_json words values (splitting ts n) h (inr k) = no_patch words (splitting ts n) k.0 (All IsJson values) refl h k.1
values_json words values (patching os) h (inr k) =
    let same : h.0 ≡ k.0 = same_operations words h.0 k.0 h.1 k.1 in
    rw k.3 (mean_values k.0 os (subst (λ (fs : List OperationWords). AreOperationsOf fs os) same h.2))

-- an element in the middle of a list whose elements all are pointers
at_middle : (before : List Text) (p : Text) (after : List Text) → All IsPointer (before ++ (p ∷ after)) → IsPointer p
at_middle [] p after h = All-head IsPointer p after h
at_middle (b ∷ before) p after h = at_middle before p after (All-tail IsPointer b (before ++ (p ∷ after)) h)

-- the first text of a list that is not a pointer is unique
first_one : (before : List Text) (p : Text) (after : List Text) (front : List Text) (q : Text) (rest : List Text) → before ++ (p ∷ after) ≡ front ++ (q ∷ rest) → All IsPointer before → All IsPointer front → (IsPointer p → ⊥) → (IsPointer q → ⊥) → p ≡ q
first_one [] p after [] q rest e a b c d = cc
first_one [] p after (f ∷ front) q rest e a b c d =
    let same : f ≡ p = cc in
    absurd (c (subst IsPointer same (All-head IsPointer f front b)))
first_one (x ∷ before) p after [] q rest e a b c d =
    let same : x ≡ q = cc in
    absurd (d (subst IsPointer same (All-head IsPointer x before a)))
first_one (x ∷ before) p after (f ∷ front) q rest e a b c d =
    first_one before p after front q rest (let tail : before ++ (p ∷ after) ≡ front ++ (q ∷ rest) = cc in tail) (All-tail IsPointer x before a) (All-tail IsPointer f front b) c d

module _ (not_both : (s : Text) (e : ParseError) → IsPointer s → IsParseErrorOf s e → ⊥) (one : (s : Text) (e f : ParseError) → IsParseErrorOf s e → IsParseErrorOf s f → e ≡ f) (words : List Text) where
  -- valid pointers have no error
  not_pointer_fault : (e : RunFault) → TakeGood words → IsPointerFault words e → ⊥
  not_pointer_fault e h k =
      let same : h.0 ≡ k.0 ++ (k.1 ∷ k.2) = pointers_one words h.0 (k.0 ++ (k.1 ∷ k.2)) h.1 k.4 in
      not_both k.1 k.3 (at_middle k.0 k.1 k.2 (subst (λ (ps : List Text). All IsPointer ps) same h.2)) k.6

  not_refused : (request : Request) (e : RunFault) → AskFor words request → IsWordsFault words e ⊎ IsPointerFault words e ⊎ IsValueFault words e → ⊥
  not_refused request e h (inl k) =
      let t = takes words request h in
      k.0 t.0 t.1
  not_refused request e h (inr (inl k)) = not_pointer_fault e (takes words request h) k
  not_refused request e h (inr (inr k)) = All-contains IsJson k.0 k.1 (values_json words k.0 request h k.2) k.3 k.4

  pointer_fault_one : (e f : RunFault) → IsPointerFault words e → IsPointerFault words f → e ≡ f
  pointer_fault_one e f h k =
      let all : h.0 ++ (h.1 ∷ h.2) ≡ k.0 ++ (k.1 ∷ k.2) = pointers_one words (h.0 ++ (h.1 ∷ h.2)) (k.0 ++ (k.1 ∷ k.2)) h.4 k.4 in
      let same : h.1 ≡ k.1 = first_one h.0 h.1 h.2 k.0 k.1 k.2 all h.5 k.5 (λ p. not_both h.1 h.3 p h.6) (λ p. not_both k.1 k.3 p k.6) in
      let fault : h.3 ≡ k.3 = one k.1 h.3 k.3 (subst (λ (s : Text). IsParseErrorOf s h.3) same h.6) k.6 in
      h.7 ∙ ap (λ (x : ParseError). BadPointer x) fault ∙ sym k.7

  no_words_fault : (e : RunFault) (C : Type 0) → IsWordsFault words e → TakeGood words → C
  no_words_fault e C h t = absurd (h.0 t.0 t.1)

  refusal_one : (e f : RunFault) → IsWordsFault words e ⊎ IsPointerFault words e ⊎ IsValueFault words e → IsWordsFault words f ⊎ IsPointerFault words f ⊎ IsValueFault words f → e ≡ f
  refusal_one e f (inl h) (inl k) = h.1 ∙ sym k.1
  refusal_one e f (inl h) (inr (inl k)) = absurd (h.0 (k.0 ++ (k.1 ∷ k.2)) k.4)
  refusal_one e f (inl h) (inr (inr k)) = no_words_fault e (e ≡ f) h (takes_values words k.0 k.2)
  refusal_one e f (inr (inl h)) (inl k) = absurd (k.0 (h.0 ++ (h.1 ∷ h.2)) h.4)
  refusal_one e f (inr (inl h)) (inr (inl k)) = pointer_fault_one e f h k
  refusal_one e f (inr (inl h)) (inr (inr k)) = absurd (not_pointer_fault e (takes_values words k.0 k.2) h)
  refusal_one e f (inr (inr h)) (inl k) = no_words_fault f (e ≡ f) k (takes_values words h.0 h.2)
  refusal_one e f (inr (inr h)) (inr (inl k)) = absurd (not_pointer_fault f (takes_values words h.0 h.2) k)
  refusal_one e f (inr (inr h)) (inr (inr k)) = h.5 ∙ sym k.5

  pub asks_one : (r q : Result Request RunFault) → Asks words r → Asks words q → r ≡ q
  asks_one (Ok r) (Ok q) h k = ap (λ (x : Request). Ok x) (request_one words r q h k)
  asks_one (Ok r) (Err f) h k = absurd (not_refused r f h k)
  asks_one (Err e) (Ok q) h k = absurd (not_refused q e k h)
  asks_one (Err e) (Err f) h k = ap (λ (x : RunFault). Err x) (refusal_one e f h k)

-- ---- the line

-- two JSON lines of one value are equal, if it contains no float
pub line_one : (value : Data) (l m : Text) → has_float value ≡ false → IsJsonLine value l → IsJsonLine value m → l ≡ m
line_one value l m none h k =
    h.2 ∙ ap (λ (t : Text). t ++ 10 ∷ []) (h.1.exact none ∙ sym (k.1.exact none)) ∙ sym k.2

-- ---- the operation

-- what follows from two results on a document, and also if there is none, follows from the results on the bytes
on_both : (o : Option Data) (P Q : Data → Type 0) (r q : Result Data RunFault) (C : Type 0) → (r ≡ Err InputNotJson → q ≡ Err InputNotJson → C) → ((d : Data) → P d → Q d → C) → MatchOption o (r ≡ Err InputNotJson) P
    → MatchOption o (q ≡ Err InputNotJson) Q → C
on_both None P Q r q C none some h k = none h k
on_both (Some d) P Q r q C none some h k = some d h k

-- the same for parsed bytes: the keys of the document are sorted
on_document : (bytes : List ℕ) (P Q : Data → Type 0) (r q : Result Data RunFault) (C : Type 0) → (r ≡ Err InputNotJson → q ≡ Err InputNotJson → C) → ((d : Data) → HasSortedKeys d → P d → Q d → C) → MatchOption (json_of bytes) (r ≡ Err InputNotJson) P
    → MatchOption (json_of bytes) (q ≡ Err InputNotJson) Q → C
on_document bytes P Q r q C none some h k = by_data (json_of bytes) refl h k
  where
    by_data : (o : Option Data) → json_of bytes ≡ o → MatchOption o (r ≡ Err InputNotJson) P → MatchOption o (q ≡ Err InputNotJson) Q → C
    by_data None is a b = none a b
    by_data (Some d) is a b = some d (ascends_json bytes d is) a b

abbrev value_given : Data → Result Data RunFault
value_given d = Ok d

abbrev refusal : RunFault → Result Data RunFault
refusal e = Err e

value_or_fault : (value : Data) (e : RunFault) (C : Type 0) → value_given value ≡ refusal e → C
value_or_fault value e C h = cc

fault_of : (e f : RunFault) → refusal e ≡ refusal f → e ≡ f
fault_of e f h = cc

value_of : (d e : Data) → value_given d ≡ value_given e → d ≡ e
value_of d e h = cc

module _ (not_both : (n : NodeMap) (tokens : List Text) (m : NodeMap) (e : resolve.Error) → Finds n tokens m → Refuses n tokens e → ⊥)
    (one : (n : NodeMap) (tokens : List Text) (e f : resolve.Error) → Refuses n tokens e → Refuses n tokens f → e ≡ f) where
  resolves_one : (d : Data) (ts : List Text) (r q : Result Data RunFault) → Resolves d ts r → Resolves d ts q → r ≡ q
  resolves_one d ts (Ok v) (Ok w) h k = ap (λ (x : Data). Ok x) (FindsValue_one d ts v w h k)
  resolves_one d ts (Ok v) (Err f) h k = absurd (not_both (nodes d) ts (nodes v) k.0 (FindsValue-Finds d ts v h) k.1)
  resolves_one d ts (Err e) (Ok w) h k = absurd (not_both (nodes d) ts (nodes w) h.0 (FindsValue-Finds d ts w k) h.1)
  resolves_one d ts (Err e) (Err f) h k =
      let error : h.0 ≡ k.0 = one (nodes d) ts h.0 k.0 h.1 k.1 in
      ap (λ (x : RunFault). Err x) (h.2 ∙ ap (λ (x : resolve.Error). NoValue x) error ∙ sym k.2)

  pub resolving_one : (ts : List Text) (bytes : List ℕ) (r q : Result Data RunFault) → IsRunOutcome (resolving ts) bytes r → IsRunOutcome (resolving ts) bytes q → r ≡ q
  resolving_one ts bytes r q h k =
      on_both (json_of bytes) (λ d. Resolves d ts r) (λ d. Resolves d ts q) r q (r ≡ q) (λ x y. x ∙ sym y) (λ d. resolves_one d ts r q) h k

pub listing_one : (ts : List Text) (bytes : List ℕ) (r q : Result Data RunFault) → IsRunOutcome (listing ts) bytes r → IsRunOutcome (listing ts) bytes q → r ≡ q
listing_one ts bytes r q h k = h ∙ sym k

same_front : (f g us vs : List Text) → f ++ us ≡ g ++ vs → length f ≡ length g → (f ≡ g) × (us ≡ vs)
same_front f g us vs e h = (sym (take_at f us (length f) refl) ∙ ap (take (length f)) e ∙ take_at g vs (length f) (sym h), sym (drop_at f us (length f) refl) ∙ ap (drop (length f)) e ∙ drop_at g vs (length f) (sym h))

pub splitting_one : (ts : List Text) (n : ℕ) (bytes : List ℕ) (r q : Result Data RunFault) → IsRunOutcome (splitting ts n) bytes r → IsRunOutcome (splitting ts n) bytes q → r ≡ q
splitting_one ts n bytes (Ok v) (Ok w) h k =
    let same = same_front h.0 k.0 h.1 k.1 (sym h.2 ∙ k.2) (h.3 ∙ sym k.3) in
    ap (λ (x : Data). Ok x) (h.4 ∙ ap₂ (λ (f g : List Text). texts_value (text f ∷ text g ∷ [])) same.0 same.1 ∙ sym k.4)
splitting_one ts n bytes (Ok v) (Err f) h k = absurd (omega (arith, k.0, h.3, ap length h.2, length-append h.0 h.1))
splitting_one ts n bytes (Err e) (Ok w) h k = absurd (omega (arith, h.0, k.3, ap length k.2, length-append k.0 k.1))
splitting_one ts n bytes (Err e) (Err f) h k = ap (λ (x : RunFault). Err x) (h.1 ∙ sym k.1)

-- a JSON value is a document
is_document : (d : Data) → IsDocument (nodes d)
is_document d = (map_of-IsTree (content d), map_of-finite (content d))

-- the result of a patch is a document or an error, and each is unique
module _ (not_both : (n m : NodeMap) (os : List Operation) (e : PatchError) → IsDocument n → Patches n os m → RefusesPatch n os e → ⊥) (d : Data) (os : List OperationData) where
  pub patches_not_both : (value : Data) (e : RunFault) → PatchesOrFails d os (Ok value) → PatchesOrFails d os (Err e) → ⊥
  patches_not_both value e h k =
      not_both (nodes d) (nodes value) h.0 k.1 (is_document d) h.2 (refused_same (nodes d) k.0 h.0 k.1 (k.2 ∙ sym h.1) k.3)

module _ (one : (n : NodeMap) (os : List Operation) (e f : PatchError) → IsDocument n → RefusesPatch n os e → RefusesPatch n os f → e ≡ f) (d : Data) (os : List OperationData) where
  pub patches_one_fault : (e f : RunFault) → PatchesOrFails d os (Err e) → PatchesOrFails d os (Err f) → e ≡ f
  patches_one_fault e f h k =
      let same : h.1 ≡ k.1 = one (nodes d) k.0 h.1 k.1 (is_document d) (refused_same (nodes d) h.0 k.0 h.1 (h.2 ∙ sym k.2) h.3) k.3 in
      h.4 ∙ ap (λ (x : PatchError). BadPatch x) same ∙ sym k.4

module _ (one : (n m l : NodeMap) (os : List Operation) → IsDocument n → Patches n os m → Patches n os l → m ≡ l) (d : Data) (os : List OperationData) where
  pub patches_one_map : (value other : Data) → PatchesOrFails d os (Ok value) → PatchesOrFails d os (Ok other) → nodes value ≡ nodes other
  patches_one_map value other h k =
      one (nodes d) (nodes value) (nodes other) k.0 (is_document d) (patches_same (nodes d) (nodes value) h.0 k.0 (h.1 ∙ sym k.1) h.2) k.2

-- the values of a patch that words ask for have sorted keys
asked_in_order : (words : List Text) (os : List OperationData) (patch : List Operation) → AskFor words (patching os) → map data_of patch ≡ os → All OperationHasSortedKeys patch
asked_in_order words os patch h is = mean_in_order h.0 patch (subst (λ (l : List OperationData). AreOperationsOf h.0 l) (sym is) h.2)

-- two documents with the same map are equal, if the keys of both are sorted
abbrev OneMap : Type 0
OneMap = (d e : Data) → HasSortedKeys d → HasSortedKeys e → nodes d ≡ nodes e → d ≡ e

-- the result of resolving is unique
abbrev OneResolved : Type 0
OneResolved = (ts : List Text) (bytes : List ℕ) (r q : Result Data RunFault) → IsRunOutcome (resolving ts) bytes r → IsRunOutcome (resolving ts) bytes q → r ≡ q

module _ (resolved_one : OneResolved) (assign_not_both : (n : NodeMap) (tokens : List Text) (v m : NodeMap) (old : Option NodeMap) (e : assign.Error) → Assigns n tokens v m old → RefusesAssign n tokens e → ⊥)
    (patch_not_both : (n m : NodeMap) (os : List Operation) (e : PatchError) → IsDocument n → Patches n os m → RefusesPatch n os e → ⊥) where
  pub not_both : (request : Request) (bytes : List ℕ) (value : Data) (e : RunFault) → IsRunOutcome request bytes (Ok value) → IsRunOutcome request bytes (Err e) → ⊥
  not_both (resolving ts) bytes value e h k = value_or_fault value e ⊥ (resolved_one ts bytes (Ok value) (Err e) h k)
  not_both (listing ts) bytes value e h k = value_or_fault value e ⊥ (listing_one ts bytes (Ok value) (Err e) h k)
  not_both (assigning ts v) bytes value e h k =
      on_both (json_of bytes) (λ d. AssignsAt d ts v (Ok value)) (λ d. AssignsAt d ts v (Err e)) (Ok value) (Err e) ⊥ (λ x y. value_or_fault value InputNotJson ⊥ x)
      (λ d a b. assign_not_both (nodes d) ts (nodes v) (nodes value) a.0 b.0 a.1 b.1) h k
  not_both (deleting ts) bytes value e h k =
      on_both (json_of bytes) (λ d. DeletesAt d ts (Ok value)) (λ d. DeletesAt d ts (Err e)) (Ok value) (Err e) ⊥ (λ x y. value_or_fault value InputNotJson ⊥ x)
      (λ d a b. b.0 a.0.0 a.0.1) h k
  not_both (splitting ts n) bytes value e h k = value_or_fault value e ⊥ (splitting_one ts n bytes (Ok value) (Err e) h k)
  not_both (patching os) bytes value e h k =
      on_both (json_of bytes) (λ d. PatchesOrFails d os (Ok value)) (λ d. PatchesOrFails d os (Err e)) (Ok value) (Err e) ⊥ (λ x y. value_or_fault value InputNotJson ⊥ x)
      (λ d a b. patches_not_both patch_not_both d os value e a b) h k

module _ (resolved_one : OneResolved) (refused_one : (n : NodeMap) (tokens : List Text) (e f : assign.Error) → RefusesAssign n tokens e → RefusesAssign n tokens f → e ≡ f)
    (patch_refused_one : (n : NodeMap) (os : List Operation) (e f : PatchError) → IsDocument n → RefusesPatch n os e → RefusesPatch n os f → e ≡ f) where
  pub one_fault : (request : Request) (bytes : List ℕ) (e f : RunFault) → IsRunOutcome request bytes (Err e) → IsRunOutcome request bytes (Err f) → e ≡ f
  one_fault (resolving ts) bytes e f h k = fault_of e f (resolved_one ts bytes (Err e) (Err f) h k)
  one_fault (listing ts) bytes e f h k = fault_of e f (listing_one ts bytes (Err e) (Err f) h k)
  one_fault (assigning ts v) bytes e f h k =
      on_both (json_of bytes) (λ d. AssignsAt d ts v (Err e)) (λ d. AssignsAt d ts v (Err f)) (Err e) (Err f) (e ≡ f) (λ x y. fault_of e f (x ∙ sym y))
      (λ d a b. a.2 ∙ ap (λ (x : assign.Error). BadPlace x) (refused_one (nodes d) ts a.0 b.0 a.1 b.1) ∙ sym b.2) h k
  one_fault (deleting ts) bytes e f h k =
      on_both (json_of bytes) (λ d. DeletesAt d ts (Err e)) (λ d. DeletesAt d ts (Err f)) (Err e) (Err f) (e ≡ f) (λ x y. fault_of e f (x ∙ sym y)) (λ d a b. a.1 ∙ sym b.1) h k
  one_fault (splitting ts n) bytes e f h k = fault_of e f (splitting_one ts n bytes (Err e) (Err f) h k)
  one_fault (patching os) bytes e f h k =
      on_both (json_of bytes) (λ d. PatchesOrFails d os (Err e)) (λ d. PatchesOrFails d os (Err f)) (Err e) (Err f) (e ≡ f) (λ x y. fault_of e f (x ∙ sym y))
      (λ d a b. patches_one_fault patch_refused_one d os e f a b) h k

module _ (resolved_one : OneResolved) (one_map : OneMap) (tree : (d : Data) → IsTree (nodes d))
    (made_one : (n : NodeMap) (tokens : List Text) (v m k : NodeMap) (old was : Option NodeMap) → Assigns n tokens v m old → Assigns n tokens v k was → (m ≡ k) × (old ≡ was))
    (deleted_one : (n blank : NodeMap) (tokens : List Text) (m k : NodeMap) → IsTree n → Deletes n tokens blank m → Deletes n tokens blank k → m ≡ k)
    (patched_one : (n m l : NodeMap) (os : List Operation) → IsDocument n → Patches n os m → Patches n os l → m ≡ l) where
  pub one_value : (words : List Text) (request : Request) (bytes : List ℕ) (value other : Data) → AskFor words request → IsRunOutcome request bytes (Ok value) → IsRunOutcome request bytes (Ok other) → value ≡ other
  one_value words (resolving ts) bytes value other asks h k = value_of value other (resolved_one ts bytes (Ok value) (Ok other) h k)
  one_value words (listing ts) bytes value other asks h k = value_of value other (listing_one ts bytes (Ok value) (Ok other) h k)
  one_value words (assigning ts v) bytes value other asks h k =
      on_document bytes (λ d. AssignsAt d ts v (Ok value)) (λ d. AssignsAt d ts v (Ok other)) (Ok value) (Ok other) (value ≡ other) (λ x y. value_or_fault value InputNotJson (value ≡ other) x)
      (λ d order x y.
      let given : HasSortedKeys v = ascends_json asks.0 v asks.2 in
      one_map value other (x.2 given order) (y.2 given order) (made_one (nodes d) ts (nodes v) (nodes value) (nodes other) x.0 y.0 x.1 y.1).0) h k
  one_value words (deleting ts) bytes value other asks h k =
      on_document bytes (λ d. DeletesAt d ts (Ok value)) (λ d. DeletesAt d ts (Ok other)) (Ok value) (Ok other) (value ≡ other) (λ x y. value_or_fault value InputNotJson (value ≡ other) x)
      (λ d order x y. one_map value other (x.2 order) (y.2 order) (deleted_one (nodes d) (nodes null) ts (nodes value) (nodes other) (tree d) x.1 y.1)) h k
  one_value words (splitting ts n) bytes value other asks h k = value_of value other (splitting_one ts n bytes (Ok value) (Ok other) h k)
  one_value words (patching os) bytes value other asks h k =
      on_document bytes (λ d. PatchesOrFails d os (Ok value)) (λ d. PatchesOrFails d os (Ok other)) (Ok value) (Ok other) (value ≡ other) (λ x y. value_or_fault value InputNotJson (value ≡ other) x)
      (λ d order x y.
      one_map value other (x.3 (asked_in_order words os x.0 asks x.1) order) (y.3 (asked_in_order words os y.0 asks y.1) order) (patches_one_map patched_one d os value other x y)) h k
