-- A document is at most one patch, has at most one error, and not both. Its elements, read one after the other.
use Rattle.std.proofs.Common.{◌≡◌, ℕ, suc, ◌+◌, ◌<◌, Result, Ok, Err, Some, List, [], ◌∷◌, ◌++◌, length, take, drop, get_or, inl, inr, refl, sym, ap, ◌∙◌, subst, arith}
use Rattle.std.specs.Prelude.{IsErrAnd}
use Rattle.std.proofs.Math.Seq.{drop-cons}
use Rattle.std.proofs.lemmas.List.{take_more, take-append-drop, length-take-le}
use Rattle.serde_json.specs.Find.{as_array}
use Rattle.jsonptr.specs.Fault.{IfRefused}
use Rattle.jsonptr.specs.Types.Fault.{Fault}
use Rattle.jsonptr.specs.Types.Fault.TheVariants.{Refused, Memory}
use Rattle.serde_json.specs.Data as json
use Rattle.serde_json.specs.View.{view, items_view}
use Rattle.serde_json.specs.declared.value.Value.{Value}
use Rattle.jsonptr_patch.specs.declared.operation.Operation.{Operation}
use Rattle.jsonptr_patch_document.specs.Object.{IsOperationObject, IsNoOperationObject}
use Rattle.jsonptr_patch_document.specs.Document.{AreOperations, IsPatch, HasNoOperation, IsNoPatch}
use Rattle.jsonptr_patch_document.specs.Same.{AreSameOperations}
use Rattle.jsonptr_patch_document.specs.declared.error.PatchDocumentError.{PatchDocumentError}
use Rattle.jsonptr_patch_document.proofs.ObjectLemmas.{one_operation}

one_list : (ds : json.Items) (os ps : List Operation) → AreOperations ds os → AreOperations ds ps → AreSameOperations os ps
one_list json.no_items [] [] h k = tt
one_list json.no_items [] (p ∷ ps) h k = absurd k
one_list json.no_items (o ∷ os) ps h k = absurd h
one_list (json.item d ds) [] ps h k = absurd h
one_list (json.item d ds) (o ∷ os) [] h k = absurd k
one_list (json.item d ds) (o ∷ os) (p ∷ ps) h k = (one_operation d o p h.0 k.0, one_list ds os ps h.1 k.1)

one_array : (d : json.Data) (ds es : json.Items) → d ≡ json.array ds → d ≡ json.array es → ds ≡ es
one_array d ds es p q =
    let both : json.array ds ≡ json.array es = sym p ∙ q in
    cc

-- two patches are one
pub one_patch : (d : json.Data) (os ps : List Operation) → IsPatch d os → IsPatch d ps → AreSameOperations os ps
one_patch d os ps h k = one_list k.0 os ps (subst (λ (ds : json.Items). AreOperations ds os) (one_array d h.0 k.0 h.1 k.1) h.2) k.2

module _
    (operation_or_not : (d : json.Data) (k : ℕ) (o : Operation) (e : PatchDocumentError) → IsOperationObject d o → IsNoOperationObject d k e → ⊥)
    (one_operation_error : (d : json.Data) (k : ℕ) (e f : PatchDocumentError) → IsNoOperationObject d k e → IsNoOperationObject d k f → e ≡ f) where
  list_or_not : (ds : json.Items) (os : List Operation) (k : ℕ) (e : PatchDocumentError) → AreOperations ds os → HasNoOperation ds k e → ⊥
  list_or_not json.no_items os k e h q = q
  list_or_not (json.item d ds) [] k e h q = h
  list_or_not (json.item d ds) (o ∷ os) k e h (inl q) = operation_or_not d k o e h.0 q
  list_or_not (json.item d ds) (o ∷ os) k e h (inr q) = list_or_not ds os (suc k) e h.1 q.1

  one_list_error : (ds : json.Items) (k : ℕ) (e f : PatchDocumentError) → HasNoOperation ds k e → HasNoOperation ds k f → e ≡ f
  one_list_error json.no_items k e f p q = absurd p
  one_list_error (json.item d ds) k e f (inl p) (inl q) = one_operation_error d k e f p q
  one_list_error (json.item d ds) k e f (inl p) (inr q) = absurd (operation_or_not d k q.0.0 e q.0.1 p)
  one_list_error (json.item d ds) k e f (inr p) (inl q) = absurd (operation_or_not d k p.0.0 f p.0.1 q)
  one_list_error (json.item d ds) k e f (inr p) (inr q) = one_list_error ds (suc k) e f p.1 q.1

  -- a patch has no error
  pub patch_or_not : (d : json.Data) (os : List Operation) (e : PatchDocumentError) → IsPatch d os → IsNoPatch d e → ⊥
  patch_or_not d os e h (inl q) = q.0 h.0 h.1
  patch_or_not d os e h (inr q) = list_or_not q.0 os 0 e (subst (λ (ds : json.Items). AreOperations ds os) (one_array d h.0 q.0 h.1 q.1) h.2) q.2

  -- two errors are one
  pub one_patch_error : (d : json.Data) (e f : PatchDocumentError) → IsNoPatch d e → IsNoPatch d f → e ≡ f
  one_patch_error d e f (inl p) (inl q) = p.1 ∙ sym q.1
  one_patch_error d e f (inl p) (inr q) = absurd (p.0 q.0 q.1)
  one_patch_error d e f (inr p) (inl q) = absurd (q.0 p.0 p.1)
  one_patch_error d e f (inr p) (inr q) = one_list_error q.0 0 e f (subst (λ (ds : json.Items). HasNoOperation ds 0 e) (one_array d p.0 q.0 p.1 q.1) p.2) q.2

-- one element more
pub are_push : (vs : List Value) (v : Value) (os : List Operation) (o : Operation) → AreOperations (items_view vs) os → IsOperationObject (view v) o → AreOperations (items_view (vs ++ v ∷ [])) (os ++ o ∷ [])
are_push [] v [] o h p = (p, tt)
are_push [] v (q ∷ os) o h p = absurd h
are_push (u ∷ vs) v [] o h p = absurd h
are_push (u ∷ vs) v (q ∷ os) o h p = (h.0, are_push vs v os o h.1 p)

-- the first element that is not an operation
pub bad_after : (vs : List Value) (v : Value) (rest : List Value) (os : List Operation) (k n : ℕ) (e : PatchDocumentError) → AreOperations (items_view vs) os → n ≡ k + length vs → IsNoOperationObject (view v) n e → HasNoOperation (items_view (vs ++ v ∷ rest)) k e
bad_after [] v rest [] k n e h at q = inl (subst (λ (j : ℕ). IsNoOperationObject (view v) j e) (omega (arith, at)) q)
bad_after [] v rest (o ∷ os) k n e h at q = absurd h
bad_after (u ∷ vs) v rest [] k n e h at q = absurd h
bad_after (u ∷ vs) v rest (o ∷ os) k n e h at q = inr ((o, h.0), bad_after vs v rest os (suc k) n e h.1 (omega (arith, at)) q)

-- the element at an index, after the operations before it
pub are_more : (vs : List Value) (i : ℕ) (v : Value) (os : List Operation) (o : Operation) → i < length vs → v ≡ get_or vs i v → AreOperations (items_view (take i vs)) os → IsOperationObject (view v) o → AreOperations (items_view (take (i + 1) vs)) (os ++ o ∷ [])
are_more vs i v os o inside is h p =
    let next : take (i + 1) vs ≡ take i vs ++ v ∷ [] = take_more vs i v inside ∙ ap (λ (x : Value). take i vs ++ x ∷ []) (sym is) in
    subst (λ (l : List Value). AreOperations (items_view l) (os ++ o ∷ [])) (sym next) (are_push (take i vs) v os o h p)

pub bad_at : (vs : List Value) (i : ℕ) (v : Value) (os : List Operation) (e : PatchDocumentError) → i < length vs → v ≡ get_or vs i v → AreOperations (items_view (take i vs)) os → IsNoOperationObject (view v) i e → HasNoOperation (items_view vs) 0 e
bad_at vs i v os e inside is h q =
    let split : take i vs ++ v ∷ drop (suc i) vs ≡ vs =
    ap (λ (x : Value). take i vs ++ x ∷ drop (suc i) vs) is ∙ ap (λ (l : List Value). take i vs ++ l) (sym (drop-cons vs i v inside)) ∙ take-append-drop i vs in
    let long : length (take i vs) ≡ i = length-take-le i vs (omega (arith, inside)) in
    subst (λ (l : List Value). HasNoOperation (items_view l) 0 e) split (bad_after (take i vs) v (drop (suc i) vs) os 0 i e h (omega (arith, long)) q)

-- the elements of an array
pub array_seen : (d : json.Data) (ds : json.Items) → Some ds ≡ as_array d → d ≡ json.array ds
array_seen json.null ds h = let no : ⊥ = cc in absurd no
array_seen (json.boolean b) ds h = let no : ⊥ = cc in absurd no
array_seen (json.number n) ds h = let no : ⊥ = cc in absurd no
array_seen (json.string s) ds h = let no : ⊥ = cc in absurd no
array_seen (json.array es) ds h =
    let same : es ≡ ds = cc in
    ap (λ (x : json.Items). json.array x) same
array_seen (json.object ms) ds h = let no : ⊥ = cc in absurd no

pub no_entries : (d : json.Data) (vs : List Value) → Some (items_view vs) ≡ as_array d → d ≡ json.array json.no_items → vs ≡ []
no_entries d [] h is = refl
no_entries d (v ∷ vs) h is =
    let same : json.item (view v) (items_view vs) ≡ json.no_items = one_array d (items_view (v ∷ vs)) json.no_items (array_seen d (items_view (v ∷ vs)) h) is in
    let no : ⊥ = cc in
    absurd no

-- why an element is not an operation is why the document is not a patch
pub refused_weaker : {T E : Type 0} (r : Result T (Fault E)) (P Q : E → Type 0) → ((e : E) → P e → Q e) → IfRefused r P → IfRefused r Q
refused_weaker (Ok v) P Q all h = tt
refused_weaker (Err (Refused e)) P Q all h = all e h
refused_weaker (Err (Memory e)) P Q all h = tt

-- an error that is passed on
pub refused_on : {T U E : Type 0} (s : Result U (Fault E)) (r : Result T (Fault E)) (fault : Fault E) (P Q : E → Type 0) → ((e : E) → P e → Q e) → s ≡ Err fault → IfRefused s P → IsErrAnd r (λ f. f ≡ fault) → IfRefused r Q
refused_on s (Ok v) fault P Q all is h same = absurd same
refused_on {T} {U} {E} s (Err f) fault P Q all is h same = refused_weaker {T = T} (Err f) P Q all (at f (subst (λ x. IfRefused x P) is h) same)
  where
    at : (f : Fault E) → IfRefused {T = U} (Err fault) P → f ≡ fault → IfRefused {T = T} (Err f) P
    at f h same = subst (λ x. IfRefused {T = T} (Err x) P) (sym same) (swap fault h)
      where
        swap : (x : Fault E) → IfRefused {T = U} (Err x) P → IfRefused {T = T} (Err x) P
        swap (Refused e) h = h
        swap (Memory e) h = h
