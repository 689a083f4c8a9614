-- The result of operations depends only on their data, and words mean one list of data.
use Rattle.std.proofs.Common.{◌≡◌, ℕ, List, [], ◌∷◌, ◌++◌, map, length, Option, Some, None, option_map, refl, sym, ap, ap₂, ◌∙◌, subst}
use Rattle.std.specs.Prelude.{All}
use Rattle.std.proofs.lemmas.List.{length-map}
use Rattle.std.proofs.lemmas.List.Elements.{All-nil, All-cons, All-append}
use Rattle.serde_json.specs.Data.{Data}
use Rattle.serde_json.specs.View.{view}
use Rattle.jsonptr.specs.Text.{Text, text, tokens_of}
use Rattle.jsonptr.specs.Grammar.{IsPointer}
use Rattle.jsonptr.specs.Json.{nodes}
use Rattle.jsonptr.specs.Node.{NodeMap}
use Rattle.jsonptr.specs.Resolve.{PutsAt}
use Rattle.jsonptr.proofs.Calling.{tokens_of-text, IsPointer-text}
use Rattle.jsonptr_patch.specs.Adding.{Adds}
use Rattle.jsonptr_patch.specs.Operating.{Applies, Takes, Moves, Copies, Passes, RefusesOperation, RefusesAdd, RefusesTarget, RefusesMove, RefusesCopy, RefusesTest}
use Rattle.jsonptr_patch.specs.Order.{OperationHasSortedKeys}
use Rattle.jsonptr_patch.specs.Failing.{failed}
use Rattle.jsonptr_patch.specs.Patching.{Patches, FailsBy, RefusesPatch}
use Rattle.jsonptr_patch.specs.declared.operation.Operation.{Operation}
use Rattle.jsonptr_patch.specs.declared.operation.Operation.TheVariants as operation
use Rattle.jsonptr_patch.specs.declared.comparison.Comparison.TheVariants.{Strict}
use Rattle.jsonptr_patch.specs.declared.failed_operation.FailedOperation.{FailedOperation}
use Rattle.jsonptr_patch.specs.declared.failed_operation.PatchPointer.TheVariants as pointer
use Rattle.jsonptr_patch.specs.declared.operation.PatchError.{PatchError}
use Rattle.jsonptr_run_command.proofs.OrderLemmas.{ascends_json}
use Rattle.jsonptr_run_command.specs.JsonText.{json_of}
use Rattle.jsonptr_run_command.specs.Operations.{OperationWords, add, remove, replace, move, copy, test, operation_pointers, operation_values, pointers_of, values_of, OperationData, adding, removing, replacing, moving, copying, testing, data_of, IsOperationOf, AreOperationsOf}

-- ---- what is applied

applies : NodeMap → OperationData → NodeMap → Type 0
applies n (adding ts v) m = Adds n ts (nodes v) m
applies n (removing ts) m = (v : NodeMap) × Takes n ts v m
applies n (replacing ts v) m = PutsAt n ts (nodes v) m
applies n (moving us ts) m = Moves n us ts m
applies n (copying us ts) m = Copies n us ts m
applies n (testing ts v) m = Passes n ts (nodes v) × (m ≡ n)

refuses : NodeMap → ℕ → OperationData → FailedOperation → Type 0
refuses n k (adding ts v) e = RefusesAdd n k ts e
refuses n k (removing ts) e = RefusesTarget n k pointer.Path ts e
refuses n k (replacing ts v) e = RefusesTarget n k pointer.Path ts e
refuses n k (moving us ts) e = RefusesMove n k us ts e
refuses n k (copying us ts) e = RefusesCopy n k us ts e
refuses n k (testing ts v) e = RefusesTest n k ts (nodes v) e

applies_data : (n m : NodeMap) (o : Operation) → Applies n o m ≡ applies n (data_of o) m
unfolding applies
applies_data n m (operation.Add path value) = refl
applies_data n m (operation.Remove path) = refl
applies_data n m (operation.Replace path value) = refl
applies_data n m (operation.Move from path) = refl
applies_data n m (operation.Copy from path) = refl
applies_data n m (operation.Test path value) = refl

refuses_data : (n : NodeMap) (k : ℕ) (o : Operation) (e : FailedOperation) → RefusesOperation n k o e ≡ refuses n k (data_of o) e
unfolding refuses
refuses_data n k (operation.Add path value) e = refl
refuses_data n k (operation.Remove path) e = refl
refuses_data n k (operation.Replace path value) e = refl
refuses_data n k (operation.Move from path) e = refl
refuses_data n k (operation.Copy from path) e = refl
refuses_data n k (operation.Test path value) e = refl

applies_same : (n m : NodeMap) (o p : Operation) → data_of o ≡ data_of p → Applies n o m → Applies n p m
applies_same n m o p same h =
    let is : Applies n o m ≡ Applies n p m = applies_data n m o ∙ ap (λ (x : OperationData). applies n x m) same ∙ sym (applies_data n m p) in
    subst (λ (T : Type 0). T) is h

refuses_same : (n : NodeMap) (k : ℕ) (o p : Operation) (e : FailedOperation) → data_of o ≡ data_of p → RefusesOperation n k o e → RefusesOperation n k p e
refuses_same n k o p e same h =
    let is : RefusesOperation n k o e ≡ RefusesOperation n k p e = refuses_data n k o e ∙ ap (λ (x : OperationData). refuses n k x e) same ∙ sym (refuses_data n k p e) in
    subst (λ (T : Type 0). T) is h

-- lists with the same data have the same result
pub patches_same : (n m : NodeMap) (os ps : List Operation) → map data_of os ≡ map data_of ps → Patches n os m → Patches n ps m
patches_same n m [] [] same h = h
patches_same n m [] (p ∷ ps) same h = let no : ⊥ = cc in absurd no
patches_same n m (o ∷ os) [] same h = let no : ⊥ = cc in absurd no
patches_same n m (o ∷ os) (p ∷ ps) same h =
    let first : data_of o ≡ data_of p = cc in
    let rest : map data_of os ≡ map data_of ps = cc in
    (h.0, applies_same n h.0 o p first h.1, patches_same h.0 m os ps rest h.2)

-- a list with the same data as one in two parts has two such parts
split_same : (ps done : List Operation) (o : Operation) (rest : List Operation) → map data_of (done ++ o ∷ rest) ≡ map data_of ps → (before : List Operation) × (p : Operation) × (after : List Operation)
    × (ps ≡ before ++ p ∷ after)
    × (map data_of done ≡ map data_of before)
    × (data_of o ≡ data_of p)
split_same [] [] o rest same = let no : ⊥ = cc in absurd no
split_same [] (d ∷ done) o rest same = let no : ⊥ = cc in absurd no
split_same (p ∷ ps) [] o rest same =
    let first : data_of o ≡ data_of p = cc in
    ([], p, ps, refl, refl, first)
split_same (p ∷ ps) (d ∷ done) o rest same =
    let first : data_of d ≡ data_of p = cc in
    let r = split_same ps done o rest (let tail : map data_of (done ++ o ∷ rest) ≡ map data_of ps = cc in tail) in
    (p ∷ r.0, r.1, r.2, ap (λ (l : List Operation). p ∷ l) r.3, ap₂ (λ (x : OperationData) (l : List OperationData). x ∷ l) first r.4, r.5)

-- and fail alike
fails_same : (n : NodeMap) (os ps : List Operation) (e : FailedOperation) → map data_of os ≡ map data_of ps → FailsBy Strict n os e → FailsBy Strict n ps e
fails_same n os ps e same h =
    let r = split_same ps h.done h.fails h.rest (ap (map data_of) (sym h.split) ∙ same) in
    let long : length h.done ≡ length r.0 = sym (length-map h.done data_of) ∙ ap (λ (l : List OperationData). length l) r.4 ∙ length-map r.0 data_of in
    record {
      done = r.0;
      fails = r.1;
      rest = r.2;
      left = h.left;
      split = r.3;
      applied = patches_same n h.left h.done r.0 r.4 h.applied;
      refused = refuses_same h.left (length r.0) h.fails r.1 e r.5 (subst (λ (k : ℕ). RefusesOperation h.left k h.fails e) long h.refused);
    }

-- ---- what words mean

-- what the words of an operation mean, computed
meaning : OperationWords → Option OperationData
meaning (add pointer value) = option_map (λ v. adding (tokens_of pointer) v) (json_of value)
meaning (remove pointer) = Some (removing (tokens_of pointer))
meaning (replace pointer value) = option_map (λ v. replacing (tokens_of pointer) v) (json_of value)
meaning (move from pointer) = Some (moving (tokens_of from) (tokens_of pointer))
meaning (copy from pointer) = Some (copying (tokens_of from) (tokens_of pointer))
meaning (test pointer value) = option_map (λ v. testing (tokens_of pointer) v) (json_of value)

is_meant : (form : OperationWords) (o : OperationData) → IsOperationOf form o → meaning form ≡ Some o
unfolding meaning
is_meant form (adding ts v) h = rw (h.1, h.2) (ap (λ (us : List Text). Some (adding us v)) (tokens_of-text ts))
is_meant form (removing ts) h = rw h (ap (λ (us : List Text). Some (removing us)) (tokens_of-text ts))
is_meant form (replacing ts v) h = rw (h.1, h.2) (ap (λ (us : List Text). Some (replacing us v)) (tokens_of-text ts))
is_meant form (moving vs ts) h = rw h (ap₂ (λ (us xs : List Text). Some (moving us xs)) (tokens_of-text vs) (tokens_of-text ts))
is_meant form (copying vs ts) h = rw h (ap₂ (λ (us xs : List Text). Some (copying us xs)) (tokens_of-text vs) (tokens_of-text ts))
is_meant form (testing ts v) h = rw (h.1, h.2) (ap (λ (us : List Text). Some (testing us v)) (tokens_of-text ts))

means_one : (form : OperationWords) (o p : OperationData) → IsOperationOf form o → IsOperationOf form p → o ≡ p
means_one form o p h k =
    let both : Some o ≡ Some p = sym (is_meant form o h) ∙ is_meant form p k in
    cc

pub mean_one : (forms : List OperationWords) (os ps : List OperationData) → AreOperationsOf forms os → AreOperationsOf forms ps → os ≡ ps
mean_one [] [] [] h k = refl
mean_one [] [] (p ∷ ps) h k = absurd k
mean_one [] (o ∷ os) ps h k = absurd h
mean_one (form ∷ forms) [] ps h k = absurd h
mean_one (form ∷ forms) (o ∷ os) [] h k = absurd k
mean_one (form ∷ forms) (o ∷ os) (p ∷ ps) h k =
    ap₂ (λ (x : OperationData) (l : List OperationData). x ∷ l) (means_one form o p h.0 k.0) (mean_one forms os ps h.1 k.1)

-- their pointers are valid

abbrev AllPointers : List Text → Type 0
AllPointers pointers = All IsPointer pointers

one_pointer : (ts : List Text) → AllPointers (text ts ∷ [])
one_pointer ts = All-cons IsPointer (text ts) [] (IsPointer-text ts) (All-nil IsPointer)

two_pointers : (us ts : List Text) → AllPointers (text us ∷ text ts ∷ [])
two_pointers us ts = All-cons IsPointer (text us) (text ts ∷ []) (IsPointer-text us) (one_pointer ts)

means_pointers : (form : OperationWords) (o : OperationData) → IsOperationOf form o → AllPointers (operation_pointers form)
means_pointers form (adding ts v) h = rw h.1 (one_pointer ts)
means_pointers form (removing ts) h = rw h (one_pointer ts)
means_pointers form (replacing ts v) h = rw h.1 (one_pointer ts)
means_pointers form (moving us ts) h = rw h (two_pointers us ts)
means_pointers form (copying us ts) h = rw h (two_pointers us ts)
means_pointers form (testing ts v) h = rw h.1 (one_pointer ts)

pub mean_pointers : (forms : List OperationWords) (os : List OperationData) → AreOperationsOf forms os → AllPointers (pointers_of forms)
mean_pointers [] os h = All-nil IsPointer
mean_pointers (form ∷ forms) [] h = absurd h
mean_pointers (form ∷ forms) (o ∷ os) h =
    All-append IsPointer (operation_pointers form) (pointers_of forms) (means_pointers form o h.0) (mean_pointers forms os h.1)

-- and their values are JSON texts

abbrev pub IsJson : Text → Type 0
IsJson value = json_of value ≡ None → ⊥

is_json : (value : Text) (v : Data) → json_of value ≡ Some v → IsJson value
is_json value v h none = let both : Some v ≡ None = sym h ∙ none in cc

pub one_value_json : (value : Text) (v : Data) → json_of value ≡ Some v → All IsJson (value ∷ [])
one_value_json value v h = All-cons IsJson value [] (is_json value v h) (All-nil IsJson)

means_values : (form : OperationWords) (o : OperationData) → IsOperationOf form o → All IsJson (operation_values form)
means_values form (adding ts v) h = rw h.1 (one_value_json h.0 v h.2)
means_values form (removing ts) h = rw h (All-nil IsJson)
means_values form (replacing ts v) h = rw h.1 (one_value_json h.0 v h.2)
means_values form (moving us ts) h = rw h (All-nil IsJson)
means_values form (copying us ts) h = rw h (All-nil IsJson)
means_values form (testing ts v) h = rw h.1 (one_value_json h.0 v h.2)

pub mean_values : (forms : List OperationWords) (os : List OperationData) → AreOperationsOf forms os → All IsJson (values_of forms)
mean_values [] os h = All-nil IsJson
mean_values (form ∷ forms) [] h = absurd h
mean_values (form ∷ forms) (o ∷ os) h =
    All-append IsJson (operation_values form) (values_of forms) (means_values form o h.0) (mean_values forms os h.1)

-- whose keys are sorted

means_in_order : (form : OperationWords) (o : Operation) → IsOperationOf form (data_of o) → OperationHasSortedKeys o
means_in_order form (operation.Add path value) h = ascends_json h.0 (view value) h.2
means_in_order form (operation.Remove path) h = tt
means_in_order form (operation.Replace path value) h = ascends_json h.0 (view value) h.2
means_in_order form (operation.Move from path) h = tt
means_in_order form (operation.Copy from path) h = tt
means_in_order form (operation.Test path value) h = tt

pub mean_in_order : (forms : List OperationWords) (patch : List Operation) → AreOperationsOf forms (map data_of patch) → All OperationHasSortedKeys patch
mean_in_order forms [] h = All-nil OperationHasSortedKeys
mean_in_order [] (o ∷ os) h = absurd h
mean_in_order (form ∷ forms) (o ∷ os) h =
    All-cons OperationHasSortedKeys o os (means_in_order form o h.0) (mean_in_order forms os h.1)

pub refused_same : (n : NodeMap) (os ps : List Operation) (e : PatchError) → map data_of os ≡ map data_of ps → RefusesPatch n os e → RefusesPatch n ps e
refused_same n os ps e same h = (h.0, fails_same n os ps (failed e h.0) same h.1)
