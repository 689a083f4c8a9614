-- Lists of operations: their unique outcome, and one list after another.
use Rattle.std.proofs.Common.{◌≡◌, ℕ, suc, ◌⊎◌, inl, inr, ⊎_elim, List, [], ◌∷◌, ◌++◌, length, refl, sym, ap, ap₂, ◌∙◌, subst, arith, append_assoc, append-nil}
use Rattle.std.specs.Prelude.{All}
use Rattle.jsonptr.specs.Documents.{IsDocument}
use Rattle.jsonptr.specs.Node.{NodeMap, IsTree}
use Rattle.jsonptr_patch.specs.Operating.{AppliesBy, RefusesOperationBy}
use Rattle.jsonptr_patch.specs.Failing.{failed}
use Rattle.jsonptr_patch.specs.Patching.{PatchesBy, FailsBy, RefusesPatchBy}
use Rattle.jsonptr_patch.specs.declared.operation.Operation.{Operation}
use Rattle.jsonptr_patch.specs.declared.failed_operation.FailedOperation.{FailedOperation}
use Rattle.jsonptr_patch.specs.declared.operation.PatchError.{PatchError}
use Rattle.jsonptr_patch.proofs.OperatingLemmas.{patches_push_by, refused_next}
use Rattle.jsonptr_patch.specs.Operations.{IsOperation}
use Rattle.jsonptr_patch.specs.declared.comparison.Comparison.{Comparison}

-- a list after another

pub patches_behind : (by : Comparison) (n m : NodeMap) (os ps : List Operation) → PatchesBy by n (os ++ ps) m → (l : NodeMap) × PatchesBy by n os l × PatchesBy by l ps m
patches_behind by n m [] ps h = (n, refl, h)
patches_behind by n m (o ∷ os) ps h =
    let r = patches_behind by h.0 m os ps h.2 in
    (r.0, (h.0, h.1, r.1), r.2)

pub patches_both : (by : Comparison) (n l m : NodeMap) (os ps : List Operation) → PatchesBy by n os l → PatchesBy by l ps m → PatchesBy by n (os ++ ps) m
patches_both by n l m [] ps a b = subst (λ (q : NodeMap). PatchesBy by q ps m) a b
patches_both by n l m (o ∷ os) ps a b = (a.0, a.1, patches_both by a.0 l m os ps a.2 b)

-- two errors

prefix_cases : (f g : List Operation) (x y : Operation) (r s : List Operation) → f ++ x ∷ r ≡ g ++ y ∷ s → ((f ≡ g) × (x ≡ y)) ⊎ (((more : List Operation) × (f ≡ g ++ y ∷ more)) ⊎ ((more : List Operation) × (g ≡ f ++ x ∷ more)))
prefix_cases [] [] x y r s e = inl (refl, cc)
prefix_cases [] (b ∷ g) x y r s e =
    let head : x ≡ b = cc in
    inr (inr (g, ap (λ (o : Operation). o ∷ g) (sym head)))
prefix_cases (a ∷ f) [] x y r s e =
    let head : a ≡ y = cc in
    inr (inl (f, ap (λ (o : Operation). o ∷ f) head))
prefix_cases (a ∷ f) (b ∷ g) x y r s e = go (prefix_cases f g x y r s (let tail : f ++ x ∷ r ≡ g ++ y ∷ s = cc in tail))
  where
    head : a ≡ b
    head = cc

    go : ((f ≡ g) × (x ≡ y)) ⊎ (((more : List Operation) × (f ≡ g ++ y ∷ more)) ⊎ ((more : List Operation) × (g ≡ f ++ x ∷ more))) → ((a ∷ f ≡ b ∷ g) × (x ≡ y)) ⊎ (((more : List Operation) × (a ∷ f ≡ b ∷ (g ++ y ∷ more))) ⊎ ((more : List Operation) × (b ∷ g ≡ a ∷ (f ++ x ∷ more))))
    go (inl h) = inl (ap₂ (λ (o : Operation) (l : List Operation). o ∷ l) head h.0, h.1)
    go (inr (inl h)) = inr (inl (h.0, ap₂ (λ (o : Operation) (l : List Operation). o ∷ l) head h.1))
    go (inr (inr h)) = inr (inr (h.0, ap₂ (λ (o : Operation) (l : List Operation). o ∷ l) (sym head) h.1))

module _ (by : Comparison) (applies_one : (n m l : NodeMap) (o : Operation) → IsTree n → AppliesBy by n o m → AppliesBy by n o l → m ≡ l) (applies_document : (n m : NodeMap) (o : Operation) → IsDocument n → AppliesBy by n o m → IsDocument m) where
  pub patches_one : (n m l : NodeMap) (os : List Operation) → IsDocument n → PatchesBy by n os m → PatchesBy by n os l → m ≡ l
  patches_one n m l [] d a b = a ∙ sym b
  patches_one n m l (o ∷ os) d a b =
      let same = applies_one n a.0 b.0 o d.0 a.1 b.1 in
      patches_one b.0 m l os (applies_document n b.0 o d b.1) (subst (λ (q : NodeMap). PatchesBy by q os m) same a.2) b.2

  pub patches_document : (n m : NodeMap) (os : List Operation) → IsDocument n → PatchesBy by n os m → IsDocument m
  patches_document n m [] d a = subst IsDocument (sym a) d
  patches_document n m (o ∷ os) d a = patches_document a.0 m os (applies_document n a.0 o d a.1) a.2

  module _ (applies_refused : (n m : NodeMap) (k : ℕ) (o : Operation) (e : FailedOperation) → IsTree n → AppliesBy by n o m → RefusesOperationBy by n k o e → ⊥) where
    -- the operation after the others is applied, and so does not fail
    later_refused : (n left m : NodeMap) (done rest : List Operation) (o : Operation) (k : ℕ) (e : FailedOperation) → IsDocument n → PatchesBy by n done left → RefusesOperationBy by left k o e → PatchesBy by n (done ++ o ∷ rest) m → ⊥
    later_refused n left m done rest o k e d a r h =
        let parts = patches_behind by n m done (o ∷ rest) h in
        let same = patches_one n parts.0 left done d parts.1 a in
        applies_refused left parts.2.0 k o e ((patches_document n left done d a).0) (subst (λ (q : NodeMap). AppliesBy by q o parts.2.0) same parts.2.1) r

    pub patches_refused : (n m : NodeMap) (os : List Operation) (e : FailedOperation) → IsDocument n → PatchesBy by n os m → FailsBy by n os e → ⊥
    patches_refused n m os e d h r = later_refused n r.left m r.done r.rest r.fails (length r.done) e d r.applied r.refused (subst (λ (l : List Operation). PatchesBy by n l m) r.split h)

    pub refused_alone_never : (n m : NodeMap) (os : List Operation) (e : PatchError) → IsDocument n → PatchesBy by n os m → RefusesPatchBy by n os e → ⊥
    refused_alone_never n m os e d h r = patches_refused n m os (failed e r.0) d h r.1

    module _ (refused_one : (n : NodeMap) (k : ℕ) (o : Operation) (e f : FailedOperation) → IsTree n → RefusesOperationBy by n k o e → RefusesOperationBy by n k o f → e ≡ f) where
      pub one_refusal : (n : NodeMap) (os : List Operation) (e f : FailedOperation) → IsDocument n → FailsBy by n os e → FailsBy by n os f → e ≡ f
      one_refusal n os e f d a b = go (prefix_cases a.done b.done a.fails b.fails a.rest b.rest (sym a.split ∙ b.split))
        where
          go : ((a.done ≡ b.done) × (a.fails ≡ b.fails)) ⊎ (((more : List Operation) × (a.done ≡ b.done ++ b.fails ∷ more)) ⊎ ((more : List Operation) × (b.done ≡ a.done ++ a.fails ∷ more))) → e ≡ f
          go (inl h) =
              let same = patches_one n a.left b.left b.done d (subst (λ (l : List Operation). PatchesBy by n l a.left) h.0 a.applied) b.applied in
              let r = subst (λ (o : Operation). RefusesOperationBy by b.left (length b.done) o e) h.1 (subst (λ (l : List Operation). RefusesOperationBy by b.left (length l) a.fails e) h.0 (subst (λ (q : NodeMap). RefusesOperationBy by q (length a.done) a.fails e) same a.refused)) in
              refused_one b.left (length b.done) b.fails e f ((patches_document n b.left b.done d b.applied).0) r b.refused
          go (inr (inl h)) = absurd (later_refused n b.left a.left b.done h.0 b.fails (length b.done) f d b.applied b.refused (subst (λ (l : List Operation). PatchesBy by n l a.left) h.1 a.applied))
          go (inr (inr h)) = absurd (later_refused n a.left b.left a.done h.0 a.fails (length a.done) e d a.applied a.refused (subst (λ (l : List Operation). PatchesBy by n l b.left) h.1 b.applied))

      -- the error alone
      pub refused_alone_one : (n : NodeMap) (os : List Operation) (e f : PatchError) → IsDocument n → RefusesPatchBy by n os e → RefusesPatchBy by n os f → e ≡ f
      refused_alone_one n os e f d a b = ap (λ (g : FailedOperation). g.error) (one_refusal n os (failed e a.0) (failed f b.0) d a.1 b.1)

-- there is an outcome

all_head : (o : Operation) (os : List Operation) → All IsOperation (o ∷ os) → IsOperation o
all_head o os all = all 0 o (omega arith)

all_tail : (o : Operation) (os : List Operation) → All IsOperation (o ∷ os) → All IsOperation os
all_tail o os all = λ i d b. all (suc i) d (omega arith)

module _ (by : Comparison) (applies_some : (n : NodeMap) (k : ℕ) (o : Operation) → IsDocument n → IsOperation o → ((m : NodeMap) × AppliesBy by n o m) ⊎ ((e : FailedOperation) × RefusesOperationBy by n k o e)) (applies_document : (n m : NodeMap) (o : Operation) → IsDocument n → AppliesBy by n o m → IsDocument m) where
  goes_on : (n m : NodeMap) (done rest : List Operation) → PatchesBy by n done m → IsDocument m → All IsOperation rest → ((l : NodeMap) × PatchesBy by n (done ++ rest) l) ⊎ ((e : FailedOperation) × FailsBy by n (done ++ rest) e)
  goes_on n m done [] a d all = inl (m, subst (λ (l : List Operation). PatchesBy by n l m) (sym (append-nil done)) a)
  goes_on n m done (o ∷ os) a d all = ⊎_elim
      (λ (r : (l : NodeMap) × AppliesBy by m o l). subst (λ (l : List Operation). ((k : NodeMap) × PatchesBy by n l k) ⊎ ((e : FailedOperation) × FailsBy by n l e)) (append_assoc done (o ∷ []) os) (goes_on n r.0 (done ++ o ∷ []) os (patches_push_by by n m r.0 done o a r.1) (applies_document m r.0 o d r.1) (all_tail o os all)))
      (λ (r : (e : FailedOperation) × RefusesOperationBy by m (length done) o e). inr (r.0, refused_next by n m (done ++ o ∷ os) done os o r.0 refl a r.1))
      (applies_some m (length done) o d (all_head o os all))

  pub patches_some : (n : NodeMap) (os : List Operation) → IsDocument n → All IsOperation os → ((m : NodeMap) × PatchesBy by n os m) ⊎ ((e : FailedOperation) × FailsBy by n os e)
  patches_some n os d all = goes_on n n [] os refl d all

  pub refused_alone_some : (n : NodeMap) (os : List Operation) → IsDocument n → All IsOperation os → ((m : NodeMap) × PatchesBy by n os m) ⊎ ((e : PatchError) × RefusesPatchBy by n os e)
  refused_alone_some n os d all = ⊎_elim
      (λ (h : (m : NodeMap) × PatchesBy by n os m). inl h)
      (λ (h : (f : FailedOperation) × FailsBy by n os f). inr (h.0.error, (h.0.pointer, h.1)))
      (patches_some n os d all)
