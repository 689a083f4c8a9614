-- An object is at most one operation, has at most one error, and not both.
use Rattle.std.proofs.Common.{◌≡◌, ℕ, ◌+◌, ◌*◌, List, Option, Some, None, inl, inr, false, eqb, eq-eqb, refl, sym, ap, ◌∙◌, subst, get_or, codes}
use Rattle.std.proofs.lemmas.Bool.{true≢false}
use Rattle.serde_json.specs.Data as json
use Rattle.serde_json.specs.Find.{get}
use Rattle.serde_json.specs.View.{view}
use Rattle.jsonptr.specs.ParseError.{IsParseErrorOf}
use Rattle.jsonptr.specs.Text.{Text, text}
use Rattle.jsonptr.specs.Types.ParseError.{ParseError}
use Rattle.jsonptr.proofs.Calling.{text_one}
use Rattle.jsonptr_patch.specs.declared.operation.Operation.{Operation}
use Rattle.jsonptr_patch.specs.declared.operation.Operation.TheVariants.{Add, Remove, Replace, Move, Copy, Test}
use Rattle.jsonptr_patch_document.specs.Object.{member_key, HasText, HasPointer, RequiresValue, RequiresFrom, IsOp, IsJsonObject, LacksText, LacksPointer, LacksOp, LacksRest, IsOperationObject, IsNoOperationObject}
use Rattle.jsonptr_patch_document.specs.Same.{IsSameOperation}
use Rattle.jsonptr_patch_document.specs.declared.error.PatchDocumentError.{PatchDocumentError}
use Rattle.jsonptr_patch_document.specs.declared.error.PatchDocumentError.TheVariants.{NotPointer}
use Rattle.jsonptr_patch_document.specs.declared.member.Member.{Member}
use Rattle.jsonptr_patch_document.specs.declared.member.Member.TheVariants.{Op, Path, From, Value}

-- a number that differs for the names of the operations, made of the first letter and the third
abbrev sign : Text → ℕ
sign s = 1000 * get_or s 0 0 + get_or s 2 0

-- a text is not two names
apart : (s a b : Text) → s ≡ a → s ≡ b → eqb (sign a) (sign b) ≡ false → ⊥
apart s a b p q differ =
    let same : sign a ≡ sign b = ap sign (sym p ∙ q) in
    true≢false (sym (eq-eqb (sign a) (sign b) same) ∙ differ)

-- no operation requires both `value` and `from`
not_both_members : (s : Text) → RequiresValue s → RequiresFrom s → ⊥
not_both_members s (inl p) (inl q) = apart s (codes "add") (codes "move") p q refl
not_both_members s (inl p) (inr q) = apart s (codes "add") (codes "copy") p q refl
not_both_members s (inr (inl p)) (inl q) = apart s (codes "replace") (codes "move") p q refl
not_both_members s (inr (inl p)) (inr q) = apart s (codes "replace") (codes "copy") p q refl
not_both_members s (inr (inr p)) (inl q) = apart s (codes "test") (codes "move") p q refl
not_both_members s (inr (inr p)) (inr q) = apart s (codes "test") (codes "copy") p q refl

-- a removal requires neither
no_value : (s : Text) → s ≡ codes "remove" → RequiresValue s → ⊥
no_value s p (inl q) = apart s (codes "remove") (codes "add") p q refl
no_value s p (inr (inl q)) = apart s (codes "remove") (codes "replace") p q refl
no_value s p (inr (inr q)) = apart s (codes "remove") (codes "test") p q refl

no_from : (s : Text) → s ≡ codes "remove" → RequiresFrom s → ⊥
no_from s p (inl q) = apart s (codes "remove") (codes "move") p q refl
no_from s p (inr q) = apart s (codes "remove") (codes "copy") p q refl

-- a member is one string, or one value, or is missing, or is not a string
pub one_text : (o : Option json.Data) (s t : Text) → o ≡ Some (json.string s) → o ≡ Some (json.string t) → s ≡ t
one_text o s t p q =
    let both : Some (json.string s) ≡ Some (json.string t) = sym p ∙ q in
    cc

one_value : (o : Option json.Data) (v w : json.Data) → o ≡ Some v → o ≡ Some w → v ≡ w
one_value o v w p q =
    let both : Some v ≡ Some w = sym p ∙ q in
    cc

is_there : (o : Option json.Data) (v : json.Data) → o ≡ Some v → o ≡ None → ⊥
is_there o v p q =
    let both : None ≡ Some v = sym q ∙ p in
    cc

-- what has a member is an object
pub is_object : (k : Text) (d v : json.Data) → get k d ≡ Some v → IsJsonObject d
is_object k json.null v p = let no : ⊥ = cc in absurd no
is_object k (json.boolean b) v p = let no : ⊥ = cc in absurd no
is_object k (json.number n) v p = let no : ⊥ = cc in absurd no
is_object k (json.string s) v p = let no : ⊥ = cc in absurd no
is_object k (json.array ds) v p = let no : ⊥ = cc in absurd no
is_object k (json.object ms) v p = (ms, refl)

-- a member that is a string, and the reason why it is not
text_or_not : (d : json.Data) (m : Member) (s : Text) (k : ℕ) (e : PatchDocumentError) → HasText d m s → LacksText d m k e → ⊥
text_or_not d m s k e p (inl q) = is_there (get (member_key m) d) (json.string s) p q.0
text_or_not d m s k e p (inr q) = q.2 s (one_value (get (member_key m) d) q.0 (json.string s) q.1 p)

one_text_error : (d : json.Data) (m : Member) (k : ℕ) (e f : PatchDocumentError) → LacksText d m k e → LacksText d m k f → e ≡ f
one_text_error d m k e f (inl p) (inl q) = p.1 ∙ sym q.1
one_text_error d m k e f (inl p) (inr q) = absurd (is_there (get (member_key m) d) q.0 q.1 p.0)
one_text_error d m k e f (inr p) (inl q) = absurd (is_there (get (member_key m) d) p.0 p.1 q.0)
one_text_error d m k e f (inr p) (inr q) = p.3 ∙ sym q.3

-- the member `op`, and the reason why it is none
op_or_not : (d : json.Data) (op : Text) (k : ℕ) (e : PatchDocumentError) → HasText d Op op → IsOp op → LacksOp d k e → ⊥
op_or_not d op k e p known (inl q) = text_or_not d Op op k e p q
op_or_not d op k e p known (inr q) = q.2 (subst IsOp (one_text (get (member_key Op) d) op q.0 p q.1) known)

one_op_error : (d : json.Data) (k : ℕ) (e f : PatchDocumentError) → LacksOp d k e → LacksOp d k f → e ≡ f
one_op_error d k e f (inl p) (inl q) = one_text_error d Op k e f p q
one_op_error d k e f (inl p) (inr q) = absurd (text_or_not d Op q.0 k e q.1 p)
one_op_error d k e f (inr p) (inl q) = absurd (text_or_not d Op p.0 k f p.1 q)
one_op_error d k e f (inr p) (inr q) = p.3 ∙ sym q.3

module _
    (no_parse : (tokens : List Text) (cause : ParseError) → IsParseErrorOf (text tokens) cause → ⊥)
    (one_parse : (s : Text) (cause other : ParseError) → IsParseErrorOf s cause → IsParseErrorOf s other → cause ≡ other) where
  -- a member that is a pointer, and the reason why it is not
  pointer_or_not : (d : json.Data) (m : Member) (ts : List Text) (k : ℕ) (e : PatchDocumentError) → HasPointer d m ts → LacksPointer d m k e → ⊥
  pointer_or_not d m ts k e p (inl q) = text_or_not d m (text ts) k e p q
  pointer_or_not d m ts k e p (inr q) = no_parse ts q.1 (subst (λ (s : Text). IsParseErrorOf s q.1) (one_text (get (member_key m) d) q.0 (text ts) q.2 p) q.3)

  one_pointer_error : (d : json.Data) (m : Member) (k : ℕ) (e f : PatchDocumentError) → LacksPointer d m k e → LacksPointer d m k f → e ≡ f
  one_pointer_error d m k e f (inl p) (inl q) = one_text_error d m k e f p q
  one_pointer_error d m k e f (inl p) (inr q) = absurd (text_or_not d m q.0 k e q.2 p)
  one_pointer_error d m k e f (inr p) (inl q) = absurd (text_or_not d m p.0 k f p.2 q)
  one_pointer_error d m k e f (inr p) (inr q) =
      let same : p.0 ≡ q.0 = one_text (get (member_key m) d) p.0 q.0 p.2 q.2 in
      p.4 ∙ ap (λ (cause : ParseError). NotPointer k m cause) (one_parse q.0 p.1 q.1 (subst (λ (s : Text). IsParseErrorOf s p.1) same p.3) q.3) ∙ sym q.4

  one_rest_error : (d : json.Data) (op : Text) (k : ℕ) (e f : PatchDocumentError) → LacksRest d op k e → LacksRest d op k f → e ≡ f
  one_rest_error d op k e f (inl p) (inl q) = one_pointer_error d From k e f p.1 q.1
  one_rest_error d op k e f (inl p) (inr q) = absurd (not_both_members op q.0 p.0)
  one_rest_error d op k e f (inr p) (inl q) = absurd (not_both_members op p.0 q.0)
  one_rest_error d op k e f (inr p) (inr q) = p.1.1 ∙ sym q.1.1

  -- what each operation has
  record IsSound (d : json.Data) : Type 0 where
    op : Text
    path : List Text
    has_op : HasText d Op op
    is_op : IsOp op
    has_path : HasPointer d Path path
    has_rest : (k : ℕ) (e : PatchDocumentError) → LacksRest d op k e → ⊥

  rest_value : (d v : json.Data) (op : Text) (k : ℕ) (e : PatchDocumentError) → RequiresValue op → get (member_key Value) d ≡ Some v → LacksRest d op k e → ⊥
  rest_value d v op k e requires p (inl q) = not_both_members op requires q.0
  rest_value d v op k e requires p (inr q) = is_there (get (member_key Value) d) v p q.1.0

  rest_from : (d : json.Data) (from : List Text) (op : Text) (k : ℕ) (e : PatchDocumentError) → RequiresFrom op → HasPointer d From from → LacksRest d op k e → ⊥
  rest_from d from op k e requires p (inl q) = pointer_or_not d From from k e p q.1
  rest_from d from op k e requires p (inr q) = not_both_members op q.0 requires

  rest_none : (d : json.Data) (k : ℕ) (e : PatchDocumentError) → LacksRest d (codes "remove") k e → ⊥
  rest_none d k e (inl q) = no_from (codes "remove") refl q.0
  rest_none d k e (inr q) = no_value (codes "remove") refl q.0

  with_value : (d v : json.Data) (s : Text) (ts : List Text) → RequiresValue s → HasText d Op s → HasPointer d Path ts → get (member_key Value) d ≡ Some v → IsSound d
  with_value d v s ts requires op path value = record { op = s; path = ts; has_op = op; is_op = inl requires; has_path = path; has_rest = λ k e. rest_value d v s k e requires value }

  with_from : (d : json.Data) (s : Text) (ts fs : List Text) → RequiresFrom s → HasText d Op s → HasPointer d Path ts → HasPointer d From fs → IsSound d
  with_from d s ts fs requires op path from = record { op = s; path = ts; has_op = op; is_op = inr (inl requires); has_path = path; has_rest = λ k e. rest_from d fs s k e requires from }

  sound : (d : json.Data) (o : Operation) → IsOperationObject d o → IsSound d
  sound d (Add path value) h = with_value d (view value) (codes "add") path (inl refl) h.0 h.1 h.2
  sound d (Remove path) h = record { op = codes "remove"; path = path; has_op = h.0; is_op = inr (inr refl); has_path = h.1; has_rest = rest_none d }
  sound d (Replace path value) h = with_value d (view value) (codes "replace") path (inr (inl refl)) h.0 h.1 h.2
  sound d (Move from path) h = with_from d (codes "move") path from (inl refl) h.0 h.1 h.2
  sound d (Copy from path) h = with_from d (codes "copy") path from (inr refl) h.0 h.1 h.2
  sound d (Test path value) h = with_value d (view value) (codes "test") path (inr (inr refl)) h.0 h.1 h.2

  sound_or_not : (d : json.Data) (k : ℕ) (e : PatchDocumentError) → IsSound d → IsNoOperationObject d k e → ⊥
  sound_or_not d k e s (inl q) = q.0 (is_object (member_key Op) d (json.string s.op) s.has_op)
  sound_or_not d k e s (inr (inl q)) = op_or_not d s.op k e s.has_op s.is_op q.1
  sound_or_not d k e s (inr (inr (inl q))) = pointer_or_not d Path s.path k e s.has_path q.3
  sound_or_not d k e s (inr (inr (inr q))) = s.has_rest k e (subst (λ (op : Text). LacksRest d op k e) (one_text (get (member_key Op) d) q.0 s.op q.2 s.has_op) q.5)

  -- an operation has no error
  pub operation_or_not : (d : json.Data) (k : ℕ) (o : Operation) (e : PatchDocumentError) → IsOperationObject d o → IsNoOperationObject d k e → ⊥
  operation_or_not d k o e h q = sound_or_not d k e (sound d o h) q

  -- two errors are one
  pub one_operation_error : (d : json.Data) (k : ℕ) (e f : PatchDocumentError) → IsNoOperationObject d k e → IsNoOperationObject d k f → e ≡ f
  one_operation_error d k e f (inl p) (inl q) = p.1 ∙ sym q.1
  one_operation_error d k e f (inl p) (inr (inl q)) = absurd (p.0 q.0)
  one_operation_error d k e f (inl p) (inr (inr (inl q))) = absurd (p.0 (is_object (member_key Op) d (json.string q.0) q.1))
  one_operation_error d k e f (inl p) (inr (inr (inr q))) = absurd (p.0 (is_object (member_key Op) d (json.string q.0) q.2))
  one_operation_error d k e f (inr (inl p)) (inl q) = absurd (q.0 p.0)
  one_operation_error d k e f (inr (inl p)) (inr (inl q)) = one_op_error d k e f p.1 q.1
  one_operation_error d k e f (inr (inl p)) (inr (inr (inl q))) = absurd (op_or_not d q.0 k e q.1 q.2 p.1)
  one_operation_error d k e f (inr (inl p)) (inr (inr (inr q))) = absurd (op_or_not d q.0 k e q.2 q.3 p.1)
  one_operation_error d k e f (inr (inr (inl p))) (inl q) = absurd (q.0 (is_object (member_key Op) d (json.string p.0) p.1))
  one_operation_error d k e f (inr (inr (inl p))) (inr (inl q)) = absurd (op_or_not d p.0 k f p.1 p.2 q.1)
  one_operation_error d k e f (inr (inr (inl p))) (inr (inr (inl q))) = one_pointer_error d Path k e f p.3 q.3
  one_operation_error d k e f (inr (inr (inl p))) (inr (inr (inr q))) = absurd (pointer_or_not d Path q.1 k e q.4 p.3)
  one_operation_error d k e f (inr (inr (inr p))) (inl q) = absurd (q.0 (is_object (member_key Op) d (json.string p.0) p.2))
  one_operation_error d k e f (inr (inr (inr p))) (inr (inl q)) = absurd (op_or_not d p.0 k f p.2 p.3 q.1)
  one_operation_error d k e f (inr (inr (inr p))) (inr (inr (inl q))) = absurd (pointer_or_not d Path p.1 k f p.4 q.3)
  one_operation_error d k e f (inr (inr (inr p))) (inr (inr (inr q))) =
      one_rest_error d q.0 k e f (subst (λ (op : Text). LacksRest d op k e) (one_text (get (member_key Op) d) p.0 q.0 p.2 q.2) p.5) q.5

-- the name of an operation
abbrev op_of : Operation → Text
op_of (Add path value) = codes "add"
op_of (Remove path) = codes "remove"
op_of (Replace path value) = codes "replace"
op_of (Move from path) = codes "move"
op_of (Copy from path) = codes "copy"
op_of (Test path value) = codes "test"

has_op : (d : json.Data) (o : Operation) → IsOperationObject d o → HasText d Op (op_of o)
has_op d (Add path value) h = h.0
has_op d (Remove path) h = h.0
has_op d (Replace path value) h = h.0
has_op d (Move from path) h = h.0
has_op d (Copy from path) h = h.0
has_op d (Test path value) h = h.0

one_pointer : (d : json.Data) (m : Member) (ts us : List Text) → HasPointer d m ts → HasPointer d m us → ts ≡ us
one_pointer d m ts us p q = text_one ts us (one_text (get (member_key m) d) (text ts) (text us) p q)

-- two operations are one
pub one_operation : (d : json.Data) (o p : Operation) → IsOperationObject d o → IsOperationObject d p → IsSameOperation o p
one_operation d (Add path v) (Add other w) h k = (one_pointer d Path path other h.1 k.1, one_value (get (member_key Value) d) (view v) (view w) h.2 k.2)
one_operation d (Remove path) (Remove other) h k = one_pointer d Path path other h.1 k.1
one_operation d (Replace path v) (Replace other w) h k = (one_pointer d Path path other h.1 k.1, one_value (get (member_key Value) d) (view v) (view w) h.2 k.2)
one_operation d (Move from path) (Move source other) h k = (one_pointer d From from source h.2 k.2, one_pointer d Path path other h.1 k.1)
one_operation d (Copy from path) (Copy source other) h k = (one_pointer d From from source h.2 k.2, one_pointer d Path path other h.1 k.1)
one_operation d (Test path v) (Test other w) h k = (one_pointer d Path path other h.1 k.1, one_value (get (member_key Value) d) (view v) (view w) h.2 k.2)
one_operation d o p h k = absurd (apart (op_of o) (op_of o) (op_of p) refl (one_text (get (member_key Op) d) (op_of o) (op_of p) (has_op d o h) (has_op d p k)) refl)
