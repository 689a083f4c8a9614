-- The text of the pointer at fault is in the document.
use Rattle.std.proofs.Common.{◌≡◌, ℕ, suc, ◌+◌, Option, Some, option_and_then, inl, inr, refl, sym, ap, ◌∙◌, subst, arith}
use Rattle.serde_json.specs.Data as json
use Rattle.serde_json.specs.Find.{at, get, get_item, as_str}
use Rattle.jsonptr.specs.ParseError.{IsParseErrorOf}
use Rattle.jsonptr.specs.Text.{Text}
use Rattle.jsonptr.specs.Types.ParseError.{ParseError}
use Rattle.jsonptr_patch_document.specs.Object.{member_key, HasText, LacksText, LacksPointer, LacksRest, IsNoOperationObject}
use Rattle.jsonptr_patch_document.specs.Document.{HasNoOperation, IsNoPatch}
use Rattle.jsonptr_patch_document.specs.Faulty.{faulty_text}
use Rattle.jsonptr_patch_document.specs.declared.error.PatchDocumentError.TheVariants.{NotArray, NotObject, MissingMember, NotString, UnknownOp, NotPointer}
use Rattle.jsonptr_patch_document.specs.declared.member.Member.{Member}
use Rattle.jsonptr_patch_document.specs.declared.member.Member.TheVariants.{Op, Path, From, Value}

-- the error of a member that is not a pointer is of no other fault
not_text : (d : json.Data) (n : Member) (k i : ℕ) (m : Member) (cause : ParseError) → LacksText d n k (NotPointer i m cause) → ⊥
not_text d n k i m cause (inl q) =
    let is : NotPointer i m cause ≡ MissingMember k n = q.1 in
    cc
not_text d n k i m cause (inr q) =
    let is : NotPointer i m cause ≡ NotString k n = q.3 in
    cc

at_member : (d : json.Data) (n : Member) (k i : ℕ) (m : Member) (cause : ParseError) → LacksPointer d n k (NotPointer i m cause) → (i ≡ k) × (s : Text) × HasText d m s × IsParseErrorOf s cause
at_member d n k i m cause (inl q) = absurd (not_text d n k i m cause q)
at_member d n k i m cause (inr q) =
    let is : NotPointer i m cause ≡ NotPointer k n q.1 = q.4 in
    let number : i ≡ k = cc in
    let member : m ≡ n = cc in
    let why : cause ≡ q.1 = cc in
    (number, q.0, subst (λ (x : Member). HasText d x q.0) (sym member) q.2, subst (λ (x : ParseError). IsParseErrorOf q.0 x) (sym why) q.3)

at_object : (d : json.Data) (k i : ℕ) (m : Member) (cause : ParseError) → IsNoOperationObject d k (NotPointer i m cause) → (i ≡ k) × (s : Text) × HasText d m s × IsParseErrorOf s cause
at_object d k i m cause (inl q) =
    let is : NotPointer i m cause ≡ NotObject k = q.1 in
    let no : ⊥ = cc in
    absurd no
at_object d k i m cause (inr (inl (ms, inl q))) = absurd (not_text d Op k i m cause q)
at_object d k i m cause (inr (inl (ms, inr q))) =
    let is : NotPointer i m cause ≡ UnknownOp k = q.3 in
    let no : ⊥ = cc in
    absurd no
at_object d k i m cause (inr (inr (inl q))) = at_member d Path k i m cause q.3
at_object d k i m cause (inr (inr (inr q))) = at_rest q.5
  where
    at_rest : LacksRest d q.0 k (NotPointer i m cause) → (i ≡ k) × (s : Text) × HasText d m s × IsParseErrorOf s cause
    at_rest (inl r) = at_member d From k i m cause r.1
    at_rest (inr r) =
        let is : NotPointer i m cause ≡ MissingMember k Value = r.1.1 in
        let no : ⊥ = cc in
        absurd no

-- the element at the number of the error
record IsFaulty (ds : json.Items) (k i : ℕ) (m : Member) (cause : ParseError) : Type 0 where
  index : ℕ
  element : json.Data
  text : Text
  number : i ≡ k + index
  there : get_item index ds ≡ Some element
  has_text : HasText element m text
  fault : IsParseErrorOf text cause

at_list : (ds : json.Items) (k i : ℕ) (m : Member) (cause : ParseError) → HasNoOperation ds k (NotPointer i m cause) → IsFaulty ds k i m cause
at_list json.no_items k i m cause h = absurd h
at_list (json.item d ds) k i m cause (inl q) =
    let f = at_object d k i m cause q in
    record { index = 0; element = d; text = f.1; number = omega (arith, f.0); there = refl; has_text = f.2; fault = f.3 }
at_list (json.item d ds) k i m cause (inr q) =
    let f = at_list ds (suc k) i m cause q.1 in
    record { index = suc f.index; element = f.element; text = f.text; number = omega (arith, f.number); there = f.there; has_text = f.has_text; fault = f.fault }

-- the text of the pointer
pub text_of_error : (d : json.Data) (i : ℕ) (m : Member) (cause : ParseError) → IsNoPatch d (NotPointer i m cause) → (s : Text) × (faulty_text d (NotPointer i m cause) ≡ Some s) × IsParseErrorOf s cause
text_of_error d i m cause (inl q) =
    let is : NotPointer i m cause ≡ NotArray = q.1 in
    let no : ⊥ = cc in
    absurd no
text_of_error d i m cause (inr q) =
    let f = at_list q.0 0 i m cause q.2 in
    let number : i ≡ f.index = omega (arith, f.number) in
    let found : at i d ≡ Some f.element = ap (λ (x : json.Data). at i x) q.1 ∙ ap (λ (n : ℕ). get_item n q.0) number ∙ f.there in
    (f.text, ap (λ (o : Option json.Data). option_and_then as_str (option_and_then (get (member_key m)) o)) found ∙ ap (λ (o : Option json.Data). option_and_then as_str o) f.has_text, f.fault)
