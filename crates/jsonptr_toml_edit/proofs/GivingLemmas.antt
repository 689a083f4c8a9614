-- The text of its own that a value has where it is assigned.
use Rattle.std.proofs.Common.{◌≡◌, ◌++◌, List, Bool, Option, Some, None, IsSome, IfSome, Result, Ok, Err, IfOk, IsTrue, String, Global, string_bytes, true≢false, sym, subst}
use Rattle.std.specs.declared.alloc.AllocError.{AllocError}
use Rattle.toml.specs.Data.{Data}
use Rattle.toml.specs.Parse.{parse_value}
use Rattle.jsonptr.specs.Text.{Text}
use Rattle.jsonptr.specs.Node.{NodeMap}
use Rattle.jsonptr.specs.Assigning.{Assigns}
use Rattle.jsonptr.specs.TomlValue.{nodes}
use Rattle.jsonptr_toml.specs.InToml.{ReadsAsToml}
use Rattle.jsonptr_text_step.specs.Bytes.{KeepsBytes}
use Rattle.jsonptr_text_step.specs.declared.stepped.Stepped.{Stepped}
use Rattle.jsonptr_text_step.specs.declared.stepped.Stepped.TheVariants.{InPlace, Rewritten}
use Rattle.jsonptr_toml_edit.specs.Giving.{TakesOther}

-- another value is assigned in a copy of the document
pub takes_if : (old : Text) (ts : List Text) (v u d copy d2 : Data) (other before after whole : Text) (replaced : Option NodeMap) (r : Result Bool AllocError) → (u ≡ v → ⊥) → parse_value other ≡ Some u → whole ≡ before ++ (other ++ after) → ReadsAsToml old d → copy ≡ d → Assigns (nodes copy) ts (nodes u) (nodes d2) replaced → IfOk r (λ is. IsTrue is → ReadsAsToml whole d2) → IfOk r (λ takes. IsTrue takes → TakesOther old ts v before after)
takes_if old ts v u d copy d2 other before after whole replaced (Ok is) apart read joined reads same assigned h = λ holds. (
  u,
  other,
  apart,
  read,
  (
    d,
    d2,
    reads,
    subst (λ (t : Text). ReadsAsToml t d2) joined (h holds),
    (replaced, subst (λ (x : Data). Assigns (nodes x) ts (nodes u) (nodes d2) replaced) same assigned),
  ),
)
takes_if old ts v u d copy d2 other before after whole replaced (Err f) apart read joined reads same assigned h = tt

-- what holds of a candidate holds of the text that is edited in place
pub kept : (P : Text → Type 0) (o : Option (String Global)) (e : Stepped) → KeepsBytes (λ s. IfSome o (λ c. s ≡ string_bytes c)) e → KeepsBytes (λ s. IsSome o) e → IfSome o (λ c. P (string_bytes c)) → KeepsBytes P e
kept P (Some c) (InPlace s) same some holds = subst P (sym same) holds
kept P None (InPlace s) same some holds = absurd (true≢false (sym some))
kept P o (Rewritten s) same some holds = tt
