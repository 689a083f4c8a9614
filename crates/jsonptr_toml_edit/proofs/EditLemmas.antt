-- What an edit makes of a TOML text, by its kind.
use Rattle.jsonptr.specs.Text.{Text}
use Rattle.jsonptr_text_step.specs.Bytes.{KeepsBytes}
use Rattle.jsonptr_text_step.specs.declared.stepped.Stepped.{Stepped as Made}
use Rattle.jsonptr_text_step.specs.declared.stepped.Stepped.TheVariants as made

-- two words that hold of an edit in place
pub both_kept : (P Q : Text → Type 0) (m : Made) → KeepsBytes P m → KeepsBytes Q m → KeepsBytes (λ s. P s × Q s) m
both_kept P Q (made.InPlace s) h k = (h, k)
both_kept P Q (made.Rewritten s) h k = tt
