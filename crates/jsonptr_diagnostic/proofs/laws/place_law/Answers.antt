use Rattle.jsonptr_diagnostic.proofs.RenderingLaws.{column-of, column-past, carets-of, carets-inside, carets-none, carets-past}
use Rattle.jsonptr_diagnostic.proofs.laws.place_law.Goals as goal

pub returns : goal.returns
returns c = record {
  within = column-of;
  past = column-past;
  under = λ front rest under c. carets-of front rest c under;
  inside = carets-inside;
  none = carets-none;
  none_past = carets-past;
}
