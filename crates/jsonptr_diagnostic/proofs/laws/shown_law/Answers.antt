use Rattle.jsonptr_diagnostic.proofs.RenderingLaws.{shown-printable, line-printable, all-drawn, shown-plain}
use Rattle.jsonptr_diagnostic.proofs.laws.shown_law.Goals as goal

pub returns : goal.returns
returns c = record { text = shown-printable; line = line-printable; all = all-drawn; plain = shown-plain }
