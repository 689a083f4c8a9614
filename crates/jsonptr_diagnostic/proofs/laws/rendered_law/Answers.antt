use Rattle.jsonptr_diagnostic.proofs.RenderingLaws.{rendered-one}
use Rattle.jsonptr_diagnostic.proofs.laws.rendered_law.Goals as goal

pub returns : goal.returns
returns g c = λ error subject shown s t one. rendered-one (g.T.Diagnostic.labels_gives error subject) one shown s t
