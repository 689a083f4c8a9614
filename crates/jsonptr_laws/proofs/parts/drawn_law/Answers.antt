use Rattle.jsonptr.proofs.Calling.{rendered-one}
use Rattle.jsonptr_laws.proofs.parts.drawn_law.Goals as goal

pub returns : goal.returns
returns c = record {
  parsing = λ e len. rendered-one _ (c.label_law.ensures.parsing e len);
  encoding = λ e len. rendered-one _ (c.label_law.ensures.encoding e len);
  index = λ e subject. rendered-one _ (c.label_law.ensures.index e subject);
  resolving = λ e ts. rendered-one _ (c.label_law.ensures.resolving e ts);
  assigning = λ e ts. rendered-one _ (c.label_law.ensures.assigning e ts);
}
