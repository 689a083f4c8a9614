use Rattle.std.proofs.Common.{refl}
use Rattle.jsonptr_base.proofs.IndexLemmas.{Reads_one, Reads_some, Reads-esc_iff, index_text-Reads}
use Rattle.jsonptr_base.proofs.laws.index_law.Goals as goal

pub returns : goal.returns
returns c = record { one = Reads_one; some = Reads_some; escape = Reads-esc_iff; shown = index_text-Reads; read_number = λ n h. (refl, h); read_next = refl }
