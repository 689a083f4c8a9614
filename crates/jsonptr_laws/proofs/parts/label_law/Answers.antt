use Rattle.jsonptr.specs.Resolve as resolve
use Rattle.jsonptr.specs.Assign as assign
use Rattle.jsonptr_laws.proofs.PartLemmas.{label_one, encoding_label_one, index_label_one, token_label_one}
use Rattle.jsonptr_laws.proofs.parts.label_law.Goals as goal

pub returns-clause-parsing : goal.returns-clause-parsing
returns-clause-parsing c = label_one

pub returns-clause-encoding : goal.returns-clause-encoding
returns-clause-encoding c = encoding_label_one

pub returns-clause-index : goal.returns-clause-index
returns-clause-index c = index_label_one

pub returns-clause-resolving : goal.returns-clause-resolving
returns-clause-resolving c e = token_label_one (resolve.resolve_label_words e) (resolve.resolve_position_of e) (resolve.resolve_offset_of e)

pub returns-clause-assigning : goal.returns-clause-assigning
returns-clause-assigning c e = token_label_one (assign.assign_label_words e) (assign.assign_position_of e) (assign.assign_offset_of e)
