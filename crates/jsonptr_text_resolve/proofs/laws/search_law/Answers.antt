use Rattle.jsonptr_text_resolve.proofs.SearchLemmas.{found, stops}
use Rattle.jsonptr_text_resolve.proofs.laws.search_law.Goals as goal

pub returns-clause-found : goal.returns-clause-found
returns-clause-found c = λ d e tokens ws are h. found tokens ws d e are h

pub returns-clause-stops : goal.returns-clause-stops
returns-clause-stops c = λ d tokens ws left k are small h. stops d tokens ws left k are small h
