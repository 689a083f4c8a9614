use Rattle.jsonptr_patch_document.specs.Writing.{document_of}
use Rattle.jsonptr_patch_document.proofs.SortingLemmas.{document_sorted}
use Rattle.jsonptr_patch_document.proofs.WritingLemmas.{document_read}
use Rattle.jsonptr_patch_document.proofs.laws.writing_law.Goals as goal

pub returns-clause-read : goal.returns-clause-read
returns-clause-read c = document_read

pub returns-clause-round_trip : goal.returns-clause-round_trip
returns-clause-round_trip c = λ d os ps h k. c.patch_document_law.ensures.one_patch (document_of os) os ps (document_read os) k

pub returns-clause-sorted : goal.returns-clause-sorted
returns-clause-sorted c = document_sorted
