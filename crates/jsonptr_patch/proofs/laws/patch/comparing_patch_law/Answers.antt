use Rattle.jsonptr_patch.proofs.PatchLemmas.{patches_refused, refused_alone_some, refused_alone_never, refused_alone_one, patches_one, one_refusal, patches_document, patches_behind, patches_both}
use Rattle.jsonptr_patch.proofs.laws.patch.comparing_patch_law.Goals as goal

pub returns : goal.returns
returns c =
    let law = c.comparing_operation_law.ensures in
    record {
      some = λ by. refused_alone_some by (law.some by) (law.document by);
      not_both = λ by. refused_alone_never by (law.one_map by) (law.document by) (law.not_both by);
      one_map = λ by. patches_one by (law.one_map by) (law.document by);
      one_error = λ by. refused_alone_one by (law.one_map by) (law.document by) (law.not_both by) (law.one_error by);
      failure_not_both = λ by. patches_refused by (law.one_map by) (law.document by) (law.not_both by);
      one_failure = λ by. one_refusal by (law.one_map by) (law.document by) (law.not_both by) (law.one_error by);
      document = λ by. patches_document by (law.one_map by) (law.document by);
      after = λ by n m os ps. (patches_behind by n m os ps, λ h. patches_both by n h.0 m os ps h.1 h.2);
    }
