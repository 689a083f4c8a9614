use Rattle.jsonptr_patch.proofs.PatchLemmas.{refused_alone_some, refused_alone_never, refused_alone_one, patches_one, patches_document, patches_behind, patches_both}
use Rattle.jsonptr_patch.proofs.laws.patch.patch_law.Goals as goal
use Rattle.jsonptr_patch.specs.declared.comparison.Comparison.TheVariants.{Strict}

pub returns : goal.returns
returns c =
    let law = c.operation_law.ensures in
    record {
      some = refused_alone_some Strict law.some law.document;
      not_both = refused_alone_never Strict law.one_map law.document law.not_both;
      one_map = patches_one Strict law.one_map law.document;
      one_error = refused_alone_one Strict law.one_map law.document law.not_both law.one_error;
      document = patches_document Strict law.one_map law.document;
      after = λ n m os ps. (patches_behind Strict n m os ps, λ h. patches_both Strict n h.0 m os ps h.1 h.2);
    }
