use Rattle.std.proofs.Common.{sym, ◌∙◌}
use Rattle.jsonptr_toml_edit.proofs.rename.put_name.Goals as goal

pub returns-in_ok-splice : goal.returns-in_ok-splice
returns-in_ok-splice c =
    let cut = c.in-Some.cut in
    record {
      name = cut.middle.now;
      name2 = c.args.renaming.now.name.now;
      splices = record {
        before = cut.before.now;
        after = cut.after.now;
        old_is = sym c.in-Some.ensures ∙ cut.whole;
        new_is = c.in_ok-splice.ensures;
      };
      named = c.in_ok-is_renamed.ensures.was c.if-branch.true;
      named2 = c.in_ok-is_renamed.ensures.is c.if-branch.true;
      whole = c.in_ok-is_renamed.ensures.whole c.if-branch.true;
    }
