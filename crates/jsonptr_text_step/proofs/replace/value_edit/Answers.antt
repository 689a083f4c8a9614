use Rattle.std.proofs.Common.{◌≡◌, Some, refl, string_bytes, subst}
use Rattle.serde_json.specs.Data.{Data}
use Rattle.serde_json.specs.Read.{read}
use Rattle.jsonptr.specs.Text.{Text}
use Rattle.json.specs.Lex.{tokens as lexed}
use Rattle.jsonptr_text_check.specs.Child.{IsValueText}
use Rattle.jsonptr_text_step.proofs.replace.value_edit.Goals as goal

pub returns : goal.returns
returns c =
    let flat = string_bytes c.args.printed.now.flat in
    let reads = c.in_ok-is_value_of.ensures.value c.if-not-branch.false in
    let same = c.in_ok-is_value_of.ensures.same c.if-not-branch.false in
    let reads_flat = subst (λ (f : Text). (e : Data) × (read f ≡ Some e) × IsValueText e c.as_str.result.now) c.as_str-2.ensures.value reads in
    let same_flat = subst (λ (f : Text). lexed c.as_str.result.now ≡ lexed f) c.as_str-2.ensures.value same in
    record {
      before = c.in_ok-from_str.field-0;
      after = c.in_ok-clone.field-0;
      change = refl;
      old = c.in_ok-from_str.ensures.ok;
      new = c.in_ok-clone.ensures.cases;
      trimmed = c.is_trimmed.ensures c.if-not-is_trimmed.false;
      reads = subst (λ (p : Text). (e : Data) × (read flat ≡ Some e) × IsValueText e p) c.as_str.ensures.value reads_flat;
      same = subst (λ (p : Text). lexed p ≡ lexed flat) c.as_str.ensures.value same_flat;
    }
