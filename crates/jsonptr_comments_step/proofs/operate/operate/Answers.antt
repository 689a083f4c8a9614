use Rattle.std.proofs.Common.{List, string_bytes, sym, ap, ◌∙◌, subst}
use Rattle.serde_json.specs.View.{view}
use Rattle.jsonptr.specs.Text.{Text}
use Rattle.jsonptr.specs.Json.{nodes}
use Rattle.jsonptr.specs.Pointer.{tokens}
use Rattle.jsonptr_patch.specs.declared.operation.Operation.{Operation}
use Rattle.jsonptr_patch.specs.declared.operation.Operation.TheVariants.{Add, Remove, Replace, Move, Copy}
use Rattle.jsonptr_text_step.specs.Steps.{PassesInText}
use Rattle.jsonptr_comments_step.specs.PrivateStepping.{IsOperated}
use Rattle.jsonptr_comments_step.proofs.OperationLemmas.{tested, operated_at}
use Rattle.jsonptr_comments_step.proofs.operate.operate.Goals as goal

pub returns-in-Add : goal.returns-in-Add
returns-in-Add c =
    operated_at (string_bytes c.args.texts.text) (string_bytes c.args.texts.bare) _ _ c.args.operation.now.operation (Add (tokens c.as_ptr.result) c.in-Add.value) c.args.operation.now.raw c.add_given.result
    c.as_str.ensures.value c.as_str-2.ensures.value (ap (λ (ts : List Text). Add ts c.in-Add.value) c.as_ptr.ensures.tokens ∙ sym c.in-Add.is) c.add_given.ensures

pub returns-in-Remove : goal.returns-in-Remove
returns-in-Remove c =
    operated_at (string_bytes c.args.texts.text) (string_bytes c.args.texts.bare) _ _ c.args.operation.now.operation (Remove (tokens c.as_ptr-in-Remove.result)) c.args.operation.now.raw c.remove_value.result
    c.as_str.ensures.value c.as_str-2.ensures.value (ap (λ (ts : List Text). Remove ts) c.as_ptr-in-Remove.ensures.tokens ∙ sym c.in-Remove.is) (c.remove_value.ensures c.args.operation.now.raw)

pub returns-in-Replace : goal.returns-in-Replace
returns-in-Replace c =
    operated_at (string_bytes c.args.texts.text) (string_bytes c.args.texts.bare) _ _ c.args.operation.now.operation (Replace (tokens c.as_ptr-in-Replace.result) c.in-Replace.value) c.args.operation.now.raw c.replace_given.result
    c.as_str.ensures.value c.as_str-2.ensures.value (ap (λ (ts : List Text). Replace ts c.in-Replace.value) c.as_ptr-in-Replace.ensures.tokens ∙ sym c.in-Replace.is) c.replace_given.ensures

pub returns-in-Copy : goal.returns-in-Copy
returns-in-Copy c =
    let from = tokens c.as_ptr-in-Copy.result in
    operated_at (string_bytes c.args.texts.text) (string_bytes c.args.texts.bare) _ _ c.args.operation.now.operation (Copy from (tokens c.as_ptr-in-Copy-2.result)) c.args.operation.now.raw c.copy_value.result
    c.as_str.ensures.value c.as_str-2.ensures.value
    (ap (λ (ts : List Text). Copy from ts) c.as_ptr-in-Copy-2.ensures.tokens ∙ ap (λ (ts : List Text). Copy ts c.in-Copy.path) c.as_ptr-in-Copy.ensures.tokens ∙ sym c.in-Copy.is)
    (c.copy_value.ensures c.args.operation.now.raw)

pub returns-in-Move : goal.returns-in-Move
returns-in-Move c =
    let from = tokens c.as_ptr-in-Move.result in
    operated_at (string_bytes c.args.texts.text) (string_bytes c.args.texts.bare) _ _ c.args.operation.now.operation (Move from (tokens c.as_ptr-in-Move-2.result)) c.args.operation.now.raw c.move_value.result
    c.as_str.ensures.value c.as_str-2.ensures.value
    (ap (λ (ts : List Text). Move from ts) c.as_ptr-in-Move-2.ensures.tokens ∙ ap (λ (ts : List Text). Move ts c.in-Move.path) c.as_ptr-in-Move.ensures.tokens ∙ sym c.in-Move.is)
    (c.move_value.ensures c.args.operation.now.raw)

pub returns-then-branch : goal.returns-then-branch
returns-then-branch c =
    let text = string_bytes c.args.texts.text in
    let bare = string_bytes c.args.texts.bare in
    let ts = tokens c.as_ptr-in-Test.result in
    let passes = subst (λ (t : Text). PassesInText t ts (nodes (view c.in-Test.value))) c.as_str-2.ensures.value (c.in_ok-passes-in-Test.ensures c.if-branch.true) in
    subst (λ (o : Operation). IsOperated text bare o c.args.operation.now.raw text bare) (sym c.in-Test.is)
    (tested text bare ts c.in-Test.path c.in-Test.value c.args.operation.now.raw c.as_ptr-in-Test.ensures.tokens c.requires passes)
