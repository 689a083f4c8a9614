use Rattle.std.proofs.Common.{rules, sym, ap, ◌∙◌}
use Rattle.std.proofs.lemmas.Bool.{false≢true}
use Rattle.serde_json.specs.View.{view}
use Rattle.jsonptr.specs.Json.{nodes}
use Rattle.jsonptr.specs.Pointer.{tokens}
use Rattle.jsonptr.specs.Resolve.{Refuses}
use Rattle.jsonptr.proofs.Calling.{FindsValue_one, Refuses-NamesNothing}
use Rattle.jsonptr_value.specs.NodeTypes.{type_of}
use Rattle.jsonptr_value.specs.contracts.types.NodeType.{the_type}
use Rattle.jsonptr_uses.proofs.checker.is_met.Goals as goal
use denote.Enum.Bare.{same_true, true_same}

pub returns-in-Ok : goal.returns-in-Ok
returns-in-Ok c =
    let found = c.in-Ok.ensures.found in (
      λ same. (view c.in-Ok.value.now, found, sym c.node_type.ensures ∙ same_true the_type tt _ _ (sym c.eq.ensures ∙ same)),
      λ met. c.eq.ensures ∙ true_same the_type _ _ (c.node_type.ensures ∙ ap type_of (FindsValue_one (view c.args.document.now) (tokens c.args.requirement.now.pointer) (view c.in-Ok.value.now) met.0 found met.1) ∙ met.2),
    )

pub returns-in_ok-refused-in-Err : goal.returns-in_ok-refused-in-Err
returns-in_ok-refused-in-Err c =
    let refused : Refuses (nodes (view c.args.document.now)) (tokens c.args.requirement.now.pointer) c.in_ok-refused-in-Err.field-0 = search rules in
    (λ wrong. absurd (false≢true wrong), λ met. absurd (Refuses-NamesNothing _ _ _ refused met.1.path met.1.named))
