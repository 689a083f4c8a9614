use Rattle.std.proofs.Common.{◌≡◌, ◌++◌, ◌∷◌, [], List, String, Global, take, map, sym, subst}
use Rattle.std.specs.Prelude.{All}
use Rattle.std.proofs.lemmas.List.Elements.{All-push}
use Rattle.serde_json.specs.declared.value.Value.{Value}
use Rattle.jsonptr.specs.Documents.{json_map, JsonHasSortedKeys}
use Rattle.jsonptr_session.specs.declared.session.Call.{Call}
use Rattle.jsonptr_session.specs.Order.{CallHas}
use Rattle.jsonptr_session.specs.Session.{command_of}
use Rattle.jsonptr_uses.specs.Sessions.{string_map, IsJsonString}
use Rattle.jsonptr_uses.proofs.CheckingLemmas.{next}
use Rattle.jsonptr_uses.proofs.SessionsLemmas.{pushed, images_push}
use Rattle.jsonptr_uses.proofs.sessions.read_calls.Goals as goal

pub loop-call-preserved : goal.loop-call-preserved
loop-call-preserved c =
    let held = c.loop-call.invariant in
    let before = take c.loop-call.call-index c.args.calls.now in
    let taken = next c.args.calls.now c.loop-call.call-index c.call-item.result c.loop-call-test.true c.call-item.is in
    let more = pushed c.push.new.self.items c.loop-call.made.items c.in_ok-one.one _ c.push.ensures.items c.in_ok-map_err.ensures.variant in
    record {
      read = subst (λ (l : List (Call (String Global))). All (CallHas IsJsonString) l) taken (All-push (CallHas IsJsonString) before c.call-item.result held.read c.in_ok-one.ensures.read);
      commands = subst (λ (l : List (Call (String Global))). map (command_of json_map) c.push.new.self.items ≡ map (command_of string_map) l) taken
          (subst (λ (l : List (Call Value)). map (command_of json_map) l ≡ map (command_of string_map) (before ++ c.call-item.result ∷ [])) (sym more)
          (images_push (command_of json_map) (command_of string_map) c.loop-call.made.items before c.in_ok-one.one c.call-item.result held.commands c.in_ok-one.ensures.command));
      sorted = subst (λ (l : List (Call Value)). All (CallHas JsonHasSortedKeys) l) (sym more) (All-push (CallHas JsonHasSortedKeys) c.loop-call.made.items c.in_ok-one.one held.sorted c.in_ok-one.ensures.sorted);
    }
