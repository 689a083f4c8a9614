-- The calls before the index are read.
use Rattle.std.proofs.Common.{◌≡◌, take, map, All}
use Rattle.jsonptr.specs.Documents.{json_map, JsonHasSortedKeys}
use Rattle.jsonptr_session.specs.Session.{command_of}
use Rattle.jsonptr_session.specs.Order.{CallHas}
use Rattle.jsonptr_uses.specs.Sessions.{string_map, IsJsonString}
use Rattle.jsonptr_uses.proofs.sessions.read_calls.Given as goal

abbrev pub invariant-loop-call : goal.invariant-loop-call
invariant-loop-call l = record {
  read : All (CallHas IsJsonString) (take l.call-index l.calls);
  commands : map (command_of json_map) l.made.items ≡ map (command_of string_map) (take l.call-index l.calls);
  sorted : All (CallHas JsonHasSortedKeys) l.made.items;
}
