-- How the calls and the replies of a session are read as commands and answers of the machine. `nodes v` is the map of
-- value `v`.
use Rattle.std.specs.Prelude.{Option, Some, None, option_map, string_bytes}
use Rattle.jsonptr.specs.Node.{NodeMap}
use Rattle.jsonptr.specs.Report.{original_of, subject_of}
use Rattle.jsonptr_session.specs.Machine.{Command, Answer}
use Rattle.jsonptr_session.specs.Machine as machine
use Rattle.jsonptr_session.specs.declared.session.Call.{Call}
use Rattle.jsonptr_session.specs.declared.session.Call.TheVariants as call
use Rattle.jsonptr_session.specs.declared.session.Reply.{Reply}
use Rattle.jsonptr_session.specs.declared.session.Reply.TheVariants as reply

module _ {V : Type 0} (nodes : V → NodeMap) where
  -- `command_of call`: the machine's command for a call
  abbrev pub command_of : Call V → Command
  command_of (call.Parse s) = machine.parse (string_bytes s)
  command_of (call.PushBack s) = machine.push_back (string_bytes s)
  command_of (call.PushFront s) = machine.push_front (string_bytes s)
  command_of call.PopBack = machine.pop_back
  command_of call.PopFront = machine.pop_front
  command_of (call.Replace i s) = machine.replace i (string_bytes s)
  command_of (call.Append p) = machine.append p
  command_of call.Clear = machine.clear
  command_of call.Resolve = machine.resolve
  command_of (call.Write v) = machine.write (nodes v)
  command_of (call.Assign v) = machine.assign (nodes v)
  command_of call.Delete = machine.delete

  -- `answer_of reply`: the machine's answer for a reply. `None` if an allocation failed
  abbrev pub answer_of : Reply V → Option Answer
  answer_of reply.Done = Some machine.done
  answer_of (reply.BadPointer r) = Some (machine.bad_pointer (original_of r) (string_bytes (subject_of r)))
  answer_of (reply.Token t) = Some (machine.token t)
  answer_of (reply.BadPosition e) = Some (machine.bad_position e)
  answer_of (reply.Value v) = Some (machine.value (nodes v))
  answer_of (reply.NoValue e) = Some (machine.no_value e)
  answer_of (reply.Assigned v) = Some (machine.assigned (option_map nodes v))
  answer_of (reply.BadPlace e) = Some (machine.bad_place e)
  answer_of (reply.Deleted v) = Some (machine.deleted (option_map nodes v))
  answer_of (reply.Memory e) = None
