-- How one call of a session is a step of the machine. Used only by private contracts; no public contract depends on
-- this file.
use Rattle.std.specs.Prelude.{List, Option, Result, option_and_then}
use Rattle.std.specs.Result.{result_ok}
use Rattle.jsonptr.specs.Text.{Text}
use Rattle.jsonptr.specs.Node.{NodeMap}
use Rattle.jsonptr_session.specs.Machine.{Command, Answer, IsStep}
use Rattle.jsonptr_session.specs.Session.{answer_of}
use Rattle.jsonptr_session.specs.declared.session.Reply.{Reply}

-- `answered nodes result`: the machine's answer that the reply in `result` is, or `None` if an allocation failed
abbrev pub answered : {V E : Type 0} → (V → NodeMap) → Result (Reply V) E → Option Answer
answered nodes result = option_and_then (answer_of nodes) (result_ok result)

-- `StepsOnTokens blank old c a new`: for every document, command `c` with answer `a` leads from the tokens `old` to
-- `new`, and leaves the document unchanged
abbrev pub StepsOnTokens : NodeMap → List Text → Command → Option Answer → List Text → Type 0
StepsOnTokens blank old c a new =
    (nodes : NodeMap)
    → IsStep blank (record { tokens = old; nodes = nodes }) c a (record { tokens = new; nodes = nodes })

-- `StepsOnNodes blank tokens old c a new`: command `c` with answer `a` leads from the map `old` to `new`, and leaves
-- the tokens unchanged
abbrev pub StepsOnNodes : NodeMap → List Text → NodeMap → Command → Option Answer → NodeMap → Type 0
StepsOnNodes blank tokens old c a new =
    IsStep blank (record { tokens = tokens; nodes = old }) c a (record { tokens = tokens; nodes = new })
