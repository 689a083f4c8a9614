use Rattle.std.proofs.Common.{◌≡◌, Some, take, string_bytes}
use Rattle.serde_json.specs.Data.{Data}
use Rattle.serde_json.specs.Read.{read}
use Rattle.jsonptr_comments.specs.Comments.{IsWithoutComments}
use Rattle.jsonptr_comments_step.specs.PrivateStepping.{IsPatched}
use Rattle.jsonptr_comments_step.proofs.apply.operate_rest.Given as goal

abbrev pub invariant-operations : goal.invariant-operations
invariant-operations l =
    IsWithoutComments (string_bytes l.current.text) (string_bytes l.current.bare)
    × ((d : Data) → read (string_bytes l.fn.texts.bare) ≡ Some d → IsPatched (string_bytes l.fn.texts.text) (string_bytes l.fn.texts.bare) (take l.operation-index l.operations) (string_bytes l.current.text) (string_bytes l.current.bare))
