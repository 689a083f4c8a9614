-- The node of a document that a list of tokens names, and its location.
use Rattle.std.specs.Prelude.{◌≡◌, List, Some}
use Rattle.serde_json.specs.Data.{Data}
use Rattle.serde_json.specs.View.{view}
use Rattle.jsonptr.specs.Text.{Text}
use Rattle.jsonptr.specs.Node.{Names}
use Rattle.jsonptr.specs.Json.{content, nodes, value_at}
use Rattle.jsonptr_patch_journal.specs.Location.{path_of}
use Rattle.jsonptr_patch_journal.specs.declared.locate.LocatedNode.{LocatedNode}

-- `Locates d tokens l`: `tokens` name the location of `l` in the document `d`, and the node of `l` is there
pub record Locates (d : Data) (tokens : List Text) (l : LocatedNode) : Type 0 where
  pub named : Names (nodes d) tokens (path_of l.location)
  pub there : value_at (path_of l.location) d ≡ Some (content (view l.node.now))
