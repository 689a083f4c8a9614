-- A text of a new document, in the layout of an old text.
use Rattle.std.specs.Prelude.{◌≡◌, ◌⊎◌, ◌<◌, Some, None, alloc_error, string_bytes}
use Rattle.serde_json.specs.Data.{Data, depth}
use Rattle.serde_json.specs.Read.{read, max_depth}
use Rattle.jsonptr.specs.Text.{Text}
use Rattle.jsonptr.specs.Json.{nodes}
use Rattle.jsonptr.specs.Node.{NodeMap}
use Rattle.jsonptr_text_relayout.specs.declared.relaid.Relaid.{Relaid}
use Rattle.jsonptr_text_relayout.specs.declared.relaid.Relaid.TheVariants.{Kept, Rewritten}
use Rattle.jsonptr_text_relayout.specs.declared.relaid.RelayoutError.{RelayoutError}
use Rattle.jsonptr_text_relayout.specs.declared.relaid.RelayoutError.TheVariants.{NotJson, TooDeep, Memory}
use Rattle.jsonptr_text_relayout.specs.declared.relaid.RelayoutTextError.{RelayoutTextError}
use Rattle.jsonptr_text_relayout.specs.declared.relaid.RelayoutTextError.TheVariants as text

-- `text_of_relaid relaid`: the text that `relaid` has
abbrev pub text_of_relaid : Relaid → Text
text_of_relaid (Kept s) = string_bytes s
text_of_relaid (Rewritten s) = string_bytes s

-- `ReadsAs t n`: the text `t` is JSON, and is read as a document with the map `n`
abbrev pub ReadsAs : Text → NodeMap → Type 0
ReadsAs t n = (d : Data) × (read t ≡ Some d) × (nodes d ≡ n)

-- `KeepsLayout t relaid`: `relaid` is the text `t`, in its own layout
abbrev pub KeepsLayout : Text → Relaid → Type 0
KeepsLayout t (Kept s) = string_bytes s ≡ t
KeepsLayout t (Rewritten s) = ⊥

-- `IsRelayoutError old d e`: the document `d` is not laid out as the text `old` is, for the reason `e`
abbrev pub IsRelayoutError : Text → Data → RelayoutError → Type 0
IsRelayoutError old d NotJson = read old ≡ None
IsRelayoutError old d TooDeep = max_depth < depth d
IsRelayoutError old d (Memory e) = e ≡ alloc_error

-- `IsRelayoutTextError old new e`: the text `new` is not laid out as the text `old` is, for the reason `e`. Of two bad texts
-- the old one is at fault
abbrev pub IsRelayoutTextError : Text → Text → RelayoutTextError → Type 0
IsRelayoutTextError old new text.OldNotJson = read old ≡ None
IsRelayoutTextError old new text.NewNotJson = ((d : Data) × (read old ≡ Some d)) × (read new ≡ None)
IsRelayoutTextError old new (text.Memory e) = e ≡ alloc_error
