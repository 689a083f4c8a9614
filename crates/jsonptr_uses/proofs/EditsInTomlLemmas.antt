-- Two edits in a TOML text, one after the other.
use Rattle.std.proofs.Common.{◌≡◌, List, Option, Some, None, IfSome, MatchOption, Result, Ok, Err, IfOk, String, string_bytes, subst}
use Rattle.std.specs.declared.alloc.Global.{Global}
use Rattle.toml.specs.Data.{Data}
use Rattle.jsonptr.specs.Text.{Text}
use Rattle.jsonptr_toml.specs.InToml.{LacksInToml}
use Rattle.jsonptr_toml_edit.specs.Bytes.{AssignsTomlBytes, DeletesTomlBytes}
use Rattle.jsonptr_toml_edit.specs.EditInToml.{AssignsInToml, DeletesInToml}
use Rattle.jsonptr_uses.specs.EditsInToml.{AssignsAndDeletes, AssignsAndLacks}
use Rattle.jsonptr_uses.specs.declared.edits_in_toml.TwoEditsError.{TwoEditsError}

replaces : (text t mid : Text) (ts us : List Text) (v : Data) (o : Option (String Global)) → t ≡ mid → AssignsInToml text ts v mid → AssignsTomlBytes text ts v mid
    → MatchOption o (LacksInToml t us) (λ s. DeletesInToml t us (string_bytes s)) → IfSome o (λ s. DeletesTomlBytes t us (string_bytes s))
    → MatchOption o (AssignsAndLacks text ts v us) (λ s. AssignsAndDeletes text ts v us (string_bytes s))
replaces text t mid ts us v (Some s) same assigned bytes deleted left =
    (mid, assigned, bytes, subst (λ (m : Text). DeletesInToml m us (string_bytes s)) same deleted, subst (λ (m : Text). DeletesTomlBytes m us (string_bytes s)) same left)
replaces text t mid ts us v None same assigned bytes lacks left = (mid, assigned, bytes, subst (λ (m : Text). LacksInToml m us) same lacks)

pub replaces_if : (text t mid : Text) (ts us : List Text) (v : Data) (r : Result (Option (String Global)) TwoEditsError) → t ≡ mid → AssignsInToml text ts v mid → AssignsTomlBytes text ts v mid
    → IfOk r (λ o. MatchOption o (LacksInToml t us) (λ s. DeletesInToml t us (string_bytes s))) → IfOk r (λ o. IfSome o (λ s. DeletesTomlBytes t us (string_bytes s)))
    → IfOk r (λ o. MatchOption o (AssignsAndLacks text ts v us) (λ s. AssignsAndDeletes text ts v us (string_bytes s)))
replaces_if text t mid ts us v (Ok o) same assigned bytes deleted left = replaces text t mid ts us v o same assigned bytes deleted left
replaces_if text t mid ts us v (Err e) same assigned bytes deleted left = tt
