-- What the steps of one document to another do.
use Rattle.std.proofs.Common.{◌≡◌, List, [], ◌∷◌, sym, ap, ◌∙◌, subst}
use Rattle.serde_json.specs.View.{view}
use Rattle.serde_json.specs.declared.value.Value.{Value}
use Rattle.jsonptr.specs.Text.{Text}
use Rattle.jsonptr.specs.Json.{nodes}
use Rattle.jsonptr.specs.Node.{Path, NodeMap, sub, Names}
use Rattle.jsonptr.specs.Put.{put}
use Rattle.jsonptr_tree.proofs.NodeLemmas.{Names_one_path}
use Rattle.jsonptr_tree.proofs.PutLemmas.{sub-put, Names-put}
use Rattle.jsonptr_patch.specs.Operating.{Applies}
use Rattle.jsonptr_patch.specs.Patching.{Patches}
use Rattle.jsonptr_patch.specs.declared.operation.Operation.{Operation}
use Rattle.jsonptr_patch.specs.declared.operation.Operation.TheVariants.{Replace}
use Rattle.jsonptr_patch.proofs.InverseLemmas.{value_root}
use Rattle.jsonptr_patch_diff.specs.Diff.{AreOfOneKind, IsStepTo, StepsTo}

pub steps_patch : (m n k : NodeMap) (os : List Operation) → StepsTo m n os k → Patches n os k
steps_patch m n k [] h = h
steps_patch m n k (o ∷ os) h = (h.0, h.2, steps_patch m h.0 k os h.3)

pub never_followed : (m n : NodeMap) (path : List Text) (value : Value) (w : Path) → IsStepTo m n (Replace path value) → Names n path w → AreOfOneKind (n w) (m w) → ⊥
never_followed m n path value w h named kind =
    let there : w ≡ h.at = Names_one_path n path w h.at named h.named in
    h.other (subst (λ (p : Path). AreOfOneKind (n p) (m p)) there kind)

pub replaced_once : (m n next : NodeMap) (path : List Text) (first second : Value) → IsStepTo m n (Replace path first) → Applies n (Replace path first) next → IsStepTo m next (Replace path second) → ⊥
replaced_once m n next path first second h made again =
    let there : made.path ≡ h.at = Names_one_path n path made.path h.at made.named h.named in
    let left : next ≡ put n h.at (nodes (view first)) = made.made ∙ ap (λ (p : Path). put n p (nodes (view first))) there in
    let named : Names next path h.at = subst (λ (q : NodeMap). Names q path h.at) (sym left) (Names-put n path h.at (nodes (view first)) h.named (value_root first)) in
    let here : again.at ≡ h.at = Names_one_path next path again.at h.at again.named named in
    let done : sub next h.at ≡ sub m h.at = ap (λ (q : NodeMap). sub q h.at) left ∙ sub-put n h.at (nodes (view first)) ∙ h.final in
    again.differs (subst (λ (p : Path). sub next p ≡ sub m p) (sym here) done)
