use Rattle.std.proofs.Common.{[], ◌∷◌, ◌++◌, List, ℕ, Option, Some, None, IfSome, string_bytes, refl, subst}
use Rattle.serde_json.specs.Data.{Data}
use Rattle.jsonptr.specs.Pointer.{tokens}
use Rattle.jsonptr_text_check.specs.Child.{IsReadAs}
use Rattle.jsonptr_text_step.specs.declared.remove.Shorter.{Shorter}
use Rattle.jsonptr_text_step.specs.Bytes.{CutsBytes}
use Rattle.jsonptr_text_step.proofs.remove.cut_in_turn.Goals as goal

pub cuts-init : goal.cuts-init
cuts-init c = λ same. ([], refl)

pub cuts-preserved : goal.cuts-preserved
cuts-preserved c = λ same.
    let i = c.cuts.invariant same in
    let next = string_bytes c.in-Some-2.next.text in
    let x = c.args.members.token.now in
    let path = tokens c.args.members.site.now.pointer ++ x ∷ [] in
    let cut = subst (λ (o : Option Shorter). IfSome o (λ s. (v : Data) × IsReadAs None v × CutsBytes c.as_str-old.result.now (string_bytes s.text) path (Some c.args.members.key.now) v)) c.in-Some-2.is c.in_ok-next.ensures in
    let named = subst (λ (k : List ℕ). CutsBytes c.as_str-old.result.now next path (Some k) cut.0) same cut.2 in
    (string_bytes c.cuts.current ∷ i.0, (i.1, (cut.0, subst (λ (t : List ℕ). CutsBytes t next path (Some x) cut.0) c.as_str-old.ensures.value named)))
