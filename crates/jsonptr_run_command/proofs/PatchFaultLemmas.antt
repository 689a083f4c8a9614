-- Patches that fail, as faults of the run.
use Rattle.std.proofs.Common.{◌≡◌, inl, inr, List, map, Result, Err, IfErr, refl}
use Rattle.std.specs.Result.{IsErrAnd}
use Rattle.std.proofs.lemmas.Result.{err_from_is_err_and}
use Rattle.serde_json.specs.Data.{Data}
use Rattle.jsonptr.specs.Fault.{IfRefused}
use Rattle.jsonptr.specs.Json.{nodes}
use Rattle.jsonptr.specs.Types.Fault.{Fault}
use Rattle.jsonptr.specs.Types.Fault.TheVariants.{Refused, Memory}
use Rattle.jsonptr_patch.specs.Patching.{RefusesPatch}
use Rattle.jsonptr_patch.specs.declared.operation.Operation.{Operation}
use Rattle.jsonptr_patch.specs.declared.operation.PatchError.{PatchError}
use Rattle.jsonptr_run_command.specs.Faults.{of_patch_fault}
use Rattle.jsonptr_run_command.specs.Operations.{data_of}
use Rattle.jsonptr_run_command.specs.Private.{IsFaultOf}
use Rattle.jsonptr_run_command.specs.Run.{PatchesOrFails}
use Rattle.jsonptr_run_command.specs.declared.fault.RunFault.{RunFault}

fault_of : (T : Type 0) (d : Data) (os : List Operation) (fault : Fault PatchError) (e : RunFault) → e ≡ of_patch_fault fault → IfRefused {T = T} (Err fault) (RefusesPatch (nodes d) os) → IsFaultOf (PatchesOrFails d (map data_of os)) e
fault_of T d os (Refused f) e is h = inl (os, f, refl, h, is)
fault_of T d os (Memory g) e is h = inr is

pub patch_fails : {S : Type 0} (T : Type 0) (d : Data) (os : List Operation) (r : Result S RunFault) (fault : Fault PatchError) → IsErrAnd r (λ e. e ≡ of_patch_fault fault) → IfRefused {T = T} (Err fault) (RefusesPatch (nodes d) os) → IfErr r (IsFaultOf (PatchesOrFails d (map data_of os)))
patch_fails T d os r fault refused h =
    let p = err_from_is_err_and r refused in
    rw p.1 (fault_of T d os fault p.0 p.2 h)
