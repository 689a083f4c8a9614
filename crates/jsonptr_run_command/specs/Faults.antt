-- How the faults of called functions become faults of the run, and the faults of an input or a value that is not
-- JSON.
use Rattle.std.specs.Prelude.{◌≡◌, ◌⊎◌, ℕ, List, Option, None, alloc_error}
use Rattle.jsonptr.specs.Text.{Text}
use Rattle.jsonptr.specs.Types.Fault.{Fault}
use Rattle.jsonptr.specs.Types.Fault.TheVariants as fault
use Rattle.jsonptr.specs.declared.resolve.Error as resolve
use Rattle.jsonptr.specs.declared.assign.Error as assign
use Rattle.jsonptr_text_resolve.specs.declared.resolve.InTextError.{InTextError}
use Rattle.jsonptr_text_resolve.specs.declared.resolve.InTextError.TheVariants.{NotJson, Resolve}
use Rattle.jsonptr_text_resolve.specs.declared.resolve.InTextError.TheVariants as in_text
use Rattle.jsonptr_patch.specs.declared.operation.PatchError.{PatchError}
use Rattle.jsonptr_run_command.specs.declared.fault.RunFault.{RunFault}
use Rattle.jsonptr_run_command.specs.declared.fault.RunFault.TheVariants.{ValueNotJson, NoValue, BadPlace, BadPatch, InputNotJson, Memory, Read}
use Rattle.jsonptr_io.specs.declared.input.InputError.{InputError}
use Rattle.jsonptr_io.specs.declared.input.InputError.TheVariants as input
use Rattle.jsonptr_io.specs.Streams.{ForInput}
use Rattle.jsonptr_run_command.specs.JsonText.{json_of}

-- `of_input_fault e`: the fault of the run if the input cannot be read
abbrev pub of_input_fault : InputError → RunFault
of_input_fault (input.Memory e) = Memory e
of_input_fault input.Read = Read

-- `of_resolve_fault e`: the fault of the run if a pointer does not resolve
abbrev pub of_resolve_fault : Fault resolve.Error → RunFault
of_resolve_fault (fault.Refused e) = NoValue e
of_resolve_fault (fault.Memory e) = Memory e

-- `of_in_text_fault e`: the fault of the run if a pointer does not resolve in the text of the input
abbrev pub of_in_text_fault : InTextError → RunFault
of_in_text_fault NotJson = InputNotJson
of_in_text_fault (Resolve e) = NoValue e
of_in_text_fault (in_text.Memory e) = Memory e

-- `of_assign_fault e`: the fault of the run if a value cannot be assigned
abbrev pub of_assign_fault : Fault assign.Error → RunFault
of_assign_fault (fault.Refused e) = BadPlace e
of_assign_fault (fault.Memory e) = Memory e

-- `of_patch_fault e`: the fault of the run if a patch cannot be applied
abbrev pub of_patch_fault : Fault PatchError → RunFault
of_patch_fault (fault.Refused e) = BadPatch e
of_patch_fault (fault.Memory e) = Memory e

-- `IsInputFault known e`: `e` is a fault of reading the bytes `known` as a document. An allocation or a read failed,
-- or the bytes are not JSON
abbrev pub IsInputFault : Option (List ℕ) → RunFault → Type 0
IsInputFault known e =
    (e ≡ Memory alloc_error)
    ⊎ (e ≡ Read)
    ⊎ (ForInput known (λ bytes. json_of bytes ≡ None) × (e ≡ InputNotJson))

-- `RefusesValue text e`: `text` is not JSON, and `e` reports that, or an allocation failed
abbrev pub RefusesValue : Text → RunFault → Type 0
RefusesValue text e = ((json_of text ≡ None) × (e ≡ ValueNotJson)) ⊎ (e ≡ Memory alloc_error)
