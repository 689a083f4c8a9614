-- Pointers as fragments of URIs (RFC 6901, section 6), and why a call on one fails.
use Rattle.std.specs.Prelude.{◌≡◌, ◌⊎◌, ℕ, List, IsUtf8, length}
use Rattle.jsonptr.specs.Text.{Text, text}
use Rattle.jsonptr_fragment.specs.Fragment.{fragment_of, IsFragment, IsFragmentOf}
use Rattle.jsonptr_fragment.specs.FragmentError.{IsFragmentErrorOf}
use Rattle.jsonptr_fragment.specs.declared.error.FragmentError.{FragmentError}
use Rattle.jsonptr_c_calls.specs.Failures.{IsNoPointer, IsNotUtf8, IsOutOfMemory, LacksRoom}
use Rattle.jsonptr_c_calls.specs.Pointers.{HasTokens, ParsesTo}
use Rattle.jsonptr_c_calls.specs.declared.call_error.Argument.TheVariants as argument
use Rattle.jsonptr_c_calls.specs.declared.call_error.CallError.{CallError}
use Rattle.jsonptr_c_calls.specs.declared.call_error.CallError.TheVariants.{NotFragment}

-- `IsPointerIn fragment pointer`: the text `fragment` is a fragment of the pointer with the text `pointer`, which it encodes
abbrev pub IsPointerIn : List ℕ → List ℕ → Type 0
IsPointerIn fragment pointer = (tokens : List Text) × IsFragmentOf fragment tokens × HasTokens pointer tokens

-- `IsFragmentFor pointer fragment`: the text `fragment` is a `#`, and the text of the pointer `pointer` with each byte
-- percent-encoded that a fragment may not have, by digits in upper case
abbrev pub IsFragmentFor : List ℕ → List ℕ → Type 0
IsFragmentFor pointer fragment = (tokens : List Text) × HasTokens pointer tokens × (fragment ≡ fragment_of tokens)

-- `SameError e f`: the errors `e` and `f` are the same, unless one of them is a failed allocation
abbrev pub SameError : CallError → CallError → Type 0
SameError e f = IsOutOfMemory e ⊎ (IsOutOfMemory f ⊎ (e ≡ f))

-- `IsBadFragment fragment e`: the bytes `fragment` are UTF-8 but not the fragment of a pointer, and `e` reports why
abbrev pub IsBadFragment : List ℕ → CallError → Type 0
IsBadFragment fragment e =
    (fault : FragmentError) × IsUtf8 fragment × IsFragmentErrorOf fragment fault × (e ≡ NotFragment fault)

-- `IsUndecoded fragment e`: an allocation failed, which `e` reports, and the text `fragment` has the form of a fragment.
-- For a text without that form nothing is allocated
abbrev pub IsUndecoded : List ℕ → CallError → Type 0
IsUndecoded fragment e = IsOutOfMemory e × ¬ (¬ (IsFragment fragment))

-- `IsNoFragment fragment e`: the bytes `fragment` are not the fragment of a pointer, or an allocation failed, and `e`
-- reports that
abbrev pub IsNoFragment : List ℕ → CallError → Type 0
IsNoFragment fragment e =
    IsNotUtf8 argument.Text fragment e ⊎ (IsUndecoded fragment e ⊎ IsBadFragment fragment e)

-- `IsNotFromFragment fragment room e`: the pointer in the fragment `fragment` cannot be copied to `room` bytes, and `e`
-- reports why
abbrev pub IsNotFromFragment : List ℕ → ℕ → CallError → Type 0
IsNotFromFragment fragment room e =
    IsNoFragment fragment e
    ⊎ ((tokens : List Text) × IsUtf8 fragment × IsFragmentOf fragment tokens × LacksRoom (length (text tokens)) room e)

-- `IsNotToFragment pointer room e`: the fragment of the pointer `pointer` cannot be copied to `room` bytes, and `e`
-- reports why
abbrev pub IsNotToFragment : List ℕ → ℕ → CallError → Type 0
IsNotToFragment pointer room e =
    IsNoPointer pointer e
    ⊎ (IsOutOfMemory e
    ⊎ ((tokens : List Text) × ParsesTo pointer tokens × LacksRoom (length (fragment_of tokens)) room e))
