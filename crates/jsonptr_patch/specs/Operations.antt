-- Which operations a patch has.
use Rattle.std.specs.Prelude.{All, IsUtf8}
use Rattle.jsonptr_patch.specs.declared.operation.Operation.{Operation}
use Rattle.jsonptr_patch.specs.declared.operation.Operation.TheVariants.{Add, Remove, Replace, Move, Copy, Test}

-- `IsOperation o`: the tokens of the pointers of `o` are UTF-8, as those of all pointers are
abbrev pub IsOperation : Operation → Type 0
IsOperation (Add path value) = All IsUtf8 path
IsOperation (Remove path) = All IsUtf8 path
IsOperation (Replace path value) = All IsUtf8 path
IsOperation (Move from path) = All IsUtf8 from × All IsUtf8 path
IsOperation (Copy from path) = All IsUtf8 from × All IsUtf8 path
IsOperation (Test path value) = All IsUtf8 path
