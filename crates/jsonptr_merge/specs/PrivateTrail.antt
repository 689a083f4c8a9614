-- The tokens of a location. Used only by private contracts; no public contract depends on this file.
use Rattle.std.specs.Prelude.{List, [], ◌∷◌, ◌++◌}
use Rattle.jsonptr.specs.Text.{Text}
use Rattle.jsonptr_merge.specs.declared.trail.Trail.{Trail, Root, Member'}

-- `tokens_of l`: the tokens of the pointer to the location `l`
abbrev pub tokens_of : Trail → List Text
tokens_of Root = []
tokens_of (Member' p parent k) = tokens_of parent ++ k.now ∷ []
