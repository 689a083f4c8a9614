-- What a merge patch makes of a document (RFC 7396, section 2).
use Rattle.std.specs.Prelude.{Bool, false, is_some, [], ◌∷◌, Option, Some, None, if◌then◌else◌}
use Rattle.serde_json.specs.Data.{null}
use Rattle.serde_json.specs.Find.{as_null}
use Rattle.jsonptr.specs.Node.{key, place, of_json, of_toml, Label, an_object, an_array, a_leaf, NodeMap, sub}

-- `null_label`: the label of `null`
abbrev pub null_label : Label
null_label = a_leaf (of_json null)

-- `is_null l`: the label `l` is that of `null`
abbrev pub is_null : Label → Bool
is_null an_object = false
is_null (an_array n) = false
is_null (a_leaf (of_toml d)) = false
is_null (a_leaf (of_json d)) = is_some (as_null d)

-- `by_patch root member kept below own`: the label at a path below a key, after a merge with a patch. The
-- patch has the label `root` at its root and `member` under the key. If it is an object, the label is
-- `kept` where it has no such member, none where that is `null`, and else `below`. A patch that is no
-- object has its `own` label there
abbrev pub by_patch : Option Label → Option Label → Option Label → Option Label → Option Label → Option Label
by_patch (Some an_object) None kept below own = kept
by_patch (Some an_object) (Some l) kept below own = if is_null l then None else below
by_patch (Some (an_array n)) member kept below own = own
by_patch (Some (a_leaf v)) member kept below own = own
by_patch None member kept below own = own

-- `patched n p`: MergePatch of the target `n` and the patch `p`. A patch that is no object replaces the
-- target. A member of the target that an object as a patch does not have stays. A `null` in the patch
-- removes the member, and anything else is merged into it, or into nothing
abbrev pub patched : NodeMap → NodeMap → NodeMap
patched n p [] = p []
patched n p (key k ∷ w) =
    by_patch (p []) (p (key k ∷ [])) (n (key k ∷ w))
    (patched (sub n (key k ∷ [])) (sub p (key k ∷ [])) w) (p (key k ∷ w))
patched n p (place i ∷ w) = p (place i ∷ w)
