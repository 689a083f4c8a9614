-- One level of a TOML value.
use Rattle.std.proofs.Common.{◌≡◌, [], Some, String, Vec, BTreeMap, Global, refl, sym, ap, ◌∙◌, rules}
use Rattle.toml.specs.Data as toml
use Rattle.toml.specs.Data.{as_array, as_table}
use Rattle.toml.specs.View.{view, items_view, members_view}
use Rattle.toml.specs.declared.value.Value.{Value, out-Value, String as of_string, Integer as of_integer, Float as of_float, Boolean as of_boolean, Datetime as of_datetime, Array, Table, the_lemmas}
use Rattle.toml.specs.declared.value.Value.TheOpen.{Value-F}
use Rattle.toml.proofs.Views.{view-Array, view-Table}
use Rattle.jsonptr_tree.specs.TomlValue.{content}
use Rattle.jsonptr_tree.proofs.TomlLemmas.{content_of, content_one, string_is, integer_is, float_is, boolean_is, datetime_is}
use Rattle.jsonptr_document.specs.PrivateToml.{stands_in}
use Rattle.jsonptr_document.proofs.LevelNodes.{IsLeaf, leaf}
use Rattle.jsonptr_document.proofs.LevelPut.{same_content}

-- what is at the root of a value is the value
pub same_view : (v u : Value) → stands_in v [] u → view u ≡ view v
same_view v u h = content_one (view u) (view v) (same_content content_of v u h)

array_seen : (d : toml.Data) (ds : toml.Items) → Some ds ≡ as_array d → d ≡ toml.array ds
array_seen (toml.string s) ds e = let no : ⊥ = cc in absurd no
array_seen (toml.integer z) ds e = let no : ⊥ = cc in absurd no
array_seen (toml.float x) ds e = let no : ⊥ = cc in absurd no
array_seen (toml.boolean b) ds e = let no : ⊥ = cc in absurd no
array_seen (toml.datetime dt) ds e = let no : ⊥ = cc in absurd no
array_seen (toml.array es) ds e = let same : es ≡ ds = cc in ap toml.array same
array_seen (toml.table ms) ds e = let no : ⊥ = cc in absurd no

-- the value of which these are the elements
pub array_at : (at : Value) (v : Vec Value Global) → Some (items_view v.items) ≡ as_array (view at) → content_of at ≡ content_of (Array v)
array_at at v is = ap content (array_seen (view at) (items_view v.items) is ∙ sym (view-Array v))

table_seen : (d : toml.Data) (ms : toml.Members) → Some ms ≡ as_table d → d ≡ toml.table ms
table_seen (toml.string s) ms e = let no : ⊥ = cc in absurd no
table_seen (toml.integer z) ms e = let no : ⊥ = cc in absurd no
table_seen (toml.float x) ms e = let no : ⊥ = cc in absurd no
table_seen (toml.boolean b) ms e = let no : ⊥ = cc in absurd no
table_seen (toml.datetime dt) ms e = let no : ⊥ = cc in absurd no
table_seen (toml.array ds) ms e = let no : ⊥ = cc in absurd no
table_seen (toml.table fs) ms e = let same : fs ≡ ms = cc in ap toml.table same

-- the value of which these are the members
pub table_at : (at : Value) (m : BTreeMap (String Global) Value) → Some (members_view m.entries) ≡ as_table (view at) → content_of at ≡ content_of (Table m)
table_at at m is = ap content (table_seen (view at) (members_view m.entries) is ∙ sym (view-Table m))

-- what is neither an array nor a table is a leaf
is_leaf : (d : Value) (o : Value-F Value) → out-Value d ≡ o → ((v : Vec Value Global) → d ≡ Array v → ⊥) → ((m : BTreeMap (String Global) Value) → d ≡ Table m → ⊥) → IsLeaf content_of d
is_leaf d (Value-F.String x) is no_array no_table =
    let same : d ≡ of_string x = search (rules, the_lemmas) in
    leaf content_of d _ (ap content_of same ∙ string_is x)
is_leaf d (Value-F.Integer x) is no_array no_table =
    let same : d ≡ of_integer x = search (rules, the_lemmas) in
    leaf content_of d _ (ap content_of same ∙ integer_is x)
is_leaf d (Value-F.Float x) is no_array no_table =
    let same : d ≡ of_float x = search (rules, the_lemmas) in
    leaf content_of d _ (ap content_of same ∙ float_is x)
is_leaf d (Value-F.Boolean x) is no_array no_table =
    let same : d ≡ of_boolean x = search (rules, the_lemmas) in
    leaf content_of d _ (ap content_of same ∙ boolean_is x)
is_leaf d (Value-F.Datetime x) is no_array no_table =
    let same : d ≡ of_datetime x = search (rules, the_lemmas) in
    leaf content_of d _ (ap content_of same ∙ datetime_is x)
is_leaf d (Value-F.Array v) is no_array no_table = absurd (no_array v (search (rules, the_lemmas)))
is_leaf d (Value-F.Table m) is no_array no_table = absurd (no_table m (search (rules, the_lemmas)))

pub leaf_of : (d : Value) → ((v : Vec Value Global) → d ≡ Array v → ⊥) → ((m : BTreeMap (String Global) Value) → d ≡ Table m → ⊥) → IsLeaf content_of d
leaf_of d no_array no_table = is_leaf d (out-Value d) refl no_array no_table
