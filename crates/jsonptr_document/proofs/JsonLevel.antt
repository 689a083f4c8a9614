-- One level of a JSON value.
use Rattle.std.proofs.Common.{◌≡◌, [], Some, String, Vec, BTreeMap, Global, refl, sym, ap, ◌∙◌, rules}
use Rattle.serde_json.specs.Data as json
use Rattle.serde_json.specs.Find.{as_array, as_object}
use Rattle.serde_json.specs.View.{view, items_view, members_view}
use Rattle.serde_json.specs.declared.value.Value.{Value, out-Value, Null, Bool as of_bool, Number as of_number, String as of_string, Array, Object, the_lemmas}
use Rattle.serde_json.specs.declared.value.Value.TheOpen.{Value-F}
use Rattle.serde_json.proofs.Views.{view-Array, view-Object}
use Rattle.jsonptr_tree.specs.Json.{content}
use Rattle.jsonptr_tree.proofs.JsonLemmas.{content_of, content_one, null_is, bool_is, number_is, string_is}
use Rattle.jsonptr_document.specs.PrivateJson.{stands_in}
use Rattle.jsonptr_document.proofs.LevelNodes.{IsLeaf, leaf}
use Rattle.jsonptr_document.proofs.LevelPut.{same_content}

-- what is at the root of a value is the value
pub same_view : (v u : Value) → stands_in v [] u → view u ≡ view v
same_view v u h = content_one (view u) (view v) (same_content content_of v u h)

array_seen : (d : json.Data) (ds : json.Items) → Some ds ≡ as_array d → d ≡ json.array ds
array_seen json.null ds e = let no : ⊥ = cc in absurd no
array_seen (json.boolean b) ds e = let no : ⊥ = cc in absurd no
array_seen (json.number n) ds e = let no : ⊥ = cc in absurd no
array_seen (json.string s) ds e = let no : ⊥ = cc in absurd no
array_seen (json.array es) ds e = let same : es ≡ ds = cc in ap json.array same
array_seen (json.object ms) ds e = let no : ⊥ = cc in absurd no

-- the value of which these are the elements
pub array_at : (at : Value) (v : Vec Value Global) → Some (items_view v.items) ≡ as_array (view at) → content_of at ≡ content_of (Array v)
array_at at v is = ap content (array_seen (view at) (items_view v.items) is ∙ sym (view-Array v))

object_seen : (d : json.Data) (ms : json.Members) → Some ms ≡ as_object d → d ≡ json.object ms
object_seen json.null ms e = let no : ⊥ = cc in absurd no
object_seen (json.boolean b) ms e = let no : ⊥ = cc in absurd no
object_seen (json.number n) ms e = let no : ⊥ = cc in absurd no
object_seen (json.string s) ms e = let no : ⊥ = cc in absurd no
object_seen (json.array ds) ms e = let no : ⊥ = cc in absurd no
object_seen (json.object fs) ms e = let same : fs ≡ ms = cc in ap json.object same

-- the value of which these are the members
pub object_at : (at : Value) (m : BTreeMap (String Global) Value) → Some (members_view m.entries) ≡ as_object (view at) → content_of at ≡ content_of (Object m)
object_at at m is = ap content (object_seen (view at) (members_view m.entries) is ∙ sym (view-Object m))

-- what is neither an array nor an object is a leaf
is_leaf : (d : Value) (o : Value-F Value) → out-Value d ≡ o → ((v : Vec Value Global) → d ≡ Array v → ⊥) → ((m : BTreeMap (String Global) Value) → d ≡ Object m → ⊥) → IsLeaf content_of d
is_leaf d Value-F.Null is no_array no_object =
    let same : d ≡ Null = search (rules, the_lemmas) in
    leaf content_of d _ (ap content_of same ∙ null_is)
is_leaf d (Value-F.Bool x) is no_array no_object =
    let same : d ≡ of_bool x = search (rules, the_lemmas) in
    leaf content_of d _ (ap content_of same ∙ bool_is x)
is_leaf d (Value-F.Number x) is no_array no_object =
    let same : d ≡ of_number x = search (rules, the_lemmas) in
    leaf content_of d _ (ap content_of same ∙ number_is x)
is_leaf d (Value-F.String x) is no_array no_object =
    let same : d ≡ of_string x = search (rules, the_lemmas) in
    leaf content_of d _ (ap content_of same ∙ string_is x)
is_leaf d (Value-F.Array v) is no_array no_object = absurd (no_array v (search (rules, the_lemmas)))
is_leaf d (Value-F.Object m) is no_array no_object = absurd (no_object m (search (rules, the_lemmas)))

pub leaf_of : (d : Value) → ((v : Vec Value Global) → d ≡ Array v → ⊥) → ((m : BTreeMap (String Global) Value) → d ≡ Object m → ⊥) → IsLeaf content_of d
leaf_of d no_array no_object = is_leaf d (out-Value d) refl no_array no_object
