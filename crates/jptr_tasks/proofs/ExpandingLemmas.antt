-- Whether an assignment creates containers.
use Rattle.serde_json.specs.Data.{Data, null, boolean, number, string, array, object}
use Rattle.serde_json.specs.Read.{read}
use Rattle.jsonptr.specs.Json.{nodes, FindsValue}
use Rattle.jsonptr.specs.Assigning.{Assigns}
use Rattle.jsonptr.specs.declared.resolve.Error as resolve
use Rattle.jsonptr_tree.proofs.JsonLemmas.{FindsValue-Finds, FindsValue_one}
use Rattle.jsonptr_tree.proofs.NodeLemmas.{sub-root}
use Rattle.jsonptr_text_resolve.specs.InText.{FindsInText, RefusesInText}
use Rattle.jsonptr_value.specs.NodeTypes.{type_of}
use Rattle.jsonptr_value.specs.declared.types.NodeType.{NodeType}
use Rattle.jptr_tasks.specs.Expanding.{IsContainerType, IsParent, HasParent, IsExpansionError, IsOutOfMemory}
use Rattle.jptr_tasks.specs.Nodes.{HasType}
use Rattle.jptr_tasks.specs.declared.expansion.ExpansionError.{ExpansionError}
use Rattle.jptr_tasks.specs.declared.expansion.ExpansionError.TheVariants.{NotJson, NoParent, Scalar as a_scalar, Memory}
use Rattle.jptr_tasks.proofs.DifferenceLemmas.{one_read}
use Rattle.std.proofs.Common.{◌≡◌, ◌⊎◌, inl, inr, ◌≤◌, ◌+◌, List, [], ◌∷◌, ◌++◌, length, length-append, append_assoc, Option, Some, None, refl, sym, ap, ◌∙◌, subst, arith}
use Rattle.std.specs.Prelude.{⊤}
use Rattle.jsonptr.specs.Text.{Text}
use Rattle.jsonptr.specs.Node.{Path, Label, an_object, an_array, a_leaf, NodeMap, Scalar, Names}
use Rattle.jsonptr.specs.Following.{StopsAt}
use Rattle.jsonptr.specs.Landing.{Lands, LandsFrom}
use Rattle.jsonptr.specs.Resolve.{Refuses}
use Rattle.jsonptr_tree.proofs.FollowingLemmas.{Finds-StopsBefore, stops_in, stops-lacks, StopsAt_one, lacks_at_leaf}
use Rattle.jsonptr_tree.proofs.NodeLemmas.{Names_one_path}
use Rattle.jsonptr_patch.proofs.OneLemmas.{no_last, last_one}

-- a node with this label is an array or an object
abbrev pub IsContainerLabel : Option Label → Type 0
IsContainerLabel None = ⊥
IsContainerLabel (Some an_object) = ⊤
IsContainerLabel (Some (an_array len)) = ⊤
IsContainerLabel (Some (a_leaf v)) = ⊥

under_container : (w : Path) (l : Option Label) (x : Text) (p : Path) (left : List Text) → IsContainerLabel l → LandsFrom w l (x ∷ []) p left → left ≡ []
under_container w None x p left c h = absurd c
under_container w (Some an_object) x p left c h = h.1
under_container w (Some (an_array len)) x p left c h = h.2
under_container w (Some (a_leaf v)) x p left c h = absurd c

-- what follows the last token but one
one_more : (f rest front : List Text) (last : Text) → f ++ rest ≡ front ++ last ∷ [] → length front ≤ length f → (rest ≡ []) ⊎ ((x : Text) × (rest ≡ x ∷ []) × (f ≡ front))
one_more f [] front last e h = inl refl
one_more f (x ∷ []) front last e h = inr (x, refl, (last_one f front x last e).0)
one_more f (x ∷ y ∷ rest) front last e h =
    let a : length (f ++ x ∷ y ∷ rest) ≡ length f + length (x ∷ y ∷ rest) = length-append f (x ∷ y ∷ rest) in
    let b : length (front ++ last ∷ []) ≡ length front + 1 = length-append front (last ∷ []) in
    let c : length (f ++ x ∷ y ∷ rest) ≡ length (front ++ last ∷ []) = ap (λ (ts : List Text). length ts) e in
    absurd (omega arith)

-- below an array or an object, a value lands as it is
pub nothing_left : (n : NodeMap) (ts front : List Text) (last : Text) (w p : Path) (left : List Text) → ts ≡ front ++ last ∷ [] → Names n front w → IsContainerLabel (n w) → Lands n ts p left → left ≡ []
nothing_left n ts front last w p left e named c h = by_rest h.rest refl (one_more h.front h.rest front last (sym h.stops.split ∙ e) (h.stops.longest front (last ∷ []) w e named))
  where
    by_rest : (rest : List Text) → h.rest ≡ rest → (h.rest ≡ []) ⊎ ((x : Text) × (h.rest ≡ x ∷ []) × (h.front ≡ front)) → left ≡ []
    by_rest rest is (inl none) = (subst (λ (r : List Text). LandsFrom h.path (n h.path) r p left) none h.lands).1
    by_rest rest is (inr one) =
        let same : h.path ≡ w = Names_one_path n front h.path w (subst (λ (f : List Text). Names n f h.path) one.2 h.stops.named) named in
        under_container h.path (n h.path) one.0 p left (subst (λ (u : Path). IsContainerLabel (n u)) (sym same) c)
        (subst (λ (r : List Text). LandsFrom h.path (n h.path) r p left) one.1 h.lands)

from_more : (w : Path) (l : Option Label) (x : Text) (rest : List Text) (p : Path) (left : List Text) → (rest ≡ [] → ⊥) → LandsFrom w l (x ∷ rest) p left → left ≡ [] → ⊥
from_more w None x rest p left more h e = absurd h
from_more w (Some an_object) x rest p left more h e = more (sym h.1 ∙ e)
from_more w (Some (an_array len)) x rest p left more h e = more (sym h.2 ∙ e)
from_more w (Some (a_leaf v)) x rest p left more h e = let no : ⊥ = cc (h.1, e) in no

-- below nothing it is expanded
pub expanded_below_nothing : (n : NodeMap) (ts front : List Text) (last : Text) (p : Path) (left : List Text) (f : List Text) (w : Path) (x : Text) (rest : List Text) → ts ≡ front ++ last ∷ [] → StopsAt n front f w (x ∷ rest) → Lands n ts p left → left ≡ [] → ⊥
expanded_below_nothing n ts front last p left f w x rest e stops h =
    let split : ts ≡ f ++ x ∷ (rest ++ last ∷ []) = e ∙ ap (λ (fs : List Text). fs ++ last ∷ []) stops.split ∙ append_assoc f (x ∷ rest) (last ∷ []) in
    let there = stops_in n ts f x (rest ++ last ∷ []) w split stops.named (stops-lacks n front f x rest w stops) in
    let same = StopsAt_one n ts h.front f h.path w h.rest (x ∷ (rest ++ last ∷ [])) h.stops there in
    from_more h.path (n h.path) x (rest ++ last ∷ []) p left (λ none. no_last rest last (sym none)) (subst (λ (r : List Text). LandsFrom h.path (n h.path) r p left) same.2 h.lands)

from_leaf : (w : Path) (l : Option Label) (v : Scalar) (x : Text) (p : Path) (left : List Text) → l ≡ Some (a_leaf v) → LandsFrom w l (x ∷ []) p left → left ≡ [] → ⊥
from_leaf w None v x p left is h e = absurd h
from_leaf w (Some an_object) v x p left is h e = let no : ⊥ = cc in no
from_leaf w (Some (an_array len)) v x p left is h e = let no : ⊥ = cc in no
from_leaf w (Some (a_leaf u)) v x p left is h e = let no : ⊥ = cc (h.1, e) in no

-- and so it is below a scalar
pub expanded_below_scalar : (n : NodeMap) (ts front : List Text) (last : Text) (w p : Path) (left : List Text) (v : Scalar) → ts ≡ front ++ last ∷ [] → Names n front w → n w ≡ Some (a_leaf v) → Lands n ts p left → left ≡ [] → ⊥
expanded_below_scalar n ts front last w p left v e named is h =
    let there = stops_in n ts front last [] w e named (lacks_at_leaf n w last v is) in
    let same = StopsAt_one n ts h.front front h.path w h.rest (last ∷ []) h.stops there in
    from_leaf h.path (n h.path) v last p left (ap n same.1 ∙ is) (subst (λ (r : List Text). LandsFrom h.path (n h.path) r p left) same.2 h.lands)

-- ---- in the document of a text

-- the path of the value that tokens identify, and its label
pub found_at : (text : Text) (d : Data) (front : List Text) (v : Data) → read text ≡ Some d → FindsInText text front v → (w : Path) × Names (nodes d) front w × (nodes d w ≡ nodes v [])
found_at text d front v is h =
    let found : FindsValue d front v = subst (λ (e : Data). FindsValue e front v) (one_read text h.0 d h.1 is) h.2 in
    let r = FindsValue-Finds d front v found in
    (r.path, r.named, sym (ap (λ (z : NodeMap). z []) r.below ∙ sub-root (nodes d) r.path))

container_label : (v : Data) → IsContainerType (type_of v) → IsContainerLabel (nodes v [])
container_label null h = absurd h
container_label (boolean b) h = absurd h
container_label (number n) h = absurd h
container_label (string s) h = absurd h
container_label (array ds) h = tt
container_label (object ms) h = tt

scalar_label : (v : Data) → (IsContainerType (type_of v) → ⊥) → (a : Scalar) × (nodes v [] ≡ Some (a_leaf a))
scalar_label null h = (_, refl)
scalar_label (boolean b) h = (_, refl)
scalar_label (number n) h = (_, refl)
scalar_label (string s) h = (_, refl)
scalar_label (array ds) h = absurd (h tt)
scalar_label (object ms) h = absurd (h tt)

no_left : (ts : List Text) (n : NodeMap) (p : Path) (left : List Text) → ts ≡ [] → Lands n ts p left → left ≡ []
no_left ts n p left none h = by_rest h.rest (ends h.front h.rest (sym h.stops.split ∙ none)) h.lands
  where
    ends : (f rest : List Text) → f ++ rest ≡ [] → rest ≡ []
    ends [] rest e = e
    ends (x ∷ f) rest e = let no : ⊥ = cc in absurd no

    by_rest : (rest : List Text) → rest ≡ [] → LandsFrom h.path (n h.path) rest p left → left ≡ []
    by_rest rest e l = (subst (λ (r : List Text). LandsFrom h.path (n h.path) r p left) e l).1

pub plain : (text : Text) (d : Data) (ts : List Text) (v m : NodeMap) (old : Option NodeMap) → read text ≡ Some d → HasParent text ts → (a : Assigns (nodes d) ts v m old) → a.left ≡ []
plain text d ts v m old is (inl none) a = no_left ts (nodes d) a.path a.left none a.lands
plain text d ts v m old is (inr h) a =
    let r = found_at text d h.0 h.3.0 is h.3.1 in
    nothing_left (nodes d) ts h.0 h.2.0 r.0 a.path a.left h.2.1 r.1
    (subst IsContainerLabel (sym r.2) (container_label h.3.0 (subst IsContainerType h.3.2 h.4))) a.lands

pub expanded : (text : Text) (d : Data) (ts : List Text) (e : ExpansionError) (v m : NodeMap) (old : Option NodeMap) → read text ≡ Some d → IsExpansionError text ts e → (IsOutOfMemory e → ⊥) → (a : Assigns (nodes d) ts v m old) → a.left ≡ [] → ⊥
expanded text d ts NotJson v m old is h going a e =
    let no : ⊥ = cc (is, h.2) in no
expanded text d ts (NoParent f) v m old is h going a e =
    let refused : Refuses (nodes d) h.0 f = subst (λ (z : Data). Refuses (nodes z) h.0 f) (one_read text h.2.0 d h.2.1 is) h.2.2 in
    expanded_below_nothing (nodes d) ts h.0 h.1.0 a.path a.left refused.stops.front refused.stops.path refused.token refused.stops.rest h.1.1 refused.stops.stops a.lands e
expanded text d ts (a_scalar t) v m old is h going a e =
    let r = found_at text d h.0 h.2.0 is h.2.1 in
    let s = scalar_label h.2.0 (λ c. h.3 (subst IsContainerType (sym h.2.2) c)) in
    expanded_below_scalar (nodes d) ts h.0 h.1.0 r.0 a.path a.left s.0 h.1.1 r.1 (r.2 ∙ s.1) a.lands e
expanded text d ts (Memory f) v m old is h going a e = going tt

-- two prefixes with one token more are one
one_parent : (ts front other : List Text) → IsParent front ts → IsParent other ts → front ≡ other
one_parent ts front other h k = (last_one front other h.0 k.0 (sym h.1 ∙ k.1)).0

pub found_refused : (text : Text) (front : List Text) (v : Data) (f : resolve.Error) → FindsInText text front v → RefusesInText text front f → ⊥
found_refused text front v f h k =
    let refused : Refuses (nodes h.0) front f = subst (λ (z : Data). Refuses (nodes z) front f) (one_read text k.0 h.0 k.1 h.1) k.2 in
    Finds-StopsBefore (nodes h.0) front (nodes v) _ _ refused.label refused.token (FindsValue-Finds h.0 front v h.2) refused.stops

one_type : (text : Text) (front : List Text) (t u : NodeType) → HasType text front t → HasType text front u → t ≡ u
one_type text front t u h k =
    let again : FindsValue h.1.0 front k.0 = subst (λ (z : Data). FindsValue z front k.0) (one_read text k.1.0 h.1.0 k.1.1 h.1.1) k.1.2 in
    h.2 ∙ ap type_of (FindsValue_one h.1.0 front h.0 k.0 h.1.2 again) ∙ sym k.2

pub not_both : (text : Text) (ts : List Text) (e : ExpansionError) → HasParent text ts → IsExpansionError text ts e → IsOutOfMemory e
not_both text ts NotJson (inl none) h = absurd (no_last h.0 h.1.0 (sym none ∙ h.1.1))
not_both text ts (NoParent f) (inl none) h = absurd (no_last h.0 h.1.0 (sym none ∙ h.1.1))
not_both text ts (a_scalar t) (inl none) h = absurd (no_last h.0 h.1.0 (sym none ∙ h.1.1))
not_both text ts (Memory f) k h = tt
not_both text ts NotJson (inr k) h = let no : ⊥ = cc (k.3.1.1, h.2) in absurd no
not_both text ts (NoParent f) (inr k) h =
    absurd (found_refused text h.0 k.3.0 f (subst (λ (fs : List Text). FindsInText text fs k.3.0) (one_parent ts k.0 h.0 k.2 h.1) k.3.1) h.2)
not_both text ts (a_scalar t) (inr k) h =
    let there : HasType text h.0 k.1 = subst (λ (fs : List Text). HasType text fs k.1) (one_parent ts k.0 h.0 k.2 h.1) k.3 in
    absurd (h.3 (subst IsContainerType (one_type text h.0 k.1 t there h.2) k.4))
