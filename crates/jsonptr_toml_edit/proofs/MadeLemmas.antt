-- What headers and dotted keys make.
use Rattle.std.proofs.Common.{◌≡◌, inl, inr, [], ◌∷◌, List, Option, Some, None, refl, subst, ◌∙◌}
use Rattle.toml.specs.Data as toml
use Rattle.jsonptr.specs.Text.{Text}
use Rattle.jsonptr.specs.Node.{Path, Step, Label, Scalar, a_leaf, of_toml, NodeMap, NamesStep, Names}
use Rattle.jsonptr.specs.Landing.{LandsFrom}
use Rattle.jsonptr.specs.Assigning.{Assigns, found_at}
use Rattle.jsonptr.specs.TomlValue.{nodes}
use Rattle.jsonptr_toml_edit.specs.Bytes.{HasMore, MakeAlone, IsTomlContainer, IsWholeText, ReplacesOne}

no_step : (l : Option Label) (x : Text) (s : Step) (a : Scalar) → l ≡ Some (a_leaf a) → NamesStep l x s → ⊥
no_step l x s a leaf h = subst (λ (o : Option Label). NamesStep o x s) leaf h

at_root : (n : NodeMap) (front : List Text) (w : Path) (a : Scalar) → n [] ≡ Some (a_leaf a) → Names n front w → w ≡ []
at_root n [] [] a leaf h = refl
at_root n [] (s ∷ w) a leaf h = absurd h
at_root n (x ∷ xs) [] a leaf h = absurd h
at_root n (x ∷ xs) (s ∷ w) a leaf h = absurd (no_step (n []) x s a leaf h.0)

lands_at_root : (n : NodeMap) (w p : Path) (rest left : List Text) (a : Scalar) → n [] ≡ Some (a_leaf a) → w ≡ [] → LandsFrom w (n w) rest p left → p ≡ []
lands_at_root n w p [] left a leaf root h = h.0 ∙ root
lands_at_root n w p (x ∷ rest) left a leaf root h =
    let there = subst (λ (u : Path). LandsFrom w (n u) (x ∷ rest) p left) root h in
    (subst (λ (o : Option Label). LandsFrom w o (x ∷ rest) p left) leaf there).0 ∙ root

found_there : (n : NodeMap) (p : Path) (a : Scalar) → n [] ≡ Some (a_leaf a) → p ≡ [] → None ≡ found_at n p → ⊥
found_there n p a leaf root h =
    let here : None ≡ found_at n [] = subst (λ (u : Path). None ≡ found_at n u) root h in
    let wrong : None ≡ Some _ = rw leaf at here in
    cc

-- a scalar has no room for more
full : (n v m : NodeMap) (ts : List Text) (a : Scalar) → n [] ≡ Some (a_leaf a) → Assigns n ts v m None → ⊥
full n v m ts a leaf h =
    let lands = h.lands in
    let root = at_root n lands.front lands.path a leaf lands.stops.named in
    found_there n h.path a leaf (lands_at_root n lands.path h.path lands.rest h.left a leaf root lands.lands) h.replaced

has_room : (w x : toml.Data) → HasMore w x → IsTomlContainer w
has_room (toml.table ms) x h = inl (ms, refl)
has_room (toml.array ds) x h = inr (ds, refl)
has_room (toml.string s) x h = absurd (full (nodes (toml.string s)) (nodes h.1) (nodes x) h.0 (of_toml (toml.string s)) refl h.2)
has_room (toml.integer z) x h = absurd (full (nodes (toml.integer z)) (nodes h.1) (nodes x) h.0 (of_toml (toml.integer z)) refl h.2)
has_room (toml.float y) x h = absurd (full (nodes (toml.float y)) (nodes h.1) (nodes x) h.0 (of_toml (toml.float y)) refl h.2)
has_room (toml.boolean b) x h = absurd (full (nodes (toml.boolean b)) (nodes h.1) (nodes x) h.0 (of_toml (toml.boolean b)) refl h.2)
has_room (toml.datetime dt) x h = absurd (full (nodes (toml.datetime dt)) (nodes h.1) (nodes x) h.0 (of_toml (toml.datetime dt)) refl h.2)

pub made_is_container : (ts : List Text) (w : toml.Data) (t : Text) → MakeAlone ts w t → IsTomlContainer w
made_is_container ts w t h = has_room w h.3.1 h.3.2

pub own_text_whole : (ts : List Text) (w v : toml.Data) (middle piece before after : Text) → (IsTomlContainer w → ⊥) → ReplacesOne ts w v middle piece before after → IsWholeText w middle before after
own_text_whole ts w v middle piece before after scalar (inl h) = h.0
own_text_whole ts w v middle piece before after scalar (inr h) = absurd (scalar (made_is_container ts w middle h.0))
