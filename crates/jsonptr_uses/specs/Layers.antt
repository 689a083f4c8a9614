-- Settings in three layers, and the layer that a setting comes from.
use Rattle.std.specs.Prelude.{◌≡◌, ◌≢◌, List, [], ◌∷◌, All, Option, Some, None}
use Rattle.serde_json.specs.View.{view}
use Rattle.jsonptr.specs.Text.{Text}
use Rattle.jsonptr.specs.Delete.{NamesNothing}
use Rattle.jsonptr.specs.Following.{Finds}
use Rattle.jsonptr.specs.Json.{nodes}
use Rattle.jsonptr.specs.Node.{an_object, NodeMap}
use Rattle.jsonptr_merge.specs.MergePatch.{patched}
use Rattle.jsonptr_uses.specs.declared.layers.Layers.{Layers}
use Rattle.jsonptr_uses.specs.declared.layers.Source.{Source}
use Rattle.jsonptr_uses.specs.declared.layers.Source.TheVariants.{Defaults, Site, User, Members}

-- `site_of l`: the map of the defaults of `l` with the merge patch of the site
abbrev pub site_of : Layers → NodeMap
site_of l = patched (nodes (view l.defaults)) (nodes (view l.site))

-- `settings_of l`: that map with the merge patch of the user
abbrev pub settings_of : Layers → NodeMap
settings_of l = patched (site_of l) (nodes (view l.user))

-- `IsFrom settings layer above ts`: the tokens `ts` resolve to the same value in the settings and in the layer, and in
-- none of the layers `above`. The value is not an object
pub record IsFrom (settings layer : NodeMap) (above : List NodeMap) (ts : List Text) : Type 0 where
  pub value : NodeMap
  pub there : Finds settings ts value
  pub given : Finds layer ts value
  pub not_above : All (λ n. NamesNothing n ts) above
  pub no_object : value [] ≢ Some an_object

-- `IsMembers settings ts`: the tokens `ts` resolve to an object in the settings
abbrev pub IsMembers : NodeMap → List Text → Type 0
IsMembers settings ts = (value : NodeMap) × Finds settings ts value × (value [] ≡ Some an_object)

-- `IsSource l ts source`: the setting at the tokens `ts` comes from this layer of `l`, or there is none
abbrev pub IsSource : Layers → List Text → Option Source → Type 0
IsSource l ts None = NamesNothing (settings_of l) ts
IsSource l ts (Some Members) = IsMembers (settings_of l) ts
IsSource l ts (Some User) = IsFrom (settings_of l) (nodes (view l.user)) [] ts
IsSource l ts (Some Site) = IsFrom (settings_of l) (nodes (view l.site)) (nodes (view l.user) ∷ []) ts
IsSource l ts (Some Defaults) =
    IsFrom (settings_of l) (nodes (view l.defaults)) (nodes (view l.user) ∷ nodes (view l.site) ∷ []) ts
