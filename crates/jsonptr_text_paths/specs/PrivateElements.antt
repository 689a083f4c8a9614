-- What a walk over some first elements of an array visits. Used only by private contracts; no public contract depends
-- on this file.
use Rattle.std.specs.Prelude.{List, [], length}
use Rattle.serde_json.specs.Data.{Data, Items, array}
use Rattle.serde_json.specs.declared.value.Value.{Value}
use Rattle.jsonptr_text_search.specs.PrivateReading.{with_items_before}
use Rattle.jsonptr.specs.Content.{FindsContent}
use Rattle.jsonptr.specs.Json.{content, nodes}
use Rattle.jsonptr.specs.Text.{Text}
use Rattle.jsonptr_text_paths.specs.PrivateWalking.{AddsPointers, InFirst, VisitsAll, content_of}

-- `VisitsElements visits ds s t`: visiting the nodes of the elements `ds`, with which an array that is the document
-- begins, turns the visitor `s` into `t`, whatever elements follow
pub record VisitsElements {S : Type 0} (visits : S → List Text → Value → S → Type 0) (ds : List Data) (s t : S) : Type 0 where
  pub lists : List (List Text)
  pub adds : (rest : Items) → AddsPointers (nodes (array (with_items_before ds rest))) (InFirst (length ds)) [] [] lists
  pub visited : (rest : Items)
      → VisitsAll visits (λ ts u. FindsContent (content (array (with_items_before ds rest))) ts (content_of u)) lists s t
