use Rattle.serde_json.specs.Data.{Data}
use Rattle.jsonptr.specs.Json.{nodes, content}
use Rattle.jsonptr.specs.Documents.{IsDocument}
use Rattle.jsonptr_tree.proofs.JsonLemmas.{nodes_one}
use Rattle.jsonptr.proofs.Calling.{map_of-IsTree, map_of-finite}
use Rattle.jsonptr_patch_diff.proofs.laws.difference_law.Goals as goal

-- the map of a JSON value is that of a document
is_document : (d : Data) → IsDocument (nodes d)
is_document d = (map_of-IsTree (content d), map_of-finite (content d))

pub returns : goal.returns
returns c =
    let law = c.patch_law.ensures in
    record {
      applied = λ old new made patch turns done. law.one_map (nodes old) (nodes made) (nodes new) patch (is_document old) done turns;
      same = λ old new made patch turns done goal_sorted made_sorted. nodes_one made new made_sorted goal_sorted (law.one_map (nodes old) (nodes made) (nodes new) patch (is_document old) done turns);
      never_refused = λ old new patch e turns refused. law.not_both (nodes old) (nodes new) patch e (is_document old) turns refused;
    }
