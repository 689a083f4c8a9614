use Rattle.serde_json.specs.Data.{null}
use Rattle.toml.specs.Data.{table, no_members}
use Rattle.jsonptr_tree.proofs.documents.document_law.Goals as goal

pub returns : goal.returns
returns c = record {
  json = λ v. (c.json_law.ensures.tree _, c.json_law.ensures.finite _);
  json_blank = (c.json_law.ensures.tree null, c.json_law.ensures.finite null);
  toml = λ v. (c.toml_law.ensures.tree _, c.toml_law.ensures.finite _);
  toml_blank = (c.toml_law.ensures.tree (table no_members), c.toml_law.ensures.finite (table no_members));
}
