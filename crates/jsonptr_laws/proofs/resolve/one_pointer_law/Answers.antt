use Rattle.jsonptr_laws.proofs.OnePointerLemmas.{one_pointer, json_keys, toml_keys}
use Rattle.jsonptr_laws.proofs.resolve.one_pointer_law.Goals as goal

pub returns : goal.returns
returns c = record {
  each = one_pointer;
  json_keys = json_keys;
  toml_keys = toml_keys;
  json = λ v w there. one_pointer _ (c.json_law.ensures.tree _) w there (json_keys v w there);
  toml = λ v w there. one_pointer _ (c.toml_law.ensures.tree _) w there (toml_keys v w there);
}
