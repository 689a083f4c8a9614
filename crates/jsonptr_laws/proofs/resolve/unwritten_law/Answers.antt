use Rattle.std.proofs.Common.{Some, ap}
use Rattle.serde_json.specs.View as json
use Rattle.toml.specs.View as toml
use Rattle.jsonptr.specs.Json as json_value
use Rattle.jsonptr.specs.TomlValue as toml_value
use Rattle.jsonptr.proofs.Calling.{FindsValue_one}
use Rattle.jsonptr.proofs.TomlCalling as toml_calling
use Rattle.jsonptr_laws.proofs.resolve.unwritten_law.Goals as goal

pub returns : goal.returns
returns c = record {
  json = λ d v n ts found written. written.2.2 (ap (λ x. Some (json_value.content x)) (FindsValue_one (json.view d) ts (json.view written.2.0) (json.view v) written.2.1 found));
  toml = λ d v n ts found written. written.2.2 (ap (λ x. Some (toml_value.content x)) (toml_calling.FindsValue_one (toml.view d) ts (toml.view written.2.0) (toml.view v) written.2.1 found));
}
