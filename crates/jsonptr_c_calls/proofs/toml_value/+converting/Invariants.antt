use Rattle.std.proofs.Common.{◌≡◌, List, ◌++◌}
use Rattle.serde_json.proofs.Views.{Entry as JsonEntry}
use Rattle.jsonptr_c_calls.proofs.TomlValueLemmas.{HaveSameKeys, HoldMembers, Holds}
use Rattle.jsonptr_c_calls.proofs.toml_value.+converting.Given as goal

abbrev pub invariant-toml_array_of-loop-element : goal.invariant-toml_array_of-loop-element
invariant-toml_array_of-loop-element l = Holds l.elements.items l.made.items l.element-items l.element-index

abbrev pub invariant-toml_table_of-loop-key : goal.invariant-toml_table_of-loop-key
invariant-toml_table_of-loop-key l = record {
  done : List JsonEntry;
  all : l.members.entries ≡ done ++ l.key-iterator;
  keys : HaveSameKeys l.made.entries done;
  holds : HoldMembers l.members.entries l.made.entries l.key-iterator;
}
