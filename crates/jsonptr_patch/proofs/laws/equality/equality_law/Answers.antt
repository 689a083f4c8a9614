use Rattle.jsonptr_patch.proofs.EqualityLemmas.{equal_back, equal_on, equal_paths, equal_parts, equal_arrays, equal_objects, float_alone, equal_itself, array_equal, object_equal, null_equal, truth_equal, text_equal, number_equal, numbers_equal}
use Rattle.jsonptr_patch.proofs.laws.equality.equality_law.Goals as goal

pub returns : goal.returns
returns c = record {
  symmetric = equal_back;
  transitive = equal_on;
  paths = equal_paths;
  parts = equal_parts;
  no_float = float_alone;
  itself = equal_itself;
  array = array_equal;
  object = object_equal;
  arrays = equal_arrays;
  objects = equal_objects;
  null = null_equal;
  truth = truth_equal;
  text = text_equal;
  number = number_equal;
  same_number = numbers_equal;
}
