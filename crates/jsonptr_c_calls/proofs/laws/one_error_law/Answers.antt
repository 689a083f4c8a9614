use Rattle.jsonptr_patch.specs.declared.comparison.Comparison.TheVariants.{Numeric}
use Rattle.jsonptr_c_calls.proofs.FragmentLemmas.{not_from_fragment, not_to_fragment}
use Rattle.jsonptr_c_calls.proofs.LawLemmas.{no_pointers, no_tokens, not_escaped, not_pushed, not_popped, not_parsed, not_parsed_exactly, pointer_lacked, not_printed_in, not_read_in, unfound_in, not_assigned_in, not_deleted_in, not_patch, not_applied, not_patched, failed_one, not_printed_from, not_located, lacks_location}
use Rattle.jsonptr_c_calls.proofs.SetterLemmas.{not_value_assigned, not_string_assigned, not_number_assigned}
use Rattle.jsonptr_c_calls.proofs.KeyErrorLemmas.{no_first_key, no_next_key}
use Rattle.jsonptr_c_calls.proofs.laws.one_error_law.Goals as goal

pub returns-clause-count : goal.returns-clause-count
returns-clause-count c = no_pointers

pub returns-clause-token : goal.returns-clause-token
returns-clause-token c = no_tokens c.parse_law.ensures.not_both

pub returns-clause-escape : goal.returns-clause-escape
returns-clause-escape c = not_escaped

pub returns-clause-push : goal.returns-clause-push
returns-clause-push c = not_pushed c.parse_law.ensures.not_both

pub returns-clause-pop : goal.returns-clause-pop
returns-clause-pop c = not_popped c.parse_law.ensures.not_both

pub returns-clause-from_fragment : goal.returns-clause-from_fragment
returns-clause-from_fragment c = not_from_fragment c.fragment_law.ensures.one_pointer c.fragment_error_law.ensures.not_both c.fragment_error_law.ensures.one_error

pub returns-clause-to_fragment : goal.returns-clause-to_fragment
returns-clause-to_fragment c = not_to_fragment c.parse_law.ensures.not_both c.parse_law.ensures.one

pub returns-clause-parse : goal.returns-clause-parse
returns-clause-parse c = not_parsed

pub returns-clause-parse_exactly : goal.returns-clause-parse_exactly
returns-clause-parse_exactly c = not_parsed_exactly

pub returns-clause-lost_number : goal.returns-clause-lost_number
returns-clause-lost_number c = pointer_lacked

pub returns-clause-get : goal.returns-clause-get
returns-clause-get c = not_printed_in c.parse_law.ensures.not_both

pub returns-clause-string : goal.returns-clause-string
returns-clause-string c = not_read_in c.parse_law.ensures.not_both

pub returns-clause-node : goal.returns-clause-node
returns-clause-node c = unfound_in c.parse_law.ensures.not_both

pub returns-clause-assign : goal.returns-clause-assign
returns-clause-assign c = not_assigned_in c.parse_law.ensures.not_both

pub returns-clause-assign_value : goal.returns-clause-assign_value
returns-clause-assign_value c = not_value_assigned c.parse_law.ensures.not_both

pub returns-clause-assign_string : goal.returns-clause-assign_string
returns-clause-assign_string c = not_string_assigned c.parse_law.ensures.not_both

pub returns-clause-assign_number : goal.returns-clause-assign_number
returns-clause-assign_number c = not_number_assigned c.parse_law.ensures.not_both

pub returns-clause-first_key : goal.returns-clause-first_key
returns-clause-first_key c = no_first_key c.parse_law.ensures.not_both

pub returns-clause-next_key : goal.returns-clause-next_key
returns-clause-next_key c = no_next_key c.parse_law.ensures.not_both

pub returns-clause-delete : goal.returns-clause-delete
returns-clause-delete c = not_deleted_in c.parse_law.ensures.not_both

pub returns-clause-patch : goal.returns-clause-patch
returns-clause-patch c = not_patch c.parse_law.ensures.not_both

pub returns-clause-apply : goal.returns-clause-apply
returns-clause-apply c = not_applied c.parse_law.ensures.not_both

pub returns-clause-apply_with_inverse : goal.returns-clause-apply_with_inverse
returns-clause-apply_with_inverse c = not_patched c.parse_law.ensures.not_both (c.comparing_patch_law.ensures.failure_not_both Numeric)

pub returns-clause-failed : goal.returns-clause-failed
returns-clause-failed c = failed_one (c.comparing_patch_law.ensures.one_failure Numeric)

pub returns-clause-resolve : goal.returns-clause-resolve
returns-clause-resolve c = not_printed_from c.parse_law.ensures.not_both

pub returns-clause-locate : goal.returns-clause-locate
returns-clause-locate c = not_located c.parse_law.ensures.not_both

pub returns-clause-location : goal.returns-clause-location
returns-clause-location c = lacks_location c.parse_law.ensures.not_both
