use Rattle.jsonptr_patch.specs.declared.comparison.Comparison.TheVariants.{Numeric}
use Rattle.jsonptr_c_calls.specs.Messages.{message_of}
use Rattle.jsonptr_c_calls.proofs.FragmentLemmas.{from_fragment, to_fragment}
use Rattle.jsonptr_c_calls.proofs.NotBothLemmas.{not_counted, no_token, not_escaped, not_pushed, not_popped, not_parsed, not_parsed_exactly, not_parsed_by, not_printed, not_read, not_described, not_assigned, not_deleted, not_applied, not_inverted, not_compared, not_printed_from, not_pointed_to, none_lost, not_located, not_pointed_at, not_written}
use Rattle.serde_json.specs.Data.{float, number, string}
use Rattle.jsonptr_c_calls.proofs.SetterLemmas.{value_assigned, string_assigned, number_assigned}
use Rattle.jsonptr_c_calls.proofs.KeyErrorLemmas.{first_key_copied, next_key_copied}
use Rattle.jsonptr_c_calls.proofs.laws.not_both_law.Goals as goal

pub returns-clause-count : goal.returns-clause-count
returns-clause-count c = not_counted c.parse_law.ensures.not_both

pub returns-clause-token : goal.returns-clause-token
returns-clause-token c = no_token c.parse_law.ensures.not_both

pub returns-clause-escape : goal.returns-clause-escape
returns-clause-escape c = not_escaped

pub returns-clause-push : goal.returns-clause-push
returns-clause-push c = not_pushed c.parse_law.ensures.not_both

pub returns-clause-pop : goal.returns-clause-pop
returns-clause-pop c = not_popped c.parse_law.ensures.not_both

pub returns-clause-from_fragment : goal.returns-clause-from_fragment
returns-clause-from_fragment c = from_fragment c.fragment_law.ensures.one_pointer c.fragment_error_law.ensures.not_both

pub returns-clause-to_fragment : goal.returns-clause-to_fragment
returns-clause-to_fragment c = to_fragment c.parse_law.ensures.not_both

pub returns-clause-parse : goal.returns-clause-parse
returns-clause-parse c = not_parsed

pub returns-clause-parse_exactly : goal.returns-clause-parse_exactly
returns-clause-parse_exactly c = not_parsed_exactly

pub returns-clause-parse_with : goal.returns-clause-parse_with
returns-clause-parse_with c = not_parsed_by

pub returns-clause-get : goal.returns-clause-get
returns-clause-get c = not_printed c.parse_law.ensures.not_both

pub returns-clause-string : goal.returns-clause-string
returns-clause-string c = not_read c.parse_law.ensures.not_both

pub returns-clause-node : goal.returns-clause-node
returns-clause-node c = not_described c.parse_law.ensures.not_both

pub returns-clause-assign : goal.returns-clause-assign
returns-clause-assign c = not_assigned c.parse_law.ensures.not_both

pub returns-clause-assign_value : goal.returns-clause-assign_value
returns-clause-assign_value c = value_assigned c.parse_law.ensures.not_both

pub returns-clause-assign_string : goal.returns-clause-assign_string
returns-clause-assign_string c = λ s old new pointer. string_assigned c.parse_law.ensures.not_both s old new pointer (string s)

pub returns-clause-assign_number : goal.returns-clause-assign_number
returns-clause-assign_number c = λ x old new pointer. number_assigned c.parse_law.ensures.not_both x old new pointer (number (float x))

pub returns-clause-first_key : goal.returns-clause-first_key
returns-clause-first_key c = first_key_copied c.parse_law.ensures.not_both

pub returns-clause-next_key : goal.returns-clause-next_key
returns-clause-next_key c = next_key_copied c.parse_law.ensures.not_both

pub returns-clause-delete : goal.returns-clause-delete
returns-clause-delete c = not_deleted c.parse_law.ensures.not_both

pub returns-clause-patch : goal.returns-clause-patch
returns-clause-patch c = not_applied c.patch_document_law.ensures.one_patch c.patch_document_law.ensures.not_both (c.comparing_patch_law.ensures.failure_not_both Numeric) c.parse_law.ensures.not_both c.patch_document_law.ensures.same_inverse c.inverse_depth_law.ensures.same

pub returns-clause-patch_with_inverse : goal.returns-clause-patch_with_inverse
returns-clause-patch_with_inverse c = not_inverted c.patch_document_law.ensures.one_patch c.patch_document_law.ensures.not_both (c.comparing_patch_law.ensures.failure_not_both Numeric) c.parse_law.ensures.not_both c.patch_document_law.ensures.same_inverse c.inverse_depth_law.ensures.same

pub returns-clause-diff : goal.returns-clause-diff
returns-clause-diff c = not_compared

pub returns-clause-resolve : goal.returns-clause-resolve
returns-clause-resolve c = not_printed_from c.parse_law.ensures.not_both

pub returns-clause-lost_number : goal.returns-clause-lost_number
returns-clause-lost_number c = not_pointed_to

pub returns-clause-none_lost : goal.returns-clause-none_lost
returns-clause-none_lost c = none_lost

pub returns-clause-locate : goal.returns-clause-locate
returns-clause-locate c = not_located c.parse_law.ensures.not_both

pub returns-clause-pointer_at : goal.returns-clause-pointer_at
returns-clause-pointer_at c = not_pointed_at

pub returns-clause-message : goal.returns-clause-message
returns-clause-message c = λ r. not_written (message_of r)
