use Rattle.std.proofs.Common.{◌∷◌, ◌∙◌, ap, refl, arith}
use Rattle.std.specs.List.{flat_map}
use Rattle.percent_encoding.specs.Percent.{percent_decode}
use Rattle.percent_encoding.proofs.PercentLemmas.{percent_decode_not_percent}
use Rattle.jsonptr.specs.Text.{Text, text}
use Rattle.jsonptr_fragment.specs.Fragment.{encoded_byte}
use Rattle.jsonptr_fragment.proofs.EncodingLemmas.{encodes_written, decode_encoded, bytes_of_rest}
use Rattle.jsonptr_fragment.proofs.ErrorLaws.{one_pointer}
use Rattle.jsonptr_fragment.proofs.laws.fragment_law.Goals as goal

pub returns-clause-written : goal.returns-clause-written
returns-clause-written c = λ ts utf8 small. (flat_map encoded_byte (text ts), refl, encodes_written (text ts) small, utf8)

pub returns-clause-one_pointer : goal.returns-clause-one_pointer
returns-clause-one_pointer c = one_pointer

pub returns-clause-decoded : goal.returns-clause-decoded
returns-clause-decoded c = λ s ts p.
    ap (λ (t : Text). percent_decode t) p.1 ∙ percent_decode_not_percent 35 p.0 (λ h. omega (arith, h)) ∙ ap (λ (t : Text). 35 ∷ t) (decode_encoded p.2)

pub returns-clause-bytes : goal.returns-clause-bytes
returns-clause-bytes c = λ s p. bytes_of_rest s p.0 p.1 p.2 p.3
