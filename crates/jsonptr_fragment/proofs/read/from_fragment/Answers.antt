use Rattle.jsonptr_fragment.proofs.ReadLemmas.{buffer_encodes}
use Rattle.jsonptr_fragment.proofs.read.from_fragment.Goals as goal

pub read_decoded-requires : goal.read_decoded-requires
read_decoded-requires c =
    let encoded = c.in_default-first_fault.ensures in
    buffer_encodes c.in-Some-eq35-default.fragment.now encoded.0 c.as_slice.result.now _ _ _ encoded.1 c.as_slice.ensures.value c.in_ok-append_to.ensures.ok c.new-decoded.ensures.items c.percent_decode.ensures.bytes
