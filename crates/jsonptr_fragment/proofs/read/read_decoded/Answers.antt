use Rattle.jsonptr_fragment.proofs.ReadLemmas.{decodes, inside, fault_within, read_not_utf8, read_not_pointer}
use Rattle.jsonptr_fragment.proofs.read.read_decoded.Goals as goal

pub offset_of-offset-requires-clause-encodes : goal.offset_of-offset-requires-clause-encodes
offset_of-offset-requires-clause-encodes c = decodes c.args.fragment.now c.args.decoded.now c.requires

pub offset_of-offset-requires-clause-within : goal.offset_of-offset-requires-clause-within
offset_of-offset-requires-clause-within c =
    inside c.args.fragment.now c.args.decoded.now c.requires c.valid_up_to.result _ c.valid_up_to.ensures c.in-Err.ensures.cases.1.short

pub returns-in-Err-clause-refused : goal.returns-in-Err-clause-refused
returns-in-Err-clause-refused c =
    read_not_utf8 c.args.fragment.now c.args.decoded.now c.requires c.valid_up_to.result c.offset_of-offset.result c.offset_of-offset.ensures _ c.valid_up_to.ensures c.in-Err.ensures.cases.1

pub offset_of-offset-requires-in-Err-parse-clause-encodes : goal.offset_of-offset-requires-in-Err-parse-clause-encodes
offset_of-offset-requires-in-Err-parse-clause-encodes c = decodes c.args.fragment.now c.args.decoded.now c.requires

pub offset_of-offset-requires-in-Err-parse-clause-within : goal.offset_of-offset-requires-in-Err-parse-clause-within
offset_of-offset-requires-in-Err-parse-clause-within c =
    fault_within c.args.fragment.now c.args.decoded.now c.requires c.in-Ok.text.now c.in-Err-parse.cause c.complete_offset.result c.in-Ok.ensures.cases.0 c.in-Err-parse.ensures.refused c.complete_offset.ensures

pub returns-in-Err-parse-clause-refused : goal.returns-in-Err-parse-clause-refused
returns-in-Err-parse-clause-refused c =
    read_not_pointer c.args.fragment.now c.args.decoded.now c.requires c.complete_offset.result c.offset_of-offset-in-Err-parse.result c.offset_of-offset-in-Err-parse.ensures
    c.in-Ok.text.now c.in-Err-parse.cause c.in-Ok.ensures.cases.0 c.in-Ok.ensures.cases.1 c.in-Err-parse.ensures.refused c.complete_offset.ensures
