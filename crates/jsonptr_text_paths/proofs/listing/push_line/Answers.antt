use Rattle.std.proofs.Common.{◌≡◌, ◌++◌, arith, subst, string_bytes}
use Rattle.jsonptr.specs.Pointer.{tokens}
use Rattle.jsonptr.specs.Text.{Text, text}
use Rattle.jsonptr_text_paths.specs.Listing.{IsField}
use Rattle.jsonptr_text_paths.proofs.ListingLemmas.{line_made}
use Rattle.jsonptr_text_paths.proofs.listing.push_line.Goals as goal

pub returns : goal.returns
returns c =
    line_made (text (tokens c.args.pointer)) c.args.short.now (string_bytes c.args.out.now) (string_bytes c.push_field.new.out) (string_bytes c.push.new.self) (string_bytes c.push_str.new.self) (string_bytes c.push-2.new.self)
    (subst (λ (t : Text). (field : Text) × IsField t field × (string_bytes c.push_field.new.out ≡ string_bytes c.args.out.now ++ field)) c.as_str.ensures.tokens c.in_ok-push_field.ensures)
    (rw (c.in_ok-push.ensures.ascii (omega arith)) at c.in_ok-push.ensures.bytes)
    c.in_ok-push_str.ensures.bytes
    (rw (c.in_ok-push-2.ensures.ascii (omega arith)) at c.in_ok-push-2.ensures.bytes)
