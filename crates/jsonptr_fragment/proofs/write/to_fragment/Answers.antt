use Rattle.std.proofs.Common.{◌++◌, ◌∙◌, ap, List, ℕ, string_bytes}
use Rattle.jsonptr.specs.Pointer.{tokens}
use Rattle.jsonptr.specs.Text.{text}
use Rattle.jsonptr_fragment.proofs.SetLemmas.{written_text}
use Rattle.jsonptr_fragment.proofs.write.to_fragment.Goals as goal

pub returns : goal.returns
returns c =
    written_text (string_bytes c.in_ok-fragment.fragment) (string_bytes c.append_to.new.out) c.as_str.result.now (text (tokens c.args.pointer))
    c.in_ok-fragment.ensures.ok
    (c.in_ok-append_to.ensures.ok ∙ ap (λ (t : List ℕ). string_bytes c.in_ok-fragment.fragment ++ t) c.utf8_percent_encode.ensures.text)
    c.as_str.ensures.tokens
