-- The text of a pointer, as contracts see it.
use Rattle.std.specs.Prelude.{List}
use Rattle.jsonptr_grammar.specs.Text.{Text, tokens_of}
use Rattle.jsonptr_syntax.specs.declared.pointer_text.PointerText.{PointerText}

-- `tokens p` are the decoded tokens of the text `p`, in order
abbrev pub tokens : PointerText → List Text
tokens p = tokens_of p.inner.now

-- `text_of p` are the bytes of the text `p`
abbrev pub text_of : PointerText → Text
text_of p = p.inner.now
