use Rattle.std.proofs.Common.{◌≡◌, [], ◌∷◌, ◌++◌, refl, sym, ap, ap₂, ◌∙◌, inl, List}
use Rattle.std.specs.Prelude.{string_bytes}
use Rattle.jsonptr_grammar.specs.Text.{Text, esc, tokens_of}
use Rattle.jsonptr_syntax.proofs.Edits.{before_last, front_at, point_at, holds, list_is}
use Rattle.jsonptr_syntax.proofs.pointer_text_buf.PointerTextBuf.pop_back.Goals as goal
use Rattle.jsonptr_syntax.proofs.pointer_text_buf.PointerTextBuf.pop_back.Goals.{In_ok-last}

list : (c : In_ok-last) → c.args.self.now ≡ tokens_of c.in-Some.front.inner.now ++ c.in-Some.last ∷ []
list c = sym c.self.view_is ∙ ap tokens_of (sym c.as_str.ensures.value) ∙ ap tokens_of (sym c.new.ensures) ∙ c.in-Some.ensures

parts : (c : In_ok-last) → string_bytes c.self.inside.inner ≡ c.in-Some.front.inner.now ++ 47 ∷ esc c.in-Some.last
parts c = before_last _ _ c.self.invariant c.self.view_is _ c.in-Some.last c.in-Some.front.valid (list c)

pub truncate-requires : goal.truncate-requires
truncate-requires c = λ _. point_at _ _ _ (parts (goal.at.truncate-requires c).In_ok-last) _ c.len-end.ensures.text (inl refl)

pub returns-clause-popped : goal.returns-clause-popped
returns-clause-popped c =
    let left = c.truncate.ensures.bytes ∙ front_at _ _ _ (parts (goal.at.returns-clause-popped c).In_ok-last) _ c.len-end.ensures.text ∙ sym c.in-Some.front.valid in
    list (goal.at.returns-clause-popped c).In_ok-last
    ∙ ap₂ (λ (l : List Text) (t : Text). l ++ t ∷ []) (sym (list_is _ (tokens_of c.in-Some.front.inner.now) left)) (sym c.in_ok-last.ensures)

pub invariant_of-self : goal.invariant_of-self
invariant_of-self c =
    holds _ (tokens_of c.in-Some.front.inner.now) (c.truncate.ensures.bytes ∙ front_at _ _ _ (parts (goal.at.invariant_of-self c).In_ok-last) _ c.len-end.ensures.text ∙ sym c.in-Some.front.valid)
