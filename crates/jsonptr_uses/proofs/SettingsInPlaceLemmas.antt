-- Several edits of a text, one more of them, and where they stop.
use Rattle.std.proofs.Common.{◌≡◌, ℕ, ◌+◌, ◌<◌, Bool, true, false, List, [], ◌∷◌, ◌++◌, length, take, drop, get_or, Option, Some, None, MatchOption, String, string_bytes, take-append-drop, refl, sym, ap, ◌∙◌, subst}
use Rattle.std.proofs.lemmas.List.{drop_more, take_more}
use Rattle.std.specs.Option.{unwrap_or}
use Rattle.std.specs.declared.alloc.Global.{Global}
use Rattle.jsonptr.specs.Text.{Text}
use Rattle.jsonptr_text_step.specs.OneLine.{StaysOneLine}
use Rattle.jsonptr_text_edit.specs.Edited.{text_of, is_in_place, IfInPlace}
use Rattle.jsonptr_text_edit.specs.Edits.{EditsText, EditBytes}
use Rattle.jsonptr_text_edit.specs.Errors.{IsEditError}
use Rattle.jsonptr_text_edit.specs.declared.edit.Edit.{Edit}
use Rattle.jsonptr_text_edit.specs.declared.edit_error.EditError.{EditError}
use Rattle.jsonptr_text_edit.specs.declared.edited.Edited.{Edited}
use Rattle.jsonptr_text_edit.specs.declared.edited.Edited.TheVariants.{InPlace}
use Rattle.jsonptr_uses.specs.SettingsInPlace.{IsSet, AreSet, IsNext, StopsAt}

-- ---- one edit

-- what is set, by what the edit returns
pub next_set : (old : Text) (edit : Edit) (e : Edited) (o : Option (String Global)) (text : String Global) → string_bytes text ≡ old → MatchOption o (is_in_place e ≡ false) (λ s. e ≡ InPlace s)
    → EditsText old edit (text_of e) → IfInPlace (EditBytes old edit) e → IfInPlace (StaysOneLine old) e → IsSet old edit (is_in_place e) (string_bytes (unwrap_or o text))
next_set old edit e (Some s) text same is means bytes line =
    subst (λ (b : Bool). IsSet old edit b (string_bytes s)) (sym (ap is_in_place is)) (
      subst (λ (x : Edited). EditsText old edit (text_of x)) is means,
      subst (IfInPlace (EditBytes old edit)) is bytes,
      subst (IfInPlace (StaysOneLine old)) is line,
    )
next_set old edit e None text same is means bytes line = subst (λ (b : Bool). IsSet old edit b (string_bytes text)) (sym is) same

-- a text of one line stays one
pub next_line : (old : Text) (edit : Edit) (b : Bool) (new : Text) → IsSet old edit b new → StaysOneLine old new
next_line old edit true new h = h.2
next_line old edit false new h = λ one. subst (λ (t : Text). StaysOneLine old t) (sym h) (λ x. x) one

-- ---- all of them

set_more : (old mid new : Text) (edits : List Edit) (made : List Bool) (e : Edit) (b : Bool) → AreSet old edits made mid → IsSet mid e b new → AreSet old (edits ++ e ∷ []) (made ++ b ∷ []) new
set_more old mid new [] [] e b h last = (new, subst (λ (t : Text). IsSet t e b new) h last, refl)
set_more old mid new [] (c ∷ made) e b h last = absurd h
set_more old mid new (x ∷ edits) [] e b h last = absurd h
set_more old mid new (x ∷ edits) (c ∷ made) e b h last = (h.0, h.1, set_more h.0 mid new edits made e b h.2 last)

-- one edit more
pub sets_next : (old mid new : Text) (edits : List Edit) (i : ℕ) (edit : Edit) (made all : List Bool) → i < length edits → edit ≡ get_or edits i edit
    → AreSet old (take i edits) made mid × StaysOneLine old mid → IsNext mid made edit all new → AreSet old (take (i + 1) edits) all new × StaysOneLine old new
sets_next old mid new edits i edit made all below is h next = (
  subst (λ (bs : List Bool). AreSet old (take (i + 1) edits) bs new) (sym next.1)
      (subst (λ (es : List Edit). AreSet old es (made ++ next.0 ∷ []) new) (ap (λ (x : Edit). take i edits ++ x ∷ []) is ∙ sym (take_more edits i edit below))
      (set_more old mid new (take i edits) made edit next.0 h.0 next.2)),
  λ one. next_line mid edit next.0 new next.2 (h.1 one),
)

-- an edit that fails
pub stops_there : (old mid : Text) (edits : List Edit) (i : ℕ) (edit : Edit) (made : List Bool) (e : EditError) → i < length edits → edit ≡ get_or edits i edit
    → AreSet old (take i edits) made mid × StaysOneLine old mid → IsEditError mid edit e → StopsAt old edits e
stops_there old mid edits i edit made e below is h refused =
    record {
      done = take i edits;
      fails = edit;
      rest = drop (i + 1) edits;
      made = made;
      mid = mid;
      split = sym (take-append-drop i edits) ∙ ap (λ (es : List Edit). take i edits ++ es) (drop_more edits i edit below ∙ ap (λ (x : Edit). x ∷ drop (i + 1) edits) (sym is));
      set = h.0;
      refused = refused;
    }
