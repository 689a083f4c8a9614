-- What calls on an open text return.
use Rattle.std.proofs.Common.{◌≡◌, ◌⊎◌, inl, inr, ℕ, ◌+◌, ◌-◌, ◌≤◌, min, List, ◌++◌, length, take, drop, ap, sym, ◌∙◌, arith, Result, Ok, Err, IfOk, IfSome, OnOk, MatchOption, MatchResult, Option, Some, None}
use Rattle.std.specs.Prelude.{⊤, Bool, true, string_bytes}
use Rattle.std.proofs.lemmas.List.{drop-take, drop_min, length-take-le, take_min}
use Rattle.jsonptr.specs.Text.{Text}
use Rattle.jsonptr_comments.specs.Comments.{IsWithoutComments}
use Rattle.jsonptr_text_edit.specs.Edited.{IfInPlace}
use Rattle.jsonptr_text_edit.specs.declared.edited.Edited.{Edited}
use Rattle.jsonptr_text_edit.specs.declared.edited.Edited.TheVariants.{InPlace, Reprinted}
use Rattle.jsonptr_text_relayout.specs.Relaying.{KeepsLayout, text_of_relaid}
use Rattle.jsonptr_text_relayout.specs.declared.relaid.Relaid.{Relaid}
use Rattle.jsonptr_text_relayout.specs.declared.relaid.Relaid.TheVariants.{Kept, Rewritten}
use Rattle.jsonptr_c_calls.specs.Failures.{IsOutOfMemory}
use Rattle.jsonptr_c_calls.specs.Marks.{IsMark}
use Rattle.jsonptr_c_calls.specs.OpenTexts.{FailsToRead, IsNotJson}
use Rattle.jsonptr_c_calls.specs.Relayouts.{is_kept}
use Rattle.jsonptr_c_calls.specs.declared.call_error.CallError.{CallError}
use Rattle.jsonptr_c_calls.specs.declared.text_format.TextFormat.TheVariants.{Commented}

-- a part of a text, whose bounds are cut down to its length
pub part_same : (t : List ℕ) (s n e m : ℕ) → e ≡ min n (length t) → m ≡ min s e → take (e - m) (drop m t) ≡ drop s (take n t)
part_same t s n e m ee mm =
    let low : e ≤ length t = omega (arith, ee) in
    let fits : m + (e - m) ≡ e = omega (arith, mm) in
    let size : length (take e t) ≡ e = length-take-le e t low in
    let one : take (e - m) (drop m t) ≡ drop m (take (m + (e - m)) t) = sym (drop-take m (e - m) t) in
    let two : drop m (take (m + (e - m)) t) ≡ drop m (take e t) = ap (λ (k : ℕ). drop m (take k t)) fits in
    let cut : m ≡ min s (length (take e t)) = mm ∙ ap (λ (k : ℕ). min s k) (sym size) in
    let three : drop m (take e t) ≡ drop (min s (length (take e t))) (take e t) = ap (λ (k : ℕ). drop k (take e t)) cut in
    let four : drop (min s (length (take e t))) (take e t) ≡ drop s (take e t) = drop_min s (take e t) in
    let all : take e t ≡ take n t = ap (λ (k : ℕ). take k t) ee ∙ take_min n t in
    one ∙ (two ∙ (three ∙ (four ∙ ap (λ (u : List ℕ). drop s u) all)))

-- a text with comments whose JSON text is none
pub no_document : (mark body text bare : Text) → IsMark mark → text ≡ mark ++ body → IsWithoutComments body bare → (e : CallError) → IsOutOfMemory e ⊎ IsNotJson bare e → FailsToRead Commented text e
no_document mark body text bare m p w e (inl h) = inl h
no_document mark body text bare m p w e (inr h) = inr (mark, body, m, p, inr (bare, w, h))

-- what a result that is matched implies
pub if_matched : {X E : Type 0} (r : Result X E) (A P : X → Type 0) (B : E → Type 0) → ((x : X) → A x → P x) → MatchResult r A B → IfOk r P
if_matched (Ok x) A P B f h = f x h
if_matched (Err e) A P B f h = tt

-- what an option implies
pub some_weaker : {X : Type 0} (o : Option X) (P Q : X → Type 0) → ((x : X) → P x → Q x) → IfSome o P → IfSome o Q
some_weaker (Some x) P Q f h = f x h
some_weaker None P Q f h = tt

pub none_weaker : {X : Type 0} (o : Option X) (A B : Type 0) → (A → B) → MatchOption o A (λ _. ⊤) → MatchOption o B (λ _. ⊤)
none_weaker (Some x) A B f h = tt
none_weaker None A B f h = f h

-- what a fact on each success implies
pub on_ok : {X E : Type 0} (r : Result X E) (P Q : Type 0) → (P → Q) → OnOk r P → OnOk r Q
on_ok (Ok x) P Q f h = f h
on_ok (Err e) P Q f h = tt

-- what an edit in place implies
pub in_place_weaker : (e : Edited) (P Q : Text → Type 0) → ((t : Text) → P t → Q t) → IfInPlace P e → IfInPlace Q e
in_place_weaker (InPlace s) P Q f h = f (string_bytes s) h
in_place_weaker (Reprinted s) P Q f h = tt

pub no_value : {X : Type 0} (o : Option X) (A : Type 0) → o ≡ None → A → MatchOption o A (λ _. ⊤)
no_value None A e h = h
no_value (Some x) A e h = tt

-- a text that keeps its layout
pub kept_text : (relaid : Relaid) (old : Text) (b : Bool) → b ≡ is_kept relaid → KeepsLayout old relaid → (text_of_relaid relaid ≡ old) × (b ≡ true)
kept_text (Kept s) old b is h = (h, is)
kept_text (Rewritten s) old b is h = absurd h
