-- The selectors of a pointer, one token at a time.
use Rattle.std.proofs.Common.{◌≡◌, ℕ, List, [], ◌∷◌, ◌++◌, string_bytes, Some, None, Ok, Err, refl, sym, ap, ◌∙◌, subst}
use Rattle.jsonptr.specs.Text.{Text, dec}
use Rattle.jsonptr_grammar.proofs.DecLemmas.{dec_one}
use Rattle.jsonptr.specs.Index.{Reads}
use Rattle.jsonptr.specs.Types.Index.TheVariants.{Num, Next}
use Rattle.jsonptr.specs.Types.ParseIndexError.{ParseIndexError}
use Rattle.jsonptr_document.proofs.BadIndex.{no_index, no_dash}
use Rattle.jsonptr_text_resolve.specs.PrivateSelectors.{NamesIndex}
use Rattle.jsonptr_text_search.specs.declared.selector.Selector.{Selector}
use Rattle.jsonptr_text_search.specs.Search.{Choice, choice_of, choices}
use Rattle.jsonptr_text_resolve.specs.Selecting.{IsChoiceOf, AreChoicesOf}

pub number_names : (x : Text) (i : ℕ) → Reads x (Ok (Num i)) → NamesIndex x (Some i)
number_names x i h = record {
  index_is = λ j e. let same : i ≡ j = cc in h.0 ∙ ap dec same;
  each_index = λ j low e. ap (λ (n : ℕ). Some n) (dec_one i j (sym h.0 ∙ e));
}

pub next_names : (x : Text) → Reads x (Ok Next) → NamesIndex x None
next_names x h = record { index_is = λ j e. absurd (cc); each_index = λ j low e. absurd (no_dash j (sym h ∙ e)) }

pub none_named : (x : Text) (source : ParseIndexError) → Reads x (Err source) → NamesIndex x None
none_named x source h = record { index_is = λ j e. absurd (cc); each_index = λ j low e. absurd (no_index x source j h low e) }

pub choice_is : (x : Text) (p : Selector) → string_bytes p.key ≡ x → NamesIndex x p.index → IsChoiceOf x (choice_of p)
choice_is x p e h = record { key_is = e; index_is = h.index_is; each_index = h.each_index }

pub choices_push : (ps : List Selector) (p : Selector) → choices (ps ++ p ∷ []) ≡ choices ps ++ choice_of p ∷ []
choices_push [] p = refl
choices_push (q ∷ ps) p = ap (λ (ws : List Choice). choice_of q ∷ ws) (choices_push ps p)

pub are_push : (xs : List Text) (ws : List Choice) (x : Text) (w : Choice) → AreChoicesOf xs ws → IsChoiceOf x w → AreChoicesOf (xs ++ x ∷ []) (ws ++ w ∷ [])
are_push [] [] x w h k = (k, tt)
are_push [] (v ∷ ws) x w h k = absurd h
are_push (y ∷ xs) [] x w h k = absurd h
are_push (y ∷ xs) (v ∷ ws) x w h k = (h.0, are_push xs ws x w h.1 k)

pub more_selectors : (xs : List Text) (ps qs : List Selector) (x : Text) (p : Selector) → AreChoicesOf xs (choices ps) → IsChoiceOf x (choice_of p) → qs ≡ ps ++ p ∷ [] → AreChoicesOf (xs ++ x ∷ []) (choices qs)
more_selectors xs ps qs x p h k e = subst (λ (ws : List Choice). AreChoicesOf (xs ++ x ∷ []) ws) (sym (ap choices e ∙ choices_push ps p)) (are_push xs (choices ps) x (choice_of p) h k)
