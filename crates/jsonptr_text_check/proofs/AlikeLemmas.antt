-- Tokens that are read in two texts, and parts of a text.
use Rattle.std.proofs.Common.{◌≡◌, ℕ, List, [], ◌∷◌, ◌++◌, Some, None, refl, sym, ap, ◌∙◌, append_assoc, append-nil}
use Rattle.json.specs.Token.{Token}
use Rattle.json.specs.Json.{after_end_array, read_key}
use Rattle.json.proofs.Grammar.{closed_array, read_key_is}
use Rattle.jsonptr_text_check.specs.Alike.{HoldsTokens, AreAlike}

pub alike_begin : (old old2 : List Token) → AreAlike old old old2 old2
alike_begin old old2 = ([], refl, refl)

pub alike_token : (t : Token) (old new old2 new2 : List Token) → old ≡ t ∷ new → old2 ≡ t ∷ new2 → AreAlike old new old2 new2
alike_token t old new old2 new2 h h2 = (t ∷ [], h, h2)

longer : (old mid new used more : List Token) → old ≡ used ++ mid → mid ≡ more ++ new → old ≡ (used ++ more) ++ new
longer old mid new used more h g = h ∙ ap (λ l. used ++ l) g ∙ sym (append_assoc used more new)

pub alike_more : (old mid new old2 mid2 new2 : List Token) → AreAlike old mid old2 mid2 → AreAlike mid new mid2 new2 → AreAlike old new old2 new2
alike_more old mid new old2 mid2 new2 h g = (h.0 ++ g.0, longer old mid new h.0 g.0 h.1 g.1, longer old2 mid2 new2 h.0 g.0 h.2 g.2)

pub alike_opened : (t : Token) (old mid new old2 mid2 new2 : List Token) → old ≡ t ∷ mid → old2 ≡ t ∷ mid2 → AreAlike mid new mid2 new2 → AreAlike old new old2 new2
alike_opened t old mid new old2 mid2 new2 h h2 g = alike_more old mid new old2 mid2 new2 (alike_token t old mid old2 mid2 h h2) g

pub alike_items_closed : (old new old2 new2 : List Token) → after_end_array old ≡ Some new → after_end_array old2 ≡ Some new2 → AreAlike old new old2 new2
alike_items_closed old new old2 new2 h h2 = alike_token Token.end_array old new old2 new2 (closed_array old new h) (closed_array old2 new2 h2)

pub alike_key : (k : List ℕ) (old new old2 new2 : List Token) → read_key old ≡ Some (Some k, new) → read_key old2 ≡ Some (Some k, new2) → AreAlike old new old2 new2
alike_key k old new old2 new2 h h2 = alike_token (Token.key k) old new old2 new2 (read_key_is old (Some k) new h) (read_key_is old2 (Some k) new2 h2)

pub alike_members_closed : (old new old2 new2 : List Token) → read_key old ≡ Some (None, new) → read_key old2 ≡ Some (None, new2) → AreAlike old new old2 new2
alike_members_closed old new old2 new2 h h2 = alike_token Token.end_object old new old2 new2 (read_key_is old None new h) (read_key_is old2 None new2 h2)

-- all tokens of the first text are the first ones of the second
pub alike_whole : (old new old2 new2 : List Token) → AreAlike old new old2 new2 → new ≡ [] → old2 ≡ old ++ new2
alike_whole old new old2 new2 h none =
    let all : old ≡ h.0 = h.1 ∙ ap (λ l. h.0 ++ l) none ∙ append-nil h.0 in
    h.2 ∙ ap (λ l. l ++ new2) (sym all)

-- ---- parts of a text

regroup : (a b p c d : List ℕ) → a ++ ((b ++ (p ++ c)) ++ d) ≡ (a ++ b) ++ (p ++ (c ++ d))
regroup a b p c d =
    ap (λ l. a ++ l) (append_assoc b (p ++ c) d ∙ ap (λ l. b ++ l) (append_assoc p c d)) ∙ sym (append_assoc a b (p ++ (c ++ d)))

pub holds_within : (given u t a b : List ℕ) → t ≡ a ++ (u ++ b) → HoldsTokens given u → HoldsTokens given t
holds_within given u t a b is h = record {
  before = a ++ h.before;
  part = h.part;
  after = h.after ++ b;
  parts = is ∙ ap (λ l. a ++ (l ++ b)) h.parts ∙ regroup a h.before h.part h.after b;
  same = h.same;
  trimmed = h.trimmed;
}
