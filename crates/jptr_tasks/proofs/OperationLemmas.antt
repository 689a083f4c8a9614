-- The only child of an array or an object.
use Rattle.std.proofs.Common.{◌≡◌, ◌↔◌, ℕ, List, [], ◌∷◌, Bool, false, IsTrue, true≢false, None, Ok, Err, sym, ◌∙◌, subst}
use Rattle.serde_json.specs.Data.{Data}
use Rattle.serde_json.specs.Read.{read}
use Rattle.jsonptr.specs.Json.{FindsValue}
use Rattle.jsonptr.specs.Text.{Text}
use Rattle.jsonptr.specs.declared.resolve.Error as resolve
use Rattle.jsonptr.specs.Index.{Reads}
use Rattle.jsonptr.specs.Types.Index.TheVariants.{Num}
use Rattle.jsonptr.specs.Types.ParseIndexError.{ParseIndexError}
use Rattle.jsonptr.specs.Types.ParseIndexError.TheVariants.{InvalidInteger, LeadingZeros, InvalidCharacter}
use Rattle.jsonptr.specs.Types.IntegerCause.TheVariants.{Empty, Overflow}
use Rattle.jsonptr_tree.proofs.JsonLemmas.{FindsValue_one}
use Rattle.jsonptr_tree.proofs.LandingLemmas.{dec_no_dash}
use Rattle.jsonptr_patch.proofs.OneLemmas.{last_one}
use Rattle.jsonptr_text_resolve.specs.InText.{FindsInText, RefusesInText}
use Rattle.jptr_tasks.specs.Transfers.{AreSiblings, IsFound, HoldsOne, MovesOnlyChild}
use Rattle.jptr_tasks.proofs.DifferenceLemmas.{one_read}
use Rattle.jptr_tasks.proofs.ExpandingLemmas.{found_refused}

pub not_found_in_none : (text : Text) (ts : List Text) → read text ≡ None → IsFound text ts → ⊥
not_found_in_none text ts none h = let no : ⊥ = cc (none, h.1.1) in no

pub not_found_if_refused : (text : Text) (ts : List Text) (e : resolve.Error) → RefusesInText text ts e → IsFound text ts → ⊥
not_found_if_refused text ts e refused h = found_refused text ts h.0 e h.1 refused

-- what is read of `-`
pub no_number : (s : Text) (i : ℕ) → Reads s (Ok (Num i)) → s ≡ 45 ∷ [] → ⊥
no_number s i h e = dec_no_dash i (sym e ∙ h.0)

pub no_error : (s : Text) (e : ParseIndexError) → Reads s (Err e) → s ≡ 45 ∷ [] → ⊥
no_error s (InvalidInteger Empty) h e = let no : ⊥ = cc (h, e) in no
no_error s (InvalidInteger Overflow) h e = dec_no_dash h.0 (sym e ∙ h.1)
no_error s LeadingZeros h e = zeros (subst (λ (t : Text). Reads t (Err LeadingZeros)) e h)
  where
    zeros : Reads (45 ∷ []) (Err LeadingZeros) → ⊥
    zeros k = let no : ⊥ = cc (k.0) in no
no_error s (InvalidCharacter offset) h e = h.1 e

one_value : (text : Text) (ts : List Text) (d e : Data) → FindsInText text ts d → FindsInText text ts e → d ≡ e
one_value text ts d e h k =
    FindsValue_one h.0 ts d e h.2 (subst (λ (z : Data). FindsValue z ts e) (one_read text k.0 h.0 k.1 h.1) k.2)

one_place : (fs ps front other : List Text) (y z : Text) → AreSiblings fs ps front y → AreSiblings fs ps other z → (front ≡ other) × (y ≡ z)
one_place fs ps front other y z h k = last_one front other y z (sym h.1 ∙ k.1)

-- whether the value is the only child
pub moves_if_one : (text : Text) (fs ps front : List Text) (y : Text) (d : Data) (b : Bool) → AreSiblings fs ps front y → IsFound text fs → FindsInText text front d → IsTrue b ↔ HoldsOne d y → IsTrue b ↔ MovesOnlyChild text fs ps
moves_if_one text fs ps front y d b siblings found there holds = (
  λ t. (front, y, d, siblings, found, there, holds.0 t),
  λ h.
      let same = one_place fs ps h.0 front h.1 y h.3 siblings in
      let value : h.2 ≡ d = one_value text front h.2 d (subst (λ (ts : List Text). FindsInText text ts h.2) same.0 h.5) there in
      holds.1 (subst (λ (e : Data). HoldsOne e y) value (subst (λ (x : Text). HoldsOne h.2 x) same.1 h.6)),
)

pub never : (P : Type 0) → (P → ⊥) → IsTrue false ↔ P
never P f = (λ t. absurd (true≢false (sym t)), λ p. absurd (f p))

-- it is not, if there is no parent
pub moves_none : (text : Text) (fs ps front : List Text) (y : Text) → AreSiblings fs ps front y → (IsFound text front → ⊥) → MovesOnlyChild text fs ps → ⊥
moves_none text fs ps front y siblings none h =
    none (h.2, subst (λ (ts : List Text). FindsInText text ts h.2) (one_place fs ps h.0 front h.1 y h.3 siblings).0 h.5)
