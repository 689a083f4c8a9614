-- The bytes that are encoded, and what is written.
use Rattle.std.proofs.Common.{◌≡◌, ℕ, ◌<◌, ◌≤◌, Bool, true, false, not, ◌||◌, [], ◌∷◌, ◌++◌, refl, sym, ap, ◌∙◌, ⊎_elim, arith}
use Rattle.std.specs.List.{flat_map}
use Rattle.std.specs.Char.{is_ascii}
use Rattle.std.proofs.lemmas.Bool.{agree_below, agree_below_at, cond-true, cond-false, cases_lt}
use Rattle.std.proofs.lemmas.Bool.Decides.{nat_tests}
use Rattle.percent_encoding.specs.AsciiSet.{contains, should_percent_encode}
use Rattle.percent_encoding.specs.Percent.{percent_encode_byte, percent_encode}
use Rattle.percent_encoding.proofs.PercentLemmas.{percent_encode-nil, percent_encode_escaped, percent_encode_kept}
use Rattle.jsonptr.specs.Text.{Text}
use Rattle.jsonptr_fragment.specs.Fragment.{is_fragment_byte, encoded_byte}
use Rattle.jsonptr_fragment.specs.declared.set.TheConstants.{ENCODED}

-- the 128 bytes of ASCII, computed
all_agree : agree_below (contains ENCODED) (λ b. not (is_fragment_byte b)) 128 ≡ true
all_agree = refl

not_ascii : (b : ℕ) → 128 ≤ b → is_fragment_byte b ≡ false
not_ascii b large = grind (arith, nat_tests)

pub encoded_is : (b : ℕ) → should_percent_encode ENCODED b ≡ not (is_fragment_byte b)
unfolding should_percent_encode
encoded_is b = ⊎_elim
    (λ (h : b < 128). let ascii : is_ascii b ≡ true = grind (arith, nat_tests) in ap (λ (c : Bool). not c || contains ENCODED b) ascii ∙ agree_below_at (contains ENCODED) (λ n. not (is_fragment_byte n)) 128 b all_agree h)
    (λ (h : 128 ≤ b). let ascii : is_ascii b ≡ false = grind (arith, nat_tests) in ap (λ (c : Bool). not c || contains ENCODED b) ascii ∙ sym (ap not (not_ascii b h)))
    (cases_lt b 128)

encode_all : (bs : Text) → percent_encode ENCODED bs ≡ flat_map encoded_byte bs
encode_all [] = percent_encode-nil ENCODED
encode_all (b ∷ bs) = by_test (encode_all bs) (is_fragment_byte b) refl
  where
    by_test : percent_encode ENCODED bs ≡ flat_map encoded_byte bs → (c : Bool) → is_fragment_byte b ≡ c → percent_encode ENCODED (b ∷ bs) ≡ encoded_byte b ++ flat_map encoded_byte bs
    by_test rest true is =
        let kept : encoded_byte b ≡ b ∷ [] = cond-true _ _ _ is in
        percent_encode_kept ENCODED b bs (encoded_is b ∙ ap not is) ∙ ap (λ (t : Text). b ∷ t) rest ∙ sym (ap (λ (t : Text). t ++ flat_map encoded_byte bs) kept)
    by_test rest false is =
        let other : encoded_byte b ≡ percent_encode_byte b = cond-false _ _ _ is in
        percent_encode_escaped ENCODED b bs (encoded_is b ∙ ap not is) ∙ ap (λ (t : Text). percent_encode_byte b ++ t) rest ∙ sym (ap (λ (t : Text). t ++ flat_map encoded_byte bs) other)

-- what the code writes
pub written_text : (front out bs ts : Text) → front ≡ 35 ∷ [] → out ≡ front ++ percent_encode ENCODED bs → bs ≡ ts → out ≡ 35 ∷ flat_map encoded_byte ts
written_text front out bs ts is made same =
    made ∙ ap (λ (t : Text). t ++ percent_encode ENCODED bs) is ∙ ap (λ (t : Text). 35 ∷ t) (encode_all bs ∙ ap (λ (t : Text). flat_map encoded_byte t) same)
