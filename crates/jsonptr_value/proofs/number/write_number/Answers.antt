use Rattle.std.proofs.Common.{◌≡◌, ℕ, ℤ, pos, negsuc, true, int_lt, w64, SFits, to_z-of_z, Some, None, [], ◌∷◌, ◌++◌, sym, ap, ◌∙◌, subst, arith, rules}
use Rattle.std.proofs.lemmas.Result.{on_ok_weaker}
use Rattle.std.specs.Float.{Float, float_is_finite}
use Rattle.std.specs.Fmt.{signed_decimal}
use Rattle.json.specs.Token.{number as token}
use Rattle.serde_json.specs.Data.{Num, unsigned, negative, float}
use Rattle.serde_json.specs.Find.{as_u64, as_i64, to_float}
use Rattle.serde_json.specs.Number.{num_of, is_valid}
use Rattle.serde_json.specs.Read.{number_of}
use Rattle.serde_json.specs.View.{number_view}
use Rattle.serde_json.specs.Written.{number_text}
use Rattle.serde_json.specs.declared.number.N.{N}
use Rattle.serde_json.specs.declared.number.N.TheVariants.{PosInt, NegInt, Float as FloatN}
use Rattle.serde_json.proofs.Numbers.{number_of-decimal, number_of-negative, number_of-plus}
use Rattle.serde_json.proofs.Texts.{unless_float-number_of}
use Rattle.jsonptr_value.proofs.number.write_number.Goals as goal

is_unsigned : (x : Num) (n : ℕ) → as_u64 x ≡ Some n → unsigned n ≡ x
is_unsigned (unsigned m) n e = let same : n ≡ m = cc in ap unsigned same
is_unsigned (negative z) n e = let no : ⊥ = cc in absurd no
is_unsigned (float x) n e = let no : ⊥ = cc in absurd no

is_negative : (x : Num) (z : ℤ) → as_u64 x ≡ None → as_i64 x ≡ Some z → negative z ≡ x
is_negative (unsigned m) z not e = let no : ⊥ = cc in absurd no
is_negative (negative y) z not e = let same : z ≡ y = cc in ap negative same
is_negative (float x) z not e = let no : ⊥ = cc in absurd no

is_float : (x : Num) → as_u64 x ≡ None → as_i64 x ≡ None → float (to_float x) ≡ x
is_float (unsigned m) not nor = let no : ⊥ = cc in absurd no
is_float (negative y) not nor = let no : ⊥ = cc in absurd no
is_float (float x) not nor = search rules

below_zero : (n : N) (z : ℤ) → is_valid n ≡ true → num_of n ≡ negative z → int_lt z (pos 0) ≡ true
below_zero (PosInt m) z valid e = let no : ⊥ = cc in absurd no
below_zero (NegInt y) z valid e = let same : y ≡ z = cc in subst (λ (i : ℤ). int_lt i (pos 0) ≡ true) same valid
below_zero (FloatN x) z valid e = let no : ⊥ = cc in absurd no

is_finite : (n : N) (x : Float) → is_valid n ≡ true → num_of n ≡ float x → float_is_finite x ≡ true
is_finite (PosInt m) x valid e = let no : ⊥ = cc in absurd no
is_finite (NegInt y) x valid e = let no : ⊥ = cc in absurd no
is_finite (FloatN y) x valid e = let same : y ≡ x = cc in subst (λ (z : Float). float_is_finite z ≡ true) same valid

the_same : (x y : Float) → Some x ≡ Some y → x ≡ y
the_same x y e = cc

read_negative : (z : ℤ) → int_lt z (pos 0) ≡ true → SFits w64 z → number_of (signed_decimal z) ≡ Some (negative z)
read_negative (pos n) e fits = absurd (grind arith)
read_negative (negsuc n) e fits = number_of-negative n (grind arith)

pub returns-in-Some-clause-written : goal.returns-in-Some-clause-written
returns-in-Some-clause-written c =
    let seen : unsigned c.in-Some.n ≡ number_view c.args.number.now = is_unsigned _ _ (sym c.as_u64.ensures ∙ c.in-Some.is) in
    let read = number_of-decimal c.in-Some.n (omega arith) in
    on_ok_weaker c.u64.result (λ e. (_, e, read ∙ ap Some seen, unless_float-number_of _ _ read ∙ ap number_text seen)) c.u64.ensures.ok

pub returns-in-Some-as_i64-clause-written : goal.returns-in-Some-as_i64-clause-written
returns-in-Some-as_i64-clause-written c =
    let z = c.in-Some-as_i64.n in
    let seen : negative z ≡ number_view c.args.number.now = is_negative _ _ (sym c.as_u64.ensures ∙ c.in_default.is) (sym c.as_i64.ensures ∙ c.in-Some-as_i64.is) in
    let below : int_lt z (pos 0) ≡ true = below_zero c.args.number.now.n z c.args.number.now.valid (sym seen) in
    let fits : SFits w64 z = search rules in
    let read = read_negative z below fits in
    let a = c.i64.ensures.ok in
    on_ok_weaker c.i64.result (λ e. (_, e ∙ ap (λ i. c.args.out.now.tokens ++ token (signed_decimal i) ∷ []) (to_z-of_z fits), read ∙ ap Some seen, unless_float-number_of _ _ read ∙ ap number_text seen)) c.i64.ensures.ok

pub returns-clause-written : goal.returns-clause-written
returns-clause-written c =
    let x = c.in-Some-as_f64.x in
    let is : float (to_float (number_view c.args.number.now)) ≡ number_view c.args.number.now = is_float _ (sym c.as_u64.ensures ∙ c.in_default.is) (sym c.as_i64.ensures ∙ c.in_default-as_i64.is) in
    let same : x ≡ to_float (number_view c.args.number.now) = the_same _ _ (sym c.in-Some-as_f64.is ∙ c.as_f64.ensures) in
    let seen : float x ≡ number_view c.args.number.now = ap float same ∙ is in
    let finite = is_finite c.args.number.now.n x c.args.number.now.valid (sym seen) in
    on_ok_weaker c.float_with_plus.result (λ w.
    let read = number_of-plus 16 4 w.0 x w.2 w.3 finite in
    (w.0, w.1, read ∙ ap Some seen, unless_float-number_of _ _ read ∙ ap number_text seen)) c.float_with_plus.ensures.layout
