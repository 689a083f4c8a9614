-- JSON data is a set: two proofs that one value is another are the same.
use Rattle.std.specs.Prelude.{◌≡◌, ℕ, zero, suc, ℤ, pos, negsuc, List, [], ◌∷◌, Bool, true, false, Option}
use Rattle.std.specs.Coded.{Coded, Coded-set, coded_option}
use base.Stored.{Gv, gnil, gnum, gcons}
use lib.Ieee.{nan, inf, fin}
use mathlib.Core.Path.{refl, ap, sym, ◌∙◌}
use Rattle.serde_json.specs.Data.{Num, unsigned, negative, float, Data, null, boolean, number, string, array, object, Items, no_items, item, Members, no_members, member}

abbrev digit : Gv → ℕ
digit gnil = 0
digit (gnum n) = n
digit (gcons a b) = 0

abbrev first : Gv → Gv
first gnil = gnil
first (gnum n) = gnil
first (gcons a b) = a

abbrev rest : Gv → Gv
rest gnil = gnil
rest (gnum n) = gnil
rest (gcons a b) = b

abbrev bit : Bool → ℕ
bit true = 1
bit false = 0

abbrev truth : ℕ → Bool
truth zero = false
truth (suc n) = true

truth-bit : (b : Bool) → truth (bit b) ≡ b
truth-bit true = refl
truth-bit false = refl

-- ---- texts

abbrev text_code : List ℕ → Gv
text_code [] = gnil
text_code (c ∷ s) = gcons (gnum c) (text_code s)

abbrev text_at : Gv → List ℕ
text_at gnil = []
text_at (gnum n) = []
text_at (gcons a b) = digit a ∷ text_at b

text_at-code : (s : List ℕ) → text_at (text_code s) ≡ s
text_at-code [] = refl
text_at-code (c ∷ s) = ap (λ (t : List ℕ). c ∷ t) (text_at-code s)

-- ---- numbers

abbrev whole_code : ℤ → Gv
whole_code (pos n) = gcons (gnum 0) (gnum n)
whole_code (negsuc n) = gcons (gnum 1) (gnum n)

abbrev whole_by : ℕ → ℕ → ℤ
whole_by zero n = pos n
whole_by (suc k) n = negsuc n

abbrev whole_at : Gv → ℤ
whole_at g = whole_by (digit (first g)) (digit (rest g))

whole_at-code : (z : ℤ) → whole_at (whole_code z) ≡ z
whole_at-code (pos n) = refl
whole_at-code (negsuc n) = refl

abbrev num_code : Num → Gv
num_code (unsigned n) = gnum n
num_code (negative z) = gcons (gnum 0) (whole_code z)
num_code (float nan) = gnil
num_code (float (inf s)) = gcons (gnum 1) (gnum (bit s))
num_code (float (fin s m e)) = gcons (gnum 2) (gcons (gnum (bit s)) (gcons (gnum m) (whole_code e)))

abbrev num_by : ℕ → Gv → Num
num_by zero g = negative (whole_at g)
num_by (suc zero) g = float (inf (truth (digit g)))
num_by (suc (suc n)) g = float (fin (truth (digit (first g))) (digit (first (rest g))) (whole_at (rest (rest g))))

abbrev num_at : Gv → Num
num_at gnil = float nan
num_at (gnum n) = unsigned n
num_at (gcons a b) = num_by (digit a) b

num_at-code : (n : Num) → num_at (num_code n) ≡ n
num_at-code (unsigned n) = refl
num_at-code (negative z) = ap negative (whole_at-code z)
num_at-code (float nan) = refl
num_at-code (float (inf s)) = ap (λ (b : Bool). float (inf b)) (truth-bit s)
num_at-code (float (fin s m e)) = λ i. float (fin (truth-bit s i) m (whole_at-code e i))

-- ---- values

abbrev mutual
  code : Data → Gv
  code null = gnil
  code (boolean b) = gnum (bit b)
  code (number n) = gcons gnil (num_code n)
  code (string s) = gcons (gnum 0) (text_code s)
  code (array ds) = gcons (gnum 1) (items_code ds)
  code (object ms) = gcons (gnum 2) (members_code ms)

  items_code : Items → Gv
  items_code no_items = gnil
  items_code (item d ds) = gcons (code d) (items_code ds)

  members_code : Members → Gv
  members_code no_members = gnil
  members_code (member k d ms) = gcons (gcons (text_code k) (code d)) (members_code ms)

abbrev mutual
  data_at : Gv → Data
  data_at gnil = null
  data_at (gnum n) = boolean (truth n)
  data_at (gcons gnil b) = number (num_at b)
  data_at (gcons (gnum zero) b) = string (text_at b)
  data_at (gcons (gnum (suc zero)) b) = array (items_at b)
  data_at (gcons (gnum (suc (suc n))) b) = object (members_at b)
  data_at (gcons (gcons a c) b) = null

  items_at : Gv → Items
  items_at gnil = no_items
  items_at (gnum n) = no_items
  items_at (gcons a b) = item (data_at a) (items_at b)

  members_at : Gv → Members
  members_at gnil = no_members
  members_at (gnum n) = no_members
  members_at (gcons gnil b) = no_members
  members_at (gcons (gnum n) b) = no_members
  members_at (gcons (gcons k d) b) = member (text_at k) (data_at d) (members_at b)

mutual
  data_at-code : (d : Data) → data_at (code d) ≡ d
  data_at-code null = refl
  data_at-code (boolean b) = ap boolean (truth-bit b)
  data_at-code (number n) = ap number (num_at-code n)
  data_at-code (string s) = ap string (text_at-code s)
  data_at-code (array ds) = ap array (items_at-code ds)
  data_at-code (object ms) = ap object (members_at-code ms)

  items_at-code : (ds : Items) → items_at (items_code ds) ≡ ds
  items_at-code no_items = refl
  items_at-code (item d ds) = λ i. item (data_at-code d i) (items_at-code ds i)

  members_at-code : (ms : Members) → members_at (members_code ms) ≡ ms
  members_at-code no_members = refl
  members_at-code (member k d ms) = λ i. member (text_at-code k i) (data_at-code d i) (members_at-code ms i)

abbrev coded_data : Coded Data
coded_data = record { code = code; inj = λ x y p. sym (data_at-code x) ∙ ap data_at p ∙ data_at-code y }

-- two proofs that a value is another one are the same
pub data_set : IsSet Data
data_set = Coded-set coded_data

-- so are two proofs that a value is there
pub data_prop : (o p : Option Data) → IsProp (o ≡ p)
data_prop o p = Coded-set (coded_option coded_data) o p
