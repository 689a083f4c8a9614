-- Reading values from tokens, one value at a time.
use Rattle.std.proofs.Common.{◌≡◌, ℕ, zero, suc, ◌-◌, ◌<◌, ◌≤◌, List, [], ◌∷◌, ◌++◌, length, true, false, Option, Some, None, option_map, option_and_then, MatchOption, Bor, map, refl, ap, ◌∙◌, subst, arith}
use Rattle.std.proofs.lemmas.List.{map-append}
use Rattle.std.specs.Prelude.{is_some}
use Rattle.json.specs.Token.{Token}
use Rattle.json.specs.Lex.{tokens}
use Rattle.json.specs.Reads.{token_of}
use Rattle.json.specs.declared.token.Token as Read
use Rattle.json.specs.Json as json
use Rattle.json.specs.Json.{parse_map, after_end_array, read_key, items, members, value, if_last}
use Rattle.json.proofs.Grammar.{items_end, items_fail, items_more, members_end, members_no_key, members_fail, members_more, value_is, value-begin_array, value-begin_object}
use Rattle.serde_json.specs.Data.{Num, Data, null, boolean, number, string, array, object, Items, no_items, item, Members, no_members, put}
use Rattle.serde_json.specs.View.{view, items_of}
use Rattle.serde_json.specs.declared.value.Value.{Value}
use Rattle.serde_json.specs.Read.{number_of, of_json, of_items, of_members, converted, max_depth, read}
use Rattle.jsonptr_text_search.specs.Reading.{ReadsTokens, Unreadable, ReadsItems, UnreadableItems, ReadsMembers, UnreadableMembers}
use Rattle.jsonptr_text_search.specs.PrivateReading.{scalar_of, with_items_before, ItemsSoFar, MembersSoFar}
use Rattle.jsonptr_text_search.specs.Search.{Choice, chosen, kind_of}
use Rattle.jsonptr_text_search.specs.declared.outcome.Kind.TheVariants as kind

-- ---- what `converted` takes apart

pub record From {A B : Type 0} (f : A → Option B) (o : Option (A × List Token)) (b : B) (r : List Token) : Type 0 where
  pub from : A
  pub is : o ≡ Some (from, r)
  pub gives : f from ≡ Some b

pair_is : {B : Type 0} (p q : B × List Token) → Some p ≡ Some q → p ≡ q
pair_is p q e = cc

from_converted : {A B : Type 0} (f : A → Option B) (o : Option (A × List Token)) (b : B) (r : List Token) → converted f o ≡ Some (b, r) → From f o b r
from_converted f None b r e = absurd (cc)
from_converted {A} {B} f (Some p) b r e = at (f p.0) refl e
  where
    at : (c : Option B) → f p.0 ≡ c → option_map {T = B} {U = B × List Token} (λ x. (x, p.1)) c ≡ Some (b, r) → From f (Some p) b r
    at None g h = absurd (cc)
    at (Some x) g h =
        let rest : p.1 ≡ r = ap (λ q. q.1) (pair_is (x, p.1) (b, r) h) in
        let same : x ≡ b = ap (λ q. q.0) (pair_is (x, p.1) (b, r) h) in
        record { from = p.0; is = ap (λ s. Some (p.0, s)) rest; gives = g ∙ ap (λ y. Some y) same }

-- ---- one child

item_turn : (j : json.Json) (c : Option Data) (o : Option (json.Items × List Token)) → of_json j ≡ c
    → converted of_items (parse_map (json.item j) o) ≡ option_and_then (λ d. parse_map (item d) (converted of_items o)) c
item_turn j None None e = refl
item_turn j (Some d) None e = refl
item_turn j None (Some p) e = ap (λ c. option_map {T = Items} {U = Items × List Token} (λ b. (b, p.1)) (option_and_then (λ x. option_map (item x) (of_items p.0)) c)) e
item_turn j (Some d) (Some p) e = ap (λ c. option_map {T = Items} {U = Items × List Token} (λ b. (b, p.1)) (option_and_then (λ x. option_map (item x) (of_items p.0)) c)) e ∙ swapped (of_items p.0)
  where
    swapped : (c : Option Items) → option_map {T = Items} {U = Items × List Token} (λ b. (b, p.1)) (option_map (item d) c) ≡ parse_map (item d) (option_map {T = Items} {U = Items × List Token} (λ b. (b, p.1)) c)
    swapped None = refl
    swapped (Some ds) = refl

member_turn : (k : List ℕ) (j : json.Json) (c : Option Data) (found : Members) (o : Option (json.Members × List Token)) → of_json j ≡ c
    → converted (λ ms. of_members ms found) (parse_map (json.member k j) o) ≡ option_and_then (λ d. converted (λ ms. of_members ms (put k d found)) o) c
member_turn k j None found None e = refl
member_turn k j (Some d) found None e = refl
member_turn k j None found (Some p) e = ap (λ c. option_map {T = Members} {U = Members × List Token} (λ b. (b, p.1)) (option_and_then (λ d. of_members p.0 (put k d found)) c)) e
member_turn k j (Some d) found (Some p) e = ap (λ c. option_map {T = Members} {U = Members × List Token} (λ b. (b, p.1)) (option_and_then (λ d. of_members p.0 (put k d found)) c)) e

-- ---- the rest of an array

next_item : (depth n : ℕ) (now new : List Token) (d : Data) → 0 < n → after_end_array now ≡ None → ReadsTokens depth now d new
    → converted of_items (items (value depth) n now) ≡ parse_map (item d) (converted of_items (items (value depth) (n - 1) new))
next_item depth n now new d some more reads =
    let r = from_converted of_json (value depth now) d new reads in
    ap (converted of_items) (items_more (value depth) n now new r.from some more r.is) ∙ item_turn r.from (Some d) (items (value depth) (n - 1) new) r.gives

no_item : (depth n : ℕ) (now : List Token) → after_end_array now ≡ None → Unreadable depth now → converted of_items (items (value depth) n now) ≡ None
unfolding items
no_item depth zero now more bad = refl
no_item depth (suc n) now more bad = at (value depth now) refl bad
  where
    at : (o : Option (json.Json × List Token)) → value depth now ≡ o → converted of_json o ≡ None → converted of_items (items (value depth) (suc n) now) ≡ None
    at None e h = ap (converted of_items) (items_fail (value depth) (suc n) now more e)
    at (Some p) e h =
        ap (converted of_items) (items_more (value depth) (suc n) now p.1 p.0 (omega arith) more e) ∙ item_turn p.0 (of_json p.0) (items (value depth) (suc n - 1) p.1) refl ∙ gone (of_json p.0) h
      where
        gone : (c : Option Data) → option_map {T = Data} {U = Data × List Token} (λ b. (b, p.1)) c ≡ None → option_and_then (λ d. parse_map (item d) (converted of_items (items (value depth) (suc n - 1) p.1))) c ≡ None
        gone None k = refl
        gone (Some d) k = absurd (cc)

one_more_before : (before : List Data) (d : Data) (o : Option (Items × List Token)) → parse_map (with_items_before before) (parse_map (item d) o) ≡ parse_map (with_items_before (before ++ d ∷ [])) o
one_more_before before d None = refl
one_more_before before d (Some p) = ap (λ es. Some (es, p.1)) (joined before)
  where
    joined : (ds : List Data) → with_items_before ds (item d p.0) ≡ with_items_before (ds ++ d ∷ []) p.0
    joined [] = refl
    joined (e ∷ ds) = ap (item e) (joined ds)

none_before : (o : Option (Items × List Token)) → o ≡ parse_map (with_items_before []) o
none_before None = refl
none_before (Some p) = refl

pub items_begin : (depth : ℕ) (first : List Token) → ItemsSoFar depth first first []
items_begin depth first = record { turns = length first; enough = omega arith; goes_on = none_before (converted of_items (items (value depth) (length first) first)) }

pub items_go_on : (depth : ℕ) (first now mid new : List Token) (before : List Data) (d : Data) → ItemsSoFar depth first now before → (after_end_array now ≡ None) × (mid ≡ now) → ReadsTokens depth mid d new → length new < length mid
    → ItemsSoFar depth first new (before ++ d ∷ [])
items_go_on depth first now mid new before d h more begins less =
    let enough : length now ≤ h.turns = h.enough in
    let reads : ReadsTokens depth now d new = subst (λ (ts : List Token). ReadsTokens depth ts d new) more.1 begins in
    let shorter : length new < length now = subst (λ (ts : List Token). length new < length ts) more.1 less in
    record {
      turns = h.turns - 1;
      enough = omega arith;
      goes_on = h.goes_on ∙ ap (parse_map (with_items_before before)) (next_item depth h.turns now new d (omega arith) more.0 reads) ∙ one_more_before before d (converted of_items (items (value depth) (h.turns - 1) new));
    }

pub items_close : (depth : ℕ) (first now new : List Token) (before : List Data) → ItemsSoFar depth first now before → after_end_array now ≡ Some new → ReadsItems depth first (with_items_before before no_items) new
items_close depth first now new before h closed =
    h.goes_on ∙ ap (λ o. parse_map (with_items_before before) (converted of_items o)) (items_end (value depth) h.turns now new h.enough closed)

pub items_stop : (depth : ℕ) (first now mid : List Token) (before : List Data) → ItemsSoFar depth first now before → (after_end_array now ≡ None) × (mid ≡ now) → Unreadable depth mid → UnreadableItems depth first
items_stop depth first now mid before h more bad = h.goes_on ∙ ap (parse_map (with_items_before before)) (no_item depth h.turns now more.0 (subst (λ (ts : List Token). Unreadable depth ts) more.1 bad))

-- ---- the rest of an object

next_member : (depth n : ℕ) (k : List ℕ) (now mid new : List Token) (d : Data) (found : Members) → 0 < n → read_key now ≡ Some (Some k, mid) → ReadsTokens depth mid d new
    → converted (λ ms. of_members ms found) (members (value depth) n now) ≡ converted (λ ms. of_members ms (put k d found)) (members (value depth) (n - 1) new)
next_member depth n k now mid new d found some named reads =
    let r = from_converted of_json (value depth mid) d new reads in
    ap (converted (λ ms. of_members ms found)) (members_more (value depth) n k now mid new r.from some named r.is) ∙ member_turn k r.from (Some d) found (members (value depth) (n - 1) new) r.gives

no_member : (depth n : ℕ) (k : List ℕ) (now mid : List Token) (found : Members) → read_key now ≡ Some (Some k, mid) → Unreadable depth mid → converted (λ ms. of_members ms found) (members (value depth) n now) ≡ None
unfolding members
no_member depth zero k now mid found named bad = refl
no_member depth (suc n) k now mid found named bad = at (value depth mid) refl bad
  where
    at : (o : Option (json.Json × List Token)) → value depth mid ≡ o → converted of_json o ≡ None → converted (λ ms. of_members ms found) (members (value depth) (suc n) now) ≡ None
    at None e h = ap (converted (λ ms. of_members ms found)) (members_fail (value depth) (suc n) k now mid named e)
    at (Some p) e h =
        ap (converted (λ ms. of_members ms found)) (members_more (value depth) (suc n) k now mid p.1 p.0 (omega arith) named e) ∙ member_turn k p.0 (of_json p.0) found (members (value depth) (suc n - 1) p.1) refl ∙ gone (of_json p.0) h
      where
        gone : (c : Option Data) → option_map {T = Data} {U = Data × List Token} (λ b. (b, p.1)) c ≡ None → option_and_then (λ d. converted (λ ms. of_members ms (put k d found)) (members (value depth) (suc n - 1) p.1)) c ≡ None
        gone None g = refl
        gone (Some d) g = absurd (cc)

pub members_begin : (depth : ℕ) (first : List Token) → MembersSoFar depth first first no_members
members_begin depth first = record { turns = length first; enough = omega arith; goes_on = refl }

pub members_go_on : (depth : ℕ) (first now mid new : List Token) (k : List ℕ) (d : Data) (found : Members) → MembersSoFar depth first now found → read_key now ≡ Some (Some k, mid) → ReadsTokens depth mid d new → length new < length now
    → MembersSoFar depth first new (put k d found)
members_go_on depth first now mid new k d found h named reads shorter =
    let enough : length now ≤ h.turns = h.enough in
    record { turns = h.turns - 1; enough = omega arith; goes_on = h.goes_on ∙ next_member depth h.turns k now mid new d found (omega arith) named reads }

pub members_close : (depth : ℕ) (first now new : List Token) (found : Members) → MembersSoFar depth first now found → read_key now ≡ Some (None, new) → ReadsMembers depth first found new
members_close depth first now new found h closed = h.goes_on ∙ ap (converted (λ ms. of_members ms found)) (members_end (value depth) h.turns now new h.enough closed)

pub members_stop : (depth : ℕ) (first now mid : List Token) (k : List ℕ) (found : Members) → MembersSoFar depth first now found → read_key now ≡ Some (Some k, mid) → Unreadable depth mid → UnreadableMembers depth first
members_stop depth first now mid k found h named bad = h.goes_on ∙ no_member depth h.turns k now mid found named bad

pub members_no_more : (depth : ℕ) (first now : List Token) (found : Members) → MembersSoFar depth first now found → read_key now ≡ None → UnreadableMembers depth first
members_no_more depth first now found h bad = h.goes_on ∙ ap (converted (λ ms. of_members ms found)) (members_no_key (value depth) h.turns now bad)

-- ---- a value, by its first token

at_token : (depth : ℕ) (old new : List Token) (t : Token) → old ≡ t ∷ new → converted of_json (value depth old) ≡ converted of_json (value depth (t ∷ new))
at_token depth old new t e = ap (λ ts. converted of_json (value depth ts)) e

pub unreadable_end : (depth : ℕ) (old : List Token) → old ≡ [] → Unreadable depth old
unreadable_end depth old e = ap (λ ts. converted of_json (value depth ts)) e ∙ ap (converted of_json) (value_is depth [])

-- a token that opens nothing is a value, or begins none
abbrev beside : List Token → Option Data → Option (Data × List Token)
beside new None = None
beside new (Some d) = Some (d, new)

beside_is : (new : List Token) (n : Option Num) → option_map {T = Data} {U = Data × List Token} (λ d. (d, new)) (option_map number n) ≡ beside new (option_map number n)
beside_is new None = refl
beside_is new (Some n) = refl

single : (depth : ℕ) (new : List Token) (t : Token) → (t ≡ Token.begin_array → ⊥) → (t ≡ Token.begin_object → ⊥) → converted of_json (value depth (t ∷ new)) ≡ beside new (scalar_of t)
single depth new Token.begin_object a o = absurd (o refl)
single depth new Token.end_object a o = ap (converted of_json) (value_is depth (Token.end_object ∷ new))
single depth new Token.begin_array a o = absurd (a refl)
single depth new Token.end_array a o = ap (converted of_json) (value_is depth (Token.end_array ∷ new))
single depth new (Token.key s) a o = ap (converted of_json) (value_is depth (Token.key s ∷ new))
single depth new (Token.string s) a o = ap (converted of_json) (value_is depth (Token.string s ∷ new))
single depth new (Token.number s) a o = ap (converted of_json) (value_is depth (Token.number s ∷ new)) ∙ beside_is new (number_of s)
single depth new (Token.boolean b) a o = ap (converted of_json) (value_is depth (Token.boolean b ∷ new))
single depth new Token.null a o = ap (converted of_json) (value_is depth (Token.null ∷ new))
single depth new Token.bad a o = ap (converted of_json) (value_is depth (Token.bad ∷ new))

pub opens_array : (t : Read.Token) → token_of t ≡ Token.begin_array → t ≡ Read.TheVariants.BeginArray
opens_array Read.TheVariants.BeginObject e = absurd (cc)
opens_array Read.TheVariants.EndObject e = absurd (cc)
opens_array Read.TheVariants.BeginArray e = refl
opens_array Read.TheVariants.EndArray e = absurd (cc)
opens_array (Read.TheVariants.Key s) e = absurd (cc)
opens_array (Read.TheVariants.String s) e = absurd (cc)
opens_array (Read.TheVariants.Number s) e = absurd (cc)
opens_array (Read.TheVariants.Bool b) e = absurd (cc)
opens_array Read.TheVariants.Null e = absurd (cc)
opens_array Read.TheVariants.Bad e = absurd (cc)

pub opens_object : (t : Read.Token) → token_of t ≡ Token.begin_object → t ≡ Read.TheVariants.BeginObject
opens_object Read.TheVariants.BeginObject e = refl
opens_object Read.TheVariants.EndObject e = absurd (cc)
opens_object Read.TheVariants.BeginArray e = absurd (cc)
opens_object Read.TheVariants.EndArray e = absurd (cc)
opens_object (Read.TheVariants.Key s) e = absurd (cc)
opens_object (Read.TheVariants.String s) e = absurd (cc)
opens_object (Read.TheVariants.Number s) e = absurd (cc)
opens_object (Read.TheVariants.Bool b) e = absurd (cc)
opens_object Read.TheVariants.Null e = absurd (cc)
opens_object Read.TheVariants.Bad e = absurd (cc)

scalar_is : (depth : ℕ) (old new : List Token) (t : Read.Token) → old ≡ token_of t ∷ new → (t ≡ Read.TheVariants.BeginArray → ⊥) → (t ≡ Read.TheVariants.BeginObject → ⊥) → converted of_json (value depth old) ≡ beside new (scalar_of (token_of t))
scalar_is depth old new t e a o = at_token depth old new (token_of t) e ∙ single depth new (token_of t) (λ x. a (opens_array t x)) (λ x. o (opens_object t x))

-- a scalar that is read
pub record Scalar (depth : ℕ) (old : List Token) (new : List Token) : Type 0 where
  pub scalar : Data
  pub reads : ReadsTokens depth old scalar new
  pub kind_is : kind.Scalar ≡ kind_of scalar
  pub lacks : (c : Choice) → chosen c scalar ≡ None

flat : (t : Token) (d : Data) → scalar_of t ≡ Some d → (kind.Scalar ≡ kind_of d) × ((c : Choice) → chosen c d ≡ None)
flat t null e = (refl, λ c. refl)
flat t (boolean b) e = (refl, λ c. refl)
flat t (number n) e = (refl, λ c. refl)
flat t (string s) e = (refl, λ c. refl)
flat t (array ds) e = absurd (no_array t e)
  where
    no_number : (o : Option Num) → option_map number o ≡ Some (array ds) → ⊥
    no_number None h = cc
    no_number (Some n) h = cc

    no_array : (u : Token) → scalar_of u ≡ Some (array ds) → ⊥
    no_array Token.begin_object h = cc
    no_array Token.end_object h = cc
    no_array Token.begin_array h = cc
    no_array Token.end_array h = cc
    no_array (Token.key s) h = cc
    no_array (Token.string s) h = cc
    no_array (Token.number s) h = no_number (number_of s) h
    no_array (Token.boolean b) h = cc
    no_array Token.null h = cc
    no_array Token.bad h = cc
flat t (object ms) e = absurd (no_object t e)
  where
    no_number : (o : Option Num) → option_map number o ≡ Some (object ms) → ⊥
    no_number None h = cc
    no_number (Some n) h = cc

    no_object : (u : Token) → scalar_of u ≡ Some (object ms) → ⊥
    no_object Token.begin_object h = cc
    no_object Token.end_object h = cc
    no_object Token.begin_array h = cc
    no_object Token.end_array h = cc
    no_object (Token.key s) h = cc
    no_object (Token.string s) h = cc
    no_object (Token.number s) h = no_number (number_of s) h
    no_object (Token.boolean b) h = cc
    no_object Token.null h = cc
    no_object Token.bad h = cc

pub scalar_reads : (depth : ℕ) (old new : List Token) (t : Read.Token) (d : Data) → old ≡ token_of t ∷ new → (t ≡ Read.TheVariants.BeginArray → ⊥) → (t ≡ Read.TheVariants.BeginObject → ⊥) → scalar_of (token_of t) ≡ Some d → ReadsTokens depth old d new
scalar_reads depth old new t d e a o is = scalar_is depth old new t e a o ∙ ap (beside new) is

pub reads_scalar : (depth : ℕ) (old new : List Token) (t : Read.Token) → old ≡ token_of t ∷ new → (t ≡ Read.TheVariants.BeginArray → ⊥) → (t ≡ Read.TheVariants.BeginObject → ⊥) → is_some (scalar_of (token_of t)) ≡ true → Scalar depth old new
reads_scalar depth old new t e a o some = at (scalar_of (token_of t)) refl some
  where
    at : (c : Option Data) → scalar_of (token_of t) ≡ c → is_some c ≡ true → Scalar depth old new
    at None is h = absurd (cc)
    at (Some d) is h =
        let f = flat (token_of t) d is in
        record { scalar = d; reads = scalar_reads depth old new t d e a o is; kind_is = f.0; lacks = f.1 }

pub unreadable_scalar : (depth : ℕ) (old new : List Token) (t : Read.Token) → old ≡ token_of t ∷ new → (t ≡ Read.TheVariants.BeginArray → ⊥) → (t ≡ Read.TheVariants.BeginObject → ⊥) → is_some (scalar_of (token_of t)) ≡ false → Unreadable depth old
unreadable_scalar depth old new t e a o none = scalar_is depth old new t e a o ∙ at (scalar_of (token_of t)) none
  where
    at : (c : Option Data) → is_some c ≡ false → beside new c ≡ None
    at None h = refl
    at (Some d) h = absurd (cc)

pub mapped_is_some : (o : Option Num) → is_some (option_map number o) ≡ is_some o
mapped_is_some None = refl
mapped_is_some (Some n) = refl

-- ---- an array and an object

arrayed : (o : Option (json.Items × List Token)) → converted of_json (parse_map json.array o) ≡ parse_map array (converted of_items o)
arrayed None = refl
arrayed (Some p) = at (of_items p.0)
  where
    at : (c : Option Items) → option_map {T = Data} {U = Data × List Token} (λ b. (b, p.1)) (option_map array c) ≡ parse_map array (option_map {T = Items} {U = Items × List Token} (λ b. (b, p.1)) c)
    at None = refl
    at (Some ds) = refl

objected : (o : Option (json.Members × List Token)) → converted of_json (parse_map json.object o) ≡ parse_map object (converted (λ ms. of_members ms no_members) o)
objected None = refl
objected (Some p) = at (of_members p.0 no_members)
  where
    at : (c : Option Members) → option_map {T = Data} {U = Data × List Token} (λ b. (b, p.1)) (option_map object c) ≡ parse_map object (option_map {T = Members} {U = Members × List Token} (λ b. (b, p.1)) c)
    at None = refl
    at (Some ms) = refl

array_is : (depth : ℕ) (old mid : List Token) → 0 < depth → old ≡ Token.begin_array ∷ mid → converted of_json (value depth old) ≡ parse_map array (converted of_items (items (value (depth - 1)) (length mid) mid))
array_is depth old mid deep e = at_token depth old mid _ e ∙ ap (converted of_json) (value-begin_array depth mid deep) ∙ arrayed (items (value (depth - 1)) (length mid) mid)

object_is : (depth : ℕ) (old mid : List Token) → 0 < depth → old ≡ Token.begin_object ∷ mid → converted of_json (value depth old) ≡ parse_map object (converted (λ ms. of_members ms no_members) (members (value (depth - 1)) (length mid) mid))
object_is depth old mid deep e = at_token depth old mid _ e ∙ ap (converted of_json) (value-begin_object depth mid deep) ∙ objected (members (value (depth - 1)) (length mid) mid)

pub reads_array : (depth : ℕ) (old mid new : List Token) (ds : Items) → 0 < depth → old ≡ Token.begin_array ∷ mid → ReadsItems (depth - 1) mid ds new → ReadsTokens depth old (array ds) new
reads_array depth old mid new ds deep e h = array_is depth old mid deep e ∙ ap (parse_map array) h

pub unreadable_array : (depth : ℕ) (old mid : List Token) → 0 < depth → old ≡ Token.begin_array ∷ mid → UnreadableItems (depth - 1) mid → Unreadable depth old
unreadable_array depth old mid deep e h = array_is depth old mid deep e ∙ ap (parse_map array) h

pub reads_object : (depth : ℕ) (old mid new : List Token) (ms : Members) → 0 < depth → old ≡ Token.begin_object ∷ mid → ReadsMembers (depth - 1) mid ms new → ReadsTokens depth old (object ms) new
reads_object depth old mid new ms deep e h = object_is depth old mid deep e ∙ ap (parse_map object) h

pub unreadable_object : (depth : ℕ) (old mid : List Token) → 0 < depth → old ≡ Token.begin_object ∷ mid → UnreadableMembers (depth - 1) mid → Unreadable depth old
unreadable_object depth old mid deep e h = object_is depth old mid deep e ∙ ap (parse_map object) h

pub array_too_deep : (depth : ℕ) (old mid : List Token) → depth ≡ 0 → old ≡ Token.begin_array ∷ mid → Unreadable depth old
unfolding value
array_too_deep zero old mid z e = at_token zero old mid _ e
array_too_deep (suc n) old mid z e = absurd (omega arith)

pub object_too_deep : (depth : ℕ) (old mid : List Token) → depth ≡ 0 → old ≡ Token.begin_object ∷ mid → Unreadable depth old
unfolding value
object_too_deep zero old mid z e = at_token zero old mid _ e
object_too_deep (suc n) old mid z e = absurd (omega arith)

-- ---- a whole text

whole_is : (text : List ℕ) (o : Option (json.Json × List Token)) → value max_depth (tokens text) ≡ o → read text ≡ option_and_then of_json (option_and_then (λ p. if_last p.0 p.1) o)
whole_is text o e = ap (λ q. option_and_then of_json (option_and_then (λ p. if_last p.0 p.1) q)) e

pub whole_read : (text : List ℕ) (d : Data) (ts : List Token) → tokens text ≡ ts → ReadsTokens max_depth ts d [] → read text ≡ Some d
whole_read text d ts same h =
    let r = from_converted of_json (value max_depth ts) d [] h in
    whole_is text (Some (r.from, [])) (ap (value max_depth) same ∙ r.is) ∙ r.gives

pub whole_and_more : (text : List ℕ) (d : Data) (ts : List Token) (t : Token) (rest : List Token) → tokens text ≡ ts → ReadsTokens max_depth ts d (t ∷ rest) → read text ≡ None
whole_and_more text d ts t rest same h =
    let r = from_converted of_json (value max_depth ts) d (t ∷ rest) h in
    whole_is text (Some (r.from, t ∷ rest)) (ap (value max_depth) same ∙ r.is)

pub whole_unreadable : (text : List ℕ) (ts : List Token) → tokens text ≡ ts → Unreadable max_depth ts → read text ≡ None
whole_unreadable text ts same h = at (value max_depth ts) refl h
  where
    last : (p : json.Json × List Token) (r : List Token) → p.1 ≡ r → of_json p.0 ≡ None → option_and_then of_json (if_last p.0 r) ≡ None
    last p [] e g = g
    last p (t ∷ ts) e g = refl

    at : (o : Option (json.Json × List Token)) → value max_depth ts ≡ o → converted of_json o ≡ None → read text ≡ None
    at None e g = whole_is text None (ap (value max_depth) same ∙ e)
    at (Some p) e g = whole_is text (Some p) (ap (value max_depth) same ∙ e) ∙ last p p.1 refl (none (of_json p.0) g)
      where
        none : (c : Option Data) → option_map {T = Data} {U = Data × List Token} (λ b. (b, p.1)) c ≡ None → c ≡ None
        none None k = refl
        none (Some d) k = absurd (cc)

-- ---- what a reader's calls say

pub no_token : (r : Option Read.Token) (old new : List Token) → MatchOption r ((old ≡ []) × (new ≡ [])) (λ t. old ≡ token_of t ∷ new) → ((t : Read.Token) → r ≡ Some t → ⊥) → old ≡ []
no_token None old new h none = h.0
no_token (Some t) old new h none = absurd (none t refl)

pub a_key : (k : Option (Bor (List ℕ))) (s : Bor (List ℕ)) (old new : List Token) → read_key old ≡ Some (option_map (λ s. s.now) k, new) → k ≡ Some s → read_key old ≡ Some (Some s.now, new)
a_key k s old new h e = h ∙ ap (λ (q : Option (Bor (List ℕ))). Some (option_map (λ s. s.now) q, new)) e

pub no_key : (k : Option (Bor (List ℕ))) (old new : List Token) → read_key old ≡ Some (option_map (λ s. s.now) k, new) → ((s : Bor (List ℕ)) → k ≡ Some s → ⊥) → read_key old ≡ Some (None, new)
no_key None old new h none = h
no_key (Some s) old new h none = absurd (none s refl)

-- ---- the values that were read

pub with_items_before-no_items : (ds : List Data) → with_items_before ds no_items ≡ items_of ds
with_items_before-no_items [] = refl
with_items_before-no_items (d ∷ ds) = ap (item d) (with_items_before-no_items ds)

pub map_view-append : (vs all : List Value) (v : Value) → all ≡ vs ++ v ∷ [] → map view all ≡ map view vs ++ view v ∷ []
map_view-append vs all v e = ap (map view) e ∙ map-append view vs (v ∷ [])
