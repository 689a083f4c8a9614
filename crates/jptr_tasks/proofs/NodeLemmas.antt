-- The keys of an object, one by one.
use Rattle.std.proofs.Common.{◌≡◌, List, [], ◌∷◌, ◌++◌, map, Bool, true, false, true≢false, Option, Some, None, MatchOption, String, string_bytes, refl, sym, ap, ◌∙◌, ◌-◌, subst}
use Rattle.serde_json.specs.Read.{max_depth}
use Rattle.std.specs.declared.alloc.Global.{Global}
use Rattle.json.specs.Json.{read_key}
use Rattle.json.specs.Token as spec
use Rattle.json.specs.Reads.{token_of}
use Rattle.json.specs.declared.token.Token.{Token}
use Rattle.json.specs.declared.token.Token.TheVariants.{BeginObject, EndObject, BeginArray, EndArray, Key, String as text, Number, Bool as truth, Null, Bad}
use Rattle.serde_json.specs.Data.{Data}
use Rattle.jsonptr.specs.Text.{Text}
use Rattle.jsonptr_text_search.specs.Reading.{ReadsTokens}
use Rattle.jptr_tasks.specs.Nodes.{AreMembers}

-- one member more
one_member : (old : List spec.Token) (ks : List Text) (mid at new : List spec.Token) (k : Text) (d : Data)
    → AreMembers old ks mid → read_key mid ≡ Some (Some k, at) → ReadsTokens (max_depth - 1) at d new → AreMembers old (ks ++ k ∷ []) new
one_member old [] mid at new k d h r s = (at, new, d, subst (λ (ts : List spec.Token). read_key ts ≡ Some (Some k, at)) h r, s, refl)
one_member old (x ∷ ks) mid at new k d h r s = (h.0, h.1, h.2, h.3, h.4, one_member h.1 ks mid at new k d h.5 r s)

mapped : (before : List (String Global)) (key : String Global)
    → map string_bytes (before ++ key ∷ []) ≡ map string_bytes before ++ string_bytes key ∷ []
mapped [] key = refl
mapped (s ∷ before) key = ap (λ (ts : List Text). string_bytes s ∷ ts) (mapped before key)

-- the same with the keys as strings
pub one_key : (old : List spec.Token) (before after : List (String Global)) (key : String Global) (mid at new : List spec.Token) (k : Text) (d : Data)
    → AreMembers old (map string_bytes before) mid → after ≡ before ++ key ∷ [] → string_bytes key ≡ k → read_key mid ≡ Some (Some k, at) → ReadsTokens (max_depth - 1) at d new
    → AreMembers old (map string_bytes after) new
one_key old before after key mid at new k d h e n r s =
    let there : read_key mid ≡ Some (Some (string_bytes key), at) = r ∙ ap (λ (t : Text). Some (Some t, at)) (sym n) in
    let same : map string_bytes after ≡ map string_bytes before ++ string_bytes key ∷ [] = ap (map string_bytes) e ∙ mapped before key in
    subst (λ (ks : List Text). AreMembers old ks new) (sym same) (one_member old (map string_bytes before) mid at new (string_bytes key) d h there s)

-- ---- tokens that begin no object

abbrev begins : spec.Token → Bool
begins spec.begin_object = true
begins spec.end_object = false
begins spec.begin_array = false
begins spec.end_array = false
begins (spec.key s) = false
begins (spec.string s) = false
begins (spec.number s) = false
begins (spec.boolean b) = false
begins spec.null = false
begins spec.bad = false

abbrev first_begins : List spec.Token → Bool
first_begins [] = false
first_begins (t ∷ ts) = begins t

other : (t : Token) → (t ≡ BeginObject → ⊥) → begins (token_of t) ≡ false
other BeginObject f = absurd (f refl)
other EndObject f = refl
other BeginArray f = refl
other EndArray f = refl
other (Key s) f = refl
other (text s) f = refl
other (Number s) f = refl
other (truth b) f = refl
other Null f = refl
other Bad f = refl

not_first : (found : Option Token) (old new : List spec.Token)
    → MatchOption found ((old ≡ []) × (new ≡ [])) (λ t. old ≡ token_of t ∷ new) → (found ≡ Some BeginObject → ⊥) → first_begins old ≡ false
not_first None old new h f = ap first_begins h.0
not_first (Some t) old new h f = ap first_begins h ∙ other t (λ e. f (ap Some e))

-- the tokens of a text do not begin with an opening brace
pub no_object : (found : Option Token) (old new ts : List spec.Token)
    → MatchOption found ((old ≡ []) × (new ≡ [])) (λ t. old ≡ token_of t ∷ new) → (found ≡ Some BeginObject → ⊥) → old ≡ spec.begin_object ∷ ts → ⊥
no_object found old new ts h f e = true≢false (sym (ap first_begins e) ∙ not_first found old new h f)
