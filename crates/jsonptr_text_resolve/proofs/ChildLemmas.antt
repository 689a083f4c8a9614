-- A search with one selector more.
use Rattle.std.proofs.Common.{◌≡◌, ℕ, suc, ◌-◌, ◌<◌, ◌^◌, List, [], ◌∷◌, ◌++◌, length, Option, Some, None, option_and_then, refl, sym, ap, ◌∙◌, subst, arith, length-append}
use Rattle.serde_json.specs.Data.{Data}
use Rattle.jsonptr.specs.Text.{Text}
use Rattle.jsonptr.specs.Json.{FindsValue}
use Rattle.jsonptr_text_search.specs.Search.{Choice, chosen, follow, Stops}
use Rattle.jsonptr_text_search.specs.declared.outcome.Kind.{Kind}
use Rattle.jsonptr_text_search.specs.declared.outcome.Kind.TheVariants as kind
use Rattle.jsonptr_text_resolve.specs.Selecting.{StopsLeft}
use Rattle.jsonptr_text_resolve.specs.PrivateSelectors.{HasChild}
use Rattle.jsonptr_text_resolve.proofs.SearchLemmas.{found, stops}

follow_above : (cs : List Choice) (c : Choice) (d e : Data) → follow (cs ++ c ∷ []) d ≡ Some e → (x : Data) × (follow cs d ≡ Some x)
follow_above [] c d e h = (d, refl)
follow_above (b ∷ cs) c d e h = at (λ y g. follow_above cs c y e g) (chosen b d) refl h
  where
    at : ((y : Data) → follow (cs ++ c ∷ []) y ≡ Some e → (x : Data) × (follow cs y ≡ Some x)) → (o : Option Data) → chosen b d ≡ o → option_and_then (follow (cs ++ c ∷ [])) o ≡ Some e → (x : Data) × (follow (b ∷ cs) d ≡ Some x)
    at later None is g = absurd (cc)
    at later (Some y) is g = let r = later y g in (r.0, ap (option_and_then (follow cs)) is ∙ r.1)

-- where the rest is one selector, it is the last
last_left : (cs : List Choice) (c : Choice) (front : List Choice) (next : Choice) (rest : List Choice) → cs ++ c ∷ [] ≡ front ++ next ∷ rest → length rest ≡ 0 → cs ≡ front
last_left [] c [] next rest e none = refl
last_left [] c (f ∷ front) next rest e none = absurd (omega (arith, ap (λ (xs : List Choice). length xs) e, length-append front (next ∷ rest)))
last_left (b ∷ cs) c [] next rest e none = absurd (omega (arith, ap (λ (xs : List Choice). length xs) e, length-append cs (c ∷ [])))
last_left (b ∷ cs) c (f ∷ front) next rest e none =
    let more : cs ++ c ∷ [] ≡ front ++ next ∷ rest = cc in
    let first : b ≡ f = cc in
    let same = last_left cs c front next rest more none in
    ap (λ (x : Choice). x ∷ cs) first ∙ ap (λ (xs : List Choice). f ∷ xs) same

record Sooner (cs front : List Choice) (next : Choice) (rest : List Choice) : Type 0 where
  pub middle : List Choice
  pub split : cs ≡ front ++ next ∷ middle
  pub count : length rest ≡ suc (length middle)

sooner : (cs : List Choice) (c : Choice) (front : List Choice) (next : Choice) (rest : List Choice) → cs ++ c ∷ [] ≡ front ++ next ∷ rest → 0 < length rest → Sooner cs front next rest
sooner [] c [] next rest e some = absurd (omega (arith, ap (λ (xs : List Choice). length xs) e))
sooner [] c (f ∷ front) next rest e some = absurd (omega (arith, ap (λ (xs : List Choice). length xs) e, length-append front (next ∷ rest)))
sooner (b ∷ cs) c [] next rest e some =
    let first : b ≡ next = cc in
    record { middle = cs; split = ap (λ (x : Choice). x ∷ cs) first; count = omega (arith, ap (λ (xs : List Choice). length xs) e, length-append cs (c ∷ [])) }
sooner (b ∷ cs) c (f ∷ front) next rest e some =
    let more : cs ++ c ∷ [] ≡ front ++ next ∷ rest = cc in
    let first : b ≡ f = cc in
    let r = sooner cs c front next rest more some in
    record { middle = r.middle; split = ap (λ (x : Choice). x ∷ cs) first ∙ ap (λ (xs : List Choice). f ∷ xs) r.split; count = r.count }

pub found_above : (d e : Data) (tokens : List Text) (cs : List Choice) → HasChild tokens cs → follow cs d ≡ Some e → (v : Data) × FindsValue d tokens v
found_above d e tokens cs h leads =
    let r = follow_above h.above h.child d e (subst (λ (xs : List Choice). follow xs d ≡ Some e) h.split leads) in
    (r.0, found tokens h.above d r.0 h.are r.1)

pub found_at_stop : (d : Data) (tokens : List Text) (cs : List Choice) (left : ℕ) (k : Kind) → HasChild tokens cs → Stops d cs left k → left ≡ 1 → (v : Data) × FindsValue d tokens v
found_at_stop d tokens cs left k h s one =
    let many : left ≡ length (s.next ∷ s.rest) = s.left_is in
    let same = last_left h.above h.child s.front s.next s.rest (sym h.split ∙ s.split) (omega arith) in
    (s.at, found tokens h.above d s.at h.are (subst (λ (xs : List Choice). follow xs d ≡ Some s.at) (sym same) s.leads))

pub stops_above : (d : Data) (tokens : List Text) (cs : List Choice) (left less : ℕ) (k : Kind) → HasChild tokens cs → ((len : ℕ) → k ≡ kind.Array len → len < 2 ^ 64) → Stops d cs left k → (left ≡ 1 → ⊥) → less ≡ left - 1
    → StopsLeft d tokens less k
stops_above d tokens cs left less k h small s more same =
    let many : left ≡ length (s.next ∷ s.rest) = s.left_is in
    let r = sooner h.above h.child s.front s.next s.rest (sym h.split ∙ s.split) (omega (arith, more)) in
    let count : length s.rest ≡ suc (length r.middle) = r.count in
    stops d tokens h.above less k h.are small (record { front = s.front; next = s.next; rest = r.middle; at = s.at; split = r.split; leads = s.leads; lacks = s.lacks; kind_is = s.kind_is; left_is = omega arith })
