-- The next element of an array, and when there is none.
use Rattle.std.proofs.Common.{◌≡◌, ℕ, ◌+◌, ◌<◌, ◌^◌, List, [], ◌∷◌, ◌++◌, length, Option, Some, None, Result, Ok, IsSome, MatchOption, refl, sym, ap, subst, ◌∙◌, arith, append-nil, length-append}
use Rattle.serde_json.specs.Data.{Data}
use Rattle.jsonptr.specs.Text.{Text, dec}
use Rattle.jsonptr.specs.Index.{Reads}
use Rattle.jsonptr.specs.Json.{nodes, FindsValue}
use Rattle.jsonptr.specs.Node.{Step, place, Path, an_array, NodeMap, Names, IsTree}
use Rattle.jsonptr.specs.Types.Index.{Index}
use Rattle.jsonptr.specs.Types.Index.TheVariants.{Num}
use Rattle.jsonptr.specs.Types.ParseIndexError.{ParseIndexError}
use Rattle.jsonptr.proofs.Calling.{Names_one_path, FindsValue-Finds, Reads_one}
use Rattle.jsonptr_text_paths.specs.PrivateWalking.{token_of, tokens_to}
use Rattle.jsonptr_uses.specs.Editing.{NamesArray, IsNext, LacksNext}
use Rattle.jsonptr_text_paths.proofs.WalkingLemmas.{tokens_are, named_by_steps}

-- the parts of a list around its last element
last_parts : (a b : List Text) (x y : Text) → a ++ x ∷ [] ≡ b ++ y ∷ [] → (a ≡ b) × (x ≡ y)
last_parts [] [] x y e = (refl, cc)
last_parts [] (z ∷ b) x y e =
    let long : length (x ∷ []) ≡ length (z ∷ b ++ y ∷ []) = ap (λ (l : List Text). length l) e in
    absurd (omega (arith, length-append b (y ∷ [])))
last_parts (z ∷ a) [] x y e =
    let long : length (z ∷ a ++ x ∷ []) ≡ length (y ∷ []) = ap (λ (l : List Text). length l) e in
    absurd (omega (arith, length-append a (x ∷ [])))
last_parts (z ∷ a) (t ∷ b) x y e =
    let rest : a ++ x ∷ [] ≡ b ++ y ∷ [] = cc in
    let first : z ≡ t = cc in
    let r = last_parts a b x y rest in
    let front : a ≡ b = r.0 in
    (cc, r.1)

-- the root is in no array
pub root_lacks : (n : NodeMap) (ts : List Text) → ts ≡ [] → LacksNext n ts
root_lacks n ts root us h =
    let short : length ts ≡ 0 = ap (λ (l : List Text). length l) root in
    let long : length ts ≡ length (h.front ++ dec h.place ∷ []) = ap (λ (l : List Text). length l) h.here in
    omega (arith, length-append h.front (dec h.place ∷ []))

-- nor is a value whose parent is not an array
pub parent_lacks : (n : NodeMap) (ts front : List Text) (last : Text) → ts ≡ front ++ last ∷ [] → ((k : ℕ) → NamesArray n front k → ⊥) → LacksNext n ts
parent_lacks n ts front last split none us h =
    let parts = last_parts front h.front last (dec h.place) (sym split ∙ h.here) in
    none h.len (subst (λ (l : List Text). NamesArray n l h.len) (sym parts.0) h.array)

-- an array has one length
one_len : (n : NodeMap) (ts : List Text) (k l : ℕ) → NamesArray n ts k → NamesArray n ts l → k ≡ l
one_len n ts k l a b =
    let same : a.0 ≡ b.0 = Names_one_path n ts a.0 b.0 a.1 b.1 in
    let first : n a.0 ≡ Some (an_array k) = a.2 in
    let second : n a.0 ≡ Some (an_array l) = ap (λ (p : Path). n p) same ∙ b.2 in
    cc

-- the array has no index after this one
pub place_lacks : (n : NodeMap) (ts front : List Text) (last : Text) (len : ℕ) → ts ≡ front ++ last ∷ [] → NamesArray n front len → ((i : ℕ) → last ≡ dec i → i + 1 < len → ⊥) → LacksNext n ts
place_lacks n ts front last len split array none us h =
    let parts = last_parts front h.front last (dec h.place) (sym split ∙ h.here) in
    let same : h.len ≡ len = one_len n front h.len len (subst (λ (l : List Text). NamesArray n l h.len) (sym parts.0) h.array) array in
    none h.place parts.1 (subst (λ (k : ℕ). h.place + 1 < k) same h.within)

-- or it has one
pub place_next : (n : NodeMap) (ts front us : List Text) (last : Text) (len next i : ℕ) → ts ≡ front ++ last ∷ [] → NamesArray n front len → last ≡ dec i → next ≡ i + 1 → next < len → us ≡ front ++ dec next ∷ [] → IsNext n ts us
place_next n ts front us last len next i split array reads is within made = record {
  front = front;
  len = len;
  place = i;
  array = array;
  here = split ∙ ap (λ (x : Text). front ++ x ∷ []) reads;
  next = made ∙ ap (λ (k : ℕ). front ++ dec k ∷ []) is;
  within = subst (λ (k : ℕ). k < len) is within;
}

-- the next element exists
tokens_push : (w : Path) (s : Step) → tokens_to (w ++ s ∷ []) ≡ tokens_to w ++ token_of s ∷ []
tokens_push [] s = refl
tokens_push (t ∷ w) s = ap (λ (l : List Text). token_of t ∷ l) (tokens_push w s)

pub next_named : (n : NodeMap) (ts us : List Text) → IsTree n → IsNext n ts us → (w : Path) × Names n us w
next_named n ts us tree h =
    let w : Path = h.array.0 ++ place (h.place + 1) ∷ [] in
    let there : IsSome (n w) = tree.full h.array.0 h.len (h.place + 1) h.array.2 h.within in
    let steps : tokens_to w ≡ us =
    tokens_push h.array.0 (place (h.place + 1))
    ∙ ap (λ (l : List Text). l ++ dec (h.place + 1) ∷ []) (sym (tokens_are n h.front h.array.0 h.array.1))
    ∙ sym h.next in
    (w, subst (λ (l : List Text). Names n l w) steps (named_by_steps n tree w there))

-- the label of what is found
pub found_label : (d e : Data) (ts : List Text) → FindsValue d ts e → (w : Path) × Names (nodes d) ts w × (nodes e [] ≡ nodes d w)
found_label d e ts found =
    let f = FindsValue-Finds d ts e found in
    (f.path, f.named, ap (λ (m : NodeMap). m []) f.below ∙ ap (λ (p : Path). nodes d p) (append-nil f.path))

pub found_len : (d e : Data) (ts : List Text) (o : Option ℕ) → FindsValue d ts e → MatchOption o ((k : ℕ) → nodes e [] ≡ Some (an_array k) → ⊥) (λ k. nodes e [] ≡ Some (an_array k)) → MatchOption o ((k : ℕ) → NamesArray (nodes d) ts k → ⊥) (λ k. NamesArray (nodes d) ts k)
found_len d e ts None found none = λ k a.
    let f = found_label d e ts found in
    let same : f.0 ≡ a.0 = Names_one_path (nodes d) ts f.0 a.0 f.1 a.1 in
    none k (f.2 ∙ ap (λ (p : Path). nodes d p) same ∙ a.2)
found_len d e ts (Some k) found is =
    let f = found_label d e ts found in
    (f.0, f.1, sym f.2 ∙ is)

-- what parses as an index
pub reads_place : (x : Text) (r : Result Index ParseIndexError) (i : ℕ) → Reads x r → x ≡ dec i → i < 2 ^ 64 → r ≡ Ok (Num i)
reads_place x r i reads is fits = Reads_one x r (Ok (Num i)) reads (is, fits)
