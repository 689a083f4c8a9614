-- How deep a document nests after an assignment and a deletion.
use Rattle.std.proofs.Common.{◌≡◌, ℕ, ◌+◌, ◌≤◌, List, length, Bool, true, false, Some, option_map, Result, Ok, Err, IfOk, OnOk, sym, subst, arith}
use Rattle.serde_json.specs.Data.{Data, null, depth}
use Rattle.serde_json.specs.Read.{max_depth, read}
use Rattle.serde_json.specs.View.{view}
use Rattle.serde_json.proofs.Nesting.{depth-read}
use Rattle.jsonptr.specs.Json.{nodes, HasSortedKeys}
use Rattle.jsonptr.proofs.Calling.{ascends_read}
use Rattle.jsonptr_value.specs.Nesting.{NestsWithin}
use Rattle.jsonptr_value.proofs.LevelLemmas.{NestsWithin-depth, depth-within}
use Rattle.jsonptr_value.proofs.NestingLemmas.{NestsWithin-more, Assigns-within, Deletes-within}
use Rattle.jsonptr_c_calls.specs.Depths.{max_levels, IsParsed, IsBounded}
use Rattle.jsonptr_c_calls.specs.Editing.{AssignsAtPointer, DeletesAtPointer, FindsOrKeeps}

-- a value that is read from a text
pub parsed-read : (text : List ℕ) (d : Data) → read text ≡ Some d → IsParsed d
parsed-read text d is = (ascends_read text d is, depth-read text d is)

pub bounded-parsed : (d : Data) → IsParsed d → IsBounded d
bounded-parsed d parsed = let low : depth d ≤ max_depth = parsed.1 in (parsed.0, omega (arith, low))

pub bounded-assign : (d : Data) (bytes : List ℕ) (v n : Data) → AssignsAtPointer d bytes v n → IsParsed v → IsBounded d → HasSortedKeys n → IsBounded n
bounded-assign d bytes v n made parsed bounded sorted =
    let most = max_depth + max_levels in
    let short : length made.0 ≤ max_levels = made.3 in
    let low : depth v ≤ max_depth = parsed.1 in
    let before : NestsWithin most (nodes d) = NestsWithin-more (depth d) most (nodes d) bounded.1 (NestsWithin-depth d) in
    let after : NestsWithin most (nodes n) = Assigns-within most (depth v) (nodes d) made.0 (nodes v) (nodes n) (option_map (λ r. nodes (view r)) made.1) made.4.assigned before (NestsWithin-depth v) (omega (arith, short, low)) in
    (sorted, depth-within n most sorted after)

pub bounded-delete : (d : Data) (bytes : List ℕ) (found : Bool) (n : Data) → DeletesAtPointer d bytes found n → IsBounded d → HasSortedKeys n → IsBounded n
bounded-delete d bytes found n (tokens, is, deleted, removes) bounded sorted = go found removes
  where
    go : (b : Bool) → FindsOrKeeps d tokens b n → IsBounded n
    go false (none, same) = subst IsBounded (sym same) bounded
    go true (v, there) =
        let most = max_depth + max_levels in
        let before : NestsWithin most (nodes d) = NestsWithin-more (depth d) most (nodes d) bounded.1 (NestsWithin-depth d) in
        let empty : NestsWithin most (nodes null) = NestsWithin-more 0 most (nodes null) (omega arith) (NestsWithin-depth null) in
        let after : NestsWithin most (nodes n) = Deletes-within most (nodes d) tokens (nodes null) (nodes n) there.path deleted there.named before empty in
        (sorted, depth-within n most sorted after)

-- what two facts on the value of an `Ok` imply
pub if_ok : {A E : Type 0} (r : Result A E) (P Q R : A → Type 0) → ((a : A) → P a → Q a → R a) → IfOk r P → IfOk r Q → IfOk r R
if_ok (Ok a) P Q R f p q = f a p q
if_ok (Err e) P Q R f p q = tt

-- the same of two facts and one on each success
pub if_ok_three : {A E : Type 0} (r : Result A E) (P Q R : A → Type 0) (S : Type 0) → ((a : A) → P a → Q a → S → R a) → IfOk r P → IfOk r Q → OnOk r S → IfOk r R
if_ok_three (Ok a) P Q R S f p q s = f a p q s
if_ok_three (Err e) P Q R S f p q s = tt
