-- A cursor that resolves to a value does so after each call.
use Rattle.std.proofs.Common.{◌≡◌, ◌≤◌, ◌+◌, List, [], ◌∷◌, ◌++◌, length, Option, Some, None, Result, Ok, Err, IfOk, IfErr, OnErr, IsSome, sym, ap, subst, ◌∙◌, arith, append-nil, length-append}
use Rattle.serde_json.specs.View.{view}
use Rattle.serde_json.specs.declared.value.Value.{Value}
use Rattle.jsonptr.specs.Text.{Text}
use Rattle.jsonptr.specs.Node.{Path, NodeMap, Names}
use Rattle.jsonptr.specs.Put.{put}
use Rattle.jsonptr.specs.Expansion.{expanded}
use Rattle.jsonptr.specs.Landing.{LandsFrom}
use Rattle.jsonptr.specs.Assign.{RefusesAssign}
use Rattle.jsonptr.specs.Assigning.{Assigns}
use Rattle.jsonptr.specs.Ends.{PopsBack}
use Rattle.jsonptr.specs.Fault.{IsRefused, IfRefused}
use Rattle.jsonptr.specs.Json.{nodes}
use Rattle.jsonptr.specs.Resolve.{PutsAt, Refuses}
use Rattle.jsonptr.specs.Types.Fault.{Fault}
use Rattle.jsonptr.specs.declared.resolve.Error.{Error as ResolveError}
use Rattle.jsonptr.specs.declared.assign.Error.{Error as AssignError}
use Rattle.jsonptr.proofs.Calling.{made, made_named, Names-pop, Names_one_path, Names-put, Refuses-NamesNothing, Names-StopsBefore}
use Rattle.jsonptr_uses.proofs.PatchesLemmas.{refused_none}

abbrev pub IsNamed : NodeMap → List Text → Type 0
IsNamed n ts = (w : Path) × Names n ts w

-- one token less
pub up_named : {E : Type 0} (n : NodeMap) (r : Result (Option Text) E) (old new : List Text) → IfOk r (λ t. PopsBack old t new) → IfErr r (λ _. new ≡ old) → IsNamed n old → IsNamed n new
up_named n (Ok None) old new popped stays h = (h.0, subst (λ (ts : List Text). Names n ts h.0) (popped.0 ∙ sym popped.1) h.1)
up_named n (Ok (Some t)) old new popped stays h =
    let r = Names-pop n new t h.0 (subst (λ (ts : List Text). Names n ts h.0) popped h.1) in
    (r.0, r.3)
up_named n (Err e) old new popped stays h = (h.0, subst (λ (ts : List Text). Names n ts h.0) (sym stays) h.1)

-- tokens that evaluate to a path do not fail
pub named_found : {T : Type 0} (r : Result T (Fault ResolveError)) (d e : Value) (ts us : List Text) → d ≡ e → ts ≡ us → IfRefused r (Refuses (nodes (view d)) ts) → IsNamed (nodes (view e)) us → IsRefused r → ⊥
named_found r d e ts us same one refused h = refused_none r (Refuses (nodes (view d)) ts) refused
    (λ f why. Refuses-NamesNothing (nodes (view d)) ts f why h.0 (subst (λ (v : Value). Names (nodes (view v)) ts h.0) (sym same) (subst (λ (xs : List Text). Names (nodes (view e)) xs h.0) (sym one) h.1)))

pub named_assigned : {T : Type 0} (r : Result T (Fault AssignError)) (n : NodeMap) (ts us : List Text) → ts ≡ us → IfRefused r (RefusesAssign n ts) → IsNamed n us → IsRefused r → ⊥
named_assigned r n ts us one refused h = refused_none r (RefusesAssign n ts) refused
    (λ f why. Names-StopsBefore n ts h.0 _ _ _ _ (subst (λ (xs : List Text). Names n xs h.0) (sym one) h.1) why.nowhere.stops)

-- a value assigned where there is one replaces it
lands_there : (n : NodeMap) (ts front rest left : List Text) (path p w : Path) (v m : NodeMap) → Names n ts w → ts ≡ front ++ rest → Names n front path → length ts ≤ length front → LandsFrom path (n path) rest p left → m ≡ made n p (expanded left v) → m ≡ put n w v
lands_there n ts front [] left path p w v m named split at long lands is =
    let same : ts ≡ front = split ∙ append-nil front in
    let there : path ≡ w = Names_one_path n front path w at (subst (λ (xs : List Text). Names n xs w) same named) in
    let here : p ≡ w = lands.0 ∙ there in
    is ∙ ap (λ (q : Path). made n q (expanded left v)) here ∙ ap (λ (xs : List Text). made n w (expanded xs v)) lands.1 ∙ made_named n ts w v named
lands_there n ts front (x ∷ rest) left path p w v m named split at long lands is =
    let all : length ts ≡ length (front ++ x ∷ rest) = ap (λ (l : List Text). length l) split in
    let sum : length (front ++ x ∷ rest) ≡ length front + length (x ∷ rest) = length-append front (x ∷ rest) in
    absurd (omega arith)

pub put_there : (n : NodeMap) (ts us : List Text) (v m : NodeMap) (was : Option NodeMap) → ts ≡ us → Assigns n ts v m was → IsNamed n us → PutsAt n us v m
put_there n ts us v m was one r h =
    let stops = r.lands.stops in
    let named : Names n ts h.0 = subst (λ (xs : List Text). Names n xs h.0) (sym one) h.1 in
    record {
      path = h.0;
      named = h.1;
      made = lands_there n ts r.lands.front r.lands.rest r.left r.lands.path r.path h.0 v m named stops.split stops.named (stops.longest ts [] h.0 (sym (append-nil ts)) named) r.lands.lands r.made;
    }

pub set_named : {T E : Type 0} (r : Result T E) (n m v : NodeMap) (ts us : List Text) → ts ≡ us → IfOk r (λ _. (was : Option NodeMap) × Assigns n ts v m was) → OnErr r (m ≡ n) → IsSome (v []) → IsNamed n us → IsNamed m us
set_named (Ok t) n m v ts us one done stays root h =
    let r = put_there n ts us v m done.0 one done.1 h in
    (r.path, subst (λ (k : NodeMap). Names k us r.path) (sym r.made) (Names-put n us r.path v r.named root))
set_named (Err e) n m v ts us one done stays root h = (h.0, subst (λ (k : NodeMap). Names k us h.0) (sym stays) h.1)

pub same_nodes : {T E : Type 0} (r : Result T E) (d e : Value) → OnErr r (view d ≡ view e) → OnErr r (nodes (view d) ≡ nodes (view e))
same_nodes (Ok t) d e h = h
same_nodes (Err f) d e h = ap nodes h
