-- Undoing an assignment: which tokens evaluate to the location of the value, and what is left after the undo.
use Rattle.std.proofs.Common.{◌≡◌, ℕ, ◌+◌, ◌-◌, ◌<◌, codes, List, [], ◌∷◌, ◌++◌, length, take, Option, Result, Ok, Err, IfOk, option_map, IsSome, ⊎_elim, refl, sym, ap, ◌∙◌, subst, arith}
use Rattle.std.specs.Prelude.{slice_range}
use Rattle.std.proofs.Math.Seq.{take-append-add}
use Rattle.jsonptr.specs.Text.{Text, dec}
use Rattle.jsonptr.specs.Node.{Path, Scalar, Label, an_object, an_array, a_leaf, NodeMap, Names, IsTree}
use Rattle.jsonptr.specs.Following.{StopsBefore}
use Rattle.jsonptr.specs.Put.{put}
use Rattle.jsonptr.specs.Assigning.{with_room, Assigns}
use Rattle.jsonptr.specs.Index.{Reads, IsBeyond}
use Rattle.jsonptr.specs.Resolve.{Refuses}
use Rattle.jsonptr.specs.Types.Index.{Index}
use Rattle.jsonptr.specs.Types.Index.TheVariants.{Num, Next}
use Rattle.jsonptr.specs.Types.OutOfBoundsError.{OutOfBoundsError}
use Rattle.jsonptr.specs.Types.ParseIndexError.{ParseIndexError}
use Rattle.jsonptr.specs.Types.ParseIndexError.TheVariants.{InvalidInteger, LeadingZeros, InvalidCharacter}
use Rattle.jsonptr.specs.Types.IntegerCause.TheVariants.{Empty, Overflow}
use Rattle.jsonptr.specs.declared.resolve.Error.{Error}
use Rattle.jsonptr.specs.declared.resolve.Error.TheVariants.{FailedToParseIndex, OutOfBounds, NotFound, Unreachable}
use Rattle.jsonptr_tree.specs.PrivateUndoing.{NamesLanding}
use Rattle.jsonptr_tree.proofs.NodeLemmas.{Names_one_path}
use Rattle.jsonptr_tree.proofs.LandingLemmas.{dec_no_dash}
use Rattle.jsonptr_tree.proofs.UndoingLemmas.{put_back, deleted_again, landing_names, landing_named_path, landing_leaf, landing_member, landing_end, landing_means}
use Rattle.jsonptr_session.specs.Undo.{tokens_at, put_by, AssignsWithUndo, Undoes}
use Rattle.jsonptr_session.specs.declared.undo.Undo.{Undo}
use Rattle.jsonptr_session.specs.declared.undo.Undo.TheVariants.{Put, Remove}

-- parts of a list

-- `IsFront ts count p`: `p` are the first `count` tokens of `ts`. `IsThrough ts count p`: `p` are those and the next
-- one.
abbrev pub IsFront : List Text → ℕ → List Text → Type 0
IsFront ts count p = (front rest : List Text) → ts ≡ front ++ rest → count ≡ length front → p ≡ front

abbrev pub IsThrough : List Text → ℕ → List Text → Type 0
IsThrough ts position p = (front : List Text) (x : Text) (rest : List Text) → ts ≡ front ++ x ∷ rest → position ≡ length front → p ≡ front ++ x ∷ []

pub through_part : {E : Type 0} (ts part : List Text) (position : ℕ) (r : Result (List Text) E) → part ≡ slice_range ts 0 (position + 1) → IfOk r (λ p. p ≡ part) → IfOk r (IsThrough ts position)
through_part ts part position (Err e) is copy = tt
through_part ts part position (Ok p) is copy = λ front x rest split at.
    let count : position + 1 - 0 ≡ length front + 1 = omega arith in
    copy ∙ is ∙ ap (λ (l : List Text). slice_range l 0 (position + 1)) split ∙ ap (λ (k : ℕ). take k (front ++ x ∷ rest)) count ∙ take-append-add front (x ∷ rest) 1

-- the location of an assigned value

-- at a scalar
pub landing_unreachable : {E : Type 0} (ts : List Text) (position offset : ℕ) (e : Error) (r : Result (List Text) E) → e ≡ Unreachable position offset → IfOk r (IsFront ts position) → IfOk r (λ landing. (n : NodeMap) → Refuses n ts e → NamesLanding n ts landing)
landing_unreachable ts position offset e (Err error) is part = tt
landing_unreachable ts position offset e (Ok p) is part = λ n refused. at n (subst (λ (f : Error). Refuses n ts f) is refused)
  where
    at : (n : NodeMap) → Refuses n ts (Unreachable position offset) → NamesLanding n ts p
    at n r =
        let why : (v : Scalar) × (r.label ≡ a_leaf v) = r.why in
        let stops : StopsBefore n ts position offset (a_leaf why.0) r.token = subst (λ (l : Label). StopsBefore n ts position offset l r.token) why.1 r.stops in
        let same : p ≡ stops.front = part stops.front (r.token ∷ stops.rest) stops.stops.split stops.position_is in
        subst (λ (l : List Text). NamesLanding n ts l) (sym same) (landing_leaf n ts position offset why.0 r.token stops)

-- at an object
pub landing_not_found : {E : Type 0} (ts : List Text) (position offset : ℕ) (e : Error) (r : Result (List Text) E) → e ≡ NotFound position offset → IfOk r (IsThrough ts position) → IfOk r (λ landing. (n : NodeMap) → Refuses n ts e → NamesLanding n ts landing)
landing_not_found ts position offset e (Err error) is part = tt
landing_not_found ts position offset e (Ok p) is part = λ n refused. at n (subst (λ (f : Error). Refuses n ts f) is refused)
  where
    at : (n : NodeMap) → Refuses n ts (NotFound position offset) → NamesLanding n ts p
    at n r =
        let why : r.label ≡ an_object = r.why in
        let stops : StopsBefore n ts position offset an_object r.token = subst (λ (l : Label). StopsBefore n ts position offset l r.token) why r.stops in
        let same : p ≡ stops.front ++ r.token ∷ [] = part stops.front r.token stops.rest stops.stops.split stops.position_is in
        subst (λ (l : List Text). NamesLanding n ts l) (sym same) (landing_member n ts position offset r.token stops)

-- at an array, with a token that is not an index

dash_is_index : (source : ParseIndexError) → Reads (codes "-") (Err source) → ⊥
dash_is_index (InvalidInteger Empty) h = cc
dash_is_index (InvalidInteger Overflow) h = dec_no_dash h.0 h.1
dash_is_index LeadingZeros h = apart 45 48 (omega arith) h.0
  where
    apart : (a b : ℕ) → a < b → a ≡ b → ⊥
    apart a b less e = omega arith
dash_is_index (InvalidCharacter offset) h = h.1 refl

pub landing_no_index : {E : Type 0} (ts : List Text) (position offset : ℕ) (source : ParseIndexError) (e : Error) (r : Result (List Text) E) → e ≡ FailedToParseIndex position offset source → IfOk r (IsThrough ts position) → IfOk r (λ landing. (n : NodeMap) → Refuses n ts e → NamesLanding n ts landing)
landing_no_index ts position offset source e (Err error) is part = tt
landing_no_index ts position offset source e (Ok p) is part = λ n refused. at n (subst (λ (f : Error). Refuses n ts f) is refused)
  where
    at : (n : NodeMap) → Refuses n ts (FailedToParseIndex position offset source) → NamesLanding n ts p
    at n r q left lands =
        let why : (len : ℕ) × (r.label ≡ an_array len) × Reads r.token (Err source) = r.why in
        let stops : StopsBefore n ts position offset (an_array why.0) r.token = subst (λ (l : Label). StopsBefore n ts position offset l r.token) why.1 r.stops in
        let same : p ≡ stops.front ++ r.token ∷ [] = part stops.front r.token stops.rest stops.stops.split stops.position_is in
        ⊎_elim
        (λ (dash : r.token ≡ codes "-"). absurd (dash_is_index source (subst (λ (x : Text). Reads x (Err source)) dash why.2)))
        (λ (end : r.token ≡ dec why.0). subst (λ (l : List Text). (v : NodeMap) → IsSome (v []) → Names (put (with_room n q) q v) l q) (sym (same ∙ ap (λ (x : Text). stops.front ++ x ∷ []) end)) (landing_end n ts position offset why.0 r.token stops q left lands))
        (landing_means n ts position offset why.0 r.token stops q left lands)

-- or with one that is an index out of bounds

beyond_length : (index : Index) (len : ℕ) (source : OutOfBoundsError) → IsBeyond index len source → source.length ≡ len
beyond_length (Num i) len source h = h.1
beyond_length Next len source h = h.0

pub landing_out_of_bounds : (ts part landing : List Text) (position offset : ℕ) (source : OutOfBoundsError) (e : Error) → e ≡ OutOfBounds position offset source → IsFront ts position part → landing ≡ part ++ dec source.length ∷ [] → (n : NodeMap) → Refuses n ts e → NamesLanding n ts landing
landing_out_of_bounds ts part landing position offset source e is front pushed n refused = at (subst (λ (f : Error). Refuses n ts f) is refused)
  where
    at : Refuses n ts (OutOfBounds position offset source) → NamesLanding n ts landing
    at r =
        let why : (len : ℕ) × (index : Index) × (r.label ≡ an_array len) × Reads r.token (Ok index) × IsBeyond index len source = r.why in
        let stops : StopsBefore n ts position offset (an_array why.0) r.token = subst (λ (l : Label). StopsBefore n ts position offset l r.token) why.2 r.stops in
        let same : part ≡ stops.front = front stops.front (r.token ∷ stops.rest) stops.stops.split stops.position_is in
        let long : source.length ≡ why.0 = beyond_length why.1 why.0 source why.4 in
        let all : landing ≡ stops.front ++ dec why.0 ∷ [] = pushed ∙ ap (λ (l : List Text). l ++ dec source.length ∷ []) same ∙ ap (λ (k : ℕ). stops.front ++ dec k ∷ []) long in
        subst (λ (l : List Text). NamesLanding n ts l) (sym all) (landing_end n ts position offset why.0 r.token stops)

-- if the tokens resolve to a value
pub landing_found : {E : Type 0} (n : NodeMap) (ts : List Text) (r : Result (List Text) E) → (w : Path) × Names n ts w → IfOk r (λ p. p ≡ ts) → IfOk r (NamesLanding n ts)
landing_found n ts (Err error) found copy = tt
landing_found n ts (Ok p) found copy = subst (λ (l : List Text). NamesLanding n ts l) (sym copy) (landing_named_path n ts found.0 found.1)

-- and if they do not
pub landing_refused : {E : Type 0} (n : NodeMap) (ts : List Text) (e : Error) (r : Result (List Text) E) → Refuses n ts e → IfOk r (λ landing. (k : NodeMap) → Refuses k ts e → NamesLanding k ts landing) → IfOk r (NamesLanding n ts)
landing_refused n ts e (Err error) refused lands = tt
landing_refused n ts e (Ok p) refused lands = lands n refused

-- undoing

module _ {V : Type 0} (nodes : V → NodeMap) where
  -- what an assignment returns
  pub with_undo : (n : NodeMap) (ts : List Text) (v m : NodeMap) (u : Undo V) (old : Option V) → IsTree v → NamesLanding n ts (tokens_at u) → old ≡ put_by u → Assigns n ts v m (option_map nodes old) → AssignsWithUndo nodes n ts v m u
  with_undo n ts v m u old tree lands is made =
      let here : Assigns n ts v m (option_map nodes (put_by u)) = subst (λ (o : Option V). Assigns n ts v m (option_map nodes o)) is made in
      record {
        assigned = here;
        landing = landing_names n ts (tokens_at u) v m (option_map nodes (put_by u)) lands tree here;
      }

  -- the undo leads back to the old map
  pub undone : (n : NodeMap) (ts : List Text) (v m blank : NodeMap) (u : Undo V) → IsTree n → AssignsWithUndo nodes n ts v m u → (k : NodeMap) → Undoes nodes blank m u k → k ≡ n
  undone n ts v m blank (Put p w) tree a k puts =
      puts.made
      ∙ ap (λ (q : Path). put m q (nodes w)) (Names_one_path m p puts.path a.assigned.path puts.named a.landing)
      ∙ put_back n ts v m (nodes w) tree a.assigned
  undone n ts v m blank (Remove p) tree a k removes = deleted_again n ts v m tree a.assigned p blank k a.landing removes.1

-- a value that is determined by its map
pub restored : {D U E : Type 0} (map : D → NodeMap) (ascend : D → Type 0) (one : (d e : D) → ascend d → ascend e → map d ≡ map e → d ≡ e) (undoes : U → NodeMap → Type 0) (old : D) (r : Result U E) → IfOk r (λ u. (m : NodeMap) → undoes u m → m ≡ map old) → IfOk r (λ u. (d : D) → undoes u (map d) → ascend old → ascend d → d ≡ old)
restored map ascend one undoes old (Err e) back = tt
restored map ascend one undoes old (Ok u) back = λ d h a b. one d old b a (back (map d) h)
