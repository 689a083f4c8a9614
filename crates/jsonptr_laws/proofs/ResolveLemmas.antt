-- A list of tokens resolves or fails in each document, and fails with one error.
use Rattle.std.proofs.Common.{◌≡◌, ℕ, ◌<◌, ◌⊎◌, inl, inr, ⊎_elim, List, [], ◌∷◌, ◌++◌, length, get_or, Option, Some, IsSome, refl, sym, ap, ◌∙◌, subst, arith, length-append}
use Rattle.std.specs.Prelude.{All, IsUtf8}
use Rattle.std.proofs.Math.Seq.{get_or-append_seam}
use Rattle.jsonptr.specs.Text.{Text}
use Rattle.jsonptr.specs.Node.{Step, Label, NodeMap, NamesStep, IsTree, sub}
use Rattle.jsonptr.specs.Following.{Finds, StopsBefore}
use Rattle.jsonptr_tree.proofs.NodeLemmas.{sub-root, IsTree-sub}
use Rattle.jsonptr_tree.proofs.FollowingLemmas.{StopsBefore_one, Finds-StopsBefore, stops-lacks, follows}
use Rattle.jsonptr.specs.Child.{IsChildError, RefusesChild}
use Rattle.jsonptr.specs.Types.ChildError.{ChildError}
use Rattle.jsonptr.specs.Types.ChildError.TheVariants as child_error
use Rattle.jsonptr.specs.Resolve.{Refuses, resolve_position_of, resolve_offset_of, resolve_cause_of}
use Rattle.jsonptr.specs.declared.resolve.Error.{Error}
use Rattle.jsonptr.specs.declared.resolve.Error.TheVariants.{FailedToParseIndex, OutOfBounds, NotFound, Unreachable}

-- an error is determined by its position, its offset and its cause
abbrev error_of : ℕ → ℕ → ChildError → Error
error_of p o (child_error.BadIndex source) = FailedToParseIndex p o source
error_of p o (child_error.OutOfBounds source) = OutOfBounds p o source
error_of p o child_error.NotFound = NotFound p o
error_of p o child_error.Unreachable = Unreachable p o

error_again : (e : Error) → error_of (resolve_position_of e) (resolve_offset_of e) (resolve_cause_of e) ≡ e
error_again (FailedToParseIndex p o source) = refl
error_again (OutOfBounds p o source) = refl
error_again (NotFound p o) = refl
error_again (Unreachable p o) = refl

error_one : (e f : Error) → resolve_position_of e ≡ resolve_position_of f → resolve_offset_of e ≡ resolve_offset_of f → resolve_cause_of e ≡ resolve_cause_of f → e ≡ f
error_one e f p o c =
    sym (error_again e)
    ∙ ap (λ (k : ℕ). error_of k (resolve_offset_of e) (resolve_cause_of e)) p
    ∙ ap (λ (k : ℕ). error_of (resolve_position_of f) k (resolve_cause_of e)) o
    ∙ ap (λ (k : ChildError). error_of (resolve_position_of f) (resolve_offset_of f) k) c
    ∙ error_again f

pub refusal_one : ((label : Label) (x : Text) (c d : ChildError) → IsChildError label x c → IsChildError label x d → c ≡ d) → (n : NodeMap) (tokens : List Text) (e f : Error) → Refuses n tokens e → Refuses n tokens f → e ≡ f
refusal_one reason_one n tokens e f h k =
    let s = StopsBefore_one n tokens (resolve_position_of e) (resolve_position_of f) (resolve_offset_of e) (resolve_offset_of f) h.label k.label h.token k.token h.stops k.stops in
    let why : IsChildError k.label k.token (resolve_cause_of e) = subst (λ (x : Text). IsChildError k.label x (resolve_cause_of e)) s.3 (subst (λ (l : Label). IsChildError l h.token (resolve_cause_of e)) s.2 h.why) in
    error_one e f s.0 s.1 (reason_one k.label k.token (resolve_cause_of e) (resolve_cause_of f) why k.why)

pub refused_not_found : (n : NodeMap) (tokens : List Text) (m : NodeMap) (e : Error) → Finds n tokens m → Refuses n tokens e → ⊥
refused_not_found n tokens m e f h = Finds-StopsBefore n tokens m (resolve_position_of e) (resolve_offset_of e) h.label h.token f h.stops

-- ---- each list resolves or fails

-- in a document each token selects a child of the root or fails
abbrev ChildOrRefused : Type 0
ChildOrRefused = (n : NodeMap) (x : Text) → IsTree n → IsUtf8 x → ((s : Step) × NamesStep (n []) x s × IsSome (n (s ∷ []))) ⊎ ((e : ChildError) × RefusesChild n x e)

-- if all tokens are UTF-8, each is
pub next_utf8 : (tokens : List Text) → All IsUtf8 tokens → (front : List Text) (x : Text) (rest : List Text) → tokens ≡ front ++ x ∷ rest → IsUtf8 x
next_utf8 tokens utf8 front x rest e =
    let below : length front < length tokens = omega (arith, ap length e, length-append front (x ∷ rest)) in
    let here : get_or tokens (length front) x ≡ x = ap (λ (l : List Text). get_or l (length front) x) e ∙ get_or-append_seam front x rest x in
    subst IsUtf8 here (utf8 (length front) x below)

module _ (child : ChildOrRefused) (n : NodeMap) (tokens : List Text) (tree : IsTree n) (utf8 : All IsUtf8 tokens) where
  by_stop : (p o : ℕ) (l : Label) (x : Text) → StopsBefore n tokens p o l x → (e : Error) × Refuses n tokens e
  by_stop p o l x s =
      let there : IsSome (n s.path) = subst (λ (k : Option Label). IsSome k) (sym s.label_is) refl in
      let root : sub n s.path [] ≡ n s.path = sub-root n s.path in
      ⊎_elim
      (λ (step : (t : Step) × NamesStep (sub n s.path []) x t × IsSome (sub n s.path (t ∷ []))).
      absurd (stops-lacks n tokens s.front x s.rest s.path s.stops step.0 (subst (λ (k : Option Label). NamesStep k x step.0) root step.1) step.2))
      (λ (no : (e : ChildError) × RefusesChild (sub n s.path) x e).
      let same : Some no.1.label ≡ Some l = sym no.1.root ∙ root ∙ s.label_is in
      let label : no.1.label ≡ l = cc same in
      (error_of p o no.0, refusal p o l x no.0 s (subst (λ (k : Label). IsChildError k x no.0) label no.1.why)))
      (child (sub n s.path) x (IsTree-sub n s.path tree there) (next_utf8 tokens utf8 s.front x s.rest s.stops.split))
    where
      refusal : (p o : ℕ) (l : Label) (x : Text) (c : ChildError) → StopsBefore n tokens p o l x → IsChildError l x c → Refuses n tokens (error_of p o c)
      refusal p o l x (child_error.BadIndex source) s why = record { label = l; token = x; stops = s; why = why }
      refusal p o l x (child_error.OutOfBounds source) s why = record { label = l; token = x; stops = s; why = why }
      refusal p o l x child_error.NotFound s why = record { label = l; token = x; stops = s; why = why }
      refusal p o l x child_error.Unreachable s why = record { label = l; token = x; stops = s; why = why }

  pub found_or_refused : ((m : NodeMap) × Finds n tokens m) ⊎ ((e : Error) × Refuses n tokens e)
  found_or_refused =
      ⊎_elim
      (λ named. inl (_, record { path = named.0; named = named.1; below = refl }))
      (λ stop. inr (by_stop stop.0 stop.1 stop.2 stop.3 stop.4))
      (follows n tokens tree)
