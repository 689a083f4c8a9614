-- A list of tokens takes a value or fails in each document, and fails with one error.
use Rattle.std.proofs.Common.{◌≡◌, ℕ, ◌<◌, ◌≤◌, ◌⊎◌, inl, inr, ⊎_elim, List, Option, Result, Ok, Err, refl, sym, ap₂, ◌∙◌, subst}
use Rattle.std.specs.Prelude.{All, IsUtf8}
use Rattle.std.proofs.lemmas.Bool.{cases_lt}
use Rattle.jsonptr.specs.Text.{Text}
use Rattle.jsonptr.specs.Node.{an_array, NodeMap, IsTree}
use Rattle.jsonptr.specs.Landing.{LandsNowhere}
use Rattle.jsonptr.specs.Assigning.{Assigns}
use Rattle.jsonptr_tree.proofs.FollowingLemmas.{StopsBefore_one}
use Rattle.jsonptr_tree.proofs.AssigningLemmas.{Assigns-some, Assigns-LandsNowhere}
use Rattle.jsonptr.specs.Types.Index.{Index}
use Rattle.jsonptr.specs.Types.Index.TheVariants.{Num, Next}
use Rattle.jsonptr.specs.Types.OutOfBoundsError.{OutOfBoundsError}
use Rattle.jsonptr.specs.Types.ParseIndexError.{ParseIndexError}
use Rattle.jsonptr.specs.Index.{Reads, IsWithinOrNext}
use Rattle.jsonptr.specs.Assign.{assign_position_of, assign_offset_of, assign_cause_of, IsIndexError, RefusesAssign}
use Rattle.jsonptr_laws.proofs.ResolveLemmas.{next_utf8}
use Rattle.jsonptr.specs.declared.assign.Error.{Error}
use Rattle.jsonptr.specs.declared.assign.Error.TheVariants.{FailedToParseIndex, OutOfBounds}

-- ---- one error

above_one : (len : ℕ) (index : Index) (a b : OutOfBoundsError) → IsWithinOrNext index len (Err a) → IsWithinOrNext index len (Err b) → a ≡ b
above_one len index a b h k =
    let long : a.length ≡ b.length = h.1 ∙ sym k.1 in
    let at : a.index ≡ b.index = h.2 ∙ sym k.2 in
    ap₂ (λ (l i : ℕ). record { length = l; index = i }) long at

-- a text parses as one index or fails with one error
abbrev pub ReadsOnce : Type 0
ReadsOnce = (s : Text) (r q : Result Index ParseIndexError) → Reads s r → Reads s q → r ≡ q

module _ (reads_one : ReadsOnce) where
  -- the errors for one token in an array of one length, at one position
  one_reason : (len : ℕ) (x : Text) (e f : Error) → assign_position_of e ≡ assign_position_of f → assign_offset_of e ≡ assign_offset_of f → IsIndexError len x (assign_cause_of e) → IsIndexError len x (assign_cause_of f) → e ≡ f
  one_reason len x (FailedToParseIndex p o s) (FailedToParseIndex q u t) here there h k =
      let read = reads_one x (Err s) (Err t) h k in
      let same : s ≡ t = cc in
      cc
  one_reason len x (FailedToParseIndex p o s) (OutOfBounds q u t) here there h k =
      let read = reads_one x (Err s) (Ok k.0) h k.1 in
      cc
  one_reason len x (OutOfBounds p o s) (FailedToParseIndex q u t) here there h k =
      let read = reads_one x (Ok h.0) (Err t) h.1 k in
      cc
  one_reason len x (OutOfBounds p o s) (OutOfBounds q u t) here there h k =
      let read = reads_one x (Ok h.0) (Ok k.0) h.1 k.1 in
      let index : h.0 ≡ k.0 = cc in
      let same : s ≡ t = above_one len k.0 s t (subst (λ (i : Index). IsWithinOrNext i len (Err s)) index h.2) k.2 in
      cc

  pub refusal_one : (n : NodeMap) (tokens : List Text) (e f : Error) → RefusesAssign n tokens e → RefusesAssign n tokens f → e ≡ f
  refusal_one n tokens e f h k =
      let s = StopsBefore_one n tokens (assign_position_of e) (assign_position_of f) (assign_offset_of e) (assign_offset_of f) (an_array h.len) (an_array k.len) h.token k.token h.nowhere.stops k.nowhere.stops in
      let label : an_array h.len ≡ an_array k.len = s.2 in
      let long : h.len ≡ k.len = cc in
      one_reason k.len k.token e f s.0 s.1 (subst (λ (t : Text). IsIndexError k.len t (assign_cause_of e)) s.3 (subst (λ (len : ℕ). IsIndexError len h.token (assign_cause_of e)) long h.why)) k.why

pub refused_not_assigned : (n : NodeMap) (tokens : List Text) (v m : NodeMap) (old : Option NodeMap) (e : Error) → Assigns n tokens v m old → RefusesAssign n tokens e → ⊥
refused_not_assigned n tokens v m old e a r = Assigns-LandsNowhere n tokens v m old (assign_position_of e) (assign_offset_of e) r.len r.token a r.nowhere

-- ---- each list takes the value or fails

-- each UTF-8 text has a result
abbrev pub ReadsSome : Type 0
ReadsSome = (s : Text) → IsUtf8 s → (r : Result Index ParseIndexError) × Reads s r

module _ (reads_some : ReadsSome) (n : NodeMap) (tokens : List Text) where
  by_reading : (p o len : ℕ) (x : Text) → LandsNowhere n tokens p o len x → (r : Result Index ParseIndexError) → Reads x r → (e : Error) × RefusesAssign n tokens e
  by_reading p o len x none (Err source) reads = (FailedToParseIndex p o source, record { len = len; token = x; nowhere = none; why = reads })
  by_reading p o len x none (Ok Next) reads = absurd (none.no_dash reads)
  by_reading p o len x none (Ok (Num i)) reads =
      let above : len < i = ⊎_elim (λ (h : len < i). h) (λ (h : i ≤ len). absurd (none.no_place i h reads.0)) (cases_lt len i) in
      (OutOfBounds p o (record { length = len; index = i }), record { len = len; token = x; nowhere = none; why = (Num i, reads, (above, refl, refl)) })

  pub assigned_or_refused : (v : NodeMap) → IsTree n → All IsUtf8 tokens → ((m : NodeMap) × (old : Option NodeMap) × Assigns n tokens v m old) ⊎ ((e : Error) × RefusesAssign n tokens e)
  assigned_or_refused v tree utf8 = ⊎_elim
      (λ (made : (m : NodeMap) × (old : Option NodeMap) × Assigns n tokens v m old). inl made)
      (λ (r : (p o len : ℕ) × (x : Text) × LandsNowhere n tokens p o len x).
      let read = reads_some r.3 (next_utf8 tokens utf8 r.4.stops.front r.3 r.4.stops.rest r.4.stops.stops.split) in
      inr (by_reading r.0 r.1 r.2 r.3 r.4 read.0 read.1))
      (Assigns-some n tokens v tree)
