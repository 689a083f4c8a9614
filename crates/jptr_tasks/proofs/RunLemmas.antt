-- A run over the lines of an input, turn by turn.
use Rattle.std.proofs.Common.{◌≡◌, ◌≢◌, ◌⊎◌, inl, inr, ℕ, ◌+◌, List, [], ◌∷◌, ◌++◌, take, length, Bool, true, false, not, None, Some, string_bytes, codes, decimal, refl, sym, ap, ◌∙◌, subst, arith, append-nil, append_assoc, length-append}
use Rattle.std.specs.Prelude.{IfSome, ◌&&◌}
use Rattle.std.specs.Io.KnownBytes.{Appends, Consumes, IsAtEnd, Keeps}
use Rattle.std.proofs.KnownBytes.{Appends-nil, Appends-trans, Appends-kept, Consumes-nil, Consumes-trans}
use Rattle.std.proofs.Math.Seq.{take-append-add}
use Rattle.jsonptr.specs.Text.{Text}
use Rattle.jsonptr_io.specs.Lines.{AreLines, IsNextLine}
use Rattle.jsonptr_io.specs.PrivateLines.{joined, AreAllLines}
use Rattle.jsonptr_io.specs.Streams.{ForInput, AppendsPrefix}
use Rattle.jsonptr_io.specs.declared.read.Ending.TheVariants.{Break, Input}
use Rattle.jsonptr_io.proofs.StreamLemmas.{prefix_all, prefix_kept}
use Rattle.jsonptr_io.proofs.LineLemmas.{some_lines, all_lines-push, joined-push, lines_after}
use Rattle.jptr_tasks.specs.LineResults.{LineGives, LinesGive, IsReport, StopsRun}
use Rattle.jptr_tasks.specs.PrivateLineResults.{Known, IsPut, StopsPut}
use Rattle.jptr_tasks.specs.Runs.{AreFirstLines, IsEnd, IsRun, RunStopsIn}
use Rattle.jptr_tasks.specs.PrivateRuns.{RunProgress, IsTurn, StopsTurn, ended_as}
use Rattle.jptr_tasks.specs.declared.task_error.TaskError.{TaskError}
use Rattle.jptr_tasks.specs.declared.task_error.TaskError.TheVariants.{Write}
use Rattle.jptr_tasks.specs.declared.line.LineTask.{LineTask}
use Rattle.jptr_tasks.specs.declared.lines.Ended.{Ended}
use Rattle.jptr_tasks.specs.declared.lines.Ended.TheVariants.{Fine, WithErrors, Stopped}
use Rattle.jptr_tasks.specs.declared.lines.Turn.TheVariants.{Line, LastLine, NoLine}

-- ---- texts

pub not_nil : (x : Text) (b : ℕ) (y : Text) → x ++ b ∷ y ≡ [] → ⊥
not_nil [] b y e = cc
not_nil (a ∷ x) b y e = cc

nil_left : (x y : Text) → x ++ y ≡ [] → x ≡ []
nil_left [] y e = refl
nil_left (a ∷ x) y e = cc

nil_right : (x y : Text) → x ++ y ≡ [] → y ≡ []
nil_right [] y e = e
nil_right (a ∷ x) y e = cc

both_nil : (x y : Text) → x ≡ [] → y ≡ [] → x ++ y ≡ []
both_nil x y p q = ap (λ (t : Text). t ++ y) p ∙ q

report_some : (name : Text) (n : ℕ) (r : Text) → IsReport name n r → r ≢ []
report_some name n r h = λ e. not_nil name 58 (decimal n ++ (codes ": " ++ (h.0 ++ 10 ∷ []))) (sym h.1 ∙ e)

-- ---- bytes that may be unknown

for_map : (known : Known) (P Q : List ℕ → Type 0) → ((bytes : List ℕ) → P bytes → Q bytes) → ForInput known P → ForInput known Q
for_map None P Q f h = (h.0, f h.0 h.1)
for_map (Some bytes) P Q f h = f bytes h

prefix_after : (a b c : Known) (bs cs : Text) → Appends a b bs → AppendsPrefix b c cs → AppendsPrefix a c (bs ++ cs)
prefix_after a b c bs cs h k =
    (length bs + k.0, subst (Appends a c) (sym (take-append-add bs cs k.0)) (Appends-trans a b c bs (take k.0 cs) h k.1))

-- a turn stops where what its line writes does
pub stops_turn : (run : LineTask) (n : ℕ) (r0 r1 w0 w1 e0 e1 : Known) (l : Text) (e : TaskError)
    → IsNextLine r0 r1 l Break ⊎ IsNextLine r0 r1 l Input → StopsPut run n l w0 w1 e0 e1 e → StopsTurn run n r0 r1 w0 w1 e0 e1 e
stops_turn run n r0 r1 w0 w1 e0 e1 l e next h = (
  h.0,
  elim h.1 [
    | inl k ↦ inl k
    | inr k ↦ inr (l, k.0, k.1, next, k.2, k.3, k.4)
  ],
)

-- ---- what lines give

-- the next line after some lines
gives_push : (run : LineTask) (ls : List Text) (n m : ℕ) (out err : Text) (l o r : Text)
    → m ≡ n + length ls → LinesGive run n ls out err → LineGives run m l o r → LinesGive run n (ls ++ l ∷ []) (out ++ o) (err ++ r)
gives_push run [] n m out err l o r at h line =
    let here : m ≡ n = omega (arith, at) in
    (o, r, [], [], subst (λ (k : ℕ). LineGives run k l o r) here line, (refl, refl), ap (λ (t : Text). t ++ o) h.0 ∙ sym (append-nil o), ap (λ (t : Text). t ++ r) h.1 ∙ sym (append-nil r))
gives_push run (k ∷ ls) n m out err l o r at h line =
    let later : m ≡ (n + 1) + length ls = omega (arith, at) in
    let rest = gives_push run ls (n + 1) m h.2 h.3 l o r later h.5 line in
    (h.0, h.1, h.2 ++ o, h.3 ++ r, h.4, rest, ap (λ (t : Text). t ++ o) h.6 ∙ append_assoc h.0 h.2 o, ap (λ (t : Text). t ++ r) h.7 ∙ append_assoc h.1 h.3 r)

-- what one line writes, whether it has a result or not
record Put (run : LineTask) (n : ℕ) (l : Text) (w0 w1 e0 e1 : Known) (fine : Bool) : Type 0 where
  out : Text
  err : Text
  gives : LineGives run n l out err
  written : Appends w0 w1 out
  reported : Appends e0 e1 err
  clean : fine ≡ true → err ≡ []
  report : fine ≡ false → IsReport (string_bytes run.name) n err

put_of : (run : LineTask) (n : ℕ) (l : Text) (w0 w1 e0 e1 : Known) (fine : Bool) → IsPut run n l w0 w1 e0 e1 fine → Put run n l w0 w1 e0 e1 fine
put_of run n l w0 w1 e0 e1 true h = record {
  out = h.0;
  err = [];
  gives = h.1;
  written = h.2;
  reported = Appends-kept e0 e0 e1 [] (Appends-nil e0) h.3;
  clean = λ e. refl;
  report = λ e. cc;
}
put_of run n l w0 w1 e0 e1 false h = record {
  out = h.0;
  err = h.1;
  gives = h.2;
  written = h.3;
  reported = h.4;
  clean = λ e. cc;
  report = λ e. h.5;
}

clean_both : (a b : Bool) (x y : Text) → (a ≡ true → x ≡ []) → (b ≡ true → y ≡ []) → (a && b) ≡ true → x ++ y ≡ []
clean_both true b x y p q e = both_nil x y (p refl) (q e)
clean_both false b x y p q e = cc

faults_both : (a b : Bool) (x y : Text) → (a ≡ false → x ≢ []) → (b ≡ false → y ≢ []) → (a && b) ≡ false → x ++ y ≢ []
faults_both true b x y p q e = λ z. q e (nil_right x y z)
faults_both false b x y p q e = λ z. p refl (nil_left x y z)

no_both : (b : Bool) → b ≡ true → b ≡ false → ⊥
no_both true p q = cc
no_both false p q = cc

second_fault : (a b : Bool) → a ≡ true → (a && b) ≡ false → b ≡ false
second_fault true b p q = q
second_fault false b p q = cc

pub stops_so : (s f : Bool) → (s && not f) ≡ true → (s ≡ true) × (f ≡ false)
stops_so true true e = cc
stops_so true false e = (refl, refl)
stops_so false f e = cc

pub goes_on : (s a f : Bool) → (s && not f) ≡ false → (s ≡ true → a ≡ true) → s ≡ true → (a && f) ≡ true
goes_on true a true e h t = ap (λ (b : Bool). b && true) (h refl)
goes_on true a false e h t = cc
goes_on false a f e h t = cc

-- ---- lines of the input

module _ (r0 r : Known) (ls : List Text) (all : AreAllLines ls) (read : Consumes r0 r (joined ls)) where
  pub first_lines : ForInput r0 (λ bytes. AreFirstLines bytes ls)
  first_lines = at r0 r read
    where
      at : (a b : Known) → Consumes a b (joined ls) → ForInput a (λ bytes. AreFirstLines bytes ls)
      at None b h = (joined ls ++ [], ([], lines_after ls [] [] all refl))
      at (Some xs) None h = absurd h
      at (Some xs) (Some ys) h =
          let more = some_lines ys in
          (more.0, subst (λ (b : Text). AreLines b (ls ++ more.0)) (sym h) (lines_after ls more.0 ys all more.1))

  all_lines : IsAtEnd r → ForInput r0 (λ bytes. AreLines bytes ls)
  all_lines end = at r0 r read end
    where
      whole : AreLines (joined ls ++ []) ls
      whole = subst (AreLines (joined ls ++ [])) (append-nil ls) (lines_after ls [] [] all refl)

      at : (a b : Known) → Consumes a b (joined ls) → IsAtEnd b → ForInput a (λ bytes. AreLines bytes ls)
      at None b h e = (joined ls ++ [], whole)
      at (Some xs) None h e = absurd h
      at (Some xs) (Some ys) h e = subst (λ (b : Text). AreLines b ls) (sym (h ∙ ap (λ (t : Text). joined ls ++ t) e)) whole

  with_last : (r1 : Known) (l : Text) → IsNextLine r r1 l Input → ForInput r0 (λ bytes. AreLines bytes (ls ++ l ∷ []))
  with_last r1 l next = at r0 r read next.3
    where
      whole : AreLines (joined ls ++ l) (ls ++ l ∷ [])
      whole = lines_after ls (l ∷ []) l all (next.0, inr (refl, next.1, refl))

      at : (a b : Known) → Consumes a b (joined ls) → IfSome b (λ bytes. bytes ≡ l) → ForInput a (λ bytes. AreLines bytes (ls ++ l ∷ []))
      at None b h e = (joined ls ++ l, whole)
      at (Some xs) None h e = absurd h
      at (Some xs) (Some ys) h e = subst (λ (b : Text). AreLines b (ls ++ l ∷ [])) (sym (h ∙ ap (λ (t : Text). joined ls ++ t) e)) whole

  with_next : (r1 : Known) (l : Text) → IsNextLine r r1 l Break → Consumes r0 r1 (joined (ls ++ l ∷ []))
  with_next r1 l next = subst (Consumes r0 r1) (sym (joined-push ls l)) (Consumes-trans r0 r r1 (joined ls) (l ++ 10 ∷ []) read next.1)

are_first : (bytes : Text) (ls : List Text) → AreLines bytes ls → AreFirstLines bytes ls
are_first bytes ls h = ([], subst (AreLines bytes) (sym (append-nil ls)) h)

-- ---- turn by turn

pub start : (run : LineTask) (r w e : Known) → RunProgress run 1 true r r w w e e
start run r w e = record {
  lines = [];
  out = [];
  err = [];
  count = refl;
  are = tt;
  gives = (refl, refl);
  read = Consumes-nil r;
  written = Appends-nil w;
  reported = Appends-nil e;
  clean = λ p. refl;
  faults = λ p. cc;
  strict = λ p. refl;
}

next_number : (n k : ℕ) → n ≡ k + 1 → n ≡ 1 + k
next_number n k e = omega (arith, e)

push_count : (ls : List Text) (l : Text) (n : ℕ) → n ≡ length ls + 1 → n ≡ length (ls ++ l ∷ [])
push_count ls l n e = e ∙ sym (length-append ls (l ∷ []))

module _ (run : LineTask) (n : ℕ) (fine : Bool) (r0 r w0 w e0 e : Known) (p : RunProgress run n fine r0 r w0 w e0 e) where
  module _ (r1 w1 e1 : Known) where
    -- a line with a line break
    pub step : (f : Bool) → (run.is_strict ≡ true → (fine && f) ≡ true) → IsTurn run n r r1 w w1 e e1 (Line f) → RunProgress run (n + 1) (fine && f) r0 r1 w0 w1 e0 e1
    step f strict t =
        let put = put_of run n t.0 w w1 e e1 f t.2 in record {
          lines = p.lines ++ t.0 ∷ [];
          out = p.out ++ put.out;
          err = p.err ++ put.err;
          count = ap (λ (k : ℕ). k + 1) (push_count p.lines t.0 n p.count);
          are = all_lines-push p.lines t.0 p.are t.1.0;
          gives = gives_push run p.lines 1 n p.out p.err t.0 put.out put.err (next_number n (length p.lines) p.count) p.gives put.gives;
          read = with_next r0 r p.lines p.are p.read r1 t.0 t.1;
          written = Appends-trans w0 w w1 p.out put.out p.written put.written;
          reported = Appends-trans e0 e e1 p.err put.err p.reported put.reported;
          clean = clean_both fine f p.err put.err p.clean put.clean;
          faults = faults_both fine f p.err put.err p.faults (λ x. report_some (string_bytes run.name) n put.err (put.report x));
          strict = strict;
        }

    end_as : (bytes : Text) (ls : List Text) (err : Text) (b : Bool) → AreLines bytes ls → (b ≡ true → err ≡ []) → (b ≡ false → err ≢ [])
        → (run.is_strict ≡ true → b ≡ false → IsReport (string_bytes run.name) (length ls) err) → IsEnd run bytes ls err (ended_as b)
    end_as bytes ls err true are clean faults last = (are, clean refl)
    end_as bytes ls err false are clean faults last = (are, faults refl, λ strict. last strict refl)

    -- in a strict run, the report of the line after those before is the only one
    alone : (l r : Text) → run.is_strict ≡ true → IsReport (string_bytes run.name) n r → IsReport (string_bytes run.name) (length (p.lines ++ l ∷ [])) (p.err ++ r)
    alone l r strict reported =
        let name = string_bytes run.name in
        let same : r ≡ p.err ++ r = ap (λ (x : Text). x ++ r) (sym (p.clean (p.strict strict))) in
        subst (IsReport name (length (p.lines ++ l ∷ []))) same (subst (λ (k : ℕ). IsReport name k r) (push_count p.lines l n p.count) reported)

    -- no further line
    pub end_run : IsTurn run n r r1 w w1 e e1 NoLine → IsRun run r0 w0 w1 e0 e1 (ended_as fine)
    end_run t = for_map r0 (λ bytes. AreLines bytes p.lines) _
        (λ bytes are. (p.lines, p.out, p.err, end_as bytes p.lines p.err fine are p.clean p.faults (λ strict fault. absurd (no_both fine (p.strict strict) fault)), p.gives, Appends-kept w0 w w1 p.out p.written t.1, Appends-kept e0 e e1 p.err p.reported t.2))
        (all_lines r0 r p.lines p.are p.read t.0)

    -- the last line, without a line break
    pub last_run : (f : Bool) → IsTurn run n r r1 w w1 e e1 (LastLine f) → IsRun run r0 w0 w1 e0 e1 (ended_as (fine && f))
    last_run f t =
        let put = put_of run n t.0 w w1 e e1 f t.2 in
        let clean = clean_both fine f p.err put.err p.clean put.clean in
        let faults = faults_both fine f p.err put.err p.faults (λ x. report_some (string_bytes run.name) n put.err (put.report x)) in
        let gives = gives_push run p.lines 1 n p.out p.err t.0 put.out put.err (next_number n (length p.lines) p.count) p.gives put.gives in
        for_map r0 (λ bytes. AreLines bytes (p.lines ++ t.0 ∷ [])) _
        (λ bytes are. (
          p.lines ++ t.0 ∷ [],
          p.out ++ put.out,
          p.err ++ put.err,
          end_as bytes (p.lines ++ t.0 ∷ []) (p.err ++ put.err) (fine && f) are clean faults (λ strict fault. alone t.0 put.err strict (put.report (second_fault fine f (p.strict strict) fault))),
          gives,
          Appends-trans w0 w w1 p.out put.out p.written put.written,
          Appends-trans e0 e e1 p.err put.err p.reported put.reported,
        ))
        (with_last r0 r p.lines p.are p.read r1 t.0 t.1)

    -- the first line at fault, in a strict run
    pub stop_run : run.is_strict ≡ true → IsTurn run n r r1 w w1 e e1 (Line false) → IsRun run r0 w0 w1 e0 e1 Stopped
    stop_run strict t =
        let put = put_of run n t.0 w w1 e e1 false t.2 in
        let gives = gives_push run p.lines 1 n p.out p.err t.0 put.out put.err (next_number n (length p.lines) p.count) p.gives put.gives in
        let report = alone t.0 put.err strict (put.report refl) in
        for_map r0 (λ bytes. AreFirstLines bytes (p.lines ++ t.0 ∷ [])) _
        (λ bytes first. (
          p.lines ++ t.0 ∷ [],
          p.out ++ put.out,
          p.err ++ put.err,
          (first, strict, report),
          gives,
          Appends-trans w0 w w1 p.out put.out p.written put.written,
          Appends-trans e0 e e1 p.err put.err p.reported put.reported,
        ))
        (first_lines r0 r1 (p.lines ++ t.0 ∷ []) (all_lines-push p.lines t.0 p.are t.1.0) (with_next r0 r p.lines p.are p.read r1 t.0 t.1))

    -- a turn that fails
    pub fail : (x : TaskError) → StopsTurn run n r r1 w w1 e e1 x → RunStopsIn run r0 w0 w1 e0 e1 x
    fail x t = (t.0, by t.1)
      where
        Left : List ℕ → Type 0
        Left = λ bytes. (ls : List Text) × (out err : Text) × AreFirstLines bytes ls × LinesGive run 1 ls out err × AppendsPrefix w0 w1 out × AppendsPrefix e0 e1 err

        before : Keeps w w1 × Keeps e e1 → ForInput r0 Left
        before k = for_map r0 (λ bytes. AreFirstLines bytes p.lines) Left
            (λ bytes first. (p.lines, p.out, p.err, first, p.gives, prefix_kept w0 w w1 p.out (prefix_all w0 w p.out p.written) k.0, prefix_kept e0 e e1 p.err (prefix_all e0 e p.err p.reported) k.1))
            (first_lines r0 r p.lines p.are p.read)

        first_with : (l : Text) → IsNextLine r r1 l Break ⊎ IsNextLine r r1 l Input → ForInput r0 (λ bytes. AreFirstLines bytes (p.lines ++ l ∷ []))
        first_with l (inl next) = first_lines r0 r1 (p.lines ++ l ∷ []) (all_lines-push p.lines l p.are next.0) (with_next r0 r p.lines p.are p.read r1 l next)
        first_with l (inr next) = for_map r0 (λ bytes. AreLines bytes (p.lines ++ l ∷ [])) (λ bytes. AreFirstLines bytes (p.lines ++ l ∷ [])) (λ bytes are. are_first bytes (p.lines ++ l ∷ []) are) (with_last r0 r p.lines p.are p.read r1 l next)

        by : (Keeps w w1 × Keeps e e1) ⊎ ((l out err : Text) × (IsNextLine r r1 l Break ⊎ IsNextLine r r1 l Input) × LineGives run n l out err × AppendsPrefix w w1 out × AppendsPrefix e e1 err) → ForInput r0 Left
        by (inl k) = before k
        by (inr h) = for_map r0 (λ bytes. AreFirstLines bytes (p.lines ++ h.0 ∷ [])) Left
            (λ bytes first. (
              p.lines ++ h.0 ∷ [],
              p.out ++ h.1,
              p.err ++ h.2,
              first,
              gives_push run p.lines 1 n p.out p.err h.0 h.1 h.2 (next_number n (length p.lines) p.count) p.gives h.4,
              prefix_after w0 w w1 p.out h.1 p.written h.5,
              prefix_after e0 e e1 p.err h.2 p.reported h.6,
            ))
            (first_with h.0 h.3)

  -- no further turn
  pub give_up : (x : TaskError) → StopsRun x → RunStopsIn run r0 w0 w e0 e x
  give_up x stops = (
    stops,
    for_map r0 (λ bytes. AreFirstLines bytes p.lines) _
        (λ bytes first. (p.lines, p.out, p.err, first, p.gives, prefix_all w0 w p.out p.written, prefix_all e0 e p.err p.reported))
        (first_lines r0 r p.lines p.are p.read),
  )

-- ---- the flush

module _ (run : LineTask) (r0 w0 w1 w2 e0 e1 e2 : Known) (kw : Keeps w1 w2) (ke : Keeps e1 e2) where
  pub run_kept : (ended : Ended) → IsRun run r0 w0 w1 e0 e1 ended → IsRun run r0 w0 w2 e0 e2 ended
  run_kept ended h = for_map r0 _ _ (λ bytes x. (x.0, x.1, x.2, x.3, x.4, Appends-kept w0 w1 w2 x.1 x.5 kw, Appends-kept e0 e1 e2 x.2 x.6 ke)) h

  pub stop_kept : (x : TaskError) → RunStopsIn run r0 w0 w1 e0 e1 x → RunStopsIn run r0 w0 w2 e0 e2 x
  stop_kept x h = (h.0, for_map r0 _ _ (λ bytes x. (x.0, x.1, x.2, x.3, x.4, prefix_kept w0 w1 w2 x.1 x.5 kw, prefix_kept e0 e1 e2 x.2 x.6 ke)) h.1)

  first_of : (bytes : Text) (ls : List Text) (err : Text) (ended : Ended) → IsEnd run bytes ls err ended → AreFirstLines bytes ls
  first_of bytes ls err Fine h = are_first bytes ls h.0
  first_of bytes ls err WithErrors h = are_first bytes ls h.0
  first_of bytes ls err Stopped h = h.0

  -- the run ended, and the flush failed
  pub flush_stops : (ended : Ended) (x : TaskError) → IsRun run r0 w0 w1 e0 e1 ended → x ≡ Write → RunStopsIn run r0 w0 w2 e0 e2 x
  flush_stops ended x h is = (
    subst StopsRun (sym is) tt,
    for_map r0 _ _
        (λ bytes y. (y.0, y.1, y.2, first_of bytes y.0 y.2 ended y.3, y.4, prefix_kept w0 w1 w2 y.1 (prefix_all w0 w1 y.1 y.5) kw, prefix_kept e0 e1 e2 y.2 (prefix_all e0 e1 y.2 y.6) ke))
        h,
  )
