use Rattle.std.proofs.Common.{◌≡◌, ℕ, ◌≤◌, Result, Ok, Err, IfOk, IfErr, string_bytes, subst}
use Rattle.serde_json.specs.Data.{Data, depth}
use Rattle.serde_json.specs.Read.{max_depth}
use Rattle.serde_json.specs.View.{view}
use Rattle.serde_json.specs.declared.value.Value.{Value}
use Rattle.jsonptr.specs.Json.{nodes, HasSortedKeys}
use Rattle.jsonptr.specs.Text.{Text}
use Rattle.jsonptr_text_paths.specs.Listing.{Lists}
use Rattle.jsonptr_text_paths.specs.Building.{Builds, StopsBuilding}
use Rattle.jsonptr_text_paths.specs.declared.listing.Listed.TheVariants.{AllNodes}
use Rattle.jsonptr_text_paths.specs.declared.build.LineError.{LineError}
use Rattle.jsonptr_text_paths.specs.declared.build.BuildError.{BuildError}
use Rattle.jsonptr_text_paths.specs.declared.build.BuildError.TheVariants.{Line}
use Rattle.jsonptr_uses.proofs.nodes.rebuilt.Goals as goal

same_value : (d : Data) (lines text : Text) (r : Result Value BuildError)
    → ((e : Data) → HasSortedKeys d → HasSortedKeys e → Lists AllNodes d lines → Builds lines (nodes e) → e ≡ d)
    → text ≡ lines
    → Lists AllNodes d lines
    → IfOk r (λ v. Builds text (nodes (view v)))
    → IfOk r (λ v. HasSortedKeys (view v))
    → IfOk r (λ v. HasSortedKeys d → view v ≡ d)
same_value d lines text (Ok v) law same lists done sorted = λ s. law (view v) s sorted lists (subst (λ (t : Text). Builds t (nodes (view v))) same done)
same_value d lines text (Err e) law same lists done sorted = tt

no_line : (d : Data) (lines text : Text) (r : Result Value BuildError)
    → ((i : ℕ) (e : LineError) → depth d ≤ max_depth → Lists AllNodes d lines → StopsBuilding lines (Line i e) → ⊥)
    → text ≡ lines
    → Lists AllNodes d lines
    → IfErr r (StopsBuilding text)
    → (i : ℕ) (e : LineError) → depth d ≤ max_depth → r ≡ Err (Line i e) → ⊥
no_line d lines text r law same lists failed i e shallow is =
    law i e shallow lists
    (subst (λ (t : Text). StopsBuilding t (Line i e)) same (subst (λ (q : Result Value BuildError). IfErr q (StopsBuilding text)) is failed))

pub returns-in-Ok-clause-same : goal.returns-in-Ok-clause-same
returns-in-Ok-clause-same c =
    same_value (view c.args.document.now) (string_bytes c.in-Ok.lines) c.as_str.result.now c.build.result
    (λ e. c.round_trip_law.ensures.same_value (view c.args.document.now) e (string_bytes c.in-Ok.lines))
    c.as_str.ensures.value
    c.in-Ok.ensures
    c.build.ensures.built
    c.build.ensures.sorted

pub returns-in-Ok-clause-no_line : goal.returns-in-Ok-clause-no_line
returns-in-Ok-clause-no_line c =
    no_line (view c.args.document.now) (string_bytes c.in-Ok.lines) c.as_str.result.now c.build.result
    (c.round_trip_law.ensures.never_refused (view c.args.document.now) (string_bytes c.in-Ok.lines))
    c.as_str.ensures.value
    c.in-Ok.ensures
    c.build.ensures.refused
