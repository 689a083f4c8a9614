-- The undos of an editor, one by one.
use Rattle.std.proofs.Common.{◌≡◌, ◌+◌, ◌≤◌, List, [], ◌∷◌, ◌++◌, length, Err, refl, sym, ap, subst, arith, append-nil, length-append}
use Rattle.serde_json.specs.Data.{Data}
use Rattle.serde_json.specs.View.{view}
use Rattle.serde_json.specs.declared.value.Value.{Value}
use Rattle.jsonptr.specs.Fault.{IsRefused}
use Rattle.jsonptr.specs.Json.{HasSortedKeys}
use Rattle.jsonptr.specs.Node.{Path, NodeMap, Names}
use Rattle.jsonptr.specs.Text.{Text}
use Rattle.jsonptr.specs.Types.Fault.{Fault}
use Rattle.jsonptr.specs.Types.Fault.TheVariants.{Refused, Memory}
use Rattle.jsonptr.specs.declared.resolve.Error.{Error}
use Rattle.jsonptr.specs.Documents.{json_map, json_blank}
use Rattle.jsonptr_session.specs.Undo.{tokens_at, IfPut, IsUndoError, Undoes}
use Rattle.jsonptr_session.specs.declared.undo.Undo.{Undo}
use Rattle.jsonptr_session.specs.declared.undo.Undo.TheVariants.{Put, Remove}
use Rattle.jsonptr_uses.specs.Undoing.{LeadsBack, AllLeadBack, IsOpenedOn}
use Rattle.jsonptr_uses.specs.declared.editor.Editor.{Editor}

-- one more
pub leads_push : (old : Data) (us : List (Undo Value)) (u : Undo Value) (mid new : Data) → AllLeadBack old us mid → LeadsBack mid u new → AllLeadBack old (us ++ u ∷ []) new
leads_push old [] u mid new all one = (new, subst (λ (d : Data). LeadsBack d u new) all one, refl)
leads_push old (t ∷ us) u mid new all one = (all.0, all.1, leads_push all.0 us u mid new all.2 one)

-- one less
pub leads_pop : (old : Data) (us : List (Undo Value)) (u : Undo Value) (new : Data) → AllLeadBack old (us ++ u ∷ []) new → (mid : Data) × AllLeadBack old us mid × LeadsBack mid u new
leads_pop old [] u new all = (old, refl, subst (λ (d : Data). LeadsBack old u d) (sym all.2) all.1)
leads_pop old (t ∷ us) u new all =
    let r = leads_pop all.0 us u new all.2 in
    (r.0, (all.0, all.1, r.1), r.2)

-- one more assignment to undo
pub opened_push : (start : Data) (e f : Editor) (u : Undo Value) → f.undos.items ≡ e.undos.items ++ u ∷ [] → HasSortedKeys (view f.document) → LeadsBack (view e.document) u (view f.document) → IsOpenedOn start e → IsOpenedOn start f
opened_push start e f u items order one opened = record {
  order = order;
  leads = subst (λ (us : List (Undo Value)). AllLeadBack start us (view f.document)) (sym items) (leads_push start e.undos.items u (view e.document) (view f.document) opened.leads one);
}

-- and one less
pub opened_pop : (start : Data) (e f : Editor) (u : Undo Value) → e.undos.items ≡ f.undos.items ++ u ∷ [] → Undoes json_map json_blank (json_map e.document) u (json_map f.document) → (IfPut u (λ v. HasSortedKeys (view v)) → HasSortedKeys (view e.document) → HasSortedKeys (view f.document)) → IsOpenedOn start e → IsOpenedOn start f
opened_pop start e f u items undone order opened =
    let r = leads_pop start f.undos.items u (view e.document) (subst (λ (us : List (Undo Value)). AllLeadBack start us (view e.document)) items opened.leads) in
    let ordered : HasSortedKeys (view f.document) = order r.2.order opened.order in
    let same : view f.document ≡ r.0 = r.2.gives (view f.document) undone ordered in
    record {
      order = ordered;
      leads = subst (λ (d : Data). AllLeadBack start f.undos.items d) (sym same) r.1;
    }

-- the keys of what is restored are sorted if those of the document were
pub if_put : {A : Type 0} (P : Value → Type 0) (u : Undo Value) → IfPut u (λ v. A → P v) → A → IfPut u P
if_put P (Put p v) h a = h a
if_put P (Remove p) h a = tt

-- an undo whose tokens evaluate does not fail
named_not_refused : (T : Type 0) (n : NodeMap) (ts : List Text) (w : Path) (cause : Fault Error) → Names n ts w → IsUndoError n ts cause → IsRefused {T = T} (Err cause) → ⊥
named_not_refused T n ts w (Memory e) named why refused = refused
named_not_refused T n ts w (Refused e) named why refused =
    let stops = why.stops.stops in
    let split : length ts ≡ length (why.stops.front ++ why.token ∷ why.stops.rest) = ap (λ (l : List Text). length l) stops.split in
    let long : length (why.stops.front ++ why.token ∷ why.stops.rest) ≡ length why.stops.front + length (why.token ∷ why.stops.rest) = length-append why.stops.front (why.token ∷ why.stops.rest) in
    let short : length ts ≤ length why.stops.front = stops.longest ts [] w (sym (append-nil ts)) named in
    omega arith

pub not_refused : (T : Type 0) (start : Data) (e : Editor) (us : List (Undo Value)) (u : Undo Value) (cause : Fault Error) → e.undos.items ≡ us ++ u ∷ [] → IsUndoError (json_map e.document) (tokens_at u) cause → IsOpenedOn start e → IsRefused {T = T} (Err cause) → ⊥
not_refused T start e us u cause items why opened refused =
    let r = leads_pop start us u (view e.document) (subst (λ (vs : List (Undo Value)). AllLeadBack start vs (view e.document)) items opened.leads) in
    named_not_refused T (json_map e.document) (tokens_at u) r.2.named.0 cause r.2.named.1 why refused

-- without undos the document is the one that the editor was opened on
pub opened_empty : (start : Data) (e : Editor) → length e.undos.items ≡ 0 → IsOpenedOn start e → view e.document ≡ start
opened_empty start e none opened = at e.undos.items none opened.leads
  where
    at : (us : List (Undo Value)) → length us ≡ 0 → AllLeadBack start us (view e.document) → view e.document ≡ start
    at [] h all = all
    at (u ∷ us) h all = absurd (omega arith)
