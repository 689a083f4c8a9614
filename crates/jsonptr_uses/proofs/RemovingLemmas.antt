-- A removed value is restored with its parent.
use Rattle.std.proofs.Common.{◌≡◌, List, [], ◌∷◌, ◌++◌, Option, Some, None, Result, Ok, Err, IsErrAnd, IsSome, refl, sym, ap, subst, ◌∙◌, append-nil}
use Rattle.serde_json.specs.Data.{Data, null}
use Rattle.serde_json.specs.View.{view}
use Rattle.serde_json.specs.declared.value.Value.{Value}
use Rattle.jsonptr.specs.Text.{Text}
use Rattle.jsonptr.specs.Fault.{IfRefused, IsRefused}
use Rattle.jsonptr.specs.Following.{Finds}
use Rattle.jsonptr.specs.Json.{nodes, FindsValue, HasSortedKeys}
use Rattle.jsonptr.specs.Node.{Step, key, place, Path, Label, an_object, an_array, a_leaf, NodeMap, sub, Names}
use Rattle.jsonptr.specs.Put.{put}
use Rattle.jsonptr.specs.Removing.{one_less, without_step, Deletes}
use Rattle.jsonptr.specs.Resolve.{PutsAt, Refuses}
use Rattle.jsonptr.specs.Types.Fault.{Fault}
use Rattle.jsonptr.specs.Types.Fault.TheVariants.{Refused, Memory}
use Rattle.jsonptr.specs.declared.resolve.Error.{Error}
use Rattle.jsonptr.proofs.Calling.{Names-root, Names-here, Names-pop, Names_one_path, Names-put, Refuses-NamesNothing, FindsValue-Finds, nodes_one, ascends_part}
use Rattle.jsonptr_session.specs.declared.undo.Undo.TheVariants.{Put}
use Rattle.jsonptr_uses.specs.Undoing.{IsAbove, LeadsBack}
use Rattle.jsonptr_uses.proofs.PatchesLemmas.{refused_none}

-- if the value has tokens, so has the parent
pub above_named : (n : NodeMap) (ts us : List Text) (w : Path) → IsAbove ts us → Names n ts w → (v : Path) × Names n us v
above_named n ts us w (None, h) named = ([], subst (λ (l : List Text). Names n l []) (sym h.1) (Names-root n ts w named))
above_named n ts us w (Some t, h) named =
    let r = Names-pop n us t w (subst (λ (l : List Text). Names n l w) h named) in
    (r.0, r.3)

some_less : (o : Option Label) → IsSome o → IsSome (one_less o)
some_less None h = h
some_less (Some an_object) h = refl
some_less (Some (an_array len)) h = refl
some_less (Some (a_leaf v)) h = refl

some_without : (n : NodeMap) (s : Step) → IsSome (n []) → IsSome (without_step s n [])
some_without n (key k) h = h
some_without n (place i) h = some_less (n []) h

-- `IsLeft n m us`: the map `m` that is left of `n` differs from it only below the parent at `us`
pub record IsLeft (n m : NodeMap) (us : List Text) : Type 0 where
  pub path : Path
  pub value : NodeMap
  pub named : Names n us path
  pub root : IsSome (value [])
  pub made : m ≡ put n path value

pub is_left : (n m blank : NodeMap) (ts us : List Text) (w : Path) → IsSome (blank []) → IsAbove ts us → Names n ts w → Deletes n ts blank m → IsLeft n m us
is_left n m blank ts us w root (None, h) named gone = record {
  path = [];
  value = blank;
  named = subst (λ (l : List Text). Names n l []) (sym h.1) (Names-root n ts w named);
  root = root;
  made = gone.whole h.0;
}
is_left n m blank ts us w root (Some t, h) named gone =
    let r = Names-pop n us t w (subst (λ (l : List Text). Names n l w) h named) in
    let there : Names n ts (r.0 ++ r.1 ∷ []) = subst (λ (p : Path). Names n ts p) r.2 named in
    record {
      path = r.0;
      value = without_step r.1 (sub n r.0);
      named = r.3;
      root = some_without (sub n r.0) r.1 (subst (λ (p : Path). IsSome (n p)) (sym (append-nil r.0)) (Names-here n us r.0 r.3));
      made = gone.child r.0 r.1 there;
    }

-- the parent has the same tokens as before
pub left_named : (n m : NodeMap) (us : List Text) (l : IsLeft n m us) → Names m us l.path
left_named n m us l = subst (λ (k : NodeMap). Names k us l.path) (sym l.made) (Names-put n us l.path l.value l.named l.root)

-- the old value of the parent, put there, makes the old map
put_back : (n m v k : NodeMap) (us : List Text)
    → ((a : NodeMap) (w : Path) (b c : NodeMap) → put (put a w b) w c ≡ put a w c)
    → ((a : NodeMap) (w : Path) → put a w (sub a w) ≡ a)
    → IsLeft n m us
    → Finds n us v
    → PutsAt m us v k
    → k ≡ n
put_back n m v k us twice same l found puts =
    let there : puts.path ≡ l.path = Names_one_path m us puts.path l.path puts.named (left_named n m us l) in
    let old : found.path ≡ l.path = Names_one_path n us found.path l.path found.named l.named in
    puts.made
    ∙ ap (λ (q : Path). put m q v) there
    ∙ ap (λ (u : NodeMap). put m l.path u) (found.below ∙ ap (λ (q : Path). sub n q) old)
    ∙ ap (λ (u : NodeMap). put u l.path (sub n l.path)) l.made
    ∙ twice n l.path l.value (sub n l.path)
    ∙ same n l.path

-- so a copy of the parent is an undo
pub parent_leads : (d m parent : Data) (copy : Value) (ts us : List Text) (w : Path)
    → ((a : NodeMap) (p : Path) (b c : NodeMap) → put (put a p b) p c ≡ put a p c)
    → ((a : NodeMap) (p : Path) → put a p (sub a p) ≡ a)
    → IsSome (nodes null [])
    → IsAbove ts us
    → Names (nodes d) ts w
    → FindsValue d us parent
    → view copy ≡ parent
    → HasSortedKeys d
    → Deletes (nodes d) ts (nodes null) (nodes m)
    → LeadsBack d (Put us copy) m
parent_leads d m parent copy ts us w twice same root above named found is order gone =
    let left = is_left (nodes d) (nodes m) (nodes null) ts us w root above named gone in
    let there : FindsValue d us (view copy) = subst (λ (e : Data). FindsValue d us e) (sym is) found in
    record {
      named = (left.path, left_named (nodes d) (nodes m) us left);
      order = ascends_part there.path d (view copy) order there.there;
      old_order = order;
      gives = λ e puts ordered. nodes_one e d ordered order (put_back (nodes d) (nodes m) (nodes (view copy)) (nodes e) us twice same left (FindsValue-Finds d us (view copy) there) puts);
    }

-- resolving the parent does not fail
pub above_not_refused : {P : Type 0} (n : NodeMap) (ts us : List Text) (w : Path) (e : Error) → IsAbove ts us → Names n ts w → Refuses n us e → P
above_not_refused n ts us w e above named refused =
    let r = above_named n ts us w above named in
    absurd (Refuses-NamesNothing n us e refused r.0 r.1)

-- an error that is passed on
pub handed_on : {T U E : Type 0} (r : Result T (Fault E)) (s : Result U (Fault E)) (fault : Fault E) (P Q : E → Type 0) → ((e : E) → Q e → P e) → s ≡ Err fault → IfRefused s Q → IsErrAnd r (λ e. e ≡ fault) → IfRefused r P
handed_on (Ok t) s fault P Q weaker was why is = tt
handed_on {U = U} (Err (Refused e)) s fault P Q weaker was why is =
    weaker e (subst (λ (f : Fault _). IfRefused {T = U} (Err f) Q) (sym is) (subst (λ (t : Result _ (Fault _)). IfRefused t Q) was why))
handed_on (Err (Memory e)) s fault P Q weaker was why is = tt

-- the cursor is at the parent
pub parent_named : (n m : NodeMap) (cursor ts us parent : List Text) → ts ≡ cursor → IsAbove ts us → parent ≡ us → Deletes n cursor (nodes null) m → (w : Path) × Names n cursor w → (w : Path) × Names m parent w
parent_named n m cursor ts us parent is above copy gone stands =
    let there : IsAbove cursor parent = subst (λ (l : List Text). IsAbove l parent) is (subst (λ (l : List Text). IsAbove ts l) (sym copy) above) in
    let left = is_left n m (nodes null) cursor parent stands.0 refl there stands.1 gone in
    (left.path, left_named n m parent left)

-- tokens that evaluate to a path do not fail
pub named_not_refused : {T U : Type 0} (r : Result T (Fault Error)) (s : Result U (Fault Error)) (fault : Fault Error) (n : NodeMap) (ts cursor : List Text) → ts ≡ cursor → s ≡ Err fault → IfRefused s (Refuses n ts) → IsErrAnd r (λ e. e ≡ fault) → (w : Path) × Names n cursor w → IsRefused r → ⊥
named_not_refused r s fault n ts cursor is was why same stands =
    refused_none r (λ e. ⊥)
    (handed_on r s fault (λ e. ⊥) (Refuses n ts) (λ e w. Refuses-NamesNothing n ts e w stands.0 (subst (λ (l : List Text). Names n l stands.0) (sym is) stands.1)) was why same)
    (λ e none. none)
