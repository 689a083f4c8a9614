-- Why a member is not renamed, and the document that is printed anew.
use Rattle.std.proofs.Common.{◌≡◌, ℕ, ◌+◌, ◌-◌, ◌≤◌, ◌⊎◌, inl, inr, List, [], ◌∷◌, ◌++◌, length, Bool, true, false, IsTrue, ◌↔◌, Option, Some, None, IsSome, Result, Ok, Err, IfOk, IfErr, String, string_bytes, true≢false, refl, sym, ap, ◌∙◌, subst, arith, length-append}
use Rattle.std.specs.declared.alloc.Global.{Global}
use Rattle.serde_json.specs.Data.{Data, null, depth}
use Rattle.serde_json.specs.Read.{read, max_depth}
use Rattle.serde_json.proofs.Nesting.{depth-read}
use Rattle.jsonptr.specs.Text.{Text}
use Rattle.jsonptr.specs.Node.{Step, key, place, Path, Label, an_object, an_array, a_leaf, NodeMap, NamesStep, Names}
use Rattle.jsonptr.specs.Content.{label_of}
use Rattle.jsonptr.specs.Json.{content, nodes, FindsValue, HasSortedKeys}
use Rattle.jsonptr.specs.Put.{put}
use Rattle.jsonptr.specs.Resolve.{Refuses}
use Rattle.jsonptr.specs.declared.resolve.Error.{Error as ResolveError}
use Rattle.jsonptr_tree.proofs.NodeLemmas.{Names-push, Names-pop, Names-length, Names_one_path}
use Rattle.jsonptr_tree.proofs.FollowingLemmas.{cases_some}
use Rattle.jsonptr_value.specs.Nesting.{NestsWithin}
use Rattle.jsonptr_value.proofs.LevelLemmas.{NestsWithin-depth, depth-within}
use Rattle.jsonptr_value.proofs.NestingLemmas.{NestsWithin-more, Names-within, Finds-within, NestsWithin-put, Deletes-within}
use Rattle.jsonptr_patch.specs.Adding.{AddsUnder, Adds}
use Rattle.jsonptr_patch.specs.Operating.{Moves, RefusesAdd, RefusesMove, RefusesOperationBy}
use Rattle.jsonptr_patch.specs.Patching.{PatchesBy, FailsBy}
use Rattle.jsonptr_patch.specs.declared.comparison.Comparison.{Comparison}
use Rattle.jsonptr_patch.specs.declared.operation.Operation.{Operation}
use Rattle.jsonptr_patch.specs.declared.operation.Operation.TheVariants.{Move}
use Rattle.jsonptr_patch.specs.declared.failed_operation.FailedOperation.{FailedOperation}
use Rattle.jsonptr_patch.proofs.AddingLemmas.{named_refused}
use Rattle.jsonptr_patch.proofs.OneLemmas.{no_last, last_one}
use Rattle.jsonptr_text_step.specs.PrivateRenaming.{IsThere, IsObjectAt, IsMemberOf, IsTarget}
use Rattle.jsonptr_text_step.specs.PrivateRewriting.{IsPrintError}
use Rattle.jsonptr_text_step.specs.Renaming.{IsMember, RenamesInText, IsRenameError}
use Rattle.jsonptr_text_step.specs.declared.stepped.StepError.{StepError}
use Rattle.jsonptr_text_step.specs.declared.stepped.StepError.TheVariants.{NotJson, Refused, TooDeep, Memory}
use Rattle.jsonptr_text_step.specs.declared.rename.RenameError.{RenameError}
use Rattle.jsonptr_text_step.proofs.EditLemmas.{label_there}
use Rattle.jsonptr_text_step.proofs.RenamingLemmas.{member_named, left_object, not_below}

-- ---- what a pointer resolves to

pub value_there : (d e : Data) (tokens : List Text) → FindsValue d tokens e → IsTrue true ↔ IsThere (nodes d) tokens
value_there d e tokens h = (λ t. (h.path, h.named), λ w. refl)

pub nothing_there : (n : NodeMap) (tokens : List Text) (e : ResolveError) → Refuses n tokens e → IsTrue false ↔ IsThere n tokens
nothing_there n tokens e h = (λ t. absurd (true≢false (sym t)), λ w. absurd (named_refused n tokens w.0 e w.1 h))

pub no_object : (n : NodeMap) (tokens : List Text) (e : ResolveError) → Refuses n tokens e → IsTrue false ↔ IsObjectAt n tokens
no_object n tokens e h = (λ t. absurd (true≢false (sym t)), λ w. absurd (named_refused n tokens w.0 e w.1 h))

one_label : (l m : Label) → Some l ≡ Some m → l ≡ m
one_label l m e = cc

pub object_there : (d e : Data) (tokens : List Text) (b : Bool) → FindsValue d tokens e → (IsTrue b ↔ (label_of (content e) ≡ an_object)) → IsTrue b ↔ IsObjectAt (nodes d) tokens
object_there d e tokens b h iff = (
  λ t. (h.path, h.named, label_there d e h.path h.there ∙ ap (λ (l : Label). Some l) (iff.0 t)),
  λ w. iff.1 (one_label (label_of (content e)) an_object (sym (label_there d e h.path h.there) ∙ ap (nodes d) (Names_one_path (nodes d) tokens h.path w.0 h.named w.1) ∙ w.2)),
)

-- ---- a member

the_key : (x : Text) (s : Step) → NamesStep (Some an_object) x s → s ≡ key x
the_key x (key k) h = ap key h
the_key x (place i) h = absurd h

-- the last of the tokens below an object
child_there : (n : NodeMap) (front : List Text) (x : Text) (w u : Path) → Names n front w → n w ≡ Some an_object → Names n (front ++ x ∷ []) u → IsSome (n (w ++ key x ∷ []))
child_there n front x w u named object h =
    let p = Names-pop n front x u h in
    let same : p.0 ≡ w = Names_one_path n front p.0 w p.3 named in
    let step : p.1 ≡ key x = the_key x p.1 (subst (λ (l : Option Label). NamesStep l x p.1) (ap n same ∙ object) p.4) in
    subst (λ (s : Step). IsSome (n (w ++ s ∷ []))) step (subst (λ (v : Path). IsSome (n (v ++ p.1 ∷ []))) same p.5)

pub member_is : (n : NodeMap) (tokens front : List Text) (x : Text) → tokens ≡ front ++ x ∷ [] → IsObjectAt n front → IsThere n tokens → IsMemberOf n tokens front x
member_is n tokens front x split o t = (
  record {
    front = front;
    x = x;
    path = o.0;
    split = split;
    named = o.1;
    object = o.2;
    there = child_there n front x o.0 t.0 o.1 o.2 (subst (λ (ts : List Text). Names n ts t.0) split t.1);
  },
  refl,
  refl,
)

pub no_member : (n : NodeMap) (tokens front : List Text) (x : Text) → tokens ≡ front ++ x ∷ [] → (IsObjectAt n front → ⊥) → IsMember n tokens → ⊥
no_member n tokens front x split none m =
    none (m.path, subst (λ (f : List Text). Names n f m.path) (last_one m.front front m.x x (sym m.split ∙ split)).0 m.named, m.object)

pub member_there : (n : NodeMap) (tokens : List Text) → IsMember n tokens → IsThere n tokens
member_there n tokens m = (m.path ++ key m.x ∷ [], member_named n tokens m)

pub no_root : (n : NodeMap) (tokens : List Text) → tokens ≡ [] → IsMember n tokens → ⊥
no_root n tokens root m = no_last m.front m.x (sym root ∙ m.split)

-- ---- the new key

pub key_there : (n : NodeMap) (tokens target : List Text) (m : IsMember n tokens) (k : Text) → target ≡ m.front ++ k ∷ [] → IsThere n target → IsSome (n (m.path ++ key k ∷ []))
key_there n tokens target m k is t = child_there n m.front k m.path t.0 m.named m.object (subst (λ (ts : List Text). Names n ts t.0) is t.1)

pub free_key : (n : NodeMap) (tokens target : List Text) (m : IsMember n tokens) (k : Text) → target ≡ m.front ++ k ∷ [] → (IsThere n target → ⊥) → n (m.path ++ key k ∷ []) ≡ None
free_key n tokens target m k is none = at (cases_some (n (m.path ++ key k ∷ [])))
  where
    at : IsSome (n (m.path ++ key k ∷ [])) ⊎ (n (m.path ++ key k ∷ []) ≡ None) → n (m.path ++ key k ∷ []) ≡ None
    at (inl some) = absurd (none (
      m.path ++ key k ∷ [],
      subst (λ (ts : List Text). Names n ts (m.path ++ key k ∷ [])) (sym is)
          (Names-push n m.front k m.path (key k) m.named (subst (λ (l : Option Label). NamesStep l k (key k)) (sym m.object) refl) some),
    ))
    at (inr free) = free

-- ---- the move does not fail

no_refusal : (n : NodeMap) (tokens target : List Text) (k : Text) (f : FailedOperation) → IsTarget n tokens k target → RefusesMove n 0 tokens target f → ⊥
no_refusal n tokens target k f t (inl into) =
    not_below t.member.front t.member.x k (into.1.0, into.1.1, sym t.target_is ∙ into.1.2 ∙ ap (λ (ts : List Text). ts ++ into.1.0 ∷ into.1.1) t.member.split)
no_refusal n tokens target k f t (inr (apart, inl from)) = named_refused n tokens (t.member.path ++ key t.member.x ∷ []) from.0 (member_named n tokens t.member) from.2
no_refusal n tokens target k f t (inr (apart, inr (node, left, takes, refused))) = at refused
  where
    object : Names left t.member.front t.member.path × (left t.member.path ≡ Some an_object)
    object = left_object n (nodes null) left tokens t.member takes.left

    at : RefusesAdd left 0 target f → ⊥
    at (inl r) =
        let lacks = r.2.0 in
        let same = last_one lacks.front t.member.front lacks.last k (sym lacks.split ∙ t.target_is) in
        let leaf = lacks.scalar t.member.path (subst (λ (ts : List Text). Names left ts t.member.path) (sym same.0) object.0) in
        absurd_leaf leaf.0 (sym object.1 ∙ leaf.1)
      where
        absurd_leaf : (a : _) → Some an_object ≡ Some (a_leaf a) → ⊥
        absurd_leaf a e = cc
    at (inr r) =
        let array = r.2.0 in
        let same = last_one array.front t.member.front array.last k (sym array.split ∙ t.target_is) in
        let path : array.path ≡ t.member.path = Names_one_path left t.member.front array.path t.member.path (subst (λ (ts : List Text). Names left ts array.path) same.0 array.named) object.0 in
        absurd_array array.len (sym object.1 ∙ ap left (sym path) ∙ array.array)
      where
        absurd_array : (len : ℕ) → Some an_object ≡ Some (an_array len) → ⊥
        absurd_array len e = cc

pub can_move : (c : Comparison) (n : NodeMap) (tokens target : List Text) (k : Text) (f : FailedOperation) → IsTarget n tokens k target → FailsBy c n (Move tokens target ∷ []) f → ⊥
can_move c n tokens target k f t h = at h.done h.fails h.rest h.left h.split h.applied h.refused
  where
    at : (done : List Operation) (fails : Operation) (rest : List Operation) (left : NodeMap) → Move tokens target ∷ [] ≡ done ++ fails ∷ rest → PatchesBy c n done left → RefusesOperationBy c left (length done) fails f → ⊥
    at [] fails rest left split applied refused =
        let same : Move tokens target ≡ fails = cc in
        no_refusal n tokens target k f t (subst (λ (o : Operation). RefusesOperationBy c n 0 o f) (sym same) (subst (λ (m : NodeMap). RefusesOperationBy c m 0 fails f) applied refused))
    at (o ∷ []) fails rest left split applied refused = cc
    at (o ∷ p ∷ done) fails rest left split applied refused = cc

-- ---- what is printed

-- renaming a member makes no document deeper
renamed_within : (k : ℕ) (n m : NodeMap) (tokens : List Text) (o : IsMember n tokens) (y : Text) → NestsWithin k n → NestsWithin k (nodes null) → Moves n tokens (o.front ++ y ∷ []) m → NestsWithin k m
renamed_within k n m tokens o y h blank v = at v.added
  where
    left_in : NestsWithin k v.left
    left_in = Deletes-within k n tokens (nodes null) v.left (o.path ++ key o.x ∷ []) v.taken.left (member_named n tokens o) h blank

    node_in : NestsWithin (k - length tokens) v.node
    node_in = Finds-within k n tokens v.node h v.taken.found

    object : Names v.left o.front o.path × (v.left o.path ≡ Some an_object)
    object = left_object n (nodes null) v.left tokens o v.taken.left

    at : Adds v.left (o.front ++ y ∷ []) v.node m → NestsWithin k m
    at (inl root) = absurd (no_last o.front y (sym root.0))
    at (inr b) =
        let same = last_one b.front o.front b.last y (sym b.split) in
        let path : b.path ≡ o.path = Names_one_path v.left o.front b.path o.path (subst (λ (f : List Text). Names v.left f b.path) same.0 b.named) object.0 in
        let made : m ≡ put v.left (b.path ++ key b.last ∷ []) v.node = subst (λ (l : Option Label). AddsUnder v.left b.path l b.last v.node m) (ap v.left path ∙ object.1) b.made in
        let few : length tokens ≤ k = Names-within k n tokens (o.path ++ key o.x ∷ []) h (member_named n tokens o) in
        let long : length tokens ≡ length o.front + length (o.x ∷ []) = ap length o.split ∙ length-append o.front (o.x ∷ []) in
        let deep : length o.front ≡ length o.path = Names-length n o.front o.path o.named in
        let all : length (b.path ++ key b.last ∷ []) ≡ length o.path + length (key b.last ∷ []) = length-append b.path (key b.last ∷ []) ∙ ap (λ (w : Path). length w + length (key b.last ∷ [])) path in
        subst (NestsWithin k) (sym made) (NestsWithin-put k (k - length tokens) v.left (b.path ++ key b.last ∷ []) v.node left_in node_in (omega (arith, few, long, deep, all)))

move_of : (c : Comparison) (n m : NodeMap) (tokens target : List Text) (k : Text) (t : IsTarget n tokens k target) → PatchesBy c n (Move tokens target ∷ []) m → Moves n tokens (t.member.front ++ k ∷ []) m
move_of c n m tokens target k t p = subst (λ (ts : List Text). Moves n tokens ts m) t.target_is (subst (λ (o : NodeMap). Moves n tokens target o) (sym p.2) p.1)

pub moved_then : (c : Comparison) (old : Text) (tokens target : List Text) (k : Text) (d d2 : Data) (out : Result (String Global) (StepError RenameError)) → read old ≡ Some d → IsTarget (nodes d) tokens k target → PatchesBy c (nodes d) (Move tokens target ∷ []) (nodes d2) → IfOk out (λ s. read (string_bytes s) ≡ Some d2) → IfOk out (λ s. RenamesInText old tokens k (string_bytes s))
moved_then c old tokens target k d d2 (Ok s) reads t p h = (d, d2, reads, h, record { member = t.member; free = t.free; moves = move_of c (nodes d) (nodes d2) tokens target k t p })
moved_then c old tokens target k d d2 (Err e) reads t p h = tt

moved_depth : (c : Comparison) (old : Text) (tokens target : List Text) (k : Text) (d d2 : Data) → read old ≡ Some d → IsTarget (nodes d) tokens k target → PatchesBy c (nodes d) (Move tokens target ∷ []) (nodes d2) → HasSortedKeys d2 → depth d2 ≤ max_depth
moved_depth c old tokens target k d d2 reads t p sorted =
    let before : NestsWithin max_depth (nodes d) = NestsWithin-more (depth d) max_depth (nodes d) (depth-read old d reads) (NestsWithin-depth d) in
    let blank : NestsWithin max_depth (nodes null) = NestsWithin-more 0 max_depth (nodes null) (omega arith) (NestsWithin-depth null) in
    depth-within d2 max_depth sorted (renamed_within max_depth (nodes d) (nodes d2) tokens t.member k before blank (move_of c (nodes d) (nodes d2) tokens target k t p))

print_fault : (old : Text) (tokens : List Text) (k : Text) (d2 : Data) (e : StepError RenameError) → depth d2 ≤ max_depth → IsPrintError d2 e → IsRenameError old tokens k e
print_fault old tokens k d2 NotJson le h = absurd h
print_fault old tokens k d2 (Refused e) le h = absurd h
print_fault old tokens k d2 TooDeep le h = absurd (omega (arith, le, h))
print_fault old tokens k d2 (Memory e) le h = tt

pub move_fails_then : (c : Comparison) (old : Text) (tokens target : List Text) (k : Text) (d d2 : Data) (out : Result (String Global) (StepError RenameError)) → read old ≡ Some d → IsTarget (nodes d) tokens k target → PatchesBy c (nodes d) (Move tokens target ∷ []) (nodes d2) → HasSortedKeys d2 → IfErr out (IsPrintError d2) → IfErr out (IsRenameError old tokens k)
move_fails_then c old tokens target k d d2 (Ok s) reads t p sorted h = tt
move_fails_then c old tokens target k d d2 (Err e) reads t p sorted h = print_fault old tokens k d2 e (moved_depth c old tokens target k d d2 reads t p sorted) h
