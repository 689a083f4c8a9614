-- What is known of the tokens that have been followed so far, and of the node that they lead to.
use Rattle.std.proofs.Common.{◌≡◌, List, [], ◌∷◌, ◌++◌, length, Option, Some, None, MatchOption, is_some, option_map, Bor, BTreeMap, String, string_bytes, Global, refl, sym, ap, ◌∙◌, subst, append-nil, append_assoc}
use Rattle.std.specs.BTreeMap.{get_by_text}
use Rattle.serde_json.specs.Data.{Data}
use Rattle.serde_json.specs.View.{view}
use Rattle.serde_json.specs.declared.value.Value.{Value}
use Rattle.jsonptr.specs.Text.{Text, text}
use Rattle.jsonptr.specs.Node.{key, Path, Label, an_object, NamesStep, Names}
use Rattle.jsonptr.specs.Content.{Content, label_of}
use Rattle.jsonptr.specs.Following.{LacksStep}
use Rattle.jsonptr.specs.Json.{content, nodes, value_at}
use Rattle.jsonptr_tree.proofs.FollowingLemmas.{lacks_at_object, lacks_below, stops_before, Names-StopsBefore}
use Rattle.jsonptr_tree.proofs.JsonLemmas.{nodes-sub, value_at-below}
use Rattle.jsonptr_tree.proofs.NodeLemmas.{Names-push_below}
use Rattle.jsonptr.specs.Delete.{NamesNothing}
use Rattle.jsonptr_patch_journal.specs.declared.location.LocationStep.{LocationStep}
use Rattle.jsonptr_patch_journal.specs.declared.location.LocationStep.TheVariants as step
use Rattle.jsonptr_patch_journal.specs.PrivateLocating.{Selects}
use Rattle.jsonptr_patch_journal.specs.Location.{path_step, steps_of}
use Rattle.jsonptr_patch_journal.proofs.LocationLemmas.{steps_of-push}

-- the child under a token's text at an object

module _ (d : Data) (x : Text) (m : BTreeMap (String Global) Value) where
  abbrev pub Members : Type 0
  Members = (q : Text) → MatchOption (get_by_text m q) (nodes d (key q ∷ []) ≡ None) (λ v. value_at (key q ∷ []) d ≡ Some (content (view v)))

  pub member_selected : (k : String Global) (v : Bor Value) → nodes d [] ≡ Some an_object → Members → Some v.now ≡ get_by_text m x → string_bytes k ≡ x → Selects d x record { step = step.Key k; node = v }
  member_selected k v is members read text_is = record {
    named = subst (λ (l : Option Label). NamesStep l x (key (string_bytes k))) (sym is) text_is;
    there = subst (λ (q : Text). value_at (key q ∷ []) d ≡ Some (content (view v.now))) (sym text_is)
        (subst (λ (o : Option Value). MatchOption o (nodes d (key x ∷ []) ≡ None) (λ u. value_at (key x ∷ []) d ≡ Some (content (view u)))) (sym read) (members x));
  }

  pub member_lacking : nodes d [] ≡ Some an_object → Members → None ≡ get_by_text m x → LacksStep (nodes d) [] x
  member_lacking is members read = lacks_at_object (nodes d) [] x is
      (subst (λ (o : Option Value). MatchOption o (nodes d (key x ∷ []) ≡ None) (λ u. value_at (key x ∷ []) d ≡ Some (content (view u)))) (sym read) (members x))

-- the tokens before `left` name `steps` in the document d, and e is there
pub record Reaches (d : Data) (tokens left : List Text) (steps : List LocationStep) (e : Data) : Type 0 where
  pub front : List Text
  pub split : tokens ≡ front ++ left
  pub named : Names (nodes d) front (steps_of steps)
  pub there : value_at (steps_of steps) d ≡ Some (content e)

pub reaches_none : (d : Data) (tokens : List Text) → Reaches d tokens tokens [] d
reaches_none d tokens = record { front = []; split = refl; named = refl; there = refl }

-- all tokens have been read
pub reaches_all : (d : Data) (tokens : List Text) (steps : List LocationStep) (e : Data) → Reaches d tokens [] steps e → Names (nodes d) tokens (steps_of steps)
reaches_all d tokens steps e h = subst (λ (ts : List Text). Names (nodes d) ts (steps_of steps)) (sym (h.split ∙ append-nil h.front)) h.named

module _ (d : Data) (tokens : List Text) (x : Text) (left : List Text) (steps : List LocationStep) (e : Data) (h : Reaches d tokens (x ∷ left) steps e) where
  -- one token more
  pub reaches_more : (p : LocationStep) (f : Data) → NamesStep (nodes e []) x (path_step p) → value_at (path_step p ∷ []) e ≡ Some (content f) → Reaches d tokens left (steps ++ p ∷ []) f
  reaches_more p f named there = record {
    front = h.front ++ x ∷ [];
    split = h.split ∙ sym (append_assoc h.front (x ∷ []) left);
    named = subst (λ (w : Path). Names (nodes d) (h.front ++ x ∷ []) w) (sym (steps_of-push steps p))
        (Names-push_below (nodes d) (nodes e) h.front x (steps_of steps) (path_step p) (nodes-sub (steps_of steps) d e h.there) h.named named (ap (λ (o : Option Content). is_some (option_map label_of o)) there));
    there = ap (λ (w : Path). value_at w d) (steps_of-push steps p) ∙ value_at-below (steps_of steps) (path_step p ∷ []) d e h.there ∙ there;
  }

  -- a token that names no child
  pub reaches_nothing : LacksStep (nodes e) [] x → NamesNothing (nodes d) tokens
  reaches_nothing lacks w names =
      let below = lacks_below (nodes d) (nodes e) (steps_of steps) x (nodes-sub (steps_of steps) d e h.there) lacks in
      Names-StopsBefore (nodes d) tokens w (length h.front) (length (text h.front)) (label_of (content e)) x names
      (stops_before (nodes d) tokens h.front x left (steps_of steps) (label_of (content e)) h.split h.named (ap (option_map label_of) h.there) below)
