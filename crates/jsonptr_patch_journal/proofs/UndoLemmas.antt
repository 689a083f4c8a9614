-- Undoing an addition: the node is the old one again, and what was added is returned.
use Rattle.std.proofs.Common.{◌≡◌, ℕ, Option, Some, None, IsSome, refl, sym, ap, ap₂, ◌∙◌, subst, arith}
use Rattle.jsonptr.specs.Text.{Text}
use Rattle.jsonptr.specs.Node.{Path}
use Rattle.jsonptr.specs.Content.{Content, object, array, get_item, get_member}
use Rattle.jsonptr_patch_journal.specs.Children.{insert_item, without_item, put_member, without_member}
use Rattle.jsonptr_patch_journal.specs.Writing.{At}
use Rattle.jsonptr_patch_journal.specs.Changes.{HasAt, HasMember, HasElement, ReplacesContent, AddsMember, SetsMember, PutsElement, TakesMember, TakesElement}
use Rattle.jsonptr_patch_journal.proofs.ThereLemmas.{changed_there, changed_related, undone_at}
use Rattle.jsonptr_patch_journal.proofs.NodeLemmas.{one_object, one_array, without-insert, get-insert, insert-length}
use Rattle.jsonptr_patch_journal.proofs.MembersLemmas.{found_put, without_put, put_back}

some_content : (a b : Content) → Some a ≡ Some b → a ≡ b
some_content a b e = cc

-- ---- a change after another at the same path

pub has_after : (p : Path) (R : Content → Content → Type 0) (P : Content → Type 0) (c d : Content) → ((b x : Content) → R b x → P x) → At p R c d → HasAt p P d
has_after p R P c d f o = (o.new, changed_there p R c d o, f o.old o.new o.related)

-- the second change undoes the first, and finds what the first wrote
pub undone_by : (p : Path) (R S : Content → Content → Type 0) (v w : Content) (c d m : Content) → ((b x new : Content) → R b x → S x new → (new ≡ b) × (w ≡ v)) → At p R c d → At p S d m → (m ≡ c) × (w ≡ v)
undone_by p R S v w c d m f o t = (
  undone_at p R c d m t.old t.new o t.there t.made (λ b r. (f b t.old t.new r t.related).0),
  (f o.old t.old t.new (changed_related p R c d t.old o t.there) t.related).1,
)

-- ---- a node

pub node_undone : (a v w b x new : Content) → ReplacesContent a v b x → ReplacesContent w a x new → (new ≡ b) × (w ≡ v)
node_undone a v w b x new r s = (s.1 ∙ sym r.0, sym s.0 ∙ r.1)

-- ---- a member

module _ (k l : Text) (same : l ≡ k) where
  pub member_has : (o : Option Content) (v b x : Content) → AddsMember k o v b x → HasMember l x
  member_has o v b x r = (put_member k v r.puts.ms, r.puts.made, subst (λ (q : Text). IsSome (get_member q (put_member k v r.puts.ms))) (sym same) (subst (λ (q : Option Content). IsSome q) (sym (found_put k v r.puts.ms)) refl))

  pub member_undone : (v w b x new : Content) → AddsMember k None v b x → TakesMember l w x new → (new ≡ b) × (w ≡ v)
  member_undone v w b x new r t =
      let one : t.ms ≡ put_member k v r.puts.ms = one_object t.ms (put_member k v r.puts.ms) (sym t.object_is ∙ r.puts.made) in
      let left : without_member l t.ms ≡ r.puts.ms = ap₂ without_member same one ∙ without_put k v r.puts.ms r.old_is in
      let found : Some w ≡ Some v = sym t.found ∙ ap₂ get_member same one ∙ found_put k v r.puts.ms in
      (t.made ∙ ap object left ∙ sym r.puts.object_is, some_content w v found)

pub member_unset : (k : Text) (a v w b x new : Content) → AddsMember k (Some a) v b x → SetsMember k w a x new → (new ≡ b) × (w ≡ v)
member_unset k a v w b x new r t =
    let one : t.ms ≡ put_member k v r.puts.ms = one_object t.ms (put_member k v r.puts.ms) (sym t.object_is ∙ r.puts.made) in
    let back : put_member k a t.ms ≡ r.puts.ms = ap (put_member k a) one ∙ put_back k v a r.puts.ms r.puts.rise r.old_is in
    let found : Some w ≡ Some v = sym t.found ∙ ap (get_member k) one ∙ found_put k v r.puts.ms in
    (t.made ∙ ap object back ∙ sym r.puts.object_is, some_content w v found)

-- ---- an element

pub element_has : (i : ℕ) (v b x : Content) → PutsElement i v b x → HasElement i x
element_has i v b x r = (insert_item i v r.ds, r.made, omega (arith, r.within, insert-length r.ds i v r.within))

pub element_undone : (i : ℕ) (v w b x new : Content) → PutsElement i v b x → TakesElement i w x new → (new ≡ b) × (w ≡ v)
element_undone i v w b x new r t =
    let one : t.ds ≡ insert_item i v r.ds = one_array t.ds (insert_item i v r.ds) (sym t.array_is ∙ r.made) in
    let left : without_item i t.ds ≡ r.ds = ap (without_item i) one ∙ without-insert r.ds i v r.within in
    let found : Some w ≡ Some v = sym t.found ∙ ap (get_item i) one ∙ get-insert r.ds i v r.within in
    (t.made ∙ ap array left ∙ sym r.array_is, some_content w v found)
