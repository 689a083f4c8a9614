-- Where a list of tokens leads after something was written there.
use Rattle.std.proofs.Common.{◌≡◌, ℕ, zero, suc, List, [], ◌∷◌, Option, Some, None, option_and_then, refl, sym, ap, ◌∙◌, subst}
use Rattle.jsonptr.specs.Text.{Text}
use Rattle.jsonptr.specs.Node.{Step, key, place, Path, Label, an_array, NodeMap, NamesStep, Names}
use Rattle.jsonptr.specs.Content.{Content, scalar, array, object, Items, no_items, item, items_len, child, content_at, label_of, map_of}
use Rattle.jsonptr_tree.proofs.ContentLemmas.{map_of-sub}
use Rattle.jsonptr_tree.proofs.FollowingLemmas.{Names-StopsBefore}
use Rattle.jsonptr_tree.proofs.NodeLemmas.{Names_one_path}
use Rattle.jsonptr.specs.Delete.{NamesNothing}
use Rattle.jsonptr_patch_journal.specs.Writing.{write_item, write_step, write_below, write_at}
use Rattle.jsonptr_patch_journal.specs.Changes.{ReplacesContent}
use Rattle.jsonptr_patch_journal.specs.Leading.{StopsAtOffset, AtNamed}
use Rattle.jsonptr_patch_journal.proofs.ThereLemmas.{write_there, undone_at}

pub stops_nothing : (n : NodeMap) (tokens : List Text) (offset : ℕ) → StopsAtOffset n tokens offset → NamesNothing n tokens
stops_nothing n tokens offset s w named = Names-StopsBefore n tokens w s.0 offset s.1 s.2 named s.3

-- a written child changes no label
len_write : (ds : Items) (i : ℕ) (c : Content) → items_len (write_item i c ds) ≡ items_len ds
len_write no_items i c = refl
len_write (item d ds) zero c = refl
len_write (item d ds) (suc i) c = ap suc (len_write ds i c)

label_write : (s : Step) (c d : Content) → label_of (write_step s c d) ≡ label_of d
label_write s c (scalar v) = refl
label_write (key k) c (array ds) = refl
label_write (place i) c (array ds) = ap an_array (len_write ds i c)
label_write (key k) c (object ms) = refl
label_write (place i) c (object ms) = refl

pub named_after : (w : Path) (xs : List Text) (v old c : Content) → Names (map_of c) xs w → content_at w c ≡ Some old → Names (map_of (write_at w v c)) xs w
named_after [] [] v old c named there = refl
named_after [] (x ∷ xs) v old c named there = absurd named
named_after (s ∷ w) [] v old c named there = absurd named
named_after (s ∷ w) (x ∷ xs) v old c named there = below (λ e. named_after w xs v old e) (child s c) refl there
  where
    below : ((e : Content) → Names (map_of e) xs w → content_at w e ≡ Some old → Names (map_of (write_at w v e)) xs w)
        → (o : Option Content) → child s c ≡ o → option_and_then (content_at w) o ≡ Some old → Names (map_of (write_below s (write_at w v) c o)) (x ∷ xs) (s ∷ w)
    below later None is h = let never : ⊥ = cc in absurd never
    below later (Some e) is h =
        let was : content_at (s ∷ []) c ≡ Some e = ap (option_and_then (content_at [])) is in
        let inner : Names (map_of e) xs w = subst (λ (n : NodeMap). Names n xs w) (sym (map_of-sub (s ∷ []) c e was)) named.1 in
        let new : Content = write_at w v e in
        let whole : write_at (s ∷ []) new c ≡ write_step s new c = ap (write_below s (λ _. new) c) is in
        let now : content_at (s ∷ []) (write_step s new c) ≡ Some new = subst (λ (d : Content). content_at (s ∷ []) d ≡ Some new) whole (write_there (s ∷ []) new e c was).0 in (
          subst (λ (l : Label). NamesStep (Some l) x s) (sym (label_write s new c)) named.0,
          subst (λ (n : NodeMap). Names n xs w) (map_of-sub (s ∷ []) (write_step s new c) new now) (later e inner h),
        )

-- what was replaced, replaced by itself
pub replaced_back : (tokens : List Text) (a v w c d m : Content) → AtNamed tokens (ReplacesContent a v) c d → AtNamed tokens (ReplacesContent w a) d m → m ≡ c
replaced_back tokens a v w c d m one two =
    let o = one.written in
    let t = two.written in
    let here : Names (map_of d) tokens one.path = subst (λ (e : Content). Names (map_of e) tokens one.path) (sym o.made) (named_after one.path tokens o.new o.old c one.named o.there) in
    let same : two.path ≡ one.path = Names_one_path (map_of d) tokens two.path one.path two.named here in
    undone_at one.path (ReplacesContent a v) c d m t.old t.new o
    (subst (λ (p : Path). content_at p d ≡ Some t.old) same t.there)
    (subst (λ (p : Path). m ≡ write_at p t.new d) same t.made)
    (λ b r. t.related.1 ∙ sym r.0)

-- the tokens still lead to a node after something was written there
pub replaced_leads : (tokens : List Text) (a v : Content) (c d : Content) → AtNamed tokens (ReplacesContent a v) c d → NamesNothing (map_of d) tokens → ⊥
replaced_leads tokens a v c d one none =
    let o = one.written in
    none one.path (subst (λ (e : Content). Names (map_of e) tokens one.path) (sym o.made) (named_after one.path tokens o.new o.old c one.named o.there))
