-- Lists of entries and of their pages, and what they undo.
use Rattle.std.proofs.Common.{◌≡◌, List, [], ◌∷◌, ◌++◌, length, Vec, Global, refl, sym, subst, arith}
use Rattle.jsonptr.specs.Content.{Content}
use Rattle.jsonptr_patch_journal.specs.Journal.{IsEntryOf, Chain, Pages, Undone}
use Rattle.jsonptr_patch_journal.specs.declared.journal.Entry.{Entry}
use Rattle.jsonptr_patch_journal.specs.declared.journal.Journal.{Journal}

pub chain_more : (es : List Entry) (e : Entry) (c b d : Content) → Chain es c b → IsEntryOf e b d → Chain (es ++ e ∷ []) c d
chain_more [] e c b d h k = (d, subst (λ (x : Content). IsEntryOf e x d) h k, refl)
chain_more (f ∷ es) e c b d h k = (h.0, h.1, chain_more es e h.0 b d h.2 k)

pub chain_less : (es : List Entry) (e : Entry) (c d : Content) → Chain (es ++ e ∷ []) c d → (b : Content) × Chain es c b × IsEntryOf e b d
chain_less [] e c d h = (c, refl, subst (λ (x : Content). IsEntryOf e c x) (sym h.2) h.1)
chain_less (f ∷ es) e c d h =
    let r = chain_less es e h.0 d h.2 in
    (r.0, (h.0, h.1, r.1), r.2)

pub pages_more : (ps : List (Vec Entry Global)) (p : Vec Entry Global) (c b d : Content) → Pages ps c b → Chain p.items b d → Pages (ps ++ p ∷ []) c d
pages_more [] p c b d h k = (d, subst (λ (x : Content). Chain p.items x d) h k, refl)
pages_more (q ∷ ps) p c b d h k = (h.0, h.1, pages_more ps p h.0 b d h.2 k)

pub pages_less : (ps : List (Vec Entry Global)) (p : Vec Entry Global) (c d : Content) → Pages (ps ++ p ∷ []) c d → (b : Content) × Pages ps c b × Chain p.items b d
pages_less [] p c d h = (c, refl, subst (λ (x : Content). Chain p.items c x) (sym h.2) h.1)
pages_less (q ∷ ps) p c d h =
    let r = pages_less ps p h.0 d h.2 in
    (r.0, (h.0, h.1, r.1), r.2)

-- a journal with the same pages
pub same_undone : (j k : Journal) → k.full.items ≡ j.full.items → k.entries.items ≡ j.entries.items → (c d : Content) → Undone j c d → Undone k c d
same_undone j k full last c d u = record {
  between = u.between;
  pages = subst (λ (ps : List (Vec Entry Global)). Pages ps c u.between) (sym full) u.pages;
  page = subst (λ (es : List Entry). Chain es u.between d) (sym last) u.page;
}

-- an empty page after them
pub next_page : (j k : Journal) → k.full.items ≡ j.full.items ++ j.entries ∷ [] → k.entries.items ≡ [] → (c d : Content) → Undone j c d → Undone k c d
next_page j k full last c d u = record {
  between = d;
  pages = subst (λ (ps : List (Vec Entry Global)). Pages ps c d) (sym full) (pages_more j.full.items j.entries c u.between d u.pages u.page);
  page = subst (λ (es : List Entry). Chain es d d) (sym last) refl;
}

-- no entry
pub none_undone : (j : Journal) → j.full.items ≡ [] → j.entries.items ≡ [] → (c : Content) → Undone j c c
none_undone j full last c = record {
  between = c;
  pages = subst (λ (ps : List (Vec Entry Global)). Pages ps c c) (sym full) refl;
  page = subst (λ (es : List Entry). Chain es c c) (sym last) refl;
}

-- no page
pub no_page : (ps : List (Vec Entry Global)) → length ps ≡ 0 → ps ≡ []
no_page [] h = refl
no_page (p ∷ ps) h = absurd (omega arith)

pub nil_of : (xs : List Entry) → length xs ≡ 0 → xs ≡ []
nil_of [] h = refl
nil_of (x ∷ xs) h = absurd (omega arith)
