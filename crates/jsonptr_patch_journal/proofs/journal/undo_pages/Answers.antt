use Rattle.std.proofs.Common.{◌≡◌, List, [], Vec, Global, sym, subst, arith}
use Rattle.jsonptr.specs.Content.{Content}
use Rattle.jsonptr_patch_journal.specs.Journal.{Pages}
use Rattle.jsonptr_patch_journal.specs.declared.journal.Entry.{Entry}
use Rattle.jsonptr_patch_journal.proofs.ChainLemmas.{pages_less, no_page}
use Rattle.jsonptr_patch_journal.proofs.journal.undo_pages.Goals as goal

pub undo_entries-requires : goal.undo_entries-requires
undo_entries-requires g c =
    let d = g.D.NodeMut.contents c.loop-page.document in let ps = c.pop.new.self.items in let p = c.in-Some.page in
    let all = c.loop-page.invariant c.requires.0 c.requires.1 in
    let r = pages_less ps p c.requires.0 d (subst (λ (xs : List (Vec Entry Global)). Pages xs c.requires.0 d) c.in-Some.ensures.items all) in
    (r.0, r.2)

pub loop-page-preserved : goal.loop-page-preserved
loop-page-preserved g c = λ f start.
    let d = g.D.NodeMut.contents c.loop-page.document in let ps = c.pop.new.self.items in let p = c.in-Some.page in
    let r = pages_less ps p f d (subst (λ (xs : List (Vec Entry Global)). Pages xs f d) c.in-Some.ensures.items (c.loop-page.invariant f start)) in
    subst (λ (x : Content). Pages ps f x) (sym (c.undo_entries.ensures r.0 r.2)) r.1

pub returns : goal.returns
returns g c = λ f start.
    let d = g.D.NodeMut.contents c.loop-page.document in
    let none : c.loop-page.pages.items ≡ [] = no_page c.loop-page.pages.items (omega (arith, c.in_default.ensures.cases.0, c.loop-page.pages.ok.0)) in
    subst (λ (xs : List (Vec Entry Global)). Pages xs f d) none (c.loop-page.invariant f start)
