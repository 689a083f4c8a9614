use Rattle.std.proofs.Common.{◌≡◌, List, [], sym, subst, arith}
use Rattle.jsonptr.specs.Content.{Content}
use Rattle.jsonptr_patch_journal.specs.Journal.{Chain}
use Rattle.jsonptr_patch_journal.specs.declared.journal.Entry.{Entry}
use Rattle.jsonptr_patch_journal.proofs.ChainLemmas.{chain_less, nil_of}
use Rattle.jsonptr_patch_journal.proofs.journal.undo_entries.Goals as goal

pub undo_entry-requires : goal.undo_entry-requires
undo_entry-requires g c =
    let d = g.D.NodeMut.contents c.loop-entry.document in let es = c.pop.new.self.items in let e = c.in-Some.entry in
    let all = c.loop-entry.invariant c.requires.0 c.requires.1 in
    let r = chain_less es e c.requires.0 d (subst (λ (xs : List Entry). Chain xs c.requires.0 d) c.in-Some.ensures.items all) in
    (r.0, r.2)

pub loop-entry-preserved : goal.loop-entry-preserved
loop-entry-preserved g c = λ f start.
    let d = g.D.NodeMut.contents c.loop-entry.document in let es = c.pop.new.self.items in let e = c.in-Some.entry in
    let r = chain_less es e f d (subst (λ (xs : List Entry). Chain xs f d) c.in-Some.ensures.items (c.loop-entry.invariant f start)) in
    subst (λ (x : Content). Chain es f x) (sym (c.undo_entry.ensures r.0 r.2)) r.1

pub returns : goal.returns
returns g c = λ f start.
    let d = g.D.NodeMut.contents c.loop-entry.document in
    let none : c.loop-entry.entries.items ≡ [] = nil_of c.loop-entry.entries.items (omega (arith, c.in_default.ensures.cases.0, c.loop-entry.entries.ok.0)) in
    subst (λ (xs : List Entry). Chain xs f d) none (c.loop-entry.invariant f start)
