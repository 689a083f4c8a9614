use Rattle.std.proofs.Common.{◌+◌, suc, refl, arith}
use Rattle.jsonptr.specs.Text.{dec}
use Rattle.jsonptr_patch_diff.specs.PrivateDiff.{tokens_of, IsPartBelow}
use Rattle.jsonptr_patch_diff.proofs.ChangeLemmas.{appends_none, appends_join, parts_remove}
use Rattle.jsonptr_patch_diff.proofs.ElementLemmas.{splices_less, splices_at}
use Rattle.jsonptr_patch_diff.proofs.elements.remove_elements.Goals as goal

pub loop-done-init : goal.loop-done-init
loop-done-init c = record {
  splices = λ whole first d e len k left togo a h t s. splices_at whole first c.args.patch.now.items (tokens_of c.args.at.now) d e c.args.index k (c.args.count + left) c.args.index (k + 0) (togo + left) refl (omega arith) (omega (arith, t)) s;
  parts = appends_none (IsPartBelow (tokens_of c.args.at.now)) c.args.patch.now.items;
  kept = λ e. refl;
}

pub loop-done-preserved : goal.loop-done-preserved
loop-done-preserved c = record {
  splices = λ whole first d e len k left togo a h t s.
      let before = c.loop-done.invariant.splices whole first d e len k left (suc togo) a h (omega (arith, t)) s in
      let inside = splices_at whole first c.loop-done.patch.items (tokens_of c.args.at.now) d e c.args.index (k + c.loop-done._done) (suc togo + left) c.args.index (k + c.loop-done._done) (suc (togo + left)) refl refl (omega arith) before in
      splices_at whole first c.remove.new.patch.items (tokens_of c.args.at.now) d e c.args.index (suc (k + c.loop-done._done)) (togo + left) c.args.index (k + (c.loop-done._done + 1)) (togo + left) refl (omega arith) refl
      (splices_less whole first c.loop-done.patch.items c.remove.new.patch.items (tokens_of c.args.at.now) d e c.args.index (k + c.loop-done._done) (togo + left) len a (omega (arith, h, t)) inside c.in_ok-remove.ensures);
  parts = appends_join (IsPartBelow (tokens_of c.args.at.now)) c.args.patch.now.items c.loop-done.patch.items c.remove.new.patch.items c.loop-done.invariant.parts (parts_remove (tokens_of c.args.at.now) (dec c.args.index) c.loop-done.patch.items c.remove.new.patch.items c.in_ok-remove.ensures);
  kept = λ e. absurd (omega (arith, e));
}

pub returns-clause-spliced : goal.returns-clause-spliced
returns-clause-spliced c = λ whole first d e len k left a h s. splices_at whole first c.loop-done.patch.items (tokens_of c.args.at.now) d e c.args.index (k + c.loop-done._done) (0 + left) c.args.index (k + c.args.count) left refl (omega (arith, c.loop-done-test.false, c.loop-done.auto._done-end)) (omega arith)
    (c.loop-done.invariant.splices whole first d e len k left 0 a h (omega (arith, c.loop-done-test.false, c.loop-done.auto._done-end)) s)

pub returns-clause-parts : goal.returns-clause-parts
returns-clause-parts c = c.loop-done.invariant.parts

pub returns-clause-none : goal.returns-clause-none
returns-clause-none c = λ none. c.loop-done.invariant.kept (omega (arith, none, c.loop-done-test.false, c.loop-done.auto._done-end))
