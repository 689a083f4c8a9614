use Rattle.std.proofs.Common.{◌<◌, ◌+◌, suc, length, refl, arith}
use Rattle.serde_json.specs.View.{view}
use Rattle.serde_json.specs.declared.value.Value.{Array}
use Rattle.jsonptr.specs.Text.{dec}
use Rattle.jsonptr_patch_diff.specs.PrivateDiff.{tokens_of, IsPartBelow, array_map}
use Rattle.jsonptr_patch_diff.proofs.ChangeLemmas.{appends_none, appends_join, parts_add}
use Rattle.jsonptr_patch_diff.proofs.ElementLemmas.{element_read, element_like, splices_more, splices_at}
use Rattle.jsonptr_patch_diff.proofs.elements.add_elements.Goals as goal

pub loop-index-init : goal.loop-index-init
loop-index-init c = record {
  splices = λ first d k left s. s;
  parts = appends_none (IsPartBelow (tokens_of c.args.at.now)) c.args.patch.now.items;
  kept = λ e. refl;
}

pub loop-index-preserved : goal.loop-index-preserved
loop-index-preserved c = record {
  splices = λ first d k left s.
      let inside : c.loop-index.index < length c.args.new.now.items = omega (arith, c.loop-index-test.true, c.requires.within) in
      splices_at (view (Array c.args.new.now)) first c.add.new.patch.items (tokens_of c.args.at.now) d (array_map c.args.new.now) (suc c.loop-index.index) k left (c.loop-index.index + 1) k left (omega arith) refl refl
      (splices_more (view (Array c.args.new.now)) (view c.index.result.now) first c.loop-index.patch.items c.add.new.patch.items (tokens_of c.args.at.now) d (array_map c.args.new.now) c.loop-index.index k left
      (element_like c.args.new.now c.loop-index.index c.index.result.now inside c.index.ensures)
      (element_read c.args.new.now c.loop-index.index c.index.result.now inside c.index.ensures) (c.loop-index.invariant.splices first d k left s) c.in_ok-add.ensures);
  parts = appends_join (IsPartBelow (tokens_of c.args.at.now)) c.args.patch.now.items c.loop-index.patch.items c.add.new.patch.items c.loop-index.invariant.parts (parts_add (tokens_of c.args.at.now) (dec c.loop-index.index) (view c.index.result.now) c.loop-index.patch.items c.add.new.patch.items c.in_ok-add.ensures);
  kept = λ e. absurd (omega (arith, e, c.loop-index.auto.index));
}

pub returns-clause-spliced : goal.returns-clause-spliced
returns-clause-spliced c = λ first d k left s. splices_at (view (Array c.args.new.now)) first c.loop-index.patch.items (tokens_of c.args.at.now) d (array_map c.args.new.now) c.loop-index.index k left c.args.range.to k left (omega (arith, c.loop-index-test.false, c.loop-index.auto.index-end c.requires.order)) refl refl (c.loop-index.invariant.splices first d k left s)

pub returns-clause-parts : goal.returns-clause-parts
returns-clause-parts c = c.loop-index.invariant.parts

pub returns-clause-none : goal.returns-clause-none
returns-clause-none c = λ none. c.loop-index.invariant.kept (omega (arith, none, c.loop-index-test.false, c.loop-index.auto.index-end c.requires.order))
