use Rattle.std.proofs.Common.{◌≡◌, ◌+◌, length}
use Rattle.serde_json.specs.Data.{Data}
use Rattle.jsonptr_uses.specs.Undoing.{IsOpenedOn}
use Rattle.jsonptr_uses.proofs.editor.Editor.undo_all.Given as goal

abbrev pub invariant-loop-turn : goal.invariant-loop-turn
invariant-loop-turn l = record {
  opened : (start : Data) → IsOpenedOn start l.fn.self → IsOpenedOn start l.self;
  fewer : length l.self.undos.items + l._turn ≡ length l.fn.self.undos.items;
}
