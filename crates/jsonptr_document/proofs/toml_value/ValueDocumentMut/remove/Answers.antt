use Rattle.std.proofs.Common.{rules, ◌≡◌, ◌∙◌, length, get_or, ◌<◌, ◌≤◌, sym, refl, arith, string_bytes, None}
use Rattle.std.specs.List.{remove}
use Rattle.std.specs.BTreeMap.{get_by_text, is_at, UpdatesBy}
use Rattle.std.specs.Map.{remove_entry}
use Rattle.std.specs.Cmp.Lexicographic.{slice_cmp}
use Rattle.std.specs.Cow.{cow_str_bytes}
use Rattle.std.specs.Ordering.{nat_cmp}
use Rattle.std.specs.Prelude.{string_cmp}
use Rattle.toml.specs.declared.value.Value.{Array, Table, the_lemmas}
use Rattle.jsonptr_tree.proofs.ContentOrderLemmas.{ascends_remove, ascends_remove_member}
use Rattle.jsonptr_tree.proofs.TomlLemmas.{content_of, array_is, object_is}
use Rattle.jsonptr_document.proofs.TomlLevel.{leaf_of}
use Rattle.jsonptr_document.proofs.LevelChildren.{array-remove, object-remove, array-lacks, object-lacks, leaf-lacks}
use Rattle.jsonptr_document.proofs.toml_value.ValueDocumentMut.remove.Goals as goal
use Rattle.jsonptr_document.proofs.toml_value.ValueDocumentMut.remove.Goals.{in-Array-Element, in-Table-Member, in_default, in_default-via-in-Array-Element+else-index-len, in_default-via-in-Array+in_default, in_default-via-in-Table+in_default, in_default-via-in_default}

pub returns-clause-removed : goal.returns-clause-removed
returns-clause-removed c = elim c.match-self.branch [
  | in-Array-Element w ↦
      let vs = w.in-Array-Element.elements in let i = w.in-Array-Element.index in
      let a : c.match-self.self ≡ Array w.remove.new.self = search (rules, the_lemmas, w.self-is) in
      let items : w.remove.new.self.items ≡ remove vs.items i = search (rules, the_lemmas) in
      let value : w.remove.result ≡ get_or vs.items i w.remove.result = search (rules, the_lemmas) in
      let inside : i < length vs.items = search (rules, the_lemmas, vs.ok.0) in
      rw (a, w.in-Array-Element.is-0, w.in-Array-Element.is-1, w.result-is) (array-remove content_of Array array_is w.in-Array-Element.elements w.remove.new.self w.in-Array-Element.index w.remove.result inside value items)
  | in-Table-Member w ↦
      let m = w.in-Table-Member.members in let k = w.in-Table-Member.key in let n = w.remove-in-Table-Member.new.self in let result = w.remove-in-Table-Member.result in
      let a : c.match-self.self ≡ Table n = search (rules, the_lemmas, w.self-is) in
      let value : result ≡ get_by_text m (cow_str_bytes k) = search (rules, the_lemmas) in
      let updates : UpdatesBy string_cmp (λ q. slice_cmp nat_cmp (cow_str_bytes k) (string_bytes q)) m n None = search (rules, the_lemmas) in
      let unchanged : result ≡ None → n.entries ≡ m.entries = search (rules, the_lemmas) in
      rw (a, w.in-Table-Member.is-0, w.in-Table-Member.is-1, w.result-is) (object-remove content_of Table object_is m n k result value updates unchanged)
  | in_default w ↦ elim w.in_default.branch [
    | in_default-via-in-Array-Element+else-index-len x ↦
        let vs = x.in-Array-Element.elements in let i = x.in-Array-Element.index in
        let same : w.in_default.self ≡ c.args.self.now = search (rules, the_lemmas, x.self-is) in
        let long : length vs.items ≤ i = search (rules, the_lemmas, vs.ok.0) in
        rw (w.self-is, same, w.result-is) (rw x.in-Array-Element.is-0 (array-lacks content_of Array array_is vs c.args.child.now (λ j is. let both = sym x.in-Array-Element.is-1 ∙ is in let one : i ≡ j = cc in omega arith)), refl)
    | in_default-via-in-Array+in_default x ↦ rw (w.self-is, x.self-is, w.result-is) (rw x.in_default.is-0 (array-lacks content_of Array array_is x.in_default.field-0-0 c.args.child.now (λ i is. absurd (x.in_default.not-Element-1 i is))), refl)
    | in_default-via-in-Table+in_default x ↦ rw (w.self-is, x.self-is, w.result-is) (rw x.in_default.is-0 (object-lacks content_of Table object_is x.in_default.field-0-0 c.args.child.now x.in_default.not-Member-1), refl)
    | in_default-via-in_default x ↦ rw (w.self-is, x.self-is, w.result-is) (leaf-lacks content_of c.args.self.now c.args.child.now (leaf_of c.args.self.now x.in_default.not-Array-0 x.in_default.not-Table-0), refl)
  ]
]

pub returns-clause-sorted : goal.returns-clause-sorted
returns-clause-sorted c = elim c.match-self.branch [
  | in-Array-Element w ↦ λ order.
      let vs = w.in-Array-Element.elements in let i = w.in-Array-Element.index in
      let a : c.match-self.self ≡ Array w.remove.new.self = search (rules, the_lemmas, w.self-is) in
      let items : w.remove.new.self.items ≡ remove vs.items i = search (rules, the_lemmas) in
      rw a (ascends_remove content_of Array array_is vs w.remove.new.self (rw w.in-Array-Element.is-0 at order) i items)
  | in-Table-Member w ↦ λ order.
      let m = w.in-Table-Member.members in let k = w.in-Table-Member.key in let n = w.remove-in-Table-Member.new.self in
      let a : c.match-self.self ≡ Table n = search (rules, the_lemmas, w.self-is) in
      let entries : n.entries ≡ remove_entry (is_at (λ q. slice_cmp nat_cmp (cow_str_bytes k) (string_bytes q))) m.entries = search (rules, the_lemmas) in
      rw a (ascends_remove_member content_of Table object_is m n (rw w.in-Table-Member.is-0 at order) (is_at (λ q. slice_cmp nat_cmp (cow_str_bytes k) (string_bytes q))) entries)
  | in_default w ↦ λ order.
      let same : w.in_default.self ≡ c.args.self.now = elim w.in_default.branch [
        | in_default-via-in-Array-Element+else-index-len x ↦ search (rules, the_lemmas, x.self-is)
        | in_default-via-in-Array+in_default x ↦ x.self-is
        | in_default-via-in-Table+in_default x ↦ x.self-is
        | in_default-via-in_default x ↦ x.self-is
      ] in
      rw (w.self-is, same) order
]
