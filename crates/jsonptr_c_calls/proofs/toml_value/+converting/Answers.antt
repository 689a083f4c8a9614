use Rattle.std.proofs.Common.{◌≡◌, List, [], ◌∷◌, ◌++◌, Option, option_map, string_bytes, sym, ap, ◌∙◌, subst, append_assoc}
use Rattle.std.specs.List.Sorted.{IsStrictlySortedBy}
use Rattle.std.specs.Map.{keys_of}
use Rattle.std.specs.String.{string_cmp}
use Rattle.serde_json.proofs.Views.{Entry as JsonEntry}
use Rattle.serde_json.specs.View.{members_view as json_members_view}
use Rattle.toml.specs.View.{view}
use Rattle.toml.specs.declared.value.Value.{Value}
use Rattle.toml.proofs.Views.{Entry}
use Rattle.jsonptr_c_calls.proofs.TomlValueLemmas.{HoldMembers, inserted_last, item_missing, item_more, items_begin, items_done, member_missing, member_more, members_begin, members_done, same_keys_last}
use Rattle.jsonptr_c_calls.proofs.toml_value.+converting.Goals as goal

pub toml_array_of-loop-element-init : goal.toml_array_of-loop-element-init
toml_array_of-loop-element-init t c =
    items_begin c.args.elements.now.items c.deref-element-items.result.now c.in_ok-made.made.items c.in_ok-made.ensures.items c.deref-element-items.ensures.value

pub toml_array_of-returns-in_default : goal.toml_array_of-returns-in_default
toml_array_of-returns-in_default t c =
    item_missing c.args.elements.now.items c.deref-element-items.result.now c.loop-element.made.items c.loop-element.element-index c.element-item.result
    c.loop-element.invariant c.loop-element-test.true c.element-item.is
    (sym (ap (λ (o : Option Value). option_map view o) c.in_default.is) ∙ c.in_ok-value.ensures)

pub toml_array_of-loop-element-preserved : goal.toml_array_of-loop-element-preserved
toml_array_of-loop-element-preserved t c =
    item_more c.args.elements.now.items c.deref-element-items.result.now c.loop-element.made.items c.push.new.self.items c.in-Some.value c.loop-element.element-index c.element-item.result
    c.loop-element.invariant c.loop-element-test.true c.element-item.is
    (sym (ap (λ (o : Option Value). option_map view o) c.in-Some.is) ∙ c.in_ok-value.ensures) c.in_ok-push.ensures.items

pub toml_array_of-returns : goal.toml_array_of-returns
toml_array_of-returns t c =
    items_done c.args.elements.now.items c.deref-element-items.result.now c.loop-element.made.items c.loop-element.element-index c.loop-element.invariant c.loop-element-test.false

pub toml_table_of-loop-key-init : goal.toml_table_of-loop-key-init
toml_table_of-loop-key-init t c =
    let same : c.into_iter-key-iterator.result ≡ c.args.members.now.entries = c.into_iter-key-iterator.ensures.into_iter_gives ∙ c.iter-key-items.ensures.rest in
    let begun : HoldMembers c.args.members.now.entries c.new-made.result.entries c.args.members.now.entries =
    members_begin (json_members_view c.args.members.now.entries) c.new-made.result.entries c.new-made.ensures.empty in
    record {
      done = [];
      all = sym same;
      keys = rw c.new-made.ensures.empty tt;
      holds = subst (λ (rest : List JsonEntry). HoldMembers c.args.members.now.entries c.new-made.result.entries rest) (sym same) begun;
    }

pub toml_table_of-returns-in_default : goal.toml_table_of-returns-in_default
toml_table_of-returns-in_default t c =
    member_missing c.args.members.now.entries c.loop-key.key-iterator c.next.new.self c.loop-key.made.entries (c.in-Some.key.now, c.in-Some.member.now) c.loop-key.invariant.holds c.in-Some.ensures.steps
    (sym (ap (λ (o : Option Value). option_map view o) c.in_default.is) ∙ c.in_ok-value.ensures)

pub toml_table_of-loop-key-preserved : goal.toml_table_of-loop-key-preserved
toml_table_of-loop-key-preserved t c =
    let invariant = c.loop-key.invariant in
    let f : JsonEntry = (c.in-Some.key.now, c.in-Some.member.now) in
    let e : Entry = (c.in_ok-clone.field-0, c.in-Some-2.value) in
    let left = c.next.new.self in
    let all : c.args.members.now.entries ≡ invariant.done ++ f ∷ left = invariant.all ∙ ap (λ es. invariant.done ++ es) c.in-Some.ensures.steps in
    let ordered = subst (λ es. IsStrictlySortedBy string_cmp (keys_of es)) all c.iter-key-items.ensures.ordered in
    let named : string_bytes e.0 ≡ string_bytes f.0 = c.in_ok-clone.ensures.cases in
    let added : c.insert.new.self.entries ≡ c.loop-key.made.entries ++ e ∷ [] =
    c.in_ok-insert.ensures.entries ∙ inserted_last c.loop-key.made.entries invariant.done f left e.0 e.1 invariant.keys named ordered in
    record {
      done = invariant.done ++ f ∷ [];
      all = all ∙ sym (append_assoc invariant.done (f ∷ []) left);
      keys = rw added (same_keys_last c.loop-key.made.entries invariant.done e f invariant.keys named);
      holds = member_more c.args.members.now.entries c.loop-key.key-iterator left c.loop-key.made.entries c.insert.new.self.entries f e invariant.holds c.in-Some.ensures.steps named
          (sym (ap (λ (o : Option Value). option_map view o) c.in-Some-2.is) ∙ c.in_ok-value.ensures) added;
    }

pub toml_table_of-returns : goal.toml_table_of-returns
toml_table_of-returns t c =
    members_done c.args.members.now.entries c.loop-key.key-iterator c.loop-key.made.entries c.loop-key.invariant.holds c.in-None.ensures.steps.0
