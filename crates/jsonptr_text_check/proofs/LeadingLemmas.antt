-- Reading an array or an object up to the child that leads to a value, and then beside what is left of the text there.
use Rattle.std.proofs.Common.{◌≡◌, ℕ, zero, suc, List, [], ◌∷◌, ◌++◌, length, Bool, true, false, ◌||◌, IsTrue, ◌↔◌, Some, None, option_and_then, true≢false, inl, inr, refl, sym, ap, subst, ◌∙◌, string_bytes, arith}
use Rattle.std.proofs.lemmas.List.Elements.{All-nil, All-cons, All-append}
use Rattle.json.specs.Json.{after_end_array, read_key}
use Rattle.json.specs.Lex.{tokens}
use Rattle.json.specs.Token.{Token}
use Rattle.json.proofs.Grammar.{read_key_is}
use Rattle.serde_json.specs.Data.{Data, array, object, Items, no_items, Members, put}
use Rattle.serde_json.specs.Find.{get_member, get_item}
use Rattle.serde_json.proofs.Views.{get_member-put, get_member-put_other}
use Rattle.jsonptr_text_search.specs.declared.selector.Selector.{Selector}
use Rattle.jsonptr_text_search.specs.Search.{Choice, choice_of, choices, element, follow}
use Rattle.jsonptr_text_search.specs.PrivateReading.{with_items_before}
use Rattle.jsonptr_text_check.specs.Alike.{AreAlike}
use Rattle.jsonptr_text_check.specs.Leading.{LeadsToText, Passes, PassesValues, PassesMembers, BeginsAt, LeadsAt}
use Rattle.jsonptr_text_check.specs.PrivateEditing.{MayFollow}
use Rattle.jsonptr_text_check.specs.PrivateLeading.{IsStep, LeadsIf, ChildLeads, ChildLeadsIf, Placed, PlacedIf, KeyIf, PlacesElement, ElementsPlaced, PlacesMember, MembersPlaced, EndsMember}
use Rattle.jsonptr_text_check.specs.declared.wanted.Step.{Step}
use Rattle.jsonptr_text_check.proofs.AlikeLemmas.{alike_more, alike_key, alike_items_closed, alike_members_closed}

-- ---- the value

item_last : (ds : List Data) (d : Data) → get_item (length ds) (with_items_before (ds ++ d ∷ []) no_items) ≡ Some d
item_last [] d = refl
item_last (e ∷ ds) d = item_last ds d

item_stays : (i : ℕ) (ds : List Data) (d e : Data) → get_item i (with_items_before ds no_items) ≡ Some e → get_item i (with_items_before (ds ++ d ∷ []) no_items) ≡ Some e
item_stays zero [] d e h = absurd (cc)
item_stays (suc i) [] d e h = absurd (cc)
item_stays zero (x ∷ ds) d e h = h
item_stays (suc i) (x ∷ ds) d e h = item_stays i ds d e h

pub next_item : (done wanted : Bool) (s : Step) (i : ℕ) (cs : List Choice) (value : List ℕ) (ds : List Data) (d : Data) → ChildLeadsIf done (get_item i (with_items_before ds no_items)) cs value → IsStep done wanted s → LeadsIf s cs value d → (IsTrue wanted → length ds ≡ i)
    → ChildLeadsIf (done || wanted) (get_item i (with_items_before (ds ++ d ∷ []) no_items)) cs value
next_item true wanted s i cs value ds d h is v at = (h.0, item_stays i ds d h.0 h.1, h.2)
next_item false true s i cs value ds d h is v at =
    (d, ap (λ n. get_item n (with_items_before (ds ++ d ∷ []) no_items)) (sym (at refl)) ∙ item_last ds d, subst (λ (t : Step). LeadsIf t cs value d) is v)
next_item false false s i cs value ds d h is v at = tt

pub next_member : (done wanted named : Bool) (s : Step) (k name : List ℕ) (cs : List Choice) (value : List ℕ) (ms : Members) (d : Data) → ChildLeadsIf done (get_member k ms) cs value → IsStep done wanted s → LeadsIf s cs value d → (IsTrue named ↔ (name ≡ k)) → MayFollow done wanted named
    → ChildLeadsIf (done || wanted) (get_member k (put name d ms)) cs value
next_member true true named s k name cs value ms d h is v iff may = absurd may
next_member true false named s k name cs value ms d h is v iff may =
    (h.0, get_member-put_other k name d ms (λ e. true≢false (sym (iff.1 (sym e)) ∙ may)) ∙ h.1, h.2)
next_member false true named s k name cs value ms d h is v iff may =
    (d, ap (λ n. get_member k (put n d ms)) (iff.0 may) ∙ get_member-put k d ms, subst (λ (t : Step). LeadsIf t cs value d) is v)
next_member false false named s k name cs value ms d h is v iff may = tt

pub leads_by_item : (s : Selector) (i : ℕ) (ds : Items) (cs : List Choice) (value : List ℕ) → s.index ≡ Some i → ChildLeads (get_item i ds) cs value → LeadsToText (choice_of s ∷ cs) value (array ds)
leads_by_item s i ds cs value is h =
    (h.2.0, h.2.1, ap (λ o. option_and_then (follow cs) (element o ds)) is ∙ ap (option_and_then (follow cs)) h.1 ∙ h.2.2)

pub leads_by_member : (s : Selector) (ms : Members) (cs : List Choice) (value : List ℕ) → ChildLeads (get_member (string_bytes s.key) ms) cs value → LeadsToText (choice_of s ∷ cs) value (object ms)
leads_by_member s ms cs value h = (h.2.0, h.2.1, ap (option_and_then (follow cs)) h.1 ∙ h.2.2)

-- ---- where it begins

pub more_values : (n : ℕ) (ts now new : List Token) → PassesValues n ts now → Passes now new → PassesValues (suc n) ts new
more_values zero ts now new h p = (new, subst (λ (l : List Token). Passes l new) (sym h) p, refl)
more_values (suc n) ts now new h p = (h.0, h.1, more_values n h.0 now new h.2 p)

pub more_members : (names : List (List ℕ)) (k : List ℕ) (ts now value new : List Token) → PassesMembers names ts now → now ≡ Token.key k ∷ value → Passes value new → PassesMembers (names ++ k ∷ []) ts new
more_members [] k ts now value new h e p = (value, new, h ∙ e, p, refl)
more_members (l ∷ names) k ts now value new h e p = (h.0, h.1, h.2, h.3, more_members names k h.1 now value new h.4 e p)

pub placed_more : (cs : List Choice) (value : List ℕ) (old now new tail mid rest : List Token) → Placed cs value old now tail mid → AreAlike now new mid rest → Placed cs value old new tail rest
placed_more cs value old now new tail mid rest h a =
    record { at = h.at; leads = h.leads; more = h.more; begins = h.begins; alike = alike_more h.at now new tail mid rest h.alike a }

pub next_element : (done wanted : Bool) (s : Step) (count i : ℕ) (cs : List Choice) (value : List ℕ) (first now new tail mid rest : List Token) → ElementsPlaced done count i cs value first now tail mid → IsStep done wanted s → PlacedIf s cs value now new mid rest
    → Passes now new → (IsTrue wanted → count ≡ i) → ElementsPlaced (done || wanted) (suc count) i cs value first new tail rest
next_element true wanted s count i cs value first now new tail mid rest h is p passes at = record {
  child = h.child;
  before = h.before;
  placed = placed_more cs value h.child now new tail mid rest h.placed (subst (λ (t : Step). PlacedIf t cs value now new mid rest) is p);
}
next_element false true s count i cs value first now new tail mid rest h is p passes at = record {
  child = now;
  before = subst (λ (n : ℕ). PassesValues n first now) (at refl) h.0;
  placed = subst (λ (l : List Token). Placed cs value now new l rest) (sym h.1) (subst (λ (t : Step). PlacedIf t cs value now new mid rest) is p);
}
next_element false false s count i cs value first now new tail mid rest h is p passes at =
    (more_values count first now new h.0 passes, h.1 ∙ subst (λ (t : Step). PlacedIf t cs value now new mid rest) is p)

pub element_closed : (i : ℕ) (cs : List Choice) (value : List ℕ) (first now new tail mid rest : List Token) → PlacesElement i cs value first now tail mid → after_end_array now ≡ Some new → after_end_array mid ≡ Some rest → PlacesElement i cs value first new tail rest
element_closed i cs value first now new tail mid rest h e e2 = record {
  child = h.child;
  before = h.before;
  placed = placed_more cs value h.child now new tail mid rest h.placed (alike_items_closed now new mid rest e e2);
}

pub next_member_placed : (done wanted named : Bool) (s : Step) (k name : List ℕ) (cs : List Choice) (value : List ℕ) (first now child new tail mid mid2 rest : List Token)
    → MembersPlaced done k cs value first now tail mid → read_key now ≡ Some (Some name, child) → KeyIf done name mid mid2 → IsStep done wanted s → PlacedIf s cs value child new mid2 rest
    → Passes child new → (IsTrue named ↔ (name ≡ k)) → MayFollow done wanted named → MembersPlaced (done || wanted) k cs value first new tail rest
next_member_placed true true named s k name cs value first now child new tail mid mid2 rest h read key is p passes iff may = absurd may
next_member_placed true false named s k name cs value first now child new tail mid mid2 rest h read key is p passes iff may =
    let other : name ≡ k → ⊥ = λ e. true≢false (sym (iff.1 e) ∙ may) in
    let P : List ℕ → Type 0 = λ l. l ≡ k → ⊥ in record {
      names = h.names;
      child = h.child;
      before = h.before;
      next = h.next;
      passes = h.passes;
      later = h.later ++ name ∷ [];
      after = more_members h.later name h.next now child new h.after (read_key_is now (Some name) child read) passes;
      last = All-append P h.later (name ∷ []) h.last (All-cons P name [] other (All-nil P));
      placed = placed_more cs value h.child now new tail mid rest h.placed
          (alike_more now child new mid mid2 rest (alike_key name now child mid mid2 read key) (subst (λ (t : Step). PlacedIf t cs value child new mid2 rest) is p));
    }
next_member_placed false true named s k name cs value first now child new tail mid mid2 rest h read key is p passes iff may =
    let P : List ℕ → Type 0 = λ l. l ≡ k → ⊥ in record {
      names = h.0;
      child = child;
      before = subst (λ (l : List Token). PassesMembers h.0 first l) (read_key_is now (Some name) child read ∙ ap (λ (n : List ℕ). Token.key n ∷ child) (iff.0 may)) h.1;
      next = new;
      passes = passes;
      later = [];
      after = refl;
      last = All-nil P;
      placed = subst (λ (l : List Token). Placed cs value child new l rest) (sym (h.2 ∙ key)) (subst (λ (t : Step). PlacedIf t cs value child new mid2 rest) is p);
    }
next_member_placed false false named s k name cs value first now child new tail mid mid2 rest h read key is p passes iff may =
    (h.0 ++ name ∷ [], more_members h.0 name first now child new h.1 (read_key_is now (Some name) child read) passes, h.2 ∙ key ∙ subst (λ (t : Step). PlacedIf t cs value child new mid2 rest) is p)

pub member_closed : (k : List ℕ) (cs : List Choice) (value : List ℕ) (first now new tail mid rest : List Token) → PlacesMember k cs value first now tail mid → read_key now ≡ Some (None, new) → read_key mid ≡ Some (None, rest) → EndsMember k cs value first new tail rest
member_closed k cs value first now new tail mid rest h e e2 = (
  h.child,
  record {
    names = h.names;
    before = h.before;
    next = h.next;
    value = h.passes;
    later = h.later;
    rest = new;
    after = subst (λ (l : List Token). PassesMembers h.later h.next l) (read_key_is now None new e) h.after;
    last = h.last;
  },
  placed_more cs value h.child now new tail mid rest h.placed (alike_members_closed now new mid rest e e2),
)

pub placed_by_element : (s : Selector) (i : ℕ) (cs : List Choice) (value : List ℕ) (old first new tail rest : List Token) → s.index ≡ Some i → old ≡ Token.begin_array ∷ first → PlacesElement i cs value first new tail rest → Placed (choice_of s ∷ cs) value old new tail rest
placed_by_element s i cs value old first new tail rest is opens h = record {
  at = h.placed.at;
  leads = (h.child, inl (i, first, is, opens, h.before), h.placed.leads);
  more = h.placed.more;
  begins = h.placed.begins;
  alike = h.placed.alike;
}

pub placed_by_member : (s : Selector) (cs : List Choice) (value : List ℕ) (old first new tail rest : List Token) → old ≡ Token.begin_object ∷ first → EndsMember (string_bytes s.key) cs value first new tail rest → Placed (choice_of s ∷ cs) value old new tail rest
placed_by_member s cs value old first new tail rest opens h = record {
  at = h.2.at;
  leads = (h.0, inr (first, opens, h.1), h.2.leads);
  more = h.2.more;
  begins = h.2.begins;
  alike = h.2.alike;
}

pub placed_here : (value : List ℕ) (old new tail rest : List Token) → old ≡ tokens value ++ new → tail ≡ tokens value ++ rest → Placed [] value old new tail rest
placed_here value old new tail rest h h2 = record { at = old; leads = refl; more = new; begins = h; alike = (tokens value, h, h2) }

pub no_selectors : (ss : List Selector) → length ss ≡ 0 → choices ss ≡ []
no_selectors [] h = refl
no_selectors (s ∷ ss) h = absurd (omega (arith, h))

-- both are read to the end
pub placed_whole : (cs : List Choice) (text value from : List ℕ) (old new tail rest : List Token) → old ≡ tokens text → tail ≡ tokens from → Placed cs value old new tail rest → new ≡ [] → rest ≡ [] → BeginsAt cs text value from
placed_whole cs text value from old new tail rest is is2 h end end2 =
    let used = h.alike.0 in
    let same : h.at ≡ tokens from = h.alike.1 ∙ ap (λ (l : List Token). used ++ l) (end ∙ sym end2) ∙ sym h.alike.2 ∙ is2 in record {
      leads = subst (λ (l : List Token). LeadsAt cs (tokens text) l) same (subst (λ (l : List Token). LeadsAt cs l h.at) is h.leads);
      rest = h.more;
      begins = sym same ∙ h.begins;
    }
