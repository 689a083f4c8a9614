-- How the tokens of a value are made of those of its parts.
use Rattle.std.proofs.Common.{◌≡◌, ℕ, ◌≤◌, List, [], ◌∷◌, ◌++◌, Some, option_map, option_and_then, string_bytes, refl, sym, ap, ap₂, ◌∙◌, subst, append_assoc, append-nil, arith}
use Rattle.std.specs.List.Sorted.{IsStrictlySortedBy}
use Rattle.std.specs.Map.{keys_of}
use Rattle.std.specs.String.{string_cmp}
use Rattle.json.specs.Token.{Token, begin_array, end_array, begin_object, end_object, key}
use Rattle.json.specs.Json as json
use Rattle.json.specs.Tree as tree
use Rattle.serde_json.specs.Data.{Data, array, object, item, put, depth}
use Rattle.json.specs.Lex.{tokens}
use Rattle.json.proofs.Printed.Trees.{value-json_tokens}
use Rattle.serde_json.specs.Read.{read, max_depth, of_json, of_items, of_members}
use Rattle.serde_json.specs.View.{view, items_view, members_view}
use Rattle.serde_json.specs.Written.{outline, WritesValue}
use Rattle.serde_json.specs.declared.value.Value.{Value}
use Rattle.serde_json.proofs.Views.{Entry, put_last}
use Rattle.jsonptr_value.specs.PrivateFrames.{WritesElements, WritesMembersLeft}

pub writes_array : (vs : List Value) (d : Data) (old opened new : List Token) → array (items_view vs) ≡ d → opened ≡ old ++ begin_array ∷ [] → WritesElements vs opened new → WritesValue d old new
writes_array vs d old opened new seen e w = (
  json.array w.0,
  w.1 ∙ ap (λ (ts : List Token). ts ++ tree.items_tokens w.0) e ∙ append_assoc old (begin_array ∷ []) _,
  ap (option_map array) w.2 ∙ ap Some seen,
  omega (arith, w.3, ap depth seen),
  ap json.array w.4 ∙ ap outline seen,
)

pub writes_object : (es : List Entry) (d : Data) (old opened new : List Token) → IsStrictlySortedBy string_cmp (keys_of es) → object (members_view es) ≡ d → opened ≡ old ++ begin_object ∷ [] → WritesMembersLeft es opened new → WritesValue d old new
writes_object es d old opened new sorted seen e w = (
  json.object w.0,
  w.1 ∙ ap (λ (ts : List Token). ts ++ tree.members_tokens w.0) e ∙ append_assoc old (begin_object ∷ []) _,
  ap (option_map object) (w.2 [] sorted) ∙ ap Some seen,
  omega (arith, w.3, ap depth seen),
  ap json.object w.4 ∙ ap outline seen,
)

pub writes_no_elements : (old new : List Token) → new ≡ old ++ end_array ∷ [] → WritesElements [] old new
writes_no_elements old new e = (json.no_items, e, refl, omega arith, refl)

pub writes_element : (v : Value) (vs : List Value) (old middle new : List Token) → WritesValue (view v) old middle → WritesElements vs middle new → WritesElements (v ∷ vs) old new
writes_element v vs old middle new w rest = (
  json.item w.0 rest.0,
  rest.1 ∙ ap (λ (ts : List Token). ts ++ tree.items_tokens rest.0) w.1 ∙ append_assoc old _ _,
  ap (option_and_then (λ d. option_map (item d) (of_items rest.0))) w.2 ∙ ap (option_map (item (view v))) rest.2,
  omega (arith, w.3, rest.3),
  ap₂ json.item w.4 rest.4,
)

pub writes_no_members : (old new : List Token) → new ≡ old ++ end_object ∷ [] → WritesMembersLeft [] old new
writes_no_members old new e = (json.no_members, e, λ done sorted. ap (λ (es : List Entry). Some (members_view es)) (sym (append-nil done)), omega arith, refl)

pub writes_member : (m : Entry) (es : List Entry) (old named middle new : List Token) → named ≡ old ++ key (string_bytes m.0) ∷ [] → WritesValue (view m.1) named middle → WritesMembersLeft es middle new → WritesMembersLeft (m ∷ es) old new
writes_member m es old named middle new e w rest =
    let k = string_bytes m.0 in (
      json.member k w.0 rest.0,
      rest.1 ∙ ap (λ (ts : List Token). ts ++ tree.members_tokens rest.0) (w.1 ∙ ap (λ (ts : List Token). ts ++ tree.json_tokens w.0) e) ∙ append_assoc _ (tree.json_tokens w.0) _ ∙ append_assoc old (key k ∷ []) _,
      λ done sorted.
          let regrouped = append_assoc done (m ∷ []) es in
          ap (option_and_then (λ d. of_members rest.0 (put k d (members_view done)))) w.2
          ∙ ap (of_members rest.0) (put_last done m es sorted)
          ∙ rest.2 (done ++ m ∷ []) (subst (λ (xs : List Entry). IsStrictlySortedBy string_cmp (keys_of xs)) (sym regrouped) sorted)
          ∙ ap (λ (xs : List Entry). Some (members_view xs)) regrouped,
      omega (arith, w.3, rest.3),
      ap₂ (json.member k) w.4 rest.4,
    )

-- the tokens of a value that is not too deep are read back as it
pub read_back : (d : Data) (ts : List Token) (text : List ℕ) → WritesValue d [] ts → tokens text ≡ ts → depth d ≤ max_depth → read text ≡ Some d
read_back d ts text w same shallow =
    ap (λ r. option_and_then of_json (option_and_then (λ p. json.if_last p.0 p.1) r)) (ap (json.value max_depth) (same ∙ w.1 ∙ sym (append-nil _)) ∙ value-json_tokens w.0 max_depth [] (omega (arith, w.3))) ∙ w.2
