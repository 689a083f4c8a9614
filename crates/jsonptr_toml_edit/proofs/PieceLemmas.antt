-- What the pieces of a text are that an edit puts in or cuts out.
use Rattle.std.proofs.Common.{◌≡◌, ◌⊎◌, ◌++◌, ◌∙◌, [], ◌∷◌, inl, inr, List, Bool, Result, Ok, Err, IfOk, IsTrue, refl, sym, subst}
use Rattle.std.specs.declared.alloc.AllocError.{AllocError}
use Rattle.toml.specs.Data.{Data}
use Rattle.jsonptr.specs.Text.{Text}
use Rattle.jsonptr.specs.TomlValue.{FindsValue}
use Rattle.jsonptr_toml.specs.InToml.{ReadsAsToml}
use Rattle.jsonptr_text_piece.specs.Spacing.{Splices}
use Rattle.jsonptr_toml_edit.specs.Bytes.{IsAlone, ReplacesOne, MakeAlone, CutsText, IsEmptyToml, Empties, AssignsTomlBytes, DeletesTomlBytes}

pub empties_then : (ts front : List Text) (x : Text) (e : Data) (t piece : Text) (r : Result Bool AllocError) → ts ≡ front ++ x ∷ [] → IsEmptyToml e → t ≡ piece → IfOk r (λ is. IsTrue is → IsAlone front e t) → IfOk r (λ is. IsTrue is → Empties ts piece)
empties_then ts front x e t piece (Ok is) eq empty same h = λ holds. (front, x, eq, (e, empty, subst (λ (p : Text). IsAlone front e p) same (h holds)))
empties_then ts front x e t piece (Err f) eq empty same h = tt

abbrev pub spliced : (before middle after piece old new : Text) → old ≡ before ++ (middle ++ after) → new ≡ before ++ (piece ++ after) → Splices old new middle piece
spliced before middle after piece old new cut made = record { before = before; after = after; old_is = cut; new_is = made }

pub deletes_and_leaves : (old whole new before middle after t piece : Text) (ts : List Text) (v d : Data) → whole ≡ old → whole ≡ before ++ (middle ++ after) → t ≡ piece → new ≡ before ++ (t ++ after) → CutsText ts v middle after ⊎ MakeAlone ts v middle → Empties ts piece → ReadsAsToml old d → FindsValue d ts v → DeletesTomlBytes old ts new
deletes_and_leaves old whole new before middle after t piece ts v d same cut value made child left reads found =
    record {
      middle = middle;
      piece = t;
      v = v;
      splices = spliced before middle after t old new (sym same ∙ cut) made;
      found = (d, reads, found);
      whole = child;
      left = inr (subst (λ (p : Text). Empties ts p) (sym value) left);
    }

pub replaces_exact : (old whole new before middle after t piece : Text) (ts : List Text) (w v d : Data) → whole ≡ old → whole ≡ before ++ (middle ++ after) → t ≡ piece → new ≡ before ++ (t ++ after) → ReplacesOne ts w v middle piece before after → ReadsAsToml old d → FindsValue d ts w → AssignsTomlBytes old ts v new
replaces_exact old whole new before middle after t piece ts w v d same cut value made right reads found =
    record {
      middle = middle;
      piece = piece;
      splices = spliced before middle after piece old new (sym same ∙ cut) (subst (λ (p : Text). new ≡ before ++ (p ++ after)) value made);
      made = inl (w, (d, reads, found), right);
    }

pub deletes_whole : (old whole new before middle after : Text) (ts : List Text) (v d : Data) → whole ≡ old → whole ≡ before ++ (middle ++ after) → new ≡ before ++ ([] ++ after) → CutsText ts v middle after ⊎ MakeAlone ts v middle → ReadsAsToml old d → FindsValue d ts v → DeletesTomlBytes old ts new
deletes_whole old whole new before middle after ts v d same cut made child reads found =
    record {
      middle = middle;
      piece = [];
      v = v;
      splices = spliced before middle after [] old new (sym same ∙ cut) made;
      found = (d, reads, found);
      whole = child;
      left = inl refl;
    }
