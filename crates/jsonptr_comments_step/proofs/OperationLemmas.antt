-- What is known of a text with comments after one operation of a patch.
use Rattle.std.proofs.Common.{◌≡◌, List, Option, Some, None, Result, IfOk, IfSome, Bor, string_bytes, refl, sym, ap, ◌∙◌, subst}
use Rattle.std.specs.declared.alloc.AllocError.{AllocError}
use Rattle.serde_json.specs.Data.{Data}
use Rattle.serde_json.specs.Read.{read}
use Rattle.serde_json.specs.View.{view}
use Rattle.serde_json.specs.declared.value.Value.{Value}
use Rattle.jsonptr.specs.Text.{Text}
use Rattle.jsonptr.specs.Json.{nodes}
use Rattle.jsonptr.specs.Pointer.{tokens}
use Rattle.jsonptr.specs.Resolve.{PutsAt}
use Rattle.jsonptr.specs.declared.pointer.Pointer.{Pointer}
use Rattle.jsonptr_text_resolve.specs.InText.{FindsInText}
use Rattle.jsonptr_text_layout.specs.declared.value_text.ValueText.{ValueText}
use Rattle.jsonptr_comments.specs.Comments.{IsWithoutComments}
use Rattle.jsonptr_patch.specs.Operating.{IsProperPrefix}
use Rattle.jsonptr_patch.specs.declared.operation.Operation.{Operation}
use Rattle.jsonptr_patch.specs.declared.operation.Operation.TheVariants as operation
use Rattle.jsonptr_text_value.specs.Raw.{value_of_raw}
use Rattle.jsonptr_text_value.specs.Fitting.{IsRawTextOf}
use Rattle.jsonptr_text_value.specs.declared.raw_value.RawValue.{RawValue}
use Rattle.jsonptr_text_value.proofs.WrappingLemmas.{same_data, raw_reads}
use Rattle.jsonptr_text_step.specs.Bytes.{DeletesBytes}
use Rattle.jsonptr_text_step.specs.PatchInText.{AddsAtBytes, CopiesBytes}
use Rattle.jsonptr_text_step.specs.PrivateOperating.{PutsInText}
use Rattle.jsonptr_text_step.specs.RawPatching.{AddsGiven, ReplacesGiven}
use Rattle.jsonptr_text_step.specs.Steps.{AddsAtByText, ReplacesByText, ReplacesInText, PassesInText}
use Rattle.jsonptr_text_step.specs.declared.step.Step.{Step}
use Rattle.jsonptr_text_step.specs.declared.step.Step.TheVariants as step
use Rattle.jsonptr_text_step.proofs.BytesLemmas.{adds_given, adds_value_at, replaces_given, replaces_value}
use Rattle.jsonptr_text_step.proofs.RawLemmas.{text_is}
use Rattle.jsonptr_text_step.proofs.OperatingLemmas.{adds_value, copies, moves, removes, tests}
use Rattle.jsonptr_comments_step.specs.PrivateStepping.{IsStepped, IsOperated}
use Rattle.jsonptr_comments_step.specs.declared.texts.TextsBuf.{TextsBuf}
use Rattle.jsonptr_comments_step.proofs.StepLemmas.{makes, edits_at}

-- ---- the text of a value

-- a text that comes with a value is read as it
pub given_reads : (value : Value) (o : Option RawValue) (raw : RawValue) → o ≡ Some raw → IsRawTextOf value o → read (string_bytes raw.printed.flat) ≡ Some (view value)
given_reads value o raw is of = raw_reads raw ∙ ap (λ (d : Data). Some d) (text_is value o raw is of)

-- and so is a text that is printed
pub printed_reads : (value : Value) (raw : RawValue) → value_of_raw raw ≡ view value → read (string_bytes raw.printed.flat) ≡ Some (view value)
printed_reads value raw is = raw_reads raw ∙ ap (λ (d : Data). Some d) is

-- ---- a value added

added : (text bare : Text) (pointer : Pointer) (printed : Bor ValueText) (value : Value) (o : Option RawValue) (made json : Text)
    → read (string_bytes printed.now.flat) ≡ Some (view value)
    → ((old new : Text) → AddsAtByText old (tokens pointer) (string_bytes printed.now.flat) new → AddsGiven old (tokens pointer) (view value) o new)
    → IsStepped text bare (step.Add pointer printed) made json → IsOperated text bare (operation.Add (tokens pointer) value) o made json
added text bare pointer printed value o made json reads given h = record {
  without = h.put.without;
  means = adds_value bare json (tokens pointer) (string_bytes printed.now.flat) (view value) reads (makes text bare (step.Add pointer printed) made json h);
  bytes = edits_at (λ old new. AddsGiven old (tokens pointer) (view value) o new) text bare (step.Add pointer printed) made json h (given bare h.new h.bytes);
}

-- with its own text
pub added_given : (text bare : Text) (pointer : Pointer) (printed : Bor ValueText) (value : Value) (o : Option RawValue) (raw : RawValue) (made json : Text)
    → o ≡ Some raw → IsRawTextOf value o → printed.now ≡ raw.printed
    → IsStepped text bare (step.Add pointer printed) made json → IsOperated text bare (operation.Add (tokens pointer) value) o made json
added_given text bare pointer printed value o raw made json is of same h =
    added text bare pointer printed value o made json
    (ap (λ (t : ValueText). read (string_bytes t.flat)) same ∙ given_reads value o raw is of)
    (λ old new a.
    subst (λ (q : Option RawValue). AddsGiven old (tokens pointer) (view value) q new) (sym is)
    (subst (λ (d : Data). AddsGiven old (tokens pointer) d (Some raw) new) (text_is value o raw is of)
    (adds_given old new (tokens pointer) raw (subst (λ (t : ValueText). AddsAtByText old (tokens pointer) (string_bytes t.flat) new) same a))))
    h

-- and printed
pub added_printed : (text bare : Text) (pointer : Pointer) (printed : Bor ValueText) (value : Value) (o : Option RawValue) (made json : Text)
    → o ≡ None → read (string_bytes printed.now.flat) ≡ Some (view value)
    → IsStepped text bare (step.Add pointer printed) made json → IsOperated text bare (operation.Add (tokens pointer) value) o made json
added_printed text bare pointer printed value o made json is reads h =
    added text bare pointer printed value o made json reads
    (λ old new a.
    subst (λ (q : Option RawValue). AddsGiven old (tokens pointer) (view value) q new) (sym is)
    (adds_value_at old new (tokens pointer) (string_bytes printed.now.flat) (view value) reads a, tt))
    h

-- ---- a value replaced

puts_value : (old new : Text) (ts : List Text) (flat : Text) (v : Data) → read flat ≡ Some v → ReplacesInText old ts flat new → PutsInText old ts (nodes v) new
puts_value old new ts flat v is h = (h.0, h.1, h.3, h.4, subst (λ (e : Data). PutsAt (nodes h.0) ts (nodes e) (nodes h.1)) (same_data h.2 v (sym h.5 ∙ is)) h.6)

put : (text bare : Text) (pointer : Pointer) (printed : Bor ValueText) (value : Value) (o : Option RawValue) (made json : Text)
    → read (string_bytes printed.now.flat) ≡ Some (view value)
    → ((old new : Text) → ReplacesByText old new (tokens pointer) (string_bytes printed.now.flat) → ReplacesGiven old (tokens pointer) (view value) o new)
    → IsStepped text bare (step.Replace pointer printed) made json → IsOperated text bare (operation.Replace (tokens pointer) value) o made json
put text bare pointer printed value o made json reads given h = record {
  without = h.put.without;
  means = puts_value bare json (tokens pointer) (string_bytes printed.now.flat) (view value) reads (makes text bare (step.Replace pointer printed) made json h);
  bytes = edits_at (λ old new. ReplacesGiven old (tokens pointer) (view value) o new) text bare (step.Replace pointer printed) made json h (given bare h.new h.bytes);
}

pub put_given : (text bare : Text) (pointer : Pointer) (printed : Bor ValueText) (value : Value) (o : Option RawValue) (raw : RawValue) (made json : Text)
    → o ≡ Some raw → IsRawTextOf value o → printed.now ≡ raw.printed
    → IsStepped text bare (step.Replace pointer printed) made json → IsOperated text bare (operation.Replace (tokens pointer) value) o made json
put_given text bare pointer printed value o raw made json is of same h =
    put text bare pointer printed value o made json
    (ap (λ (t : ValueText). read (string_bytes t.flat)) same ∙ given_reads value o raw is of)
    (λ old new a.
    subst (λ (q : Option RawValue). ReplacesGiven old (tokens pointer) (view value) q new) (sym is)
    (subst (λ (d : Data). ReplacesGiven old (tokens pointer) d (Some raw) new) (text_is value o raw is of)
    (replaces_given old new (tokens pointer) raw (subst (λ (t : ValueText). ReplacesByText old new (tokens pointer) (string_bytes t.flat)) same a))))
    h

pub put_printed : (text bare : Text) (pointer : Pointer) (printed : Bor ValueText) (value : Value) (o : Option RawValue) (made json : Text)
    → o ≡ None → read (string_bytes printed.now.flat) ≡ Some (view value)
    → IsStepped text bare (step.Replace pointer printed) made json → IsOperated text bare (operation.Replace (tokens pointer) value) o made json
put_printed text bare pointer printed value o made json is reads h =
    put text bare pointer printed value o made json reads
    (λ old new a.
    subst (λ (q : Option RawValue). ReplacesGiven old (tokens pointer) (view value) q new) (sym is)
    (replaces_value old new (tokens pointer) (string_bytes printed.now.flat) (view value) reads a, tt))
    h

-- ---- a value removed, copied or moved

pub removed : (text bare : Text) (pointer : Pointer) (o : Option RawValue) (made json : Text) → IsStepped text bare (step.Delete pointer) made json → IsOperated text bare (operation.Remove (tokens pointer)) o made json
removed text bare pointer o made json h = record {
  without = h.put.without;
  means = removes bare json (tokens pointer) (makes text bare (step.Delete pointer) made json h);
  bytes = edits_at (λ old new. DeletesBytes old (tokens pointer) new) text bare (step.Delete pointer) made json h h.bytes;
}

pub copied : (text bare : Text) (from path : Pointer) (printed : Bor ValueText) (v : Data) (o : Option RawValue) (made json : Text)
    → read (string_bytes printed.now.flat) ≡ Some v → FindsInText bare (tokens from) v
    → IsStepped text bare (step.Add path printed) made json → IsOperated text bare (operation.Copy (tokens from) (tokens path)) o made json
copied text bare from path printed v o made json reads found h = record {
  without = h.put.without;
  means = copies bare json (tokens from) (tokens path) (string_bytes printed.now.flat) (v, reads, found) (makes text bare (step.Add path printed) made json h);
  bytes = edits_at (λ old new. CopiesBytes old (tokens from) (tokens path) new) text bare (step.Add path printed) made json h
      (v, found, adds_value_at bare h.new (tokens path) (string_bytes printed.now.flat) v reads h.bytes);
}

pub moved : (text bare left rest : Text) (from path : Pointer) (printed : Bor ValueText) (v : Data) (o : Option RawValue) (made json : Text)
    → (IsProperPrefix (tokens from) (tokens path) → ⊥) → read (string_bytes printed.now.flat) ≡ Some v → FindsInText bare (tokens from) v
    → IsStepped text bare (step.Delete from) left rest → IsStepped left rest (step.Add path printed) made json
    → IsOperated text bare (operation.Move (tokens from) (tokens path)) o made json
moved text bare left rest from path printed v o made json apart reads found cut h = record {
  without = h.put.without;
  means = moves bare rest json (tokens from) (tokens path) (string_bytes printed.now.flat) apart (v, reads, found) (makes text bare (step.Delete from) left rest cut) (makes left rest (step.Add path printed) made json h);
  bytes = (
    v,
    left,
    edits_at (λ old new. FindsInText old (tokens from) v × DeletesBytes old (tokens from) new) text bare (step.Delete from) left rest cut (found, cut.bytes),
    edits_at (λ old new. AddsAtBytes old (tokens path) v new) left rest (step.Add path printed) made json h (adds_value_at rest h.new (tokens path) (string_bytes printed.now.flat) v reads h.bytes),
  );
}

-- ---- a test

pub tested : (text bare : Text) (ts path : List Text) (value : Value) (o : Option RawValue) → ts ≡ path → IsWithoutComments text bare → PassesInText bare ts (nodes (view value))
    → IsOperated text bare (operation.Test path value) o text bare
tested text bare ts path value o there was h = record { without = was; means = tests bare ts path value there h; bytes = refl }

-- ---- the same texts and the same operation by other names

pub stepped_at : (text bare text2 bare2 : Text) (s : Step) (made json : Text) → text2 ≡ text → bare2 ≡ bare → IsStepped text2 bare2 s made json → IsStepped text bare s made json
stepped_at text bare text2 bare2 s made json e f h = subst (λ (t : Text). IsStepped t bare s made json) e (subst (λ (b : Text). IsStepped text2 b s made json) f h)

abbrev pub Operated : Type 0
Operated = Result (Option TextsBuf) AllocError

pub operated_at : (text bare text2 bare2 : Text) (o o2 : Operation) (raw : Option RawValue) (r : Operated) → text2 ≡ text → bare2 ≡ bare → o2 ≡ o
    → IfOk r (λ m. IfSome m (λ s. IsOperated text2 bare2 o2 raw (string_bytes s.text) (string_bytes s.bare)))
    → IfOk r (λ m. IfSome m (λ s. IsOperated text bare o raw (string_bytes s.text) (string_bytes s.bare)))
operated_at text bare text2 bare2 o o2 raw r e f g h =
    subst (λ (t : Text). IfOk r (λ m. IfSome m (λ s. IsOperated t bare o raw (string_bytes s.text) (string_bytes s.bare)))) e
    (subst (λ (b : Text). IfOk r (λ m. IfSome m (λ s. IsOperated text2 b o raw (string_bytes s.text) (string_bytes s.bare)))) f
    (subst (λ (p : Operation). IfOk r (λ m. IfSome m (λ s. IsOperated text2 bare2 p raw (string_bytes s.text) (string_bytes s.bare)))) g h))
