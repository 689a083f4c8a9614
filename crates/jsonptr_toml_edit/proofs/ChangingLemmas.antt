-- From a change of a document to the text that is child, and to the error if none is.
use Rattle.std.proofs.Common.{◌≡◌, ℕ, ◌<◌, ◌≤◌, inr, suc, length, Bool, false, List, IsTrue, sym, subst, ◌∙◌, arith, true≢false}
use Rattle.toml.specs.Data.{Data}
use Rattle.jsonptr.specs.Text.{Text}
use Rattle.toml_parser.specs.Strings.{recursion_limit as max_depth}
use Rattle.jsonptr.specs.TomlValue.{HasSortedKeys}
use Rattle.jsonptr.proofs.TomlCalling.{ascends_read_document}
use Rattle.jsonptr_toml.specs.InToml.{ReadsAsToml, AssignsTo, DeletesTo, PrintsAs, AssignsAndPrintsToml, DeletesAndPrintsToml, IsReadTomlError, IsPrintTomlError}
use Rattle.jsonptr_toml.specs.Errors.{edit_toml_of_read, edit_toml_of_print}
use Rattle.jsonptr_toml.specs.declared.error.ReadTomlError.{ReadTomlError}
use Rattle.jsonptr_toml.specs.declared.error.ReadTomlError.TheVariants as reading
use Rattle.jsonptr_toml.specs.declared.error.PrintTomlError.{PrintTomlError}
use Rattle.jsonptr_toml.specs.declared.error.PrintTomlError.TheVariants as printing
use Rattle.jsonptr_toml_edit.specs.Failing.{AssignsInOrder, DeletesInOrder, IsAssignInTomlError, IsDeleteInTomlError}
use Rattle.jsonptr_text_step.specs.EditInText.{edited_text}
use Rattle.jsonptr_toml_edit.specs.EditInToml.{DeletesInToml, IsPrinted}
use Rattle.jsonptr_text_step.specs.declared.stepped.Stepped.{Stepped}
use Rattle.jsonptr_text_step.specs.declared.stepped.Stepped.TheVariants.{InPlace, Rewritten}

pub deletes_then : (text : Text) (ts : List Text) (d2 : Data) (e : Stepped) → DeletesTo text ts d2 → ReadsAsToml (edited_text e) d2 → DeletesInToml text ts (edited_text e)
deletes_then text ts d2 e made h = (made.0, d2, made.1, h, made.2, made.3)

pub assigned_print : (text : Text) (ts : List Text) (v d2 : Data) (e : Stepped) → AssignsTo text ts v d2 → IsPrinted (PrintsAs d2) e → IsPrinted (AssignsAndPrintsToml text ts v) e
assigned_print text ts v d2 (InPlace s) made h = tt
assigned_print text ts v d2 (Rewritten s) made h = (d2, made, h)

pub deleted_print : (text : Text) (ts : List Text) (d2 : Data) (e : Stepped) → DeletesTo text ts d2 → IsPrinted (PrintsAs d2) e → IsPrinted (DeletesAndPrintsToml text ts) e
deleted_print text ts d2 (InPlace s) made h = tt
deleted_print text ts d2 (Rewritten s) made h = (d2, made, h)

-- each document that is read has sorted keys
pub reads_in_order : (text : Text) (d : Data) → ReadsAsToml text d → HasSortedKeys d
reads_in_order text d reads = subst HasSortedKeys (sym reads.2) (ascends_read_document text reads.0 reads.1)

-- a test that says no
pub refuted : (P : Type 0) (b : Bool) → (P → IsTrue b) → b ≡ false → P → ⊥
refuted P b says denied h = true≢false (sym (says h) ∙ denied)

pub not_more : (n m : ℕ) → (n < m → ⊥) → m ≤ n
not_more n m h = omega (arith, h)

pub unread_to_assign : (text : Text) (ts : List Text) (v : Data) (e : ReadTomlError) → IsReadTomlError text e → IsAssignInTomlError text ts v (edit_toml_of_read e)
unread_to_assign text ts v reading.NotToml h = h
unread_to_assign text ts v reading.DocumentTooDeep h = h
unread_to_assign text ts v (reading.Memory f) h = tt

pub unprinted_after_assign : (text : Text) (ts : List Text) (v d2 : Data) (e : PrintTomlError) → length ts ≤ suc max_depth → AssignsInOrder text ts v d2 → IsPrintTomlError d2 e → IsAssignInTomlError text ts v (edit_toml_of_print e)
unprinted_after_assign text ts v d2 printing.TooDeep short made h = inr (d2, made, h)
unprinted_after_assign text ts v d2 printing.NoText short made h = (short, (d2, made, h))
unprinted_after_assign text ts v d2 (printing.Memory f) short made h = tt

pub unread_to_delete : (text : Text) (ts : List Text) (e : ReadTomlError) → IsReadTomlError text e → IsDeleteInTomlError text ts (edit_toml_of_read e)
unread_to_delete text ts reading.NotToml h = h
unread_to_delete text ts reading.DocumentTooDeep h = h
unread_to_delete text ts (reading.Memory f) h = tt

pub unprinted_after_delete : (text : Text) (ts : List Text) (d2 : Data) (e : PrintTomlError) → DeletesInOrder text ts d2 → IsPrintTomlError d2 e → IsDeleteInTomlError text ts (edit_toml_of_print e)
unprinted_after_delete text ts d2 printing.TooDeep made h = (d2, made, h)
unprinted_after_delete text ts d2 printing.NoText made h = (d2, made, h)
unprinted_after_delete text ts d2 (printing.Memory f) made h = tt
