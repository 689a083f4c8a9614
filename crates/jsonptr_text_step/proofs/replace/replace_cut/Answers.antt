use Rattle.std.proofs.Common.{List, Option, String, IfSome, string_bytes, subst}
use Rattle.std.specs.declared.alloc.Global.{Global}
use Rattle.jsonptr.specs.Text.{Text}
use Rattle.jsonptr.specs.Pointer.{tokens}
use Rattle.jsonptr_text_search.specs.Search.{choices}
use Rattle.jsonptr_text_search.specs.declared.selector.Selector.{Selector}
use Rattle.jsonptr_text_check.specs.Editing.{IsEdited}
use Rattle.jsonptr_text_step.specs.PrivateReaching.{IsValueEdit, SplicesAt}
use Rattle.jsonptr_text_step.specs.declared.replace.ValueChange.{ValueChange}
use Rattle.jsonptr_text_step.proofs.EditLemmas.{replaced_reaches}
use Rattle.jsonptr_text_step.proofs.BytesLemmas.{replaced, replaced_scalar}
use Rattle.jsonptr_text_step.proofs.replace.replace_cut.Goals as goal

pub returns-clause-reached : goal.returns-clause-reached
returns-clause-reached c =
    let old = c.args.cut.now.text.now in
    let middle = c.args.cut.now.middle.now in
    let flat = string_bytes c.args.printed.now.flat in
    let ts = tokens c.args.site.now.pointer in
    let cs = choices c.in_ok-selectors.selectors.items in
    let made = c.in-Some.made in
    let new = string_bytes c.in-Some-2.text in
    let is = subst (λ (o : Option ValueChange). IfSome o (IsValueEdit middle flat)) c.in-Some.is c.in_ok-made.ensures in
    let edited = subst (λ (o : Option (String Global)). IfSome o (λ s. IsEdited old (string_bytes s) (choices c.deref.result.now) made.change)) c.in-Some-2.is c.in_ok-text.ensures.edited in
    let reached = replaced_reaches old new ts cs middle flat made c.in_ok-selectors.ensures is (subst (λ (ss : List Selector). IsEdited old new (choices ss) made.change) c.deref.ensures.value edited) in
    reached

pub returns-clause-bytes : goal.returns-clause-bytes
returns-clause-bytes c =
    let old = c.args.cut.now.text.now in
    let middle = c.args.cut.now.middle.now in
    let flat = string_bytes c.args.printed.now.flat in
    let ts = tokens c.args.site.now.pointer in
    let cs = choices c.in_ok-selectors.selectors.items in
    let made = c.in-Some.made in
    let new = string_bytes c.in-Some-2.text in
    let is = subst (λ (o : Option ValueChange). IfSome o (IsValueEdit middle flat)) c.in-Some.is c.in_ok-made.ensures in
    let edited = subst (λ (o : Option (String Global)). IfSome o (λ s. IsEdited old (string_bytes s) (choices c.deref.result.now) made.change)) c.in-Some-2.is c.in_ok-text.ensures.edited in
    let reached = replaced_reaches old new ts cs middle flat made c.in_ok-selectors.ensures is (subst (λ (ss : List Selector). IsEdited old new (choices ss) made.change) c.deref.ensures.value edited) in
    let piece = string_bytes made.piece in
    let put = subst (λ (o : Option (String Global)). IfSome o (λ s. SplicesAt (choices c.deref-3.result.now) old (string_bytes s) middle c.as_str.result.now)) c.in-Some-2.is c.in_ok-text.ensures.placed in
    let placed = subst (λ (ss : List Selector). SplicesAt (choices ss) old new middle piece) c.deref-3.ensures.value (subst (λ (p : Text). SplicesAt (choices c.deref-3.result.now) old new middle p) c.as_str.ensures.value put) in
    replaced old new middle piece flat ts cs c.in_ok-selectors.ensures placed reached is.trimmed is.reads is.same

pub returns-clause-scalar : goal.returns-clause-scalar
returns-clause-scalar c = λ d reads scalar.
    let old = c.args.cut.now.text.now in
    let middle = c.args.cut.now.middle.now in
    let flat = string_bytes c.args.printed.now.flat in
    let ts = tokens c.args.site.now.pointer in
    let cs = choices c.in_ok-selectors.selectors.items in
    let made = c.in-Some.made in
    let new = string_bytes c.in-Some-2.text in
    let is = subst (λ (o : Option ValueChange). IfSome o (IsValueEdit middle flat)) c.in-Some.is c.in_ok-made.ensures in
    let edited = subst (λ (o : Option (String Global)). IfSome o (λ s. IsEdited old (string_bytes s) (choices c.deref.result.now) made.change)) c.in-Some-2.is c.in_ok-text.ensures.edited in
    let reached = replaced_reaches old new ts cs middle flat made c.in_ok-selectors.ensures is (subst (λ (ss : List Selector). IsEdited old new (choices ss) made.change) c.deref.ensures.value edited) in
    let piece = string_bytes made.piece in
    let put = subst (λ (o : Option (String Global)). IfSome o (λ s. SplicesAt (choices c.deref-3.result.now) old (string_bytes s) middle c.as_str.result.now)) c.in-Some-2.is c.in_ok-text.ensures.placed in
    let placed = subst (λ (ss : List Selector). SplicesAt (choices ss) old new middle piece) c.deref-3.ensures.value (subst (λ (p : Text). SplicesAt (choices c.deref-3.result.now) old new middle p) c.as_str.ensures.value put) in
    replaced_scalar old new middle piece flat ts cs d c.in_ok-selectors.ensures placed reached is.trimmed is.reads is.same reads scalar
