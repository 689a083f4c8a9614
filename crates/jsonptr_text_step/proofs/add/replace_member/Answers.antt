use Rattle.std.proofs.Common.{List, [], ◌∷◌, ◌++◌, Option, String, IfSome, string_bytes, sym, subst}
use Rattle.std.specs.declared.alloc.Global.{Global}
use Rattle.jsonptr.specs.Text.{Text}
use Rattle.jsonptr.specs.Pointer.{tokens}
use Rattle.jsonptr_text_search.specs.Search.{choices}
use Rattle.jsonptr_text_search.specs.declared.selector.Selector.{Selector}
use Rattle.jsonptr_text_check.specs.Editing.{IsEdited}
use Rattle.jsonptr_text_step.specs.PrivateOperating.{AreMemberChoices}
use Rattle.jsonptr_text_step.specs.PrivateReaching.{IsValueEdit, SplicesAt}
use Rattle.jsonptr_text_step.specs.declared.replace.ValueChange.{ValueChange}
use Rattle.jsonptr_text_step.proofs.OperatingLemmas.{replaced_cut, adds_in_place_of}
use Rattle.jsonptr_text_step.proofs.BytesLemmas.{replaced_member, adds_there_at}
use Rattle.jsonptr_text_step.proofs.add.replace_member.Goals as goal

pub returns-clause-added : goal.returns-clause-added
returns-clause-added c =
    let old = c.args.site.now.text.now in
    let cut = c.in-Some.cut in
    let made = c.in-Some-2.made in
    let new = string_bytes c.in-Some-3.text in
    let front = tokens c.args.site.now.pointer in
    let x = c.args.token.now in
    let cs = choices c.deref.result.now in
    let flat = string_bytes c.args.printed.now.flat in
    let are = subst (λ (ss : List Selector). AreMemberChoices front x (choices ss)) (sym c.deref.ensures.value) c.in_ok-selectors.ensures in
    let is = subst (λ (o : Option ValueChange). IfSome o (IsValueEdit cut.middle.now flat)) c.in-Some-2.is c.in_ok-made.ensures in
    let edited = subst (λ (o : Option (String Global)). IfSome o (λ s. IsEdited cut.text.now (string_bytes s) cs made.change)) c.in-Some-3.is c.in_ok-text.ensures.edited in
    let reached = replaced_cut old cut.text.now new front x cs cut.middle.now flat made c.in-Some.ensures are is edited in
    adds_in_place_of old new front x cut.middle.now flat reached

pub returns-clause-bytes : goal.returns-clause-bytes
returns-clause-bytes c =
    let old = c.args.site.now.text.now in
    let cut = c.in-Some.cut in
    let made = c.in-Some-2.made in
    let new = string_bytes c.in-Some-3.text in
    let front = tokens c.args.site.now.pointer in
    let x = c.args.token.now in
    let cs = choices c.deref.result.now in
    let flat = string_bytes c.args.printed.now.flat in
    let are = subst (λ (ss : List Selector). AreMemberChoices front x (choices ss)) (sym c.deref.ensures.value) c.in_ok-selectors.ensures in
    let is = subst (λ (o : Option ValueChange). IfSome o (IsValueEdit cut.middle.now flat)) c.in-Some-2.is c.in_ok-made.ensures in
    let edited = subst (λ (o : Option (String Global)). IfSome o (λ s. IsEdited cut.text.now (string_bytes s) cs made.change)) c.in-Some-3.is c.in_ok-text.ensures.edited in
    let reached = replaced_cut old cut.text.now new front x cs cut.middle.now flat made c.in-Some.ensures are is edited in
    let piece = string_bytes made.piece in
    let path = choices c.in_ok-path.path.items in
    let put = subst (λ (o : Option (String Global)). IfSome o (λ s. SplicesAt (choices c.deref-3.result.now) cut.text.now (string_bytes s) cut.middle.now c.as_str.result.now)) c.in-Some-3.is c.in_ok-text.ensures.placed in
    let by_path = subst (λ (ss : List Selector). SplicesAt (choices ss) cut.text.now new cut.middle.now piece) c.deref-3.ensures.value (subst (λ (p : Text). SplicesAt (choices c.deref-3.result.now) cut.text.now new cut.middle.now p) c.as_str.ensures.value put) in
    let placed = subst (λ (t : Text). SplicesAt path t new cut.middle.now piece) c.in-Some.ensures by_path in
    adds_there_at old new (front ++ x ∷ []) flat (replaced_member old new front x cut.middle.now piece flat path c.in_ok-path.ensures placed reached is.trimmed is.reads is.same)
