use Rattle.std.proofs.Common.{◌≡◌, List, [], ◌∷◌, length, suc, Result, Ok, Err, IfErr, None, refl, sym, ap, ◌∙◌, ◌-◌, subst, arith}
use Rattle.json.specs.Lex.{tokens}
use Rattle.json.specs.Reads.{token_of}
use Rattle.json.specs.Token.{Token, begin_array}
use Rattle.serde_json.specs.Data.{array}
use Rattle.serde_json.specs.Read.{max_depth, read}
use Rattle.jsonptr.specs.Text.{Text}
use Rattle.jsonptr_value.specs.Reading.{IsReadError}
use Rattle.jsonptr_value.specs.declared.from_text.ReadError.{ReadError}
use Rattle.jsonptr_value.specs.declared.from_text.ReadError.TheVariants.{NotJson, Memory}
use Rattle.jsonptr_text_search.specs.Reading.{ReadsItems}
use Rattle.jsonptr_text_search.proofs.ReadingLemmas.{reads_array, unreadable_array, whole_read, whole_and_more, whole_unreadable}
use Rattle.jsonptr_text_search.proofs.TokenCount.{tokens_few}
use Rattle.jsonptr_text_paths.proofs.text_listing.list_in_text.Goals as goal

-- an error is why the text is not read, if the text is not JSON where the error says so
why_not : {T : Type 0} (text : Text) (r : Result T ReadError) → (r ≡ Err NotJson → read text ≡ None) → IfErr r (IsReadError text)
why_not text (Ok v) h = tt
why_not text (Err NotJson) h = h refl
why_not text (Err (Memory e)) h = tt

pub list_elements-requires : goal.list_elements-requires
list_elements-requires c =
    let same : length c.in_ok-reader.reader ≡ length (tokens c.args.text.now) = ap (λ ts. length ts) c.in_ok-reader.ensures.ok in
    let opens : length c.in_ok-reader.reader ≡ suc (length c.next.new.self) = ap (λ ts. length ts) c.in-Some-BeginArray.ensures.value in
    record { few = omega (arith, tokens_few c.args.text.now, same, opens) }

pub returns-in_err-lines-in-Some-BeginArray-clause-refused : goal.returns-in_err-lines-in-Some-BeginArray-clause-refused
returns-in_err-lines-in-Some-BeginArray-clause-refused c = why_not c.args.text.now _ (λ e.
    whole_unreadable c.args.text.now c.in_ok-reader.reader (sym c.in_ok-reader.ensures.ok)
    (unreadable_array 127 c.in_ok-reader.reader c.next.new.self (omega arith) (c.in-Some-BeginArray.ensures.value ∙ ap (λ k. token_of k ∷ c.next.new.self) c.in-Some-BeginArray.field-0-is)
    (c.in_err-lines-in-Some-BeginArray.ensures.refused (grind (arith, e, c.from_residual-in_err-lines-in-Some-BeginArray.ensures)))))

pub returns-in-None-clause-listed : goal.returns-in-None-clause-listed
returns-in-None-clause-listed c =
    let r = c.in_ok-lines-in-Some-BeginArray.ensures.listed in
    let end : c.list_elements.new.reader ≡ [] = c.in-None.ensures.value.0 in
    let opens : c.in_ok-reader.reader ≡ begin_array ∷ c.next.new.self = c.in-Some-BeginArray.ensures.value ∙ ap (λ k. token_of k ∷ c.next.new.self) c.in-Some-BeginArray.field-0-is in
    let all : ReadsItems (max_depth - 1) c.next.new.self r.0 [] = subst (λ (ts : List Token). ReadsItems (max_depth - 1) c.next.new.self r.0 ts) end r.1 in
    (array r.0, whole_read c.args.text.now (array r.0) c.in_ok-reader.reader (sym c.in_ok-reader.ensures.ok) (reads_array 127 c.in_ok-reader.reader c.next.new.self [] r.0 (omega arith) opens all), r.2)

pub returns-in-Some-BeginArray-clause-refused : goal.returns-in-Some-BeginArray-clause-refused
returns-in-Some-BeginArray-clause-refused c =
    let r = c.in_ok-lines-in-Some-BeginArray.ensures.listed in
    let more : c.list_elements.new.reader ≡ token_of c.in-Some.field-0 ∷ c.next-in-Some-BeginArray.new.self = c.in-Some.ensures.value in
    let opens : c.in_ok-reader.reader ≡ begin_array ∷ c.next.new.self = c.in-Some-BeginArray.ensures.value ∙ ap (λ k. token_of k ∷ c.next.new.self) c.in-Some-BeginArray.field-0-is in
    let all : ReadsItems (max_depth - 1) c.next.new.self r.0 (token_of c.in-Some.field-0 ∷ c.next-in-Some-BeginArray.new.self) = subst (λ (ts : List Token). ReadsItems (max_depth - 1) c.next.new.self r.0 ts) more r.1 in
    whole_and_more c.args.text.now (array r.0) c.in_ok-reader.reader (token_of c.in-Some.field-0) c.next-in-Some-BeginArray.new.self (sym c.in_ok-reader.ensures.ok) (reads_array 127 c.in_ok-reader.reader c.next.new.self (token_of c.in-Some.field-0 ∷ c.next-in-Some-BeginArray.new.self) r.0 (omega arith) opens all)
