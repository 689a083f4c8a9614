-- No message is longer than 200 bytes.
use Rattle.std.proofs.Common.{◌≡◌, ℕ, ◌+◌, ◌^◌, ◌<◌, ◌≤◌, ◌==◌, ◌&&◌, ◌||◌, Bool, true, false, List, ◌++◌, length, arith, length-append, lit≤, lit<, refl, if◌then◌else◌}
use Rattle.std.specs.Prelude.{codes, decimal}
use Rattle.std.proofs.lemmas.Fmt.{length-decimal-le}
use Rattle.jsonptr_c_calls.specs.declared.error_numbers.TheConstants as number
use Rattle.jsonptr_c_calls.specs.declared.error_numbers.ErrorRecord.{ErrorRecord}
use Rattle.jsonptr_c_calls.specs.Messages.{HasMessageNumbers, fault_message, document_message, fixed_message, fragment_fault, member_name, message_of, message_room}

-- one of two short texts
either : (room : ℕ) (b : Bool) (x y : List ℕ) → length x ≤ room → length y ≤ room → length (if b then x else y) ≤ room
either room true x y one other = one
either room false x y one other = other

-- a number has at most 20 digits
digits : (n : ℕ) → n < 2 ^ 64 → length (decimal n) ≤ 20
digits n low =
    let most : 2 ^ 64 ≤ 10 ^ 20 = lit≤ tt in
    let ten : n < 10 ^ 20 = omega (arith, low, most) in
    length-decimal-le 20 n (lit< tt) ten low

-- a text before and after a number
around : (room : ℕ) (x y : List ℕ) (n : ℕ) → n < 2 ^ 64 → length x + 20 + length y ≤ room → length (x ++ decimal n ++ y) ≤ room
around room x y n low most =
    let all : length (x ++ decimal n ++ y) ≡ length (x ++ decimal n) + length y = length-append (x ++ decimal n) y in
    let start : length (x ++ decimal n) ≡ length x + length (decimal n) = length-append x (decimal n) in
    let number : length (decimal n) ≤ 20 = digits n low in
    omega (arith, all, start, number, most)

cause_short : (kind slash : ℕ) → slash < 2 ^ 64 → length (fault_message kind slash) ≤ 125
cause_short kind slash low =
    either 125 (kind == number.KIND_NO_LEADING_SLASH) _ _ (lit≤ tt)
    (either 125 (kind == number.KIND_BAD_ESCAPE) _ _ (around 125 (codes "json pointer failed to parse; the first token in the partial-pointer starting at offset ") (codes " is malformed") slash low (lit≤ tt))
    (either 125 (kind == number.KIND_NOT_AN_INDEX) _ _ (around 125 (codes "resolve failed: json pointer token at offset ") (codes " failed to parse as an index") slash low (lit≤ tt))
    (either 125 (kind == number.KIND_OUT_OF_BOUNDS) _ _ (around 125 (codes "resolve failed: json pointer token at offset ") (codes " is out of bounds") slash low (lit≤ tt))
    (either 125 (kind == number.KIND_NO_MEMBER) _ _ (around 125 (codes "resolve failed: json pointer token at ") (codes " was not found in value") slash low (lit≤ tt))
    (either 125 (kind == number.KIND_NO_CHILDREN) _ _ (around 125 (codes "resolve failed: json pointer token at ") (codes " is unreachable (previous token resolved to a scalar or null value)") slash low (lit≤ tt))
    (either 125 (kind == number.KIND_NOT_A_NEW_INDEX) _ _ (around 125 (codes "assign failed: json pointer token at offset ") (codes " failed to parse as an array index") slash low (lit≤ tt))
    (either 125 (kind == number.KIND_INDEX_ABOVE_LENGTH) _ _ (around 125 (codes "assign failed: json pointer token at offset ") (codes " is out of bounds") slash low (lit≤ tt))
    (either 125 (kind == number.KIND_MOVE_INTO_SELF) _ _ (lit≤ tt)
    (either 125 (kind == number.KIND_TEST_FLOAT) _ _ (lit≤ tt)
    (either 125 (kind == number.KIND_TEST_FAILED) _ _ (lit≤ tt)
    (either 125 (kind == number.KIND_NOTHING_THERE) _ _ (lit≤ tt)
    (either 125 (kind == number.KIND_NOT_A_MEMBER) _ _ (lit≤ tt)
    (either 125 (kind == number.KIND_KEY_TAKEN) _ _ (lit≤ tt) (lit≤ tt))))))))))))))

-- a text that is not a pointer
parse_short : (kind slash : ℕ) → slash < 2 ^ 64 → ((kind == number.KIND_NO_LEADING_SLASH) || (kind == number.KIND_BAD_ESCAPE)) ≡ true → length (fault_message kind slash) ≤ 121
parse_short kind slash low is = go (kind == number.KIND_NO_LEADING_SLASH) (kind == number.KIND_BAD_ESCAPE) _ is
  where
    go : (a b : Bool) (rest : List ℕ) → (a || b) ≡ true → length (if a then codes "json pointer failed to parse; does not start with a slash ('/') and is not empty" else if b then codes "json pointer failed to parse; the first token in the partial-pointer starting at offset " ++ decimal slash ++ codes " is malformed" else rest) ≤ 121
    go true b rest is = lit≤ tt
    go false true rest is = around 121 (codes "json pointer failed to parse; the first token in the partial-pointer starting at offset ") (codes " is malformed") slash low (lit≤ tt)
    go false false rest is = let no : ⊥ = cc in absurd no

member_short : (m : ℕ) → length (member_name m) ≤ 5
member_short m =
    either 5 (m == number.MEMBER_OP) _ _ (lit≤ tt)
    (either 5 (m == number.MEMBER_PATH) _ _ (lit≤ tt)
    (either 5 (m == number.MEMBER_FROM) _ _ (lit≤ tt) (lit≤ tt)))

-- a text on a member of an operation, and one after it
of_member : (room : ℕ) (m n : ℕ) (y : List ℕ) → n < 2 ^ 64 → 48 + length y ≤ room → length (codes "member `" ++ member_name m ++ codes "` of operation " ++ decimal n ++ y) ≤ room
of_member room m n y low most =
    let start = codes "member `" ++ member_name m ++ codes "` of operation " in
    let all : length (start ++ decimal n ++ y) ≤ length start + 20 + length y = around (length start + 20 + length y) start y n low (omega arith) in
    let one : length start ≡ length (codes "member `" ++ member_name m) + length (codes "` of operation ") = length-append (codes "member `" ++ member_name m) (codes "` of operation ") in
    let two : length (codes "member `" ++ member_name m) ≡ length (codes "member `") + length (member_name m) = length-append (codes "member `") (member_name m) in
    let name : length (member_name m) ≤ 5 = member_short m in
    let left : length (codes "member `") ≤ 8 = lit≤ tt in
    let right : length (codes "` of operation ") ≤ 15 = lit≤ tt in
    omega (arith, all, one, two, name, left, right, most)

document_short : (r : ErrorRecord) → HasMessageNumbers r → length (document_message r) ≤ 171
document_short r fits =
    either 171 (r.kind == number.KIND_NOT_AN_ARRAY) _ _ (lit≤ tt)
    (either 171 (r.kind == number.KIND_NOT_AN_OBJECT) _ _ (around 171 (codes "operation ") (codes " is not an object") r.operation fits.0 (lit≤ tt))
    (either 171 (r.kind == number.KIND_NO_SUCH_MEMBER) _ _ missing
    (either 171 (r.kind == number.KIND_NOT_A_STRING) _ _ (of_member 171 r.member r.operation (codes " is not a string") fits.0 (lit≤ tt))
    (either 171 (r.kind == number.KIND_UNKNOWN_OP) _ _ (around 171 (codes "member `op` of operation ") (codes " is not an operation") r.operation fits.0 (lit≤ tt)) (go ((r.kind == number.KIND_NO_LEADING_SLASH) || (r.kind == number.KIND_BAD_ESCAPE)) (parse_short r.kind r.slash fits.1))))))
  where
    missing : length (codes "operation " ++ decimal r.operation ++ codes " has no member `" ++ member_name r.member ++ codes "`") ≤ 171
    missing =
        let start = codes "operation " ++ decimal r.operation ++ codes " has no member `" in
        let all : length (start ++ member_name r.member ++ codes "`") ≡ length (start ++ member_name r.member) + length (codes "`") = length-append (start ++ member_name r.member) (codes "`") in
        let one : length (start ++ member_name r.member) ≡ length start + length (member_name r.member) = length-append start (member_name r.member) in
        let number : length start ≤ 60 = around 60 (codes "operation ") (codes " has no member `") r.operation fits.0 (lit≤ tt) in
        let name : length (member_name r.member) ≤ 5 = member_short r.member in
        let end : length (codes "`") ≤ 1 = lit≤ tt in
        omega (arith, all, one, number, name, end)

    go : (b : Bool) → (b ≡ true → length (fault_message r.kind r.slash) ≤ 121) → length (if b then codes "member `" ++ member_name r.member ++ codes "` of operation " ++ decimal r.operation ++ codes ": " ++ fault_message r.kind r.slash else codes "unknown kind") ≤ 171
    go true cause =
        let start = codes "member `" ++ member_name r.member ++ codes "` of operation " ++ decimal r.operation ++ codes ": " in
        let all : length (start ++ fault_message r.kind r.slash) ≡ length start + length (fault_message r.kind r.slash) = length-append start (fault_message r.kind r.slash) in
        let one : length start ≤ 50 = of_member 50 r.member r.operation (codes ": ") fits.0 (lit≤ tt) in
        let two : length (fault_message r.kind r.slash) ≤ 121 = cause refl in
        omega (arith, all, one, two)
    go false cause = lit≤ tt

fixed_short : (status : ℕ) → length (fixed_message status) ≤ 200
fixed_short status =
    either 200 (status == number.OK) _ _ (lit≤ tt)
    (either 200 (status == number.NO_MEMORY) _ _ (lit≤ tt)
    (either 200 (status == number.NO_ROOM) _ _ (lit≤ tt)
    (either 200 (status == number.BAD_ARGUMENT) _ _ (lit≤ tt)
    (either 200 (status == number.NO_DOCUMENT) _ _ (lit≤ tt)
    (either 200 (status == number.NOT_UTF8) _ _ (lit≤ tt)
    (either 200 (status == number.NOT_JSON) _ _ (lit≤ tt)
    (either 200 (status == number.NO_TOKEN) _ _ (lit≤ tt)
    (either 200 (status == number.OTHER_TYPE) _ _ (lit≤ tt)
    (either 200 (status == number.NOT_LOCATED) _ _ (lit≤ tt)
    (either 200 (status == number.TOO_DEEP) _ _ (lit≤ tt)
    (either 200 (status == number.NOT_IN_PLACE) _ _ (lit≤ tt)
    (either 200 (status == number.NOT_TOML) _ _ (lit≤ tt)
    (either 200 (status == number.NOT_TOML_VALUE) _ _ (lit≤ tt)
    (either 200 (status == number.OTHER_FORMAT) _ _ (lit≤ tt) (lit≤ tt)))))))))))))))

-- a text before another one
before : (room : ℕ) (x y : List ℕ) → length x + length y ≤ room → length (x ++ y) ≤ room
before room x y most = let all : length (x ++ y) ≡ length x + length y = length-append x y in omega (arith, all, most)

fragment_short : (r : ErrorRecord) → HasMessageNumbers r → length (fragment_fault r) ≤ 151
fragment_short r numbers =
    let offset : length (decimal r.offset) ≤ 20 = digits r.offset numbers.2 in
    let byte : length (codes "a byte that must be percent-encoded at byte ") ≤ 44 = lit≤ tt in
    let percent : length (codes "`%` without two hexadecimal digits at byte ") ≤ 43 = lit≤ tt in
    let utf8 : length (codes "not UTF-8 at byte ") ≤ 18 = lit≤ tt in
    either 151 (r.kind == number.KIND_NO_HASH) _ _ (lit≤ tt)
    (either 151 (r.kind == number.KIND_BAD_BYTE) _ _ (before 151 (codes "a byte that must be percent-encoded at byte ") (decimal r.offset) (omega (arith, offset, byte)))
    (either 151 (r.kind == number.KIND_BAD_PERCENT) _ _ (before 151 (codes "`%` without two hexadecimal digits at byte ") (decimal r.offset) (omega (arith, offset, percent)))
    (either 151 (r.kind == number.KIND_ENCODED_NOT_UTF8) _ _ (before 151 (codes "not UTF-8 at byte ") (decimal r.offset) (omega (arith, offset, utf8))) (go ((r.kind == number.KIND_NO_LEADING_SLASH) || (r.kind == number.KIND_BAD_ESCAPE)) (parse_short r.kind r.slash numbers.1)))))
  where
    go : (b : Bool) → (b ≡ true → length (fault_message r.kind r.slash) ≤ 121) → length (if b then fault_message r.kind r.slash ++ codes ", at byte " ++ decimal r.offset else codes "unknown kind") ≤ 151
    go true cause =
        let start = fault_message r.kind r.slash ++ codes ", at byte " in
        let all : length (start ++ decimal r.offset) ≡ length start + length (decimal r.offset) = length-append start (decimal r.offset) in
        let one : length start ≡ length (fault_message r.kind r.slash) + length (codes ", at byte ") = length-append (fault_message r.kind r.slash) (codes ", at byte ") in
        let two : length (fault_message r.kind r.slash) ≤ 121 = cause refl in
        let three : length (codes ", at byte ") ≤ 10 = lit≤ tt in
        let four : length (decimal r.offset) ≤ 20 = digits r.offset numbers.2 in
        omega (arith, all, one, two, three, four)
    go false cause = lit≤ tt

pub message_short : (r : ErrorRecord) → HasMessageNumbers r → length (message_of r) ≤ message_room
message_short r fits =
    let cause : length (fault_message r.kind r.slash) ≤ 125 = cause_short r.kind r.slash fits.1 in
    let place : length (codes "patch failed at operation " ++ decimal r.operation ++ codes ": ") ≤ 75 = around 75 (codes "patch failed at operation ") (codes ": ") r.operation fits.0 (lit≤ tt) in
    let document : length (document_message r) ≤ 171 = document_short r fits in
    let start : length (codes "not a JSON Patch document: ") ≤ 27 = lit≤ tt in
    let hash : length (codes "not a URI fragment of a JSON Pointer: ") ≤ 38 = lit≤ tt in
    let fragment : length (fragment_fault r) ≤ 151 = fragment_short r fits in
    let at : length (codes "no value is at offset ") ≤ 22 = lit≤ tt in
    let offset : length (decimal r.offset) ≤ 20 = digits r.offset fits.2 in
    either 200 ((r.status == number.NOT_POINTER) || ((r.status == number.NOT_FOUND) || ((r.status == number.NOT_ASSIGNED) || (r.status == number.NOT_RENAMED)))) _ _ (omega (arith, cause))
    (either 200 (r.status == number.NOT_PATCH) _ _ (before 200 (codes "not a JSON Patch document: ") (document_message r) (omega (arith, start, document)))
    (either 200 (r.status == number.PATCH_FAILED) _ _ (before 200 (codes "patch failed at operation " ++ decimal r.operation ++ codes ": ") (fault_message r.kind r.slash) (omega (arith, place, cause)))
    (either 200 (r.status == number.NOT_FRAGMENT) _ _ (before 200 (codes "not a URI fragment of a JSON Pointer: ") (fragment_fault r) (omega (arith, hash, fragment)))
    (either 200 (r.status == number.NOT_EXACT) _ _ (around 200 (codes "the number at offset ") (codes " loses digits") r.offset fits.2 (lit≤ tt))
    (either 200 (r.status == number.NO_VALUE) _ _ (before 200 (codes "no value is at offset ") (decimal r.offset) (omega (arith, at, offset)))
    (either 200 ((r.status == number.TOO_DEEP) && (r.kind == number.KIND_INVERSE_TOO_DEEP)) _ _ (lit≤ tt)
    (either 200 ((r.status == number.TOO_DEEP) && (r.kind == number.KIND_TEXT_TOO_DEEP)) _ _ (lit≤ tt)
    (either 200 ((r.status == number.TOO_DEEP) && (r.kind == number.KIND_TOML_TOO_DEEP)) _ _ (lit≤ tt)
    (either 200 ((r.status == number.NOT_TOML_VALUE) && (r.kind == number.KIND_NO_TOML_TEXT)) _ _ (lit≤ tt)
    (either 200 ((r.status == number.NOT_JSON) && (r.kind == number.KIND_OPEN_COMMENT)) _ _ (lit≤ tt) (fixed_short r.status)))))))))))
