-- What is appended to a stream by one call after another.
use Rattle.std.proofs.Common.{ℕ, List, length, take, Option, Result, Ok, Err, OnErr, sym, subst}
use Rattle.std.specs.Io.KnownBytes.{Appends, Keeps}
use Rattle.std.proofs.KnownBytes.{Appends-kept}
use Rattle.std.proofs.Math.Seq.{take-length}
use Rattle.jsonptr_io.specs.Streams.{AppendsPrefix}

pub on_err_from : {T E P : Type 0} (r : Result T E) → P → OnErr r P
on_err_from (Ok v) p = tt
on_err_from (Err e) p = p

pub prefix_all : (a b : Option (List ℕ)) (bs : List ℕ) → Appends a b bs → AppendsPrefix a b bs
prefix_all a b bs h = (length bs, subst (Appends a b) (sym (take-length bs)) h)

pub prefix_kept : (a b c : Option (List ℕ)) (bs : List ℕ) → AppendsPrefix a b bs → Keeps b c → AppendsPrefix a c bs
prefix_kept a b c bs h k = (h.0, Appends-kept a b c (take h.0 bs) h.1 k)
