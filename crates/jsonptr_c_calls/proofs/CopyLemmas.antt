-- A result that is copied to a buffer, or is longer.
use Rattle.std.proofs.Common.{ℕ, Result, Ok, Err, IfErr, IfOk, MatchResult, OnOk}
use Rattle.jsonptr_c_calls.specs.Failures.{LacksRoom}
use Rattle.jsonptr_c_calls.specs.declared.call_error.CallError.{CallError}

pub if_short : (r : Result ℕ CallError) (A : ℕ → Type 0) (B P : CallError → Type 0) (needed room : ℕ) → MatchResult r A (λ e. LacksRoom needed room e × B e) → ((e : CallError) → LacksRoom needed room e → P e) → IfErr r P
if_short (Ok n) A B P needed room h f = tt
if_short (Err e) A B P needed room h f = f e h.0

pub if_err : (r : Result ℕ CallError) (P Q : CallError → Type 0) → IfErr r P → ((e : CallError) → P e → Q e) → IfErr r Q
if_err (Ok n) P Q h f = tt
if_err (Err e) P Q h f = f e h

-- what a fact on the value of an `Ok`, and one on each success, imply
pub if_ok_held : (r : Result ℕ CallError) (P R : ℕ → Type 0) (S : Type 0) → ((n : ℕ) → P n → S → R n) → IfOk r P → OnOk r S → IfOk r R
if_ok_held (Ok n) P R S f p s = f n p s
if_ok_held (Err e) P R S f p s = tt
