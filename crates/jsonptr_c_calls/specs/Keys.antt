-- The keys of an object, one after another.
use Rattle.std.specs.Prelude.{◌≡◌, ◌⊎◌, ℕ, IsSome, IsUtf8, List, [], ◌∷◌, MatchOption, None, Option, length, take}
use Rattle.std.specs.Ordering.{nat_cmp}
use Rattle.std.specs.Cmp.Lexicographic.{slice_cmp}
use Rattle.core.specs.declared.cmp.Ordering.TheVariants.{Less}
use Rattle.serde_json.specs.Data.{Data}
use Rattle.serde_json.specs.Find.{as_object, get}
use Rattle.serde_json.specs.View.{view}
use Rattle.jsonptr_c_calls.specs.Failures.{FailsOnHandle, IsNotUtf8, IsOutOfMemory, LacksRoom, Unfound}
use Rattle.jsonptr_c_calls.specs.Values.{FindsAtPointer}
use Rattle.jsonptr_c_calls.specs.declared.handle.Handle.{Handle}
use Rattle.jsonptr_c_calls.specs.declared.call_error.Argument.TheVariants as argument
use Rattle.jsonptr_c_calls.specs.declared.call_error.CallError.{CallError}
use Rattle.jsonptr_c_calls.specs.declared.call_error.CallError.TheVariants.{OtherType}

-- `IsObject d`: the value `d` is an object
abbrev pub IsObject : Data → Type 0
IsObject d = IsSome (as_object d)

-- `HasKey d k`: the value `d` is an object, and `k` is the key of one of its members
abbrev pub HasKey : Data → List ℕ → Type 0
HasKey d k = IsSome (get k d)

-- `IsLess k l`: the key `k` is less than `l`: at the first byte in which they differ, or as a prefix of it
abbrev pub IsLess : List ℕ → List ℕ → Type 0
IsLess k l = slice_cmp nat_cmp k l ≡ Less

-- `IsFirstKey d k`: `k` is a key of the object `d`, and no key of it is less
pub record IsFirstKey (d : Data) (k : List ℕ) : Type 0 where
  pub key : HasKey d k
  pub least : (l : List ℕ) → HasKey d l → IsLess l k → ⊥

-- `HasNoKey d`: the object `d` has no key
pub record HasNoKey (d : Data) : Type 0 where
  pub object : IsObject d
  pub none : (l : List ℕ) → HasKey d l → ⊥

-- `IsNextKey d k n`: `n` is a key of the object `d` that is greater than `k`, and no key of it is between the two
pub record IsNextKey (d : Data) (k n : List ℕ) : Type 0 where
  pub key : HasKey d n
  pub greater : IsLess k n
  pub least : (l : List ℕ) → HasKey d l → IsLess k l → IsLess l n → ⊥

-- `HasNoNextKey d k`: the object `d` has no key that is greater than `k`
pub record HasNoNextKey (d : Data) (k : List ℕ) : Type 0 where
  pub object : IsObject d
  pub none : (l : List ℕ) → HasKey d l → IsLess k l → ⊥

-- `VisitsAfter d k ks`: `ks` are the keys of the object `d` after `k`, one after another up to the last one
abbrev pub VisitsAfter : Data → List ℕ → List (List ℕ) → Type 0
VisitsAfter d k [] = HasNoNextKey d k
VisitsAfter d k (n ∷ ns) = IsNextKey d k n × VisitsAfter d n ns

-- `Visits d ks`: `ks` are the first key of the object `d`, the next key after it, and so on up to the last one
abbrev pub Visits : Data → List (List ℕ) → Type 0
Visits d [] = HasNoKey d
Visits d (k ∷ ks) = IsFirstKey d k × VisitsAfter d k ks

-- ---- At a pointer

-- `FindsFirstKey d bytes k`: the pointer `bytes` resolves to an object of the document `d` whose least key is `k`
abbrev pub FindsFirstKey : Data → List ℕ → List ℕ → Type 0
FindsFirstKey d bytes k = (v : Data) × FindsAtPointer d bytes v × IsFirstKey v k

-- `FindsNoKey d bytes`: the pointer `bytes` resolves to an object of the document `d` that has no member
abbrev pub FindsNoKey : Data → List ℕ → Type 0
FindsNoKey d bytes = (v : Data) × FindsAtPointer d bytes v × HasNoKey v

-- `FindsNextKey d bytes k n`: the pointer `bytes` resolves to an object of the document `d` whose least key after `k` is `n`
abbrev pub FindsNextKey : Data → List ℕ → List ℕ → List ℕ → Type 0
FindsNextKey d bytes k n = (v : Data) × FindsAtPointer d bytes v × IsNextKey v k n

-- `FindsNoNextKey d bytes k`: the pointer `bytes` resolves to an object of the document `d` that has no key after `k`
abbrev pub FindsNoNextKey : Data → List ℕ → List ℕ → Type 0
FindsNoNextKey d bytes k = (v : Data) × FindsAtPointer d bytes v × HasNoNextKey v k

-- `CopiesFirstKey d bytes found out`: the least key of that object is in the first bytes of `out`, as many as `found` says, or it
-- has no key, and `found` is `None`
abbrev pub CopiesFirstKey : Data → List ℕ → Option ℕ → List ℕ → Type 0
CopiesFirstKey d bytes found out = MatchOption found (FindsNoKey d bytes) (λ n. FindsFirstKey d bytes (take n out))

-- `CopiesNextKey d bytes k found out`: the same of its least key after `k`
abbrev pub CopiesNextKey : Data → List ℕ → List ℕ → Option ℕ → List ℕ → Type 0
CopiesNextKey d bytes k found out =
    MatchOption found (FindsNoNextKey d bytes k) (λ n. FindsNextKey d bytes k (take n out))

-- ---- Errors

-- `IsNoObject d bytes e`: the pointer `bytes` does not resolve to an object of the document `d`, and `e` reports why
abbrev pub IsNoObject : Data → List ℕ → CallError → Type 0
IsNoObject d bytes e =
    Unfound d bytes e
    ⊎ ((v : Data) × IsUtf8 bytes × FindsAtPointer d bytes v × (as_object v ≡ None) × (e ≡ OtherType))

-- `IsNoFirstKey d bytes room e`: the pointer `bytes` does not resolve to an object of the document `d`, or its least key is
-- longer than `room` bytes, and `e` reports that
abbrev pub IsNoFirstKey : Data → List ℕ → ℕ → CallError → Type 0
IsNoFirstKey d bytes room e =
    IsNoObject d bytes e
    ⊎ ((k : List ℕ) × IsUtf8 bytes × FindsFirstKey d bytes k × LacksRoom (length k) room e)

-- `LacksNextKey d bytes k room e`: the same of its least key after `k`
abbrev pub LacksNextKey : Data → List ℕ → List ℕ → ℕ → CallError → Type 0
LacksNextKey d bytes k room e =
    IsNoObject d bytes e
    ⊎ ((n : List ℕ) × IsUtf8 bytes × FindsNextKey d bytes k n × LacksRoom (length n) room e)

-- `IsNoNextKey d bytes k room e`: the key `k` is not UTF-8, or an allocation failed, or no key after it comes to `room` bytes
-- from the document in the handle `d`, and `e` reports that
abbrev pub IsNoNextKey : Handle → List ℕ → List ℕ → ℕ → CallError → Type 0
IsNoNextKey d bytes k room e =
    IsNotUtf8 argument.Token k e
    ⊎ (IsOutOfMemory e ⊎ (IsUtf8 k × FailsOnHandle d (λ v. LacksNextKey (view v) bytes k room e) e))
