-- A property of what an option holds, after a function.
use Rattle.std.proofs.Common.{Bool, true, false, if◌then◌else◌, Option, Some, None, IfSome, option_and_then, option_map}

pub if_map : {A B : Type 0} (P : A → Type 0) (Q : B → Type 0) (f : A → B) → ((a : A) → P a → Q (f a)) → (o : Option A) → IfSome o P → IfSome (option_map f o) Q
if_map P Q f h None a = tt
if_map P Q f h (Some x) a = h x a

pub if_then : {A B : Type 0} (P : A → Type 0) (Q : B → Type 0) (f : A → Option B) → ((a : A) → P a → IfSome (f a) Q) → (o : Option A) → IfSome o P → IfSome (option_and_then f o) Q
if_then P Q f h None a = tt
if_then P Q f h (Some x) a = h x a

pub if_any : {A : Type 0} (o : Option A) → IfSome o (λ _. Unit {0})
if_any None = tt
if_any (Some x) = tt

pub if_either : {A : Type 0} (P : A → Type 0) (b : Bool) (x y : Option A) → IfSome x P → IfSome y P → IfSome (if b then x else y) P
if_either P true x y h k = h
if_either P false x y h k = k
