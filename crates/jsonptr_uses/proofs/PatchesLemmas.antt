-- The operation of a patch applies, and the patch does not fail.
use Rattle.std.proofs.Common.{Result, Ok, Err}
use Rattle.std.specs.Prelude.{IfOk}
use Rattle.serde_json.specs.Data.{Data}
use Rattle.jsonptr.specs.Fault.{IsRefused, IfRefused}
use Rattle.jsonptr.specs.Json.{nodes, content}
use Rattle.jsonptr.specs.Types.Fault.{Fault}
use Rattle.jsonptr.specs.Types.Fault.TheVariants.{Refused, Memory}
use Rattle.jsonptr.proofs.Calling.{map_of-IsTree, map_of-finite}
use Rattle.jsonptr.specs.Documents.{IsDocument}

-- a JSON value is a document
pub is_document : (d : Data) → IsDocument (nodes d)
is_document d = (map_of-IsTree (content d), map_of-finite (content d))

-- what fails for no reason does not fail
pub refused_none : {T E : Type 0} (r : Result T (Fault E)) (P : E → Type 0) → IfRefused r P → ((e : E) → P e → ⊥) → IsRefused r → ⊥
refused_none (Ok t) P h none refused = refused
refused_none (Err (Refused e)) P h none refused = none e h
refused_none (Err (Memory e)) P h none refused = refused

-- what two facts of a success say together
pub ok_both : {T E : Type 0} (r : Result T E) (P Q R : T → Type 0) → ((x : T) → P x → Q x → R x) → IfOk r P → IfOk r Q → IfOk r R
ok_both (Ok x) P Q R f h k = f x h k
ok_both (Err e) P Q R f h k = h
