-- What is known of a result, from what is known of another.
use Rattle.std.proofs.Common.{Ok, Err, Result, IfErr}
use Rattle.std.specs.Prelude.{OnOk}

pub if_err : {A E : Type 0} (o : Result A E) (P Q : E → Type 0) → IfErr o P → ((e : E) → P e → Q e) → IfErr o Q
if_err (Ok a) P Q h f = tt
if_err (Err e) P Q h f = f e h

pub on_ok : {A E : Type 0} (o : Result A E) (P Q : Type 0) → OnOk o P → (P → Q) → OnOk o Q
on_ok (Ok a) P Q h f = f h
on_ok (Err e) P Q h f = tt
