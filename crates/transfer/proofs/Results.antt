-- What is known of a result, from what is known of another.
use Rattle.std.proofs.Common.{◌≡◌, Ok, Err, Result, IfOk, IfErr, subst}
use Rattle.std.specs.Prelude.{OnOk, OnErr}

pub if_ok : {A E : Type 0} (o : Result A E) (P Q : A → Type 0) → IfOk o P → ((a : A) → P a → Q a) → IfOk o Q
if_ok (Ok a) P Q h f = f a h
if_ok (Err e) P Q h f = tt

pub if_err : {A E : Type 0} (o : Result A E) (P Q : E → Type 0) → IfErr o P → ((e : E) → P e → Q e) → IfErr o Q
if_err (Ok a) P Q h f = tt
if_err (Err e) P Q h f = f e h

pub of_ok : {A E : Type 0} (o : Result A E) (P : A → Type 0) (a : A) → o ≡ Ok a → IfOk o P → P a
of_ok o P a is h = subst (λ (x : Result _ _). IfOk x P) is h

pub of_err : {A E : Type 0} (o : Result A E) (P : E → Type 0) (e : E) → o ≡ Err e → IfErr o P → P e
of_err o P e is h = subst (λ (x : Result _ _). IfErr x P) is h

pub on_ok : {A E : Type 0} (o : Result A E) (P Q : Type 0) → OnOk o P → (P → Q) → OnOk o Q
on_ok (Ok a) P Q h f = f h
on_ok (Err e) P Q h f = tt

pub on_err : {A E : Type 0} (o : Result A E) (P Q : Type 0) → OnErr o P → (P → Q) → OnErr o Q
on_err (Ok a) P Q h f = tt
on_err (Err e) P Q h f = f h
