-- What holds at each `Ok` or `Err`.
use Rattle.std.specs.Prelude.{Result, Ok, Err, IfErr, OnOk, OnErr, IsErrAnd}
use Rattle.std.proofs.Common.{◌≡◌, subst, sym}

pub on-ok : {A E : Type 0} (r : Result A E) (P : Type 0) → P → OnOk r P
on-ok (Ok x) P p = p
on-ok (Err e) P p = tt

pub on-err : {A E : Type 0} (r : Result A E) (P : Type 0) → P → OnErr r P
on-err (Ok x) P p = tt
on-err (Err e) P p = p

-- an error that is handed on
pub err-same : {A E : Type 0} (r : Result A E) (s : E) (P : E → Type 0) → IsErrAnd r (λ e. e ≡ s) → P s → IfErr r P
err-same (Ok x) s P e p = tt
err-same (Err x) s P e p = subst P (sym e) p

-- what follows of an error
pub err-more : {A E : Type 0} (r : Result A E) (P Q : E → Type 0) → ((e : E) → P e → Q e) → IfErr r P → IfErr r Q
err-more (Ok x) P Q follows p = tt
err-more (Err x) P Q follows p = follows x p
