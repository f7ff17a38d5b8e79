-- `none` makes a pointer that owns nothing.
use Rattle.std.proofs.Common.{◌≡◌, [], ◌∷◌, refl, lit<}
use base.Logic.{emp}
use base.Fml.{ftrue}
use contract.Running.{tables}
use contract.Monad.{fact, fact_i}
use types.Kit.{‵, raw, ◌⊛◌, ◌$◌, ◌∵◌, !, qed, by, keep, drop, use0}
use types.Run.{lit, no_more, and_then, returns, enter}
use types.ByLocal.{alloc_all, pass_all, free_all, look_at, sets}
use types.Part.{agg}
use denote.RawPtr.{null_ptr}
use denote.Steps.{nothing}
use denote.Triple.Walked.{Stays, walk_of}
use Rattle.std.specs.Prelude.{Option, None}
use Rattle.display_session.specs.declared.session.Session.{Session}
use Rattle.std.proofs.raw_atomic.Walks.{proved_at, leaves}
use Rattle.display_ffi.proofs.Values.{word, kept_in}
use Rattle.display_ffi.specs.contracts.kept.Kept.none.{ended, clauses}
use Rattle.display_ffi.specs.contracts.kept.Kept.none.Key.{name as #self}
use Rattle.display_ffi.proofs.kept.Kept.none.Statement.{statement}
use Rattle.display_ffi.proofs.kept.Kept.none.Code as code

abbrev held : Option Session
held = None

pub none_spec : {M : Type 1} → statement M
none_spec 𝓤 𝓛 𝓜 𝓡 wired =
    let H = 𝓛.H in let 𝓣 = tables 𝓤 H 𝓜 𝓡 𝓡.env in let c = clauses 𝓛 𝓜.mem 𝓡.returns in
    let hs : Stays ended.signature.params ended.kept = tt in
    proved_at 𝓛 ended hs c 𝓜 𝓡 tt #self code.function (code.unfolded 𝓤 H 𝓜 𝓡 wired) (λ z are.
    qed 𝓛 ((‵ ftrue ⊛ ‵ ftrue) ∷ ‵ ftrue ∷ []) ∵ drop ! $ drop ! $
    enter ! 𝓣.C 𝓣.Λ code.function [] ((walk_of 𝓛 ended hs c).post z) $ alloc_all ! (λ l. pass_all ! refl tt $
    sets ! (agg ! (and_then ! (lit ! tt) (no_more !))) refl (tt, (record { fits = lit< tt }, tt)) $
    returns ! (look_at ! 0 refl) $ free_all ! refl $ nothing ! $ kept_in ! null_ptr None $
    use0 𝓛 (raw (fact 𝓤 (held ≡ held))) (fact_i 𝓤 (held ≡ held) (emp 𝓤) refl) $ nothing ! $ nothing ! $ keep ! (0 ∷ 1 ∷ 3 ∷ 2 ∷ []) $
    by ! (leaves 𝓛 ended hs c z (word null_ptr) (record { at = null_ptr; session = None }) tt tt)))
