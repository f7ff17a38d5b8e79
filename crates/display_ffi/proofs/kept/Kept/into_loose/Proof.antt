-- `into_loose` gives what a handle that holds a session points to.
use Rattle.std.proofs.Common.{◌≡◌, List, [], ◌∷◌, ◌++◌, sym, refl, subst, ap, ◌∙◌}
use mir.Raw.{raw as bare}
use mir.Val.{Val, vptr}
use base.Logic.{SProp, ent, emp, never, id⊢, fst∗}
use base.Fml.{ftrue}
use prog.Wp.{WpFn}
use types.Logic.{sem}
use contract.Running.{tables}
use contract.Monad.{fact, fact_i}
use types.Kit.{‵, raw, ◌⊛◌, ◌$◌, ◌∵◌, !, qed, by, move, keep, split, fsplit, fjoin, use0, suffices, rewrite}
use types.Run.{stop, fld, of_opd, no_more, and_then, returns, enter}
use types.ByLocal.{alloc_all, pass_all, free_all, look_at, get, get_in, sets}
use types.Part.{agg, sub, whole}
use denote.Exit.{yes}
use denote.Memory.{lone}
use denote.RattleType.{owns}
use denote.RawPtr.{Ptr, block_ptr, null_ptr, in_a_block}
use denote.Signature.{types_at, plain}
use denote.Steps.{nothing, heard}
use denote.Triple.Walked.{Stays, walk_of, stay_dropped, Goes-dropped}
use Rattle.core.proofs.alloc.Calls.{handle_tells}
use Rattle.std.specs.Prelude.{true, Option, Some}
use Rattle.std.proofs.raw_atomic.Walks.{proved_at, leaves}
use Rattle.std_alloc.specs.Box.Ownership.{box_owns}
use Rattle.std_heap.specs.contracts.Global as global
use Rattle.std_heap.specs.contracts.GlobalAllocator.TheImpl.{ghosts}
use Rattle.std_heap.proofs.Global.TheLaws as global_laws
use Rattle.display_session.specs.contracts.session.Session as session
use Rattle.display_session.specs.declared.session.Session.{Session}
use Rattle.loose_box.proofs.Values.{both, al, loose_good, loose_in}
use Rattle.display_ffi.specs.Held.{holds, is_held}
use Rattle.display_ffi.proofs.Values.{word, Kept, kept_out, held_some}
use Rattle.display_ffi.specs.contracts.kept.Kept.into_loose.{ended, clauses}
use Rattle.display_ffi.specs.contracts.kept.Kept.into_loose.Key.{name as #self}
use Rattle.display_ffi.proofs.kept.Kept.into_loose.Statement.{statement}
use Rattle.display_ffi.proofs.kept.Kept.into_loose.Code as code

pub into_loose_spec : {M : Type 1} → statement M
into_loose_spec 𝓤 𝓛 𝓜 𝓡 wired =
    let H = 𝓛.H in let 𝓣 = tables 𝓤 H 𝓜 𝓡 𝓡.env in let c = clauses 𝓛 𝓜.mem 𝓡.returns in let fn = code.function in
    let R = session.the_row in let Z = global.the_row in let LZ = global_laws.the_row_laws in
    let hs : Stays ended.signature.params ended.kept = (stay_dropped (plain (λ _. Kept)) yes, (stay_dropped (plain (λ _. Z)) yes, tt)) in
    proved_at 𝓛 ended hs c 𝓜 𝓡 (Goes-dropped 𝓛 0 (plain (λ _. Kept)) yes (λ κs x w. refl), (Goes-dropped 𝓛 0 (plain (λ _. Z)) yes (λ κs x w. refl), tt)) #self fn (code.unfolded 𝓤 H 𝓜 𝓡 wired) (λ z are.
    let k = z.0.3.0 in let a = z.0.3.1.0 in
    let Post : Val → SProp 𝓤 = (walk_of 𝓛 ended hs c).post z in let Run : List Val → SProp 𝓤 = λ ws. WpFn 𝓤 H 𝓣.C 𝓣.Λ fn ws Post in
    qed 𝓛 ((‵ ftrue ⊛ ‵ (owns (types_at ended.signature.params z.0.0) z.0.3 z.0.4)) ∷ raw (fact 𝓤 (is_held k.session ≡ true)) ∷ []) ∵ split ! $ move ! (2 ∷ []) $ heard ! (is_held k.session ≡ true) (λ held. let some = held_some k.session held in let s : Session = some.0 in let is : k.session ≡ Some s = some.1 in move ! (1 ∷ []) $ fsplit ! $
    kept_out ! k z.0.4.0 (λ ws. rewrite ! 0 (λ (held : Option Session). ‵ (holds k.at held)) is refl $
    in_a_block ! k.at (λ p. box_owns (ghosts.dealloc_token a) R p s) (fst∗ 𝓤 (never 𝓤) (sem 𝓛 (ghosts.dealloc_token a (bare (lone R.mir)) null_ptr))) (λ b o e.
    move ! (1 ∷ []) $ fsplit ! $ handle_tells (al R Z LZ ghosts) ! a z.0.4.1.0 (λ h us fits.
    let p : Val = word (block_ptr b o) in
    let args : (z.0.4.0 ++ (z.0.4.1.0 ++ [])) ≡ p ∷ h ∷ [] = subst (λ (vs : List Val). (z.0.4.0 ++ (vs ++ [])) ≡ p ∷ h ∷ []) (sym us) (ap (λ (vs : List Val). vs ++ (h ∷ [])) (ws ∙ ap (λ (q : Ptr). word q ∷ []) e)) in
    suffices ! (Run (p ∷ h ∷ [])) (subst (λ (vs : List Val). ent 𝓤 (Run (p ∷ h ∷ [])) (Run vs)) (sym args) (id⊢ 𝓤 (Run (p ∷ h ∷ [])))) $
    enter ! 𝓣.C 𝓣.Λ fn (p ∷ h ∷ []) Post $ alloc_all ! (λ l. pass_all ! refl ((tt, (tt, tt)), (fits, tt)) $
    sets ! (of_opd ! (get_in ! (fld ! refl (stop !)) (sub ! 0 refl (whole !)))) refl (tt, tt) $
    sets ! (of_opd ! (get ! refl)) refl (tt, tt) $
    sets ! (agg ! (and_then ! (get ! refl) (and_then ! (get ! refl) (no_more !)))) refl (loose_good R Z LZ ghosts b o h fits) $
    move ! (2 ∷ 0 ∷ []) $ loose_in R Z LZ ghosts ! b o h a s $ use0 𝓛 (raw (fact 𝓤 (k.session ≡ Some s))) (fact_i 𝓤 (k.session ≡ Some s) (emp 𝓤) is) $
    nothing ! $ nothing ! $ fjoin ! $ nothing ! $ fjoin ! $ nothing ! $ returns ! (look_at ! 0 refl) $ free_all ! refl $ keep ! (0 ∷ 1 ∷ 3 ∷ 2 ∷ []) $
    by ! (leaves 𝓛 ended hs c z (both (vptr b o) h) (record { at = block_ptr b o; alloc = a; value = s }) (tt, (tt, tt)) (tt, (tt, tt)))))))))
