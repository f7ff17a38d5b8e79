-- The machine value of a `Kept`. Assumes `Logic`.
use Rattle.std.proofs.Common.{◌≡◌, List, [], ◌∷◌, ◌++◌, refl, subst, sym}
use mathlib.Core.Bool.{true≢false}
use seplogic.Ra.Ura.{Ura}
use mir.Val.{Val, vstruct, vcons, vnil, of_list}
use types.Logic.{Logic}
use types.Kit.{Item, Goal, Seq, Step, step, ‵, ◌$◌, drop, fsplit, fjoin, fpick, fpack, feq_i, feq_l}
use denote.RattleType.{RattleType, Valss}
use denote.Builtin.{RawPtr}
use denote.RawPtr.{Ptr, ptr_val}
use denote.Steps.{nothing}
use denote.Struct.Struct.{within}
use denote.Struct.Owning.{shape}
use Rattle.std.specs.Prelude.{true, Option, None, Some}
use Rattle.display_session.specs.declared.session.Session.{Session}
use Rattle.display_ffi.specs.Held.{holds, is_held}
use Rattle.display_ffi.specs.contracts.kept.Kept as kept

abbrev pub word : Ptr → Val
word p = vstruct (vcons (ptr_val p) vnil)

abbrev pub Kept : RattleType
Kept = kept.the_row

module _ {M : Type 1} {𝓤 : Ura M} {𝓛 : Logic 𝓤} {K : Type 0} {Γ : List (Item 𝓤)} {G : Goal 𝓤 𝓛.H} where
  pub kept_out : K → (d : Kept.Denot) (vs : List Val)
      → (vs ≡ word d.at ∷ [] → Seq K 𝓛 (‵ (holds d.at d.session) ∷ Γ) G)
      → Seq K 𝓛 (‵ (Kept.own_val d vs) ∷ Γ) G
  kept_out t d vs k =
      fsplit t $ fpick t (λ vss. fsplit t $ feq_l t (λ ev. fsplit t $ feq_l t (λ ep. drop t $
      k (subst (λ (ps : List Val). vs ≡ vstruct (of_list (ps ++ [])) ∷ []) ep ev))))

  pub kept_in : K → (p : Ptr) (s : Option Session)
      → Step K 𝓛 (‵ (Kept.own_val (record { at = p; session = s }) (word p ∷ [])) ∷ Γ) G (‵ (holds p s) ∷ Γ) G
  kept_in t p s = step (λ k. nothing t $ feq_i t (List Val) (ptr_val p ∷ []) (ptr_val p ∷ []) refl $ fjoin t $
      feq_i t (List Val) (word p ∷ []) (word p ∷ []) refl $ fjoin t $
      fpack t (Valss (RawPtr ∷ [])) (within (shape kept.the_type) (p, tt) (word p ∷ [])) (ptr_val p ∷ [], tt) $ fjoin t $ k)

-- a handle that holds a session holds some one
pub held_some : (o : Option Session) → is_held o ≡ true → (s : Session) × (o ≡ Some s)
held_some None e = absurd (true≢false (sym e))
held_some (Some s) e = (s, refl)
