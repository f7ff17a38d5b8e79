-- What a landing makes of widths and numbers of rows, at the places where the lines of its job are.
use Rattle.std.proofs.Common.{◌≡◌, ℕ, ◌<◌, ◌≤◌, ◌||◌, eqb, zero, suc, cond, Bool, true, false, List, [], ◌∷◌, length, set, get_or, refl, sym, ap, subst, ◌∙◌, arith}
use Rattle.std.specs.Prelude.{Option, Some, None}
use Rattle.std.proofs.lemmas.Bool.{eqb-true, eq-eqb}
use Rattle.cell_units.specs.Record.{Mark}
use Rattle.display_map.specs.Outs.{AreAt}
use Rattle.display_sheet.specs.Landing.{landed_at}
use Rattle.display_map.specs.Replay.{holds, wrapped_at}
use Rattle.display_sheet.proofs.Sheets.{widths}
use Rattle.display_map.proofs.Places.{stands}
use Rattle.display_map.proofs.Stamps.{stamps, stamps-wrapped_at, times, times-cons}

abbrev wrapped : ℕ → Mark → Mark
wrapped width m = record { stamp = m.stamp; width = width }

pub flip : (a b : ℕ) → eqb a b ≡ eqb b a
flip a b = go (eqb a b) (eqb b a) refl refl where
  go : (x y : Bool) → eqb a b ≡ x → eqb b a ≡ y → x ≡ y
  go true true e f = refl
  go false false e f = refl
  go true false e f = sym (eq-eqb b a (sym (eqb-true a b e))) ∙ f
  go false true e f = sym e ∙ eq-eqb a b (sym (eqb-true b a f))

-- a stamp among others is landed by itself first
wrapped-cons : (width v : ℕ) (vs : List ℕ) (marks : List Mark) → wrapped_at width (v ∷ vs) marks ≡ wrapped_at width vs (wrapped_at width (v ∷ []) marks)
wrapped-cons width v vs [] = refl
wrapped-cons width v vs (m ∷ marks) = λ i. one (eqb v m.stamp) i ∷ wrapped-cons width v vs marks i where
  one : (b : Bool) → cond (b || holds vs m.stamp) (wrapped width m) m
      ≡ cond (holds vs (cond (b || false) (wrapped width m) m).stamp) (wrapped width (cond (b || false) (wrapped width m) m)) (cond (b || false) (wrapped width m) m)
  one false = refl
  one true = same (holds vs m.stamp) where
    same : (c : Bool) → wrapped width m ≡ cond c (wrapped width m) (wrapped width m)
    same true = refl
    same false = refl

-- a stamp that no line has changes nothing
wrapped-none : (width v : ℕ) (marks : List Mark) → times v (stamps marks) ≡ 0 → wrapped_at width (v ∷ []) marks ≡ marks
wrapped-none width v [] e = refl
wrapped-none width v (m ∷ marks) e = go (eqb m.stamp v) refl (wrapped-none width v marks) where
  go : (b : Bool) → eqb m.stamp v ≡ b → (times v (stamps marks) ≡ 0 → wrapped_at width (v ∷ []) marks ≡ marks) → wrapped_at width (v ∷ []) (m ∷ marks) ≡ m ∷ marks
  go true is ih = absurd (omega (arith, times-cons v m.stamp (stamps marks), e, ap {B = ℕ} (λ (b : Bool). cond b 1 0) is))
  go false is ih = λ i. cond ((flip v m.stamp ∙ is) i || false) (wrapped width m) m ∷ ih (omega (arith, times-cons v m.stamp (stamps marks), e)) i

-- the line of a stamp gets the width, and no other line
wrapped-some : (width v k : ℕ) (marks : List Mark) → times v (stamps marks) ≤ 1 → k < length (stamps marks) → get_or (stamps marks) k 0 ≡ v →
    widths (wrapped_at width (v ∷ []) marks) ≡ set (widths marks) k width
wrapped-some width v k [] once lt is = absurd (omega (arith, lt))
wrapped-some width v zero (m ∷ marks) once lt is =
    let here : eqb m.stamp v ≡ true = eq-eqb m.stamp v is in
    let none : times v (stamps marks) ≡ 0 = omega (arith, times-cons v m.stamp (stamps marks), once, ap {B = ℕ} (λ (b : Bool). cond b 1 0) here) in
    λ i. (cond ((flip v m.stamp ∙ here) i || false) (wrapped width m) m).width ∷ widths (wrapped-none width v marks none i)
wrapped-some width v (suc k) (m ∷ marks) once lt is =
    go (eqb m.stamp v) refl (λ once. wrapped-some width v k marks once (omega (arith, lt)) is) where
      go : (b : Bool) → eqb m.stamp v ≡ b → (times v (stamps marks) ≤ 1 → widths (wrapped_at width (v ∷ []) marks) ≡ set (widths marks) k width) →
          widths (wrapped_at width (v ∷ []) (m ∷ marks)) ≡ set (widths (m ∷ marks)) (suc k) width
      go true e ih =
          absurd (omega (arith, times-cons v m.stamp (stamps marks), once, ap {B = ℕ} (λ (b : Bool). cond b 1 0) e, stands v (stamps marks) k (omega (arith, lt)) is))
      go false e ih =
          λ i. (cond ((flip v m.stamp ∙ e) i || false) (wrapped width m) m).width
          ∷ ih (omega (arith, times-cons v m.stamp (stamps marks), once)) i

-- the widths after a landing
pub widths-landed : (width : ℕ) (vs : List ℕ) (places : List (Option ℕ)) (marks : List Mark) → ((v : ℕ) → times v (stamps marks) ≤ 1) → AreAt (stamps marks) vs places →
    widths (wrapped_at width vs marks) ≡ landed_at width places (widths marks)
widths-landed width [] [] marks once h = none marks where
  none : (marks : List Mark) → widths (wrapped_at width [] marks) ≡ widths marks
  none [] = refl
  none (m ∷ marks) = ap (λ (l : List ℕ). m.width ∷ l) (none marks)
widths-landed width [] (p ∷ places) marks once h = absurd h
widths-landed width (v ∷ vs) [] marks once h = absurd h
widths-landed width (v ∷ vs) (None ∷ places) marks once h =
    ap widths (wrapped-cons width v vs marks)
    ∙ ap (λ (l : List Mark). widths (wrapped_at width vs l)) (wrapped-none width v marks h.0)
    ∙ widths-landed width vs places marks once h.1
widths-landed width (v ∷ vs) (Some k ∷ places) marks once h =
    let next = wrapped_at width (v ∷ []) marks in
    let same : stamps next ≡ stamps marks = stamps-wrapped_at width (v ∷ []) marks in
    ap widths (wrapped-cons width v vs marks)
    ∙ widths-landed width vs places next (subst (λ (l : List ℕ). (u : ℕ) → times u l ≤ 1) (sym same) once) (subst (λ (l : List ℕ). AreAt l vs places) (sym same) h.1)
    ∙ ap (landed_at width places) (wrapped-some width v k marks (once v) h.0.0 h.0.1)
