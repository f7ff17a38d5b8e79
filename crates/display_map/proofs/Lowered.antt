-- Which lines wait at another width, by where the lines of the jobs that are out are.
use Rattle.std.proofs.Common.{◌≡◌, ℕ, ◌<◌, ◌≤◌, ◌&&◌, ◌||◌, not, eqb, zero, suc, cond, Bool, true, false, List, [], ◌∷◌, length, map, set, get_or, refl, sym, ap, ◌∙◌, arith}
use Rattle.std.specs.Prelude.{Option, Some, None}
use Rattle.std.specs.List.{list_any}
use Rattle.std.proofs.lemmas.Bool.{eq-eqb}
use Rattle.cell_units.specs.Record.{Mark}
use Rattle.display_map.specs.Displays.{unlanded}
use Rattle.display_map.specs.Outs.{AreAt, AreOut, OutParts, lowered, lowered_by, waiting_in}
use Rattle.display_sheet.specs.Shown.{unstamped}
use Rattle.display_map.specs.Replay.{SentJob, State, holds, waits}
use Rattle.display_map.proofs.LandedPlaces.{flip}
use Rattle.display_map.proofs.Places.{stands}
use Rattle.display_sheet.proofs.Sheets.{widths-marks_of}
use Rattle.display_map.proofs.Stamps.{stamps, times, times-cons}

-- the flags of marks but for those of some stamps
abbrev unheld : (Mark → Bool) → (Mark → Bool) → List Mark → List Bool
unheld f held marks = map (λ m. f m && not (held m)) marks

and_true : (b : Bool) → (b && true) ≡ b
and_true true = refl
and_true false = refl

-- a stamp that no line has
none_lowered : (f : Mark → Bool) (v : ℕ) (marks : List Mark) → times v (stamps marks) ≡ 0 → unheld f (λ m. eqb v m.stamp) marks ≡ map f marks
none_lowered f v [] e = refl
none_lowered f v (m ∷ marks) e = go (eqb m.stamp v) refl (none_lowered f v marks) where
  go : (b : Bool) → eqb m.stamp v ≡ b → (times v (stamps marks) ≡ 0 → unheld f (λ m. eqb v m.stamp) marks ≡ map f marks) → unheld f (λ m. eqb v m.stamp) (m ∷ marks) ≡ map f (m ∷ marks)
  go true is ih = absurd (omega (arith, times-cons v m.stamp (stamps marks), e, ap {B = ℕ} (λ (b : Bool). cond b 1 0) is))
  go false is ih =
      λ i. (ap (λ (b : Bool). f m && not b) (flip v m.stamp ∙ is) ∙ and_true (f m)) i
      ∷ ih (omega (arith, times-cons v m.stamp (stamps marks), e)) i

-- the line of a stamp
one_lowered : (f : Mark → Bool) (v k : ℕ) (marks : List Mark) → times v (stamps marks) ≤ 1 → k < length (stamps marks) → get_or (stamps marks) k 0 ≡ v →
    set (map f marks) k false ≡ unheld f (λ m. eqb v m.stamp) marks
one_lowered f v k [] once lt is = absurd (omega (arith, lt))
one_lowered f v zero (m ∷ marks) once lt is =
    let here : eqb m.stamp v ≡ true = eq-eqb m.stamp v is in
    let none : times v (stamps marks) ≡ 0 = omega (arith, times-cons v m.stamp (stamps marks), once, ap {B = ℕ} (λ (b : Bool). cond b 1 0) here) in
    λ i. (sym (ap (λ (b : Bool). f m && not b) (flip v m.stamp ∙ here) ∙ and_false (f m))) i ∷ sym (none_lowered f v marks none) i where
      and_false : (b : Bool) → (b && false) ≡ false
      and_false true = refl
      and_false false = refl
one_lowered f v (suc k) (m ∷ marks) once lt is =
    go (eqb m.stamp v) refl (λ once. one_lowered f v k marks once (omega (arith, lt)) is) where
      go : (b : Bool) → eqb m.stamp v ≡ b → (times v (stamps marks) ≤ 1 → set (map f marks) k false ≡ unheld f (λ m. eqb v m.stamp) marks) →
          set (map f (m ∷ marks)) (suc k) false ≡ unheld f (λ m. eqb v m.stamp) (m ∷ marks)
      go true e ih =
          absurd (omega (arith, times-cons v m.stamp (stamps marks), once, ap {B = ℕ} (λ (b : Bool). cond b 1 0) e, stands v (stamps marks) k (omega (arith, lt)) is))
      go false e ih =
          λ i. (sym (ap (λ (b : Bool). f m && not b) (flip v m.stamp ∙ e) ∙ and_true (f m))) i
          ∷ ih (omega (arith, times-cons v m.stamp (stamps marks), once)) i

map_same : (f g : Mark → Bool) → ((m : Mark) → f m ≡ g m) → (marks : List Mark) → map f marks ≡ map g marks
map_same f g same [] = refl
map_same f g same (m ∷ marks) = λ i. same m i ∷ map_same f g same marks i

-- the lines of a job
pub all_lowered : (f : Mark → Bool) (vs : List ℕ) (places : List (Option ℕ)) (marks : List Mark) → ((v : ℕ) → times v (stamps marks) ≤ 1) → AreAt (stamps marks) vs places →
    lowered places (map f marks) ≡ unheld f (λ m. holds vs m.stamp) marks
all_lowered f [] [] marks once h = map_same f (λ m. f m && true) (λ m. sym (and_true (f m))) marks
all_lowered f [] (p ∷ places) marks once h = absurd h
all_lowered f (v ∷ vs) [] marks once h = absurd h
all_lowered f (v ∷ vs) (None ∷ places) marks once h =
    ap (lowered places) (sym (none_lowered f v marks h.0))
    ∙ all_lowered (λ m. f m && not (eqb v m.stamp)) vs places marks once h.1
    ∙ map_same (λ m. (f m && not (eqb v m.stamp)) && not (holds vs m.stamp)) (λ m. f m && not (eqb v m.stamp || holds vs m.stamp)) (λ m. both (f m) (eqb v m.stamp) (holds vs m.stamp)) marks where
      both : (a b c : Bool) → ((a && not b) && not c) ≡ (a && not (b || c))
      both true true c = refl
      both true false c = refl
      both false b c = refl
all_lowered f (v ∷ vs) (Some k ∷ places) marks once h =
    ap (lowered places) (one_lowered f v k marks (once v) h.0.0 h.0.1)
    ∙ all_lowered (λ m. f m && not (eqb v m.stamp)) vs places marks once h.1
    ∙ map_same (λ m. (f m && not (eqb v m.stamp)) && not (holds vs m.stamp)) (λ m. f m && not (eqb v m.stamp || holds vs m.stamp)) (λ m. both (f m) (eqb v m.stamp) (holds vs m.stamp)) marks where
      both : (a b c : Bool) → ((a && not b) && not c) ≡ (a && not (b || c))
      both true true c = refl
      both true false c = refl
      both false b c = refl

-- a job of the width holds the stamp
abbrev holds_at : ℕ → ℕ → SentJob → Bool
holds_at width stamp job = eqb job.width width && holds job.stamps stamp

-- the lines of all jobs of the width
pub jobs_lowered : (width : ℕ) (f : Mark → Bool) (jobs : List SentJob) (outs : List OutParts) (marks : List Mark) → ((v : ℕ) → times v (stamps marks) ≤ 1) → AreOut (stamps marks) jobs outs →
    lowered_by width outs (map f marks) ≡ unheld f (λ m. list_any (holds_at width m.stamp) jobs) marks
jobs_lowered width f [] [] marks once h = map_same f (λ m. f m && true) (λ m. sym (and_true (f m))) marks
jobs_lowered width f [] (out ∷ outs) marks once h = absurd h
jobs_lowered width f (job ∷ jobs) [] marks once h = absurd h
jobs_lowered width f (job ∷ jobs) (out ∷ outs) marks once h =
    ap (λ (n : ℕ). lowered_by width outs (cond (eqb n width) (lowered out.lines (map f marks)) (map f marks))) h.0.width
    ∙ go (eqb job.width width) refl (λ g. jobs_lowered width g jobs outs marks once h.1) where
      both : (a b c : Bool) → ((a && not b) && not c) ≡ (a && not (b || c))
      both true true c = refl
      both true false c = refl
      both false b c = refl

      rest : ((g : Mark → Bool) → lowered_by width outs (map g marks) ≡ unheld g (λ m. list_any (holds_at width m.stamp) jobs) marks) →
          (b : Bool) → lowered_by width outs (map (λ m. f m && not (b && holds job.stamps m.stamp)) marks) ≡ unheld f (λ m. (b && holds job.stamps m.stamp) || list_any (holds_at width m.stamp) jobs) marks
      rest ih b =
          ih (λ m. f m && not (b && holds job.stamps m.stamp))
          ∙ map_same (λ m. (f m && not (b && holds job.stamps m.stamp)) && not (list_any (holds_at width m.stamp) jobs)) (λ m. f m && not ((b && holds job.stamps m.stamp) || list_any (holds_at width m.stamp) jobs))
          (λ m. both (f m) (b && holds job.stamps m.stamp) (list_any (holds_at width m.stamp) jobs)) marks

      go : (b : Bool) → eqb job.width width ≡ b → ((g : Mark → Bool) → lowered_by width outs (map g marks) ≡ unheld g (λ m. list_any (holds_at width m.stamp) jobs) marks) →
          lowered_by width outs (cond b (lowered out.lines (map f marks)) (map f marks)) ≡ unheld f (λ m. (eqb job.width width && holds job.stamps m.stamp) || list_any (holds_at width m.stamp) jobs) marks
      go true e ih =
          ap (lowered_by width outs) (all_lowered f job.stamps out.lines marks once h.0.lines)
          ∙ rest ih true
          ∙ (λ i. unheld f (λ m. (sym e i && holds job.stamps m.stamp) || list_any (holds_at width m.stamp) jobs) marks)
      go false e ih =
          ap (lowered_by width outs) (map_same f (λ m. f m && not false) (λ m. sym (and_true (f m))) marks)
          ∙ rest ih false
          ∙ (λ i. unheld f (λ m. (sym e i && holds job.stamps m.stamp) || list_any (holds_at width m.stamp) jobs) marks)

-- a stamp is held where a job that hasn't landed holds it
pub held_by_unlanded : (width stamp : ℕ) (jobs : List SentJob) →
    list_any (λ job. not job.landed && (eqb job.width width) && holds job.stamps stamp) jobs ≡ list_any (holds_at width stamp) (unlanded jobs)
held_by_unlanded width stamp [] = refl
held_by_unlanded width stamp (job ∷ jobs) = go (not job.landed) (held_by_unlanded width stamp jobs) where
  go : (b : Bool) → list_any (λ job. not job.landed && (eqb job.width width) && holds job.stamps stamp) jobs ≡ list_any (holds_at width stamp) (unlanded jobs) →
      ((b && eqb job.width width && holds job.stamps stamp) || list_any (λ job. not job.landed && (eqb job.width width) && holds job.stamps stamp) jobs)
      ≡ list_any (holds_at width stamp) (cond b (job ∷ unlanded jobs) (unlanded jobs))
  go true e = ap (λ (b : Bool). (eqb job.width width && holds job.stamps stamp) || b) e
  go false e = e

-- which lines of a state wait
pub flags-of : (s : State) (outs : List OutParts) → ((v : ℕ) → times v (stamps s.present.marks) ≤ 1) → AreOut (stamps s.present.marks) (unlanded s.jobs) outs →
    map (waits s) s.present.marks ≡ waiting_in (unstamped s.present) outs
flags-of s outs once at =
    map_same (waits s) (λ m. off m && not (list_any (holds_at w m.stamp) (unlanded s.jobs))) (λ m. ap (λ (b : Bool). off m && not b) (held_by_unlanded w m.stamp s.jobs)) marks
    ∙ sym (jobs_lowered w off (unlanded s.jobs) outs marks once at)
    ∙ ap (lowered_by w outs) (map-map (λ m. m.width) (λ (x : ℕ). not (eqb x w)) marks ∙ ap (map (λ (x : ℕ). not (eqb x w))) (sym (widths-marks_of (map (λ m. m.width) marks)))) where
      w : ℕ
      w = s.present.width

      marks : List Mark
      marks = s.present.marks

      off : Mark → Bool
      off m = not (eqb m.width w)

      map-map : {X Y Z : Type 0} (f : X → Y) (g : Y → Z) (xs : List X) → map (λ x. g (f x)) xs ≡ map g (map f xs)
      map-map f g [] = refl
      map-map f g (x ∷ xs) = ap (λ l. g (f x) ∷ l) (map-map f g xs)
