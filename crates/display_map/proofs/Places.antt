-- The present places of lines that have stamps.
use Rattle.std.proofs.Common.{◌≡◌, ℕ, ◌+◌, ◌-◌, ◌<◌, ◌≤◌, ltb, zero, suc, cond, Bool, true, false, List, [], ◌∷◌, ◌++◌, length, map, take, drop, get_or, refl, sym, ap, ◌∙◌, arith, length-append, length-drop}
use Rattle.std.specs.Prelude.{Option, Some, None}
use Rattle.std.specs.List.{All, range_with_len}
use Rattle.std.proofs.lemmas.Bool.{ltb-true, ltb-false, eq-eqb}
use Rattle.std.proofs.lemmas.List.{length-take-le, get_or_append_left, get_or-append_right, get_or-take, get_or-drop, take-append-drop, drop-drop}
use Rattle.std.proofs.lemmas.List.Elements.{All-head, All-tail}
use Rattle.std.proofs.lemmas.List.FromFn.{length-range_with_len}
use Rattle.display_map.specs.Replay.{SentJob}
use Rattle.display_map.specs.Outs.{AreAt, AreOut, IsAt, OutParts, carried, carried_out}
use Rattle.display_map.proofs.Stamps.{AreStamps, times, times-append, times-cons, times-range}

-- a stamp that is in a list is there once at least
pub stands : (v : ℕ) (xs : List ℕ) (k : ℕ) → k < length xs → get_or xs k 0 ≡ v → 1 ≤ times v xs
stands v [] k lt e = absurd (omega (arith, lt))
stands v (x ∷ xs) zero lt e = omega (arith, times-cons v x xs, ap {B = ℕ} (λ (b : Bool). cond b 1 0) (eq-eqb x v e))
stands v (x ∷ xs) (suc k) lt e = omega (arith, times-cons v x xs, stands v xs k (omega (arith, lt)) e)

module _ (S : List ℕ) (next f g n : ℕ) (are : AreStamps S next) (fg : f ≤ g) (gl : g ≤ length S) where
  abbrev middle : List ℕ
  middle = take (g - f) (drop f S)

  abbrev fresh : List ℕ
  fresh = range_with_len next n

  -- the stamps after some made place for fresh ones
  abbrev after : List ℕ
  after = take f S ++ (fresh ++ drop g S)

  long_front : length (take f S) ≡ f
  long_front = length-take-le f S (omega (arith, fg, gl))

  three : (v : ℕ) → times v S ≡ times v (take f S) + (times v middle + times v (drop g S))
  three v =
      let at : f + (g - f) ≡ g = omega (arith, fg) in
      let rest : drop (g - f) (drop f S) ≡ drop g S = drop-drop (g - f) f S ∙ ap (λ (k : ℕ). drop k S) at in
      ap (times v) (sym (take-append-drop f S))
      ∙ times-append v (take f S) (drop f S)
      ∙ ap (λ (k : ℕ). times v (take f S) + k)
      (ap (times v) (sym (take-append-drop (g - f) (drop f S)))
      ∙ times-append v middle (drop (g - f) (drop f S))
      ∙ ap (λ (l : List ℕ). times v middle + times v l) rest)

  after_times : (v : ℕ) → times v after ≡ times v (take f S) + (times v fresh + times v (drop g S))
  after_times v = times-append v (take f S) (fresh ++ drop g S) ∙ ap (λ (k : ℕ). times v (take f S) + k) (times-append v fresh (drop g S))

  gone : (v : ℕ) → v < next → times v (take f S) ≡ 0 → times v (drop g S) ≡ 0 → times v after ≡ 0
  gone v lt a b = omega (arith, after_times v, times-range v next n lt, a, b)

  above : (v k : ℕ) → k < f → get_or S k 0 ≡ v → IsAt after v (Some k)
  above v k lt e = (
    omega (arith, length-append (take f S) (fresh ++ drop g S), long_front, lt),
    get_or_append_left (take f S) (fresh ++ drop g S) 0 k (omega (arith, long_front, lt)) ∙ get_or-take f S k 0 lt ∙ e,
  )

  within : (v k : ℕ) → v < next → f ≤ k → k < g → get_or S k 0 ≡ v → times v after ≡ 0
  within v k small le lt e =
      let long : length middle ≡ g - f = length-take-le (g - f) (drop f S) (omega (arith, length-drop f S, gl)) in
      let at : get_or middle (k - f) 0 ≡ v =
      get_or-take (g - f) (drop f S) (k - f) 0 (omega (arith, le, lt)) ∙ get_or-drop f S (k - f) 0 ∙ (let same : f + (k - f) ≡ k = omega (arith, le) in ap (λ (j : ℕ). get_or S j 0) same) ∙ e in
      let here = stands v middle (k - f) (omega (arith, long, le, lt)) at in
      gone v small (omega (arith, three v, are.once v, here)) (omega (arith, three v, are.once v, here))

  below : (v k : ℕ) → g ≤ k → k < length S → get_or S k 0 ≡ v → IsAt after v (Some (k - g + (f + n)))
  below v k le lt e =
      let long_fresh : length fresh ≡ n = length-range_with_len next n in
      let rest : k - g + (f + n) - f - n ≡ k - g = omega arith in
      let same : g + (k - g) ≡ k = omega (arith, le) in (
        omega (arith, length-append (take f S) (fresh ++ drop g S), length-append fresh (drop g S), long_front, long_fresh, length-drop g S, le, lt),
        get_or-append_right (take f S) (fresh ++ drop g S) f (k - g + (f + n)) 0 long_front (omega arith)
            ∙ get_or-append_right fresh (drop g S) n (k - g + (f + n) - f) 0 long_fresh (omega arith)
            ∙ ap (λ (j : ℕ). get_or (drop g S) j 0) rest
            ∙ get_or-drop g S (k - g) 0
            ∙ ap (λ (j : ℕ). get_or S j 0) same
            ∙ e,
      )

  pub IsAt-carried : (v : ℕ) (p : Option ℕ) → v < next → IsAt S v p → IsAt after v (carried f g n p)
  IsAt-carried v None small h = gone v small (omega (arith, three v, h)) (omega (arith, three v, h))
  IsAt-carried v (Some k) small h = go (ltb k f) (ltb k g) refl refl where
    go : (a b : Bool) → ltb k f ≡ a → ltb k g ≡ b → IsAt after v (cond a (Some k) (cond b None (Some (k - g + (f + n)))))
    go true b e e' = above v k (ltb-true k f e) h.1
    go false true e e' = within v k small (ltb-false k f e) (ltb-true k g e') h.1
    go false false e e' = below v k (ltb-false k g e') h.0 h.1

  pub AreAt-carried : (vs : List ℕ) (ps : List (Option ℕ)) → All (λ v. v < next) vs → AreAt S vs ps → AreAt after vs (map (carried f g n) ps)
  AreAt-carried [] [] small h = tt
  AreAt-carried [] (p ∷ ps) small h = absurd h
  AreAt-carried (v ∷ vs) [] small h = absurd h
  AreAt-carried (v ∷ vs) (p ∷ ps) small h = (
    IsAt-carried v p (All-head (λ (x : ℕ). x < next) v vs small) h.0,
    AreAt-carried vs ps (All-tail (λ (x : ℕ). x < next) v vs small) h.1,
  )

  pub AreOut-carried : (jobs : List SentJob) (outs : List OutParts) → All (λ job. All (λ x. x < next) job.stamps) jobs → AreOut S jobs outs →
      AreOut after jobs (map (carried_out f g n) outs)
  AreOut-carried [] [] given h = tt
  AreOut-carried [] (out ∷ outs) given h = absurd h
  AreOut-carried (job ∷ jobs) [] given h = absurd h
  AreOut-carried (job ∷ jobs) (out ∷ outs) given h =
      let P : SentJob → Type 0 = λ (job : SentJob). All (λ x. x < next) job.stamps in (
        record { number = h.0.number; width = h.0.width; lines = AreAt-carried job.stamps out.lines (All-head P job jobs given) h.0.lines },
        AreOut-carried jobs outs (All-tail P job jobs given) h.1,
      )
