-- Joined folds are what offsets show.
use Rattle.std.proofs.Common.{ap, refl, if◌then◌else◌, ◌++◌, length, append-nil, ◌≡◌, ℕ, ◌+◌, ◌<◌, ◌≤◌, zero, suc, Bool, true, false, ltb, leb, List, [], ◌∷◌, min, max, sym, ◌∙◌, subst, inl, inr, arith, ◌⊎◌, ◌&&◌}
use Rattle.std.specs.List.{All, Contains, list_any}
use Rattle.std.proofs.lemmas.Bool.{cases_Bool, false≢true, cases_lt, lt-ltb, le-leb, ltb-true, leb-true, and_parts, and_from}
use Rattle.std.proofs.lemmas.List.Elements.{All-cons, All-nil}
use Rattle.std.proofs.lemmas.List.Folds.{Any-from_list_any, list_any-from_Any}
use Rattle.cell_units.specs.Record.{Fold, Inlay}
use Rattle.cell_units.specs.Inlaid.{Byte, Hidden, Token, inlays_at, show_each}
use Rattle.cell_units.specs.Laws.{ShowPlaceholder, ShowsAsInlaid}
use Rattle.cell_units.specs.Folded.{inside, covered, shown}
use Rattle.cell_units.specs.Joined.{Chain, One, Join, IsJoined, ShowsOnePlaceholder, ShowsPlaceholder}

any_from : (p : Fold → Bool) (f : Fold) (folds : List Fold) → Contains folds f → p f ≡ true → list_any p folds ≡ true
any_from p f folds m h = list_any-from_Any p folds (m.0, f, m.1, m.2, h)

any_to : (p : Fold → Bool) (folds : List Fold) → list_any p folds ≡ true → (f : Fold) × (Contains folds f) × (p f ≡ true)
any_to p folds h = let r = Any-from_list_any p folds h in (r.1, (r.0, r.2, r.3), r.4)

-- no fold ends after this
bound : (folds : List Fold) → (n : ℕ) × All (λ f. f.end ≤ n) folds
bound [] = (0, All-nil (λ f. f.end ≤ 0))
bound (g ∷ gs) =
    let r = bound gs in
    (max g.end r.0, All-cons (λ f. f.end ≤ max g.end r.0) g gs (omega arith) (λ k d h. let l = r.1 k d h in omega arith))

module _ (folds : List Fold) where
  pub inside_by : (o : ℕ) (f : Fold) → Contains folds f → f.start < o → o < f.end → inside folds o ≡ true
  inside_by o f m h l = any_from (λ f. ltb f.start o && ltb o f.end) f folds m (and_from (ltb f.start o) (ltb o f.end) (lt-ltb f.start o h) (lt-ltb o f.end l))

  pub covered_by : (o : ℕ) (f : Fold) → Contains folds f → f.start ≤ o → o < f.end → covered folds o ≡ true
  covered_by o f m h l = any_from (λ f. leb f.start o && ltb o f.end) f folds m (and_from (leb f.start o) (ltb o f.end) (le-leb f.start o h) (lt-ltb o f.end l))

  pub inside_of : (o : ℕ) → inside folds o ≡ true → (f : Fold) × (Contains folds f) × (f.start < o) × (o < f.end)
  inside_of o h = let r = any_to (λ f. ltb f.start o && ltb o f.end) folds h in let p = and_parts (ltb r.0.start o) (ltb o r.0.end) r.2 in (r.0, r.1, ltb-true r.0.start o p.0, ltb-true o r.0.end p.1)

  pub covered_of : (o : ℕ) → covered folds o ≡ true → (f : Fold) × (Contains folds f) × (f.start ≤ o) × (o < f.end)
  covered_of o h = let r = any_to (λ f. leb f.start o && ltb o f.end) folds h in let p = and_parts (leb r.0.start o) (ltb o r.0.end) r.2 in (r.0, r.1, leb-true r.0.start o p.0, ltb-true o r.0.end p.1)

  -- strictly inside a chain is strictly inside a fold
  pub chain_inside : (s e o : ℕ) → Chain folds s e → s < o → o < e → inside folds o ≡ true
  chain_inside s e o (One f m _) h l = inside_by o f m h l
  chain_inside s e o (Join s' e' c f m some over) h l = go (cases_lt s' o) (cases_lt o e') (chain_inside s' e' o c) where
    go : (s' < o) ⊎ (o ≤ s') → (o < e') ⊎ (e' ≤ o) → (s' < o → o < e' → inside folds o ≡ true) → inside folds o ≡ true
    go (inl x) (inl y) r = r x y
    go (inl x) (inr y) r = inside_by o f m (omega (arith, over.0)) (omega (arith, h, l, y, over.1))
    go (inr x) _ r = inside_by o f m (omega (arith, h, x, over.1)) (omega (arith, x, l, over.0, over.1))

  chain_covered : (s e : ℕ) → Chain folds s e → (covered folds s ≡ true) × (s < e)
  chain_covered s e (One f m some) = (covered_by f.start f m (omega arith) some, some)
  chain_covered s e (Join s' e' c f m some over) = (go (cases_lt f.start s') (chain_covered s' e' c), let h = (chain_covered s' e' c).1 in omega arith) where
    go : (f.start < s') ⊎ (s' ≤ f.start) → (covered folds s' ≡ true) × (s' < e') → covered folds (min s' f.start) ≡ true
    go (inl x) r = let e : min s' f.start ≡ f.start = omega arith in subst (λ k. covered folds k ≡ true) (sym e) (covered_by f.start f m (omega arith) some)
    go (inr x) r = let e : min s' f.start ≡ s' = omega arith in subst (λ k. covered folds k ≡ true) (sym e) r.0

  pub not_inside : (o : ℕ) → ((f : Fold) → Contains folds f → f.start < o → o < f.end → ⊥) → inside folds o ≡ false
  not_inside o none = go (cases_Bool (inside folds o)) where
    go : (inside folds o ≡ true) ⊎ (inside folds o ≡ false) → inside folds o ≡ false
    go (inr h) = h
    go (inl h) = let r = inside_of o h in absurd (none r.0 r.1 r.2 r.3)

  -- a joined fold shows one placeholder, at its start, and nothing up to its end
  pub IsJoined-shows : (s e : ℕ) → IsJoined folds s e → ShowsOnePlaceholder folds s e
  IsJoined-shows s e j =
      let c = chain_covered s e j.chain in
      let lt : s < e = c.1 in
      (c.0, not_inside s (λ f m h l. let r = j.most f m (omega (arith, h, l)) (omega (arith, lt, h), l) in omega (arith, h, r.0)), (λ o h l. chain_inside s e o j.chain h l), not_inside e (λ f m h l. let r = j.most f m (omega (arith, h, l)) (h, omega (arith, lt, l)) in omega (arith, l, r.1)))

  outside : (o : ℕ) (f : Fold) → inside folds o ≡ false → Contains folds f → f.start < o → f.end ≤ o
  outside o f out m h = go (cases_lt o f.end) where
    go : (o < f.end) ⊎ (f.end ≤ o) → f.end ≤ o
    go (inl l) = absurd (false≢true (sym out ∙ inside_by o f m h l))
    go (inr l) = l

  ready : (s e : ℕ) → inside folds s ≡ false → inside folds e ≡ false → Chain folds s e → IsJoined folds s e
  ready s e out out' c = record { chain = c; most = λ f m some over. (from f m over.1, outside e f out' m over.0) } where
    from : (f : Fold) → Contains folds f → s < f.end → s ≤ f.start
    from f m l = at (cases_lt f.start s) where
      at : (f.start < s) ⊎ (s ≤ f.start) → s ≤ f.start
      at (inl x) = absurd (omega (arith, outside s f out m x))
      at (inr x) = x

  longer : (s e : ℕ) → inside folds s ≡ false → Chain folds s e → inside folds e ≡ true → (e' : ℕ) × (e < e') × Chain folds s e'
  longer s e out c h = go (inside_of e h) (chain_covered s e c) where
    go : (f : Fold) × (Contains folds f) × (f.start < e) × (e < f.end) → (covered folds s ≡ true) × (s < e) → (e' : ℕ) × (e < e') × Chain folds s e'
    go r q =
        let f : Fold = r.0 in
        let m : Contains folds f = r.1 in
        let x : f.start < e = r.2 in
        let y : e < f.end = r.3 in
        let z : s < e = q.1 in
        let from : s ≤ f.start = at f m (cases_lt f.start s) (omega arith) in
        (f.end, y, subst (λ k. Chain folds s k) (let w : max e f.end ≡ f.end = omega arith in w) (subst (λ k. Chain folds k (max e f.end)) (let w : min s f.start ≡ s = omega arith in w) (Join s e c f m (omega arith) (x, omega arith)))) where
          at : (f : Fold) → Contains folds f → (f.start < s) ⊎ (s ≤ f.start) → s < f.end → s ≤ f.start
          at f m (inl x) l = absurd (omega (arith, outside s f out m x))
          at f m (inr x) l = x

  grow : (fuel n s e : ℕ) → All (λ f. f.end ≤ n) folds → inside folds s ≡ false → Chain folds s e → n < e + fuel → (e' : ℕ) × IsJoined folds s e'
  grow zero n s e most out c h = (e, ready s e out (not_inside e (λ f m x y. let z : f.end ≤ n = subst (λ (g : Fold). g.end ≤ n) m.2 (most m.0 f m.1) in omega arith)) c)
  grow (suc fuel) n s e most out c h = go (cases_Bool (inside folds e)) (λ e' c' h'. grow fuel n s e' most out c' h') where
    go : (inside folds e ≡ true) ⊎ (inside folds e ≡ false) → ((e' : ℕ) → Chain folds s e' → n < e' + fuel → (e'' : ℕ) × IsJoined folds s e'') → (e' : ℕ) × IsJoined folds s e'
    go (inr x) rest = (e, ready s e out x c)
    go (inl x) rest = let l = longer s e out c x in let lt : e < l.0 = l.1 in rest l.0 l.2 (omega arith)

  -- each placeholder is that of a joined fold
  pub IsJoined-at : (o : ℕ) → ShowsPlaceholder folds o → (e : ℕ) × IsJoined folds o e
  IsJoined-at o is = go (covered_of o is.0) (bound folds) where
    go : (f : Fold) × (Contains folds f) × (f.start ≤ o) × (o < f.end) → (n : ℕ) × All (λ f. f.end ≤ n) folds → (e : ℕ) × IsJoined folds o e
    go r b =
        let f : Fold = r.0 in
        let m : Contains folds f = r.1 in
        let x : f.start ≤ o = r.2 in
        let y : o < f.end = r.3 in
        let same : f.start ≡ o = at f m x y (cases_lt f.start o) in
        let n : ℕ = b.0 in
        grow (n + 1) n o f.end b.1 is.1 (subst (λ k. Chain folds k f.end) same (One f m (omega arith))) (omega arith) where
          at : (f : Fold) → Contains folds f → f.start ≤ o → o < f.end → (f.start < o) ⊎ (o ≤ f.start) → f.start ≡ o
          at f m x y (inl l) = absurd (omega (arith, outside o f is.1 m l))
          at f m x y (inr l) = omega arith

  pub covered_inside : (o : ℕ) → covered folds o ≡ false → inside folds o ≡ false
  covered_inside o h = not_inside o (λ f m x y. false≢true (sym h ∙ covered_by o f m (omega (arith, x)) y))

  module _ (inlays : List Inlay) where
    -- bytes at offsets strictly inside show nothing
    pub inside-shows_none : (o : ℕ) (bytes : List ℕ) → ((k : ℕ) → o ≤ k → k < o + length bytes → inside folds k ≡ true) → show_each (shown inlays folds) o bytes ≡ []
    inside-shows_none o [] h = refl
    inside-shows_none o (b ∷ bytes) h =
        ap (λ (t : Bool). (if t then [] else (inlays_at inlays o ++ (if covered folds o then Hidden o else Byte o b) ∷ [])) ++ show_each (shown inlays folds) (o + 1) bytes) (h o (omega arith) (omega arith))
        ∙ inside-shows_none (o + 1) bytes (λ k l u. h k (omega (arith, l)) (omega (arith, u)))

    pub shown-start : (o b : ℕ) → ShowsPlaceholder folds o → shown inlays folds o b ≡ inlays_at inlays o ++ Hidden o ∷ []
    shown-start o b is =
        ap (λ (t : Bool). if t then [] else (inlays_at inlays o ++ (if covered folds o then Hidden o else Byte o b) ∷ [])) is.1
        ∙ ap (λ (t : Bool). inlays_at inlays o ++ (if t then Hidden o else Byte o b) ∷ []) is.0

    pub IsJoined-hides : (s e : ℕ) → IsJoined folds s e → ShowPlaceholder inlays folds s e
    IsJoined-hides s e j [] l = absurd (let lt = (chain_covered s e j.chain).1 in omega (arith, lt, l))
    IsJoined-hides s e j (b ∷ bytes) l =
        let is = IsJoined-shows s e j in
        ap (λ (rest : List Token). shown inlays folds s b ++ rest) (inside-shows_none (s + 1) bytes (λ k x y. is.2 k (omega (arith, x)) (omega (arith, y, l))))
        ∙ append-nil (shown inlays folds s b)
        ∙ shown-start s b (is.0, is.1)

    pub shown-inlaid : (o : ℕ) → covered folds o ≡ false → ShowsAsInlaid inlays folds o
    shown-inlaid o h b =
        ap (λ (t : Bool). if t then [] else (inlays_at inlays o ++ (if covered folds o then Hidden o else Byte o b) ∷ [])) (covered_inside o h)
        ∙ ap (λ (t : Bool). inlays_at inlays o ++ (if t then Hidden o else Byte o b) ∷ []) h
