-- The lines of a lawful record: their pieces are texts.
use Rattle.std.proofs.Common.{◌≡◌, ◌≢◌, ℕ, ◌+◌, ◌<◌, ◌≤◌, ◌==◌, ◌&&◌, ◌||◌, leb, ltb, not, Bool, true, false, cond, List, [], ◌∷◌, zero, suc, length, filter, get_or, refl, sym, ap, ◌∙◌, subst, arith}
use Rattle.std.specs.List.{All, flat_map}
use Rattle.std.specs.Str.{IsUtf8}
use Rattle.std.proofs.lemmas.Bool.{false≢true, or_from}
use Rattle.std.proofs.lemmas.Bool.Decides.{nat_tests}
use Rattle.cell_units.specs.Text.{IsBoundary, goes_on}
use Rattle.cell_units.specs.Record.{Fold, Inlay, Record}
use Rattle.cell_units.specs.Inlaid.{Token, inlay_bytes, inlays_at}
use Rattle.cell_units.specs.Folded.{covered, display_lines}
use Rattle.cell_units.proofs.TextLaws.{tells_boundaries}
use Rattle.cell_units.specs.Lawful.{IsLawful}
use Rattle.spot_laws.proofs.PieceTexts.{AreUtf8, texts}
use Rattle.spot_laws.proofs.LineTexts.{AreGoodLines}
use Rattle.spot_laws.proofs.FoldedUnits.{AreStill, FoldsAreStill, IsStill, good-display_lines, still-from}

inlays-none : (inlays : List Inlay) (k : ℕ) → All (λ i. i.offset ≢ k) inlays → inlays_at inlays k ≡ []
inlays-none [] k h = refl
inlays-none (i ∷ rest) k h =
    let off : (i.offset == k) ≡ false = grind (arith, nat_tests, h 0 i (omega arith)) in
    ap (λ (b : Bool). flat_map inlay_bytes (cond b (i ∷ filter (λ i. i.offset == k) rest) (filter (λ i. i.offset == k) rest))) off
    ∙ inlays-none rest k (λ j d l. h (suc j) d (omega (arith, l)))

folds-still : (folds : List Fold) (k : ℕ) → All (λ f. (f.start ≢ k) × (f.end ≢ k)) folds → FoldsAreStill folds k
folds-still [] k h = tt
folds-still (f ∷ rest) k h = let here = h 0 f (omega arith) in (here.0, here.1, folds-still rest k (λ j d l. h (suc j) d (omega (arith, l))))

covered-past : (folds : List Fold) (n : ℕ) → All (λ f. f.end ≤ n) folds → covered folds n ≡ false
covered-past [] n h = refl
covered-past (f ∷ rest) n h =
    let past = h 0 f (omega arith) in
    let off : (leb f.start n && ltb n f.end) ≡ false = grind (arith, nat_tests, past) in
    or_from (leb f.start n && ltb n f.end) (covered rest n) off (covered-past rest n (λ j d l. h (suc j) d (omega (arith, l))))

not_both : (k n b : ℕ) → k < n → goes_on b ≡ true → ((k == n) || (ltb k n && not (goes_on b))) ≡ true → ⊥
not_both k n b l g h = go (goes_on b) g h where
  go : (v : Bool) → v ≡ true → ((k == n) || (ltb k n && not v)) ≡ true → ⊥
  go true e h = grind (arith, nat_tests, h, l)
  go false e h = false≢true e

module _ (r : Record) (lawful : IsLawful r) where
  pub utf8 : IsUtf8 r.text
  utf8 = lawful.entries.source.text.0

  -- a byte that goes on is at no boundary
  pub no_boundary : (k j : ℕ) → k < length r.text → goes_on (get_or r.text k 0) ≡ true → IsBoundary r.text j → j ≢ k
  no_boundary k j l g b e = not_both k (length r.text) (get_or r.text k 0) l g ((tells_boundaries r.text utf8 k).1 (subst (IsBoundary r.text) e b))

  pub still_at : (k : ℕ) → k < length r.text → goes_on (get_or r.text k 0) ≡ true → IsStill r.inlays r.folds k
  still_at k l g = (
    inlays-none r.inlays k (λ j d m. no_boundary k (get_or r.inlays j d).offset l g (lawful.entries.source.inlays.each j d m).boundary),
    folds-still r.folds k (λ j d m. let b = lawful.entries.source.folds.each j d m in (no_boundary k (get_or r.folds j d).start l g b.start, no_boundary k (get_or r.folds j d).end l g b.end)),
  )

  still : AreStill r.inlays r.folds 0 r.text
  still = still-from r.inlays r.folds 0 r.text (λ i l g. let at : 0 + i ≡ i = omega arith in subst (IsStill r.inlays r.folds) (sym at) (still_at i l g))

  pub end-shown : covered r.folds (length r.text) ≡ false
  end-shown = covered-past r.folds (length r.text) (λ j d m. (lawful.entries.source.folds.each j d m).end.0)

  good-at : (lines : List (List Token)) → AreGoodLines lines → (k : ℕ) → k < length lines → AreUtf8 (texts (get_or lines k []))
  good-at [] h k l = absurd (omega (arith, l))
  good-at (line ∷ lines) h zero l = h.0
  good-at (line ∷ lines) h (suc k) l = good-at lines h.1 k (omega (arith, l))

  pub line-texts : (k : ℕ) → k < length (display_lines r.text r.inlays r.folds) → AreUtf8 (texts (get_or (display_lines r.text r.inlays r.folds) k []))
  line-texts k l =
      good-at (display_lines r.text r.inlays r.folds) (good-display_lines r.inlays r.folds (λ j d m. (lawful.entries.source.inlays.each j d m).utf8) r.text utf8 still end-shown) k l
