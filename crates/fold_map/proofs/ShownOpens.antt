-- Where characters begin: a joined fold is at boundaries, and so are inlays.
use Rattle.std.proofs.Common.{◌≡◌, ℕ, ◌+◌, ◌-◌, ◌<◌, ◌≤◌, ◌⊎◌, Bool, true, false, cond, eqb, List, [], ◌∷◌, ◌++◌, length, map, filter, flat_map, drop, get_or, sym, ap, ◌∙◌, subst, inl, inr, arith, append_assoc}
use Rattle.std.specs.List.{Contains}
use Rattle.std.specs.Str.{IsCharBoundary, IsUtf8}
use Rattle.std.proofs.lemmas.Bool.{cases_lt, false≢true}
use Rattle.std.proofs.lemmas.List.{drop_all, drop_more}
use Rattle.std.proofs.lemmas.Str.{IsCharBoundary-from_take, IsCharBoundary-start}
use Rattle.cell_units.specs.Inlaid.{Token, Byte, InlayByte, bytes_of, inlay_bytes, inlays_at, show_each}
use Rattle.cell_units.specs.Joined.{ShowsOnePlaceholder}
use Rattle.cell_units.specs.Lawful.{AreFolds, AreInlays, IsFoldOf, IsInlayOf}
use Rattle.cell_units.specs.Record.{Fold, Inlay}
use Rattle.cell_units.specs.Text.{IsBoundary, clean, line_feed}
use Rattle.cell_units.proofs.Characters.{clean-utf8}
use Rattle.cell_units.proofs.CutLists.{Every}
use Rattle.cell_units.proofs.FoundEntries.{Every-from_All}
use Rattle.cell_units.proofs.Joined.{covered_of, inside_by}
use Rattle.joined_folds.proofs.Sweeps.{all-at}
use Rattle.joined_folds.proofs.Windows.{one-hides}
use Rattle.fold_map.proofs.ShownSteps.{from, low}

-- the first of the tokens begins with the first byte of a character
abbrev pub Opens : List Token → Type 0
Opens [] = ⊥
Opens (t ∷ ts) = IsCharBoundary (bytes_of t) 0

first-byte : (b : ℕ) (bs : List ℕ) → IsCharBoundary (b ∷ bs) 0 → IsCharBoundary (b ∷ []) 0
first-byte b bs h = (omega arith, λ l. h.1 (omega arith))

module _ (text : List ℕ) (utf8 : IsUtf8 text) where
  pub opens-byte : (o : ℕ) → o < length text → IsBoundary text o → IsCharBoundary (get_or text o 0 ∷ []) 0
  opens-byte o lt b = let h = IsCharBoundary-from_take text o utf8 b.0 b.1 in (omega arith, λ l. h.1 lt)

  opens-inlays : (inlays : List Inlay) (o : ℕ) (rest : List Token) → Every (IsInlayOf text) inlays → Opens rest → Opens (inlays_at inlays o ++ rest)
  opens-inlays [] o rest e h = h
  opens-inlays (i ∷ is) o rest e h = go (eqb i.offset o) (opens-inlays is o rest e.1 h) where
    own : (bs : List ℕ) → IsUtf8 bs → (more : List Token) → Opens (more ++ rest) → Opens ((map (λ b. InlayByte i.offset i.id b) bs ++ more) ++ rest)
    own [] u more h = h
    own (b ∷ bs) u more h = first-byte b bs (IsCharBoundary-start (b ∷ bs) u)

    go : (c : Bool) → Opens (inlays_at is o ++ rest)
        → Opens (flat_map inlay_bytes (cond c (i ∷ filter (λ j. eqb j.offset o) is) (filter (λ j. eqb j.offset o) is)) ++ rest)
    go false next = next
    go true next = own (clean i.text) (clean-utf8 i.text e.0.utf8) (inlays_at is o) next

  -- what is shown from a boundary on begins with a character
  pub opens-at : (inlays : List Inlay) (o : ℕ) → AreInlays text inlays → IsBoundary text o → Opens (from text inlays [] o ++ Byte (length text) line_feed ∷ [])
  opens-at inlays o are b = go (cases_lt o (length text)) where
    close : Token
    close = Byte (length text) line_feed

    every : Every (IsInlayOf text) inlays
    every = Every-from_All (IsInlayOf text) inlays are.each

    go : (o < length text) ⊎ (length text ≤ o) → Opens (from text inlays [] o ++ Byte (length text) line_feed ∷ [])
    go (inl lt) =
        let later = show_each (low text inlays) (o + 1) (drop (o + 1) text) in
        let more = later ++ (inlays_at inlays (length text) ++ Byte (length text) line_feed ∷ []) in
        let own = Byte o (get_or text o 0) in
        let whole : from text inlays [] o ++ Byte (length text) line_feed ∷ [] ≡ inlays_at inlays o ++ (own ∷ more) =
        ap (λ (l : List ℕ). (show_each (low text inlays) o l ++ inlays_at inlays (length text)) ++ Byte (length text) line_feed ∷ []) (drop_more text o 0 lt)
        ∙ append_assoc ((inlays_at inlays o ++ own ∷ []) ++ later) (inlays_at inlays (length text)) (Byte (length text) line_feed ∷ [])
        ∙ append_assoc (inlays_at inlays o ++ own ∷ []) later (inlays_at inlays (length text) ++ Byte (length text) line_feed ∷ [])
        ∙ append_assoc (inlays_at inlays o) (own ∷ []) more in
        subst Opens (sym whole) (opens-inlays inlays o (own ∷ more) every (opens-byte o lt b))
    go (inr past) =
        let same : length text ≡ o = omega (arith, past, b.0) in
        let whole : from text inlays [] o ++ Byte (length text) line_feed ∷ [] ≡ inlays_at inlays o ++ Byte (length text) line_feed ∷ [] =
        ap (λ (l : List ℕ). (show_each (low text inlays) o l ++ inlays_at inlays (length text)) ++ Byte (length text) line_feed ∷ []) (drop_all o text past)
        ∙ ap (λ (k : ℕ). inlays_at inlays k ++ Byte (length text) line_feed ∷ []) same in
        subst Opens (sym whole) (opens-inlays inlays o (Byte (length text) line_feed ∷ []) every (omega arith, λ l g. absurd (omega (arith, g))))

module _ (text : List ℕ) (folds : List Fold) (are : AreFolds text folds) where
  -- a joined fold starts where one of its folds does
  pub start-boundary : (s e : ℕ) → ShowsOnePlaceholder folds s e → IsBoundary text s
  start-boundary s e is = go (covered_of folds s is.0) where
    go : (f : Fold) × Contains folds f × (f.start ≤ s) × (s < f.end) → IsBoundary text s
    go r = at (cases_lt r.0.start s) where
      at : (r.0.start < s) ⊎ (s ≤ r.0.start) → IsBoundary text s
      at (inl x) = absurd (false≢true (sym is.1 ∙ inside_by folds s r.0 r.1 x r.3))
      at (inr x) =
          let same : r.0.start ≡ s = let l = r.2 in omega (arith, l, x) in
          subst (IsBoundary text) same (all-at (IsFoldOf text) folds r.0 are.each r.1).start

  -- and ends where one does
  pub end-boundary : (s e : ℕ) → s < e → ShowsOnePlaceholder folds s e → IsBoundary text e
  end-boundary s e some is = go (covered_of folds (e - 1) (one-hides folds s e (e - 1) is (omega (arith, some)) (omega (arith, some)))) where
    go : (f : Fold) × Contains folds f × (f.start ≤ e - 1) × (e - 1 < f.end) → IsBoundary text e
    go r = at (cases_lt e r.0.end) where
      at : (e < r.0.end) ⊎ (r.0.end ≤ e) → IsBoundary text e
      at (inl x) = absurd (false≢true (sym is.3 ∙ inside_by folds e r.0 r.1 (let l = r.2 in omega (arith, l, some)) x))
      at (inr x) =
          let same : r.0.end ≡ e = let l = r.3 in omega (arith, l, x, some) in
          subst (IsBoundary text) same (all-at (IsFoldOf text) folds r.0 are.each r.1).end
