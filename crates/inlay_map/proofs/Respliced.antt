-- Splices of which a run was made anew.
use Rattle.std.proofs.Common.{◌≡◌, ℕ, zero, suc, ◌+◌, ◌-◌, ◌≤◌, List, [], ◌∷◌, ◌++◌, length, take, drop, get_or, Some, refl, sym, ap, ◌∙◌, subst, arith}
use Rattle.std.specs.List.{slice_get}
use Rattle.std.proofs.lemmas.List.{drop_all, get_or-drop, length-drop, length-take, take_more}
use Rattle.std.proofs.lemmas.List.Sums.{count_by-le-length}
use Rattle.std.proofs.lemmas.Option.{get_or_from_slice_get, slice_get_within}
use Rattle.cell_units.specs.declared.limits.TheConstants.{LAID_LIMIT}
use Rattle.cell_units.specs.Record.{Inlay}
use Rattle.cell_units.specs.Text.{clean, is_feed, row_of}
use Rattle.cell_units.proofs.Returns.{clean-not_longer}
use Rattle.sum_core.specs.declared.load.NoLoad.{NoLoad}
use Rattle.splice_tree.specs.Splices.{Piece, regapped, replaced, with_first_gap}
use Rattle.splice_tree.proofs.Passing.{drop-found}
use Rattle.inlay_map.specs.declared.amount.Amount.{Amount}
use Rattle.inlay_map.specs.Amounts.{AmountFits, together}
use Rattle.inlay_map.specs.Splices.{splice_of, splices_from}
use Rattle.inlay_map.proofs.SpliceLists.{in-runs}
use Rattle.inlay_map.proofs.Spread.{IsSpread}

abbrev Splices : Type 0
Splices = List (Piece Amount NoLoad)

-- A run of the new splices between the old ones: the new ones.
pub whole-is : (new old fresh : Splices) (from to count : ℕ) (gap : Amount) → fresh ≡ take count (drop from new) → take from old ≡ take from new
    → with_first_gap gap (drop to old) ≡ with_first_gap gap (drop (from + count) new) → with_first_gap gap (drop (from + count) new) ≡ drop (from + count) new
    → replaced from to fresh gap old ≡ new
whole-is new old fresh from to count gap is front behind own =
    (λ i. front i ++ (is i ++ (behind ∙ own) i)) ∙ in-runs [] new from count

-- the gap before a splice is its own
pub own-gap : (ps : Splices) (at : ℕ) (p : Piece Amount NoLoad) → slice_get ps at ≡ Some p → with_first_gap p.gap (drop at ps) ≡ drop at ps
own-gap ps at p e = let d = drop-found ps at p e in ap (with_first_gap p.gap) d ∙ sym d

pub no-gap : (ps : Splices) (at : ℕ) (gap : Amount) → length ps ≤ at → with_first_gap gap (drop at ps) ≡ drop at ps
no-gap ps at gap le = let d : drop at ps ≡ [] = drop_all at ps le in ap (with_first_gap gap) d ∙ sym d

-- one splice more of a run
pub run-more : (ps run : Splices) (from at : ℕ) (p : Piece Amount NoLoad) → from ≤ at → slice_get ps at ≡ Some p → run ≡ take (at - from) (drop from ps) → run ++ p ∷ [] ≡ take (at + 1 - from) (drop from ps)
run-more ps run from at p le e is =
    let within = slice_get_within ps at p e in
    let there : from + (at - from) ≡ at = omega (arith, le) in
    let size : at - from + 1 ≡ at + 1 - from = omega (arith, le) in
    let same = get_or-drop from ps (at - from) p ∙ ap (λ k. get_or ps k p) there ∙ get_or_from_slice_get ps at p p e in
    (λ i. is i ++ sym same i ∷ [])
    ∙ sym (take_more (drop from ps) (at - from) p (omega (arith, within, le, length-drop from ps)))
    ∙ ap (λ k. take k (drop from ps)) size

-- ---- sizes

module _ (text : List ℕ) (short : length text ≤ LAID_LIMIT) where
  row-small : (o : ℕ) → row_of text o ≤ LAID_LIMIT
  row-small o = omega (arith, count_by-le-length is_feed (take o text), length-take o text, short)

  pub fits-at : (base : ℕ) (is : List Inlay) (k : ℕ) (p : Piece Amount NoLoad) → IsSpread text base is → slice_get (splices_from text base is) k ≡ Some p → AmountFits (together p.gap p.old) × AmountFits (together p.gap p.new)
  fits-at base [] zero p s e = absurd (cc)
  fits-at base [] (suc k) p s e = absurd (cc)
  fits-at base (i ∷ is) zero p s e =
      subst (λ (q : Piece Amount NoLoad). AmountFits (together q.gap q.old) × AmountFits (together q.gap q.new)) (some-same (splice_of text base i) p e) (
        (omega (arith, s.0, s.1, short), omega (arith, row-small i.offset)),
        (omega (arith, s.0, s.1, s.2, short, clean-not_longer i.text), omega (arith, row-small i.offset, s.2, clean-not_longer i.text, count_by-le-length is_feed (clean i.text))),
      )
    where
      some-same : (x y : Piece Amount NoLoad) → Some x ≡ Some y → x ≡ y
      some-same x y q = cc
  fits-at base (i ∷ is) (suc k) p s e = fits-at i.offset is k p s.3 e

  get-drop : (ps : Splices) (n : ℕ) → slice_get ps n ≡ slice_get (drop n ps) 0
  get-drop [] zero = refl
  get-drop [] (suc n) = refl
  get-drop (p ∷ ps) zero = refl
  get-drop (p ∷ ps) (suc n) = get-drop ps n

  -- the new gap of the splice after a run fits it
  pub gap-fits : (is : List Inlay) (old : Splices) (to last : ℕ) (gap : Amount) → IsSpread text 0 is → with_first_gap gap (drop to old) ≡ drop last (splices_from text 0 is)
      → (p : Piece Amount NoLoad) → slice_get old to ≡ Some p → AmountFits (together gap p.old) × AmountFits (together gap p.new)
  gap-fits is old to last gap s behind p e =
      fits-at 0 is last (regapped gap p) s
      (get-drop (splices_from text 0 is) last ∙ ap (λ l. slice_get l 0) (sym behind ∙ ap (with_first_gap gap) (drop-found old to p e)))
