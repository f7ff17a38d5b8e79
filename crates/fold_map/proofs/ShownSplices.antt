-- What is shown is what the lower layer shows, with a placeholder in the place of each stretch that a splice takes out.
use Rattle.std.proofs.Common.{◌≡◌, ℕ, suc, zero, ◌+◌, ◌<◌, ◌≤◌, List, [], ◌∷◌, ◌++◌, length, take, drop, get_or, refl, sym, ap, ◌∙◌, subst, inl, inr, ◌⊎◌, arith, append_assoc}
use Rattle.std.specs.List.{count_by}
use Rattle.std.proofs.lemmas.Bool.{cases_lt}
use Rattle.std.proofs.lemmas.List.{drop_all, drop_more}
use Rattle.cell_units.specs.Text.{line_feed}
use Rattle.cell_units.specs.Record.{Fold, Inlay}
use Rattle.cell_units.specs.Inlaid.{Token, Byte, Hidden, inlays_at, is_break, offset_of, show_each}
use Rattle.cell_units.specs.Lawful.{IsWellFormed}
use Rattle.cell_units.specs.Layers.{Source}
use Rattle.cell_units.proofs.ShownText.{size, size-append}
use Rattle.cell_units.proofs.LineSpans.{inlays-at}
use Rattle.cell_units.proofs.CutLists.{Every}
use Rattle.joined_folds.specs.declared.joined_fold.JoinedFold.{JoinedFold}
use Rattle.joined_folds.specs.JoinedLists.{AreJoined}
use Rattle.joined_folds.proofs.JoinedLists.{joined-order}
use Rattle.sum_core.specs.Sums.{total}
use Rattle.sum_core.specs.declared.load.NoLoad.{NoLoad}
use Rattle.splice_tree.specs.Sides.{none, both}
use Rattle.splice_tree.specs.Splices.{Piece, piece_sum}
use Rattle.splice_tree.specs.declared.sides.Sides.{Sides}
use Rattle.fold_map.specs.declared.amount.Amount.{Amount}
use Rattle.fold_map.specs.Amounts.{nothing, together}
use Rattle.fold_map.specs.Splices.{splices_from}
use Rattle.fold_map.proofs.ShownOpens.{Opens, end-boundary, opens-at, opens-byte, start-boundary}
use Rattle.fold_map.proofs.ShownSteps.{from, low, step, same-from}
use Rattle.fold_map.proofs.Sums.{breaks-append}

-- the break at a source's end
abbrev pub closing : Source → Token
closing s = Byte (length s.text) line_feed

-- the first of the tokens comes from the offset
abbrev pub BeginAt : ℕ → List Token → Type 0
BeginAt o [] = ⊥
BeginAt o (t ∷ ts) = offset_of t ≡ o

-- How much tokens are.
pub record IsOf (ts : List Token) (a : Amount) : Type 0 where
  pub bytes : size ts ≡ a.bytes
  pub feeds : count_by is_break ts ≡ a.feeds

-- The tokens around a splice: those of the gap and those taken out, and what comes after on either side.
pub record Around : Type 0 where
  pub start : ℕ
  pub end : ℕ
  pub gap : List Token
  pub old : List Token
  pub below : List Token
  pub above : List Token

-- A splice cuts the lower layer's tokens and those shown so.
pub record IsAround (s : Source) (base : ℕ) (p : Piece Amount NoLoad) (below above : List Token) (a : Around) : Type 0 where
  pub start : a.start ≡ base + p.gap.buffer
  pub end : a.end ≡ a.start + p.old.buffer
  pub below_is : below ≡ a.gap ++ (a.old ++ a.below)
  pub above_is : above ≡ a.gap ++ (Hidden a.start ∷ a.above)
  pub gap : IsOf a.gap p.gap
  pub old : IsOf a.old p.old
  pub new_bytes : p.new.bytes ≡ 3
  pub new_feeds : p.new.feeds ≡ 0
  pub first : BeginAt a.start a.old
  pub next : BeginAt a.end (a.below ++ closing s ∷ [])
  pub within : a.end ≤ length s.text
  pub opens : IsWellFormed s → Opens a.old
  pub opens_next : IsWellFormed s → Opens (a.below ++ closing s ∷ [])

-- The lower layer's tokens and those shown, splice by splice.
abbrev pub AreSpliced : Source → ℕ → List (Piece Amount NoLoad) → List Token → List Token → Type 0
AreSpliced s base [] below above = below ≡ above
AreSpliced s base (p ∷ ps) below above = (a : Around) × IsAround s base p below above a × AreSpliced s a.end ps a.below a.above

-- ---- the splices of joined folds

module _ (text : List ℕ) (inlays : List Inlay) where
  abbrev layer : Source
  layer = record { text = text; inlays = inlays; folds = [] }

  abbrev pub close : Token
  close = Byte (length text) line_feed

  -- what is shown from an offset on begins there
  begin-at : (o : ℕ) → o ≤ length text → BeginAt o (from text inlays [] o ++ close ∷ [])
  begin-at o le = go (inlays_at inlays o) (inlays-at inlays o) refl (cases_lt o (length text)) where
    first : (is : List Token) → Every (λ t. offset_of t ≡ o) is → (t : Token) → offset_of t ≡ o → (ts : List Token) → BeginAt o (is ++ t ∷ ts)
    first [] h t e ts = e
    first (i ∷ is) h t e ts = h.0

    go : (is : List Token) → Every (λ t. offset_of t ≡ o) is → inlays_at inlays o ≡ is → (o < length text) ⊎ (length text ≤ o) → BeginAt o (from text inlays [] o ++ close ∷ [])
    go is h e (inl lt) =
        let later = show_each (low text inlays) (o + 1) (drop (o + 1) text) in
        let whole : from text inlays [] o ++ close ∷ [] ≡ is ++ (Byte o (get_or text o 0) ∷ (later ++ (inlays_at inlays (length text) ++ close ∷ []))) =
        ap (λ (l : List ℕ). (show_each (low text inlays) o l ++ inlays_at inlays (length text)) ++ close ∷ []) (drop_more text o 0 lt)
        ∙ append_assoc ((inlays_at inlays o ++ Byte o (get_or text o 0) ∷ []) ++ later) (inlays_at inlays (length text)) (close ∷ [])
        ∙ append_assoc (inlays_at inlays o ++ Byte o (get_or text o 0) ∷ []) later (inlays_at inlays (length text) ++ close ∷ [])
        ∙ append_assoc (inlays_at inlays o) (Byte o (get_or text o 0) ∷ []) (later ++ (inlays_at inlays (length text) ++ close ∷ []))
        ∙ ap (λ (l : List Token). l ++ (Byte o (get_or text o 0) ∷ (later ++ (inlays_at inlays (length text) ++ close ∷ [])))) e in
        subst (BeginAt o) (sym whole) (first is h (Byte o (get_or text o 0)) refl (later ++ (inlays_at inlays (length text) ++ close ∷ [])))
    go is h e (inr past) =
        let here : length text ≡ o = omega (arith, past, le) in
        let whole : from text inlays [] o ++ close ∷ [] ≡ is ++ (close ∷ []) =
        ap (λ (l : List ℕ). (show_each (low text inlays) o l ++ inlays_at inlays (length text)) ++ close ∷ []) (drop_all o text past)
        ∙ ap (λ (k : ℕ). inlays_at inlays k ++ close ∷ []) here
        ∙ ap (λ (l : List Token). l ++ close ∷ []) e in
        subst (BeginAt o) (sym whole) (first is h close here [])

  module _ (folds : List Fold) where
    pub spliced : (base : ℕ) (js : List JoinedFold) → AreJoined folds base js (length text) → AreSpliced (record { text = text; inlays = inlays; folds = folds }) base (splices_from layer base js) (from text inlays [] base) (from text inlays folds base)
    spliced base [] a = same-from text inlays folds base a.1 a.0
    spliced base (j ∷ js) a =
        let within = joined-order folds j.end js (length text) a.1 in
        let order = a.0.order in
        let some = a.0.some in
        let s = step text inlays folds base j.start j.end order some within a.0.bare a.0.shows in (
          record { start = j.start; end = j.end; gap = s.gap; old = s.old; below = from text inlays [] j.end; above = from text inlays folds j.end },
          record {
            start = omega arith;
            end = omega arith;
            below_is = s.below;
            above_is = s.above;
            gap = record {
              bytes = omega (arith, ap size s.gap_is, size-append (show_each (low text inlays) 0 (take base text)) s.gap);
              feeds = omega (arith, ap (count_by is_break) s.gap_is, breaks-append (show_each (low text inlays) 0 (take base text)) s.gap);
            };
            old = record {
              bytes = omega (arith, ap size s.old_is, size-append (show_each (low text inlays) 0 (take j.start text) ++ inlays_at inlays j.start) s.old);
              feeds = omega (arith, ap (count_by is_break) s.old_is, breaks-append (show_each (low text inlays) 0 (take j.start text) ++ inlays_at inlays j.start) s.old);
            };
            new_bytes = refl;
            new_feeds = refl;
            first = subst (BeginAt j.start) (sym s.first) s.at;
            next = begin-at j.end within;
            within = within;
            opens = λ is. subst Opens (sym (s.first ∙ ap (λ (t : Token). t ∷ s.rest) s.own_is)) (opens-byte text is.text.0 j.start (omega arith) (start-boundary text folds is.folds j.start j.end a.0.shows));
            opens_next = λ is. opens-at text is.text.0 inlays j.end is.inlays (end-boundary text folds is.folds j.start j.end some a.0.shows);
          },
          spliced j.end js a.1,
        )

-- ---- at a splice

abbrev pub sums : List (Piece Amount NoLoad) → Sides Amount
sums ps = total (none nothing) (both together) (piece_sum together) ps

-- What is before the splice of an index, and from there on.
pub record InSplices (s : Source) (base : ℕ) (ps : List (Piece Amount NoLoad)) (below above : List Token) (n : ℕ) : Type 0 where
  pub offset : ℕ
  pub front_below : List Token
  pub front_above : List Token
  pub rest_below : List Token
  pub rest_above : List Token
  pub offset_is : offset ≡ base + (sums (take n ps)).lower.buffer
  pub below_is : below ≡ front_below ++ rest_below
  pub above_is : above ≡ front_above ++ rest_above
  pub lower : IsOf front_below (sums (take n ps)).lower
  pub upper : IsOf front_above (sums (take n ps)).upper
  pub rest : AreSpliced s offset (drop n ps) rest_below rest_above

pub in-splices : (s : Source) (base : ℕ) (ps : List (Piece Amount NoLoad)) (below above : List Token) (n : ℕ) → AreSpliced s base ps below above → InSplices s base ps below above n
in-splices c base ps below above zero s = record {
  offset = base;
  front_below = [];
  front_above = [];
  rest_below = below;
  rest_above = above;
  offset_is = omega arith;
  below_is = refl;
  above_is = refl;
  lower = record { bytes = refl; feeds = refl };
  upper = record { bytes = refl; feeds = refl };
  rest = s;
}
in-splices c base [] below above (suc n) s = record {
  offset = base;
  front_below = [];
  front_above = [];
  rest_below = below;
  rest_above = above;
  offset_is = omega arith;
  below_is = refl;
  above_is = refl;
  lower = record { bytes = refl; feeds = refl };
  upper = record { bytes = refl; feeds = refl };
  rest = s;
}
in-splices c base (p ∷ ps) below above (suc n) (a, i, s) =
    let r = in-splices c a.end ps a.below a.above n s in
    record {
      offset = r.offset;
      front_below = a.gap ++ (a.old ++ r.front_below);
      front_above = a.gap ++ (Hidden a.start ∷ r.front_above);
      rest_below = r.rest_below;
      rest_above = r.rest_above;
      offset_is = omega (arith, r.offset_is, i.start, i.end);
      below_is =
          i.below_is
          ∙ ap (λ (l : List Token). a.gap ++ (a.old ++ l)) r.below_is
          ∙ sym (append_assoc a.gap (a.old ++ r.front_below) r.rest_below ∙ ap (λ (l : List Token). a.gap ++ l) (append_assoc a.old r.front_below r.rest_below));
      above_is =
          i.above_is
          ∙ ap (λ (l : List Token). a.gap ++ (Hidden a.start ∷ l)) r.above_is
          ∙ sym (append_assoc a.gap (Hidden a.start ∷ r.front_above) r.rest_above);
      lower = record {
        bytes = omega (arith, size-append a.gap (a.old ++ r.front_below), size-append a.old r.front_below, i.gap.bytes, i.old.bytes, r.lower.bytes);
        feeds = omega (arith, breaks-append a.gap (a.old ++ r.front_below), breaks-append a.old r.front_below, i.gap.feeds, i.old.feeds, r.lower.feeds);
      };
      upper = record {
        bytes = omega (arith, size-append a.gap (Hidden a.start ∷ r.front_above), size-append (Hidden a.start ∷ []) r.front_above, i.gap.bytes, i.new_bytes, r.upper.bytes);
        feeds = omega (arith, breaks-append a.gap (Hidden a.start ∷ r.front_above), breaks-append (Hidden a.start ∷ []) r.front_above, i.gap.feeds, i.new_feeds, r.upper.feeds);
      };
      rest = r.rest;
    }
