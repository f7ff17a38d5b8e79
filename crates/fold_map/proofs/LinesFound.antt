-- The line that a seek by line feeds finds: where it begins, on either side, and what is on it.
use Rattle.std.proofs.Common.{◌≡◌, ℕ, suc, zero, ◌+◌, ◌-◌, ◌<◌, ◌≤◌, Bool, true, cond, List, [], ◌∷◌, ◌++◌, length, take, drop, get_or, Option, Some, None, refl, sym, ap, ◌∙◌, subst, arith, append-nil, append_assoc, take_all}
use Rattle.std.specs.List.{count_by, slice_get}
use Rattle.std.proofs.lemmas.Option.{slice_get_within}
use Rattle.cell_units.specs.BufferLines.{line_start}
use Rattle.cell_units.specs.Cutting.{cut_lines}
use Rattle.cell_units.specs.Folded.{folded, folded_before, shown, span_end, span_start}
use Rattle.cell_units.specs.Inlaid.{Token, Byte, Hidden, InlayByte, inlays_at, is_break, offset_of, show_each}
use Rattle.cell_units.specs.Layers.{Source, line_tokens, shown_text, unfolded}
use Rattle.cell_units.specs.Record.{Fold, line_count}
use Rattle.cell_units.specs.Text.{is_feed, row_of}
use Rattle.cell_units.proofs.BufferLines.{line_count-is}
use Rattle.cell_units.proofs.CutLists.{ended, ended-append, upto}
use Rattle.cell_units.proofs.LineSpans.{feeds-tokens}
use Rattle.cell_units.proofs.ShownText.{folded_is, size, size-append}
use Rattle.joined_folds.proofs.JoinedLists.{covered_past, one-list}
use Rattle.sum_core.specs.declared.load.NoLoad.{NoLoad}
use Rattle.splice_tree.specs.Splices.{Piece, regapped}
use Rattle.splice_tree.proofs.Passing.{drop-found}
use Rattle.fold_map.specs.declared.amount.Amount.{Amount}
use Rattle.fold_map.specs.declared.lines.LineStart.{LineStart}
use Rattle.fold_map.specs.Lines.{IsLineStart}
use Rattle.fold_map.specs.Splices.{AreSplices, splices_from}
use Rattle.fold_map.proofs.LinesCut.{Ended, cut-behind, end-of_line, line-behind, span_end-behind}
use Rattle.fold_map.proofs.ShownSplices.{AreSpliced, BeginAt, InSplices, IsOf, closing, in-splices, sums}
use Rattle.fold_map.proofs.Sums.{breaks-append}
use Rattle.fold_map.proofs.SpotsFound.{placeholder-new, sums-next}
use Rattle.fold_map.proofs.SpotsShown.{all-spliced, feeds-above, feeds-below, in-spot, out-at_end, start-above, start-below, text-above, text-below, tokens}

-- there is one list of splices
pub same-splices : (s : Source) (ps qs : List (Piece Amount NoLoad)) → AreSplices s ps → AreSplices s qs → ps ≡ qs
same-splices s ps qs p q = p.spliced ∙ ap (splices_from (unfolded s) 0) (one-list s.folds (length s.text) p.joined q.joined p.all q.all) ∙ sym q.spliced

-- ---- a part of a gap

-- what is left of a gap after some of its tokens
abbrev pub left_of : List Token → Amount → Amount
left_of kept g = record { buffer = g.buffer; bytes = g.bytes - size kept; feeds = g.feeds - count_by is_break kept }

abbrev pub regap : List Token → List (Piece Amount NoLoad) → List (Piece Amount NoLoad)
regap kept [] = []
regap kept (p ∷ ps) = regapped (left_of kept p.gap) p ∷ ps

-- A line begins after what splices cover and a part of the gap that follows.
pub record AtLine (c : Source) (ps : List (Piece Amount NoLoad)) (all_below all_above : List Token) (n r : ℕ) : Type 0 where
  pub offset : ℕ
  pub front_below : List Token
  pub front_above : List Token
  pub kept : List Token
  pub below : List Token
  pub above : List Token
  pub offset_is : offset ≡ (sums (take n ps)).lower.buffer
  pub below_is : all_below ≡ front_below ++ (kept ++ below)
  pub above_is : all_above ≡ front_above ++ (kept ++ above)
  pub lower : IsOf front_below (sums (take n ps)).lower
  pub upper : IsOf front_above (sums (take n ps)).upper
  pub breaks : count_by is_break kept ≡ r
  pub closed : Ended kept
  pub fits : (p : Piece Amount NoLoad) → slice_get ps n ≡ Some p → (size kept ≤ p.gap.bytes) × (count_by is_break kept ≤ p.gap.feeds)
  pub rest : AreSpliced c offset (regap kept (drop n ps)) below above

module _ (c : Source) (ps : List (Piece Amount NoLoad)) (all_below all_above : List Token) (n r : ℕ) (i : InSplices c 0 ps all_below all_above n) where
  at-gap : (qs : List (Piece Amount NoLoad)) → drop n ps ≡ qs → AreSpliced c i.offset qs i.rest_below i.rest_above
      → ((p : Piece Amount NoLoad) → slice_get ps n ≡ Some p → r ≤ p.gap.feeds) → (sums (take n ps)).upper.feeds + r ≤ count_by is_break all_above → AtLine c ps all_below all_above n r
  at-gap [] e s some le =
      let long : r ≤ count_by is_break i.rest_below =
      omega (arith, le, ap (count_by is_break) i.above_is, breaks-append i.front_above i.rest_above, i.upper.feeds, ap (count_by is_break) s) in
      let k = cut-behind i.rest_below r long in
      record {
        offset = i.offset;
        front_below = i.front_below;
        front_above = i.front_above;
        kept = k.front;
        below = k.back;
        above = k.back;
        offset_is = omega (arith, i.offset_is);
        below_is = i.below_is ∙ ap (λ (l : List Token). i.front_below ++ l) k.is;
        above_is = i.above_is ∙ ap (λ (l : List Token). i.front_above ++ l) (sym s ∙ k.is);
        lower = i.lower;
        upper = i.upper;
        breaks = k.breaks;
        closed = k.closed;
        fits = λ p f. absurd (none-left p f);
        rest = subst (λ (qs : List (Piece Amount NoLoad)). AreSpliced c i.offset (regap k.front qs) k.back k.back) (sym e) refl;
      }
    where
      none-left : (p : Piece Amount NoLoad) → slice_get ps n ≡ Some p → ⊥
      none-left p f = let is : [] ≡ p ∷ drop (suc n) ps = sym e ∙ drop-found ps n p f in cc
  at-gap (q ∷ qs) e (a, is, s) some le =
      let found : slice_get ps n ≡ Some q = head-found ps n e in
      let k = cut-behind a.gap r (omega (arith, some q found, is.gap.feeds)) in
      record {
        offset = i.offset;
        front_below = i.front_below;
        front_above = i.front_above;
        kept = k.front;
        below = k.back ++ (a.old ++ a.below);
        above = k.back ++ (Hidden a.start ∷ a.above);
        offset_is = omega (arith, i.offset_is);
        below_is =
            i.below_is
            ∙ ap (λ (l : List Token). i.front_below ++ l) (is.below_is ∙ ap (λ (l : List Token). l ++ (a.old ++ a.below)) k.is ∙ append_assoc k.front k.back (a.old ++ a.below));
        above_is =
            i.above_is
            ∙ ap (λ (l : List Token). i.front_above ++ l) (is.above_is ∙ ap (λ (l : List Token). l ++ (Hidden a.start ∷ a.above)) k.is ∙ append_assoc k.front k.back (Hidden a.start ∷ a.above));
        lower = i.lower;
        upper = i.upper;
        breaks = k.breaks;
        closed = k.closed;
        fits = λ p f.
            let same = same-head p f in (
              omega (arith, is.gap.bytes, ap size k.is, size-append k.front k.back, ap (λ (t : Piece Amount NoLoad). t.gap.bytes) same),
              omega (arith, is.gap.feeds, ap (count_by is_break) k.is, breaks-append k.front k.back, ap (λ (t : Piece Amount NoLoad). t.gap.feeds) same),
            );
        rest = subst (λ (qs : List (Piece Amount NoLoad)). AreSpliced c i.offset (regap k.front qs) (k.back ++ (a.old ++ a.below)) (k.back ++ (Hidden a.start ∷ a.above))) (sym e) (
          record { start = a.start; end = a.end; gap = k.back; old = a.old; below = a.below; above = a.above },
          record {
            start = is.start;
            end = is.end;
            below_is = refl;
            above_is = refl;
            gap = record {
              bytes = omega (arith, is.gap.bytes, ap size k.is, size-append k.front k.back);
              feeds = omega (arith, is.gap.feeds, ap (count_by is_break) k.is, breaks-append k.front k.back);
            };
            old = is.old;
            new_bytes = is.new_bytes;
            new_feeds = is.new_feeds;
            first = is.first;
            next = is.next;
            within = is.within;
            opens = is.opens;
            opens_next = is.opens_next;
          },
          s,
        );
      }
    where
      same-head : (p : Piece Amount NoLoad) → slice_get ps n ≡ Some p → q ≡ p
      same-head p f = let is : q ∷ qs ≡ p ∷ drop (suc n) ps = sym e ∙ drop-found ps n p f in cc

      head-found : (xs : List (Piece Amount NoLoad)) (m : ℕ) → drop m xs ≡ q ∷ qs → slice_get xs m ≡ Some q
      head-found [] zero e = absurd (cc)
      head-found [] (suc m) e = absurd (cc)
      head-found (x ∷ xs) zero e = let same : x ≡ q = cc in ap Some same
      head-found (x ∷ xs) (suc m) e = head-found xs m e

-- ---- what begins there

none-of : (ts : List Token) → size ts ≡ 0 → ts ≡ []
none-of [] e = refl
none-of (t ∷ ts) e = absurd (some t (omega (arith, e, size-append (t ∷ []) ts))) where
  some : (t : Token) → size (t ∷ []) ≡ 0 → ⊥
  some t e = go t e where
    go : (t : Token) → size (t ∷ []) ≡ 0 → ⊥
    go (Byte o b) e = omega (arith, e)
    go (InlayByte o id b) e = omega (arith, e)
    go (Hidden o) e = omega (arith, e)

-- tokens of the lower layer and tokens shown begin at one offset
pub begins-alike : (s : Source) (base : ℕ) (ps : List (Piece Amount NoLoad)) (below above : List Token) (o : ℕ) → AreSpliced s base ps below above → BeginAt o (below ++ closing s ∷ []) → BeginAt o (above ++ closing s ∷ [])
begins-alike c base [] below above o s b = subst (λ (l : List Token). BeginAt o (l ++ closing c ∷ [])) s b
begins-alike c base (p ∷ ps) below above o (a, i, s) b = go a.gap i.below_is i.above_is where
  first : (old : List Token) → BeginAt a.start old → BeginAt o ((old ++ a.below) ++ closing c ∷ []) → a.start ≡ o
  first [] h b = absurd h
  first (t ∷ ts) h b = sym h ∙ b

  go : (gap : List Token) → below ≡ gap ++ (a.old ++ a.below) → above ≡ gap ++ (Hidden a.start ∷ a.above) → BeginAt o (above ++ closing c ∷ [])
  go [] eb ea = subst (λ (l : List Token). BeginAt o (l ++ closing c ∷ [])) (sym ea) (first a.old i.first (subst (λ (l : List Token). BeginAt o (l ++ closing c ∷ [])) eb b))
  go (g ∷ gs) eb ea = subst (λ (l : List Token). BeginAt o (l ++ closing c ∷ [])) (sym ea) (subst (λ (l : List Token). BeginAt o (l ++ closing c ∷ [])) eb b)

pub head-at : (ts : List Token) (c : Token) → (o : ℕ) × BeginAt o (ts ++ c ∷ [])
head-at [] c = (offset_of c, refl)
head-at (t ∷ ts) c = (offset_of t, refl)

start-row : (text : List ℕ) (o : ℕ) (ts : List Token) → BeginAt o ts → span_start text (upto is_break ts) ≡ row_of text o
start-row text o [] b = absurd b
start-row text o (t ∷ ts) b = ap (row_of text) b

-- ---- lines of a source

module _ (s : Source) (ps : List (Piece Amount NoLoad)) (are : AreSplices s ps) where
  abbrev c : Token
  c = closing s

  abbrev all_below : List Token
  all_below = tokens s ps are []

  abbrev all_above : List Token
  all_above = tokens s ps are s.folds

  pub folded-below : folded s.text s.inlays [] ≡ all_below ++ c ∷ []
  folded-below =
      folded_is (unfolded s) (refl, refl)
      ∙ ap (λ (t : List ℕ). (show_each (shown s.inlays []) 0 t ++ inlays_at s.inlays (length s.text)) ++ c ∷ []) (take_all (length s.text) s.text (omega arith))

  folded-above : folded s.text s.inlays s.folds ≡ all_above ++ c ∷ []
  folded-above =
      let before = folded_before s.text s.inlays s.folds (length s.text) in
      folded_is s (out-at_end s ps are, covered_past s.folds (length s.text) (length s.text) are.all.0 (omega arith))
      ∙ ap (λ (i : Bool). cond i before (before ++ inlays_at s.inlays (length s.text)) ++ c ∷ []) (out-at_end s ps are)
      ∙ ap (λ (t : List ℕ). (show_each (shown s.inlays s.folds) 0 t ++ inlays_at s.inlays (length s.text)) ++ c ∷ []) (take_all (length s.text) s.text (omega arith))

  pub breaks-below : count_by is_feed (shown_text (unfolded s)) ≡ count_by is_break all_below
  breaks-below = ap (count_by is_feed) (text-below s ps are) ∙ feeds-tokens all_below

  pub breaks-above : count_by is_feed (shown_text s) ≡ count_by is_break all_above
  breaks-above = ap (count_by is_feed) (text-above s ps are) ∙ feeds-tokens all_above

  module _ (line : ℕ) (at : LineStart) (start : IsLineStart ps line at) (lt : line < line_count (shown_text s)) where
    abbrev n : ℕ
    n = at.index

    abbrev r : ℕ
    r = line - at.before.upper.feeds

    lower-feeds : at.before.lower.feeds ≡ (sums (take n ps)).lower.feeds
    lower-feeds = ap (λ x. x.lower.feeds) start.before

    upper-feeds : at.before.upper.feeds ≡ (sums (take n ps)).upper.feeds
    upper-feeds = ap (λ x. x.upper.feeds) start.before

    -- it is the first line, or begins after a line feed in the gap
    first-or : 0 < n → 0 < r
    first-or some = omega (arith, start.first.short some, upper-feeds)

    upto-gap : (p : Piece Amount NoLoad) → slice_get ps n ≡ Some p → r ≤ p.gap.feeds
    upto-gap p e =
        let reached = start.first.reaching (slice_get_within ps n p e) in
        let next = sums-next ps n p e in
        let new = placeholder-new s ps n p are e in
        omega (arith, reached, next.1, new.1, upper-feeds)

    feeds-in : (sums (take n ps)).upper.feeds + r ≤ count_by is_break all_above
    feeds-in = omega (arith, lt, line_count-is (shown_text s), breaks-above, start.behind, upper-feeds)

    pub at-line : AtLine s ps all_below all_above n r
    at-line =
        let i = in-splices s 0 ps all_below all_above n (all-spliced s ps are) in
        at-gap s ps all_below all_above n r i (drop n ps) refl i.rest upto-gap feeds-in

    ended-front : (front kept : List Token) → count_by is_break kept ≡ r → Ended kept → (n ≡ 0 → size front ≡ 0) → Ended (front ++ kept)
    ended-front front [] b h none =
        let zero-n : n ≡ 0 = no-n (at.index) first-or (omega (arith, b)) in
        ap (λ (l : List Token). ended is_break true (l ++ [])) (none-of front (none zero-n))
      where
        no-n : (m : ℕ) → (0 < m → 0 < r) → r ≡ 0 → m ≡ 0
        no-n zero h e = refl
        no-n (suc m) h e = absurd (omega (arith, h (omega arith), e))
    ended-front front (k ∷ ks) b h none = ended-append is_break true front (k ∷ ks) ∙ h

    none-before : n ≡ 0 → ((sums (take n ps)).lower.bytes ≡ 0) × ((sums (take n ps)).upper.bytes ≡ 0)
    none-before e = (ap (λ (k : ℕ). (sums (take k ps)).lower.bytes) e, ap (λ (k : ℕ). (sums (take k ps)).upper.bytes) e)

    pub closed-below : Ended (at-line.front_below ++ at-line.kept)
    closed-below = ended-front at-line.front_below at-line.kept at-line.breaks at-line.closed (λ e. omega (arith, at-line.lower.bytes, (none-before e).0))

    pub closed-above : Ended (at-line.front_above ++ at-line.kept)
    closed-above = ended-front at-line.front_above at-line.kept at-line.breaks at-line.closed (λ e. omega (arith, at-line.upper.bytes, (none-before e).1))

    breaks-front_below : count_by is_break (at-line.front_below ++ at-line.kept) ≡ at.below
    breaks-front_below = omega (arith, breaks-append at-line.front_below at-line.kept, at-line.lower.feeds, at-line.breaks, start.below, lower-feeds)

    breaks-front_above : count_by is_break (at-line.front_above ++ at-line.kept) ≡ line
    breaks-front_above = omega (arith, breaks-append at-line.front_above at-line.kept, at-line.upper.feeds, at-line.breaks, start.behind, upper-feeds)

    cut-below : folded s.text s.inlays [] ≡ (at-line.front_below ++ at-line.kept) ++ (at-line.below ++ c ∷ [])
    cut-below =
        folded-below
        ∙ ap (λ (l : List Token). l ++ c ∷ []) (at-line.below_is ∙ sym (append_assoc at-line.front_below at-line.kept at-line.below))
        ∙ append_assoc (at-line.front_below ++ at-line.kept) at-line.below (c ∷ [])

    cut-above : folded s.text s.inlays s.folds ≡ (at-line.front_above ++ at-line.kept) ++ (at-line.above ++ c ∷ [])
    cut-above =
        folded-above
        ∙ ap (λ (l : List Token). l ++ c ∷ []) (at-line.above_is ∙ sym (append_assoc at-line.front_above at-line.kept at-line.above))
        ∙ append_assoc (at-line.front_above ++ at-line.kept) at-line.above (c ∷ [])

    line-of : (front ts : List Token) (k : ℕ) → Ended front → count_by is_break front ≡ k → get_or (cut_lines is_break (front ++ (ts ++ c ∷ []))) k [] ≡ upto is_break (ts ++ c ∷ [])
    line-of front [] k h e = line-behind front c [] k h e
    line-of front (t ∷ ts) k h e = line-behind front t (ts ++ c ∷ []) k h e

    -- the tokens of the lower layer's line and of the line
    pub tokens-below : line_tokens (unfolded s) at.below ≡ upto is_break (at-line.below ++ c ∷ [])
    tokens-below =
        ap (λ (l : List Token). get_or (cut_lines is_break l) at.below []) cut-below
        ∙ line-of (at-line.front_below ++ at-line.kept) at-line.below at.below closed-below breaks-front_below

    pub tokens-above : line_tokens s line ≡ upto is_break (at-line.above ++ c ∷ [])
    tokens-above =
        ap (λ (l : List Token). get_or (cut_lines is_break l) line []) cut-above
        ∙ line-of (at-line.front_above ++ at-line.kept) at-line.above line closed-above breaks-front_above

    -- both begin in one row
    pub first-row : span_start s.text (line_tokens s line) ≡ span_start s.text (line_tokens (unfolded s) at.below)
    first-row =
        let h = head-at at-line.below c in
        ap (span_start s.text) tokens-above
        ∙ start-row s.text h.0 (at-line.above ++ c ∷ []) (begins-alike s at-line.offset (regap at-line.kept (drop n ps)) at-line.below at-line.above h.0 at-line.rest h.1)
        ∙ sym (start-row s.text h.0 (at-line.below ++ c ∷ []) h.1)
        ∙ sym (ap (span_start s.text) tokens-below)

    -- the lines before both end in one row
    pub last-row : (k : ℕ) → line ≡ suc k → (m : ℕ) × (at.below ≡ suc m) × (span_end s.text (line_tokens s k) ≡ span_end s.text (line_tokens (unfolded s) m))
    last-row k e = go at-line.kept refl where
      some : 0 < r
      some = go n first-or (ap (λ (m : ℕ). (sums (take m ps)).upper.feeds) refl) where
        go : (m : ℕ) → (0 < m → 0 < r) → (sums (take n ps)).upper.feeds ≡ (sums (take m ps)).upper.feeds → 0 < r
        go zero h u = omega (arith, u, upper-feeds, e)
        go (suc m) h u = h (omega arith)

      below-some : at.below ≡ suc (at.below - 1)
      below-some = omega (arith, start.below, some)

      go : (kept : List Token) → at-line.kept ≡ kept → (m : ℕ) × (at.below ≡ suc m) × (span_end s.text (line_tokens s k) ≡ span_end s.text (line_tokens (unfolded s) m))
      go [] q = absurd (omega (arith, some, at-line.breaks, ap (count_by is_break) q))
      go (x ∷ xs) q =
          let ends-above : span_end s.text (line_tokens s k) ≡ span_end s.text (x ∷ xs) =
          ap (λ (l : List Token). span_end s.text (get_or (cut_lines is_break l) k [])) cut-above
          ∙ end-of_line s.text (at-line.front_above ++ at-line.kept) (at-line.above ++ c ∷ []) k closed-above (breaks-front_above ∙ e)
          ∙ ap (λ (l : List Token). span_end s.text (at-line.front_above ++ l)) q
          ∙ span_end-behind s.text at-line.front_above x xs in
          let ends-below : span_end s.text (line_tokens (unfolded s) (at.below - 1)) ≡ span_end s.text (x ∷ xs) =
          ap (λ (l : List Token). span_end s.text (get_or (cut_lines is_break l) (at.below - 1) [])) cut-below
          ∙ end-of_line s.text (at-line.front_below ++ at-line.kept) (at-line.below ++ c ∷ []) (at.below - 1) closed-below (breaks-front_below ∙ below-some)
          ∙ ap (λ (l : List Token). span_end s.text (at-line.front_below ++ l)) q
          ∙ span_end-behind s.text at-line.front_below x xs in
          (at.below - 1, below-some, ends-above ∙ sym ends-below)

    -- ---- where it begins

    pub record StartsAt : Type 0 where
      pub there : at.below < line_count (shown_text (unfolded s))
      pub behind : at.before.lower.bytes ≤ line_start (shown_text (unfolded s)) at.below
      pub place : line_start (shown_text s) line ≡ at.before.upper.bytes + (line_start (shown_text (unfolded s)) at.below - at.before.lower.bytes)

    lower-bytes : at.before.lower.bytes ≡ (sums (take n ps)).lower.bytes
    lower-bytes = ap (λ x. x.lower.bytes) start.before

    upper-bytes : at.before.upper.bytes ≡ (sums (take n ps)).upper.bytes
    upper-bytes = ap (λ x. x.upper.bytes) start.before

    pub starts-at : StartsAt
    starts-at = go r refl where
      low : List ℕ
      low = shown_text (unfolded s)

      high : List ℕ
      high = shown_text s

      in-mid : r ≤ count_by is_feed (in-spot s ps are n).mid
      in-mid = by (slice_get ps n) refl where
        by : (found : Option (Piece Amount NoLoad)) → slice_get ps n ≡ found → r ≤ count_by is_feed (in-spot s ps are n).mid
        by (Some p) e = omega (arith, upto-gap p e, (in-spot s ps are n).feeds p e)
        by None e =
            let i = in-spot s ps are n in
            omega (arith, feeds-in, breaks-above, feeds-above low high (sums (take n ps)) i.mid i.alike, ap (count_by is_feed) (i.none e).1)

      there : at.below < line_count low
      there =
          let i = in-spot s ps are n in
          omega (arith, line_count-is low, feeds-below low high (sums (take n ps)) i.mid i.alike, in-mid, start.below, lower-feeds)

      go : (k : ℕ) → r ≡ k → StartsAt
      go zero e =
          let zero-n : n ≡ 0 = no-n at.index first-or e in
          let none = none-before zero-n in
          let l0 : (sums (take n ps)).lower.feeds ≡ 0 = ap (λ (k : ℕ). (sums (take k ps)).lower.feeds) zero-n in
          let u0 : (sums (take n ps)).upper.feeds ≡ 0 = ap (λ (k : ℕ). (sums (take k ps)).upper.feeds) zero-n in
          let line0 : line ≡ 0 = omega (arith, e, start.behind, upper-feeds, u0) in
          let below0 : at.below ≡ 0 = omega (arith, start.below, e, lower-feeds, l0) in
          let high0 : line_start high line ≡ 0 = ap (line_start high) line0 in
          let low0 : line_start low at.below ≡ 0 = ap (line_start low) below0 in
          record {
            there = there;
            behind = omega (arith, lower-bytes, none.0);
            place = omega (arith, high0, low0, upper-bytes, none.1);
          }
        where
          no-n : (m : ℕ) → (0 < m → 0 < r) → r ≡ 0 → m ≡ 0
          no-n zero h e = refl
          no-n (suc m) h e = absurd (omega (arith, h (omega arith), e))
      go (suc k) e =
          let i = in-spot s ps are n in
          let inside : k < count_by is_feed i.mid = omega (arith, in-mid, e) in
          let above = start-above low high (sums (take n ps)) i.mid i.alike k inside in
          let below = start-below low high (sums (take n ps)) i.mid i.alike k inside in
          let line-is : line ≡ (sums (take n ps)).upper.feeds + suc k = omega (arith, e, start.behind, upper-feeds) in
          let below-is : at.below ≡ (sums (take n ps)).lower.feeds + suc k = omega (arith, e, start.below, lower-feeds) in
          let high-is = ap (line_start high) line-is in
          let low-is = ap (line_start low) below-is in
          record {
            there = there;
            behind = omega (arith, below, low-is, lower-bytes);
            place = omega (arith, above, below, high-is, low-is, lower-bytes, upper-bytes);
          }

  -- ---- the last line

  -- the last lines on both sides end in one row
  pub last-rows : (k m : ℕ) → line_count (shown_text s) ≡ suc k → line_count (shown_text (unfolded s)) ≡ suc m → span_end s.text (line_tokens s k) ≡ span_end s.text (line_tokens (unfolded s) m)
  last-rows k m ek em = whole s.folds all_above k folded-above (omega (arith, ek, line_count-is (shown_text s), breaks-above)) ∙ sym (whole [] all_below m folded-below (omega (arith, em, line_count-is (shown_text (unfolded s)), breaks-below))) where
    whole : (folds : List Fold) (ts : List Token) (k : ℕ) → folded s.text s.inlays folds ≡ ts ++ c ∷ [] → count_by is_break ts ≡ k
        → span_end s.text (get_or (cut_lines is_break (folded s.text s.inlays folds)) k []) ≡ span_end s.text (c ∷ [])
    whole folds ts k is e =
        let closed : Ended (ts ++ c ∷ []) = ended-append is_break true ts (c ∷ []) in
        let all : folded s.text s.inlays folds ≡ (ts ++ c ∷ []) ++ [] = is ∙ sym (append-nil (ts ++ c ∷ [])) in
        ap (λ (l : List Token). span_end s.text (get_or (cut_lines is_break l) k [])) all
        ∙ end-of_line s.text (ts ++ c ∷ []) [] k closed (omega (arith, breaks-append ts (c ∷ []), e))
        ∙ span_end-behind s.text ts c []
