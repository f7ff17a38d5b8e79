-- The pieces of a line, splice by splice: those of the lower layer up to a placeholder, it, and so on after what it
-- hides.
use Rattle.std.proofs.Common.{◌≡◌, ◌≢◌, ℕ, suc, zero, ◌+◌, ◌-◌, ◌<◌, ◌≤◌, ◌⊎◌, Bool, true, false, cond, List, [], ◌∷◌, ◌++◌, length, take, drop, get_or, Some, refl, sym, ap, ◌∙◌, subst, inl, inr, arith, append_assoc}
use Rattle.std.specs.List.{count_by, slice_get}
use Rattle.std.proofs.lemmas.List.Sums.{sum_by-cons}
use Rattle.cell_units.specs.declared.piece.Piece.{Piece as PieceShown}
use Rattle.cell_units.specs.BufferLines.{behind_feeds, line_start}
use Rattle.cell_units.specs.Cutting.{cut_lines}
use Rattle.cell_units.specs.Folded.{folded}
use Rattle.cell_units.specs.Folding.{front_pieces, rest_pieces}
use Rattle.cell_units.specs.Inlaid.{Token, Byte, Hidden, InlayByte, is_break, offset_of}
use Rattle.cell_units.specs.Lawful.{IsWellFormed}
use Rattle.cell_units.specs.Layers.{Source, line_tokens, shown_text, unfolded}
use Rattle.cell_units.specs.Pieces.{pieces_of}
use Rattle.cell_units.specs.Record.{line_count}
use Rattle.cell_units.specs.Text.{is_feed}
use Rattle.cell_units.proofs.BufferLines.{behind_feeds-append, length-behind_feeds, line_count-is}
use Rattle.cell_units.proofs.BufferPieces.{Goes, folded-goes}
use Rattle.cell_units.proofs.CutLists.{Every, Split, after, ended, split, upto, upto-after}
use Rattle.cell_units.proofs.CutPieces.{front-pieces, pieces-around, pieces-closed, rest-pieces}
use Rattle.cell_units.proofs.LineSpans.{feeds-tokens}
use Rattle.cell_units.proofs.ShownText.{size, size-append, tokens_bytes}
use Rattle.std.proofs.lemmas.List.{get_or_append_left}
use Rattle.std.proofs.lemmas.List.Concat.{flat_map-append}
use Rattle.sum_core.specs.declared.load.NoLoad.{NoLoad}
use Rattle.splice_tree.specs.Splices.{Piece, regapped}
use Rattle.splice_tree.proofs.Passing.{drop-found}
use Rattle.fold_map.specs.declared.amount.Amount.{Amount}
use Rattle.fold_map.specs.declared.lines.LineStart.{LineStart}
use Rattle.fold_map.specs.LinePieces.{hidden_piece}
use Rattle.fold_map.specs.Lines.{IsLineStart}
use Rattle.fold_map.specs.Splices.{AreSplices}
use Rattle.fold_map.proofs.LinesCut.{Ended, line-behind}
use Rattle.fold_map.proofs.LinesFound.{at-line, begins-alike, breaks-below, closed-below, folded-below, left_of, regap, tokens-above}
use Rattle.fold_map.proofs.ShownSplices.{AreSpliced, Around, BeginAt, IsAround, closing, sums}
use Rattle.fold_map.proofs.Sums.{breaks-append}
use Rattle.fold_map.proofs.ShownOpens.{Opens}
use Rattle.fold_map.proofs.ShownSteps.{from}
use Rattle.fold_map.proofs.SpotsShown.{text-below}
use Rattle.cell_units.specs.Inlaid.{bytes_of as bytes_of_token}

-- ---- up to the first break

abbrev IsFree : Token → Type 0
IsFree t = is_break t ≡ false

-- after tokens without a break
upto-free : (xs ys : List Token) → Every IsFree xs → upto is_break (xs ++ ys) ≡ xs ++ upto is_break ys
upto-free [] ys f = refl
upto-free (x ∷ xs) ys f = ap (λ (b : Bool). x ∷ cond b [] (upto is_break (xs ++ ys))) f.0 ∙ ap (λ (l : List Token). x ∷ l) (upto-free xs ys f.1)

breaks-cons : (t : Token) (ts : List Token) → count_by is_break (t ∷ ts) ≡ cond (is_break t) 1 0 + count_by is_break ts
breaks-cons t ts = sum_by-cons (λ (u : Token). cond (is_break u) 1 0) t ts

free-of : (xs : List Token) → count_by is_break xs ≡ 0 → Every IsFree xs
free-of [] e = tt
free-of (x ∷ xs) e = go (is_break x) refl (breaks-cons x xs) (λ h. free-of xs h) where
  go : (b : Bool) → is_break x ≡ b → count_by is_break (x ∷ xs) ≡ cond b 1 0 + count_by is_break xs → (count_by is_break xs ≡ 0 → Every IsFree xs) → Every IsFree (x ∷ xs)
  go true h n next = absurd (omega (arith, n, e))
  go false h n next = (h, next (omega (arith, n, e)))

none-free : (xs : List Token) → Every IsFree xs → count_by is_break xs ≡ 0
none-free [] f = refl
none-free (x ∷ xs) f = breaks-cons x xs ∙ ap (λ (b : Bool). cond b 1 0 + count_by is_break xs) f.0 ∙ omega (arith, none-free xs f.1)

-- with a break among them, what comes after doesn't count
upto-front : (xs ys zs : List Token) → 0 < count_by is_break xs → upto is_break (xs ++ ys) ≡ upto is_break (xs ++ zs)
upto-front [] ys zs h = absurd (omega (arith, h))
upto-front (x ∷ xs) ys zs h = go (is_break x) (breaks-cons x xs) (λ k. upto-front xs ys zs k) where
  go : (b : Bool) → count_by is_break (x ∷ xs) ≡ cond b 1 0 + count_by is_break xs → (0 < count_by is_break xs → upto is_break (xs ++ ys) ≡ upto is_break (xs ++ zs))
      → x ∷ cond b [] (upto is_break (xs ++ ys)) ≡ x ∷ cond b [] (upto is_break (xs ++ zs))
  go true n next = refl
  go false n next = ap (λ (l : List Token). x ∷ l) (next (omega (arith, h, n)))

-- ---- where the line starts that goes on after tokens

-- the bytes after a break at their end
last-feed : (o : ℕ) (ts : List Token) (k : ℕ) → Ended ts → count_by is_break ts ≡ suc k → get_or (behind_feeds o (tokens_bytes ts)) k 0 ≡ o + size ts
last-feed o [] k h e = absurd (omega (arith, e))
last-feed o (t ∷ ts) k h e = go t h e (λ p j. last-feed p ts j) where
  none : (b : Bool) (us : List Token) → ended is_break b us ≡ true → count_by is_break us ≡ 0 → b ≡ true
  none b [] h n = h
  none b (u ∷ us) h n = absurd (some u us h n) where
    some : (u : Token) (us : List Token) → ended is_break (is_break u) us ≡ true → count_by is_break (u ∷ us) ≡ 0 → ⊥
    some u [] h n = omega (arith, n, breaks-cons u [] ∙ ap (λ (b : Bool). cond b 1 0 + 0) h)
    some u (v ∷ vs) h n = some v vs h (omega (arith, n, breaks-cons u (v ∷ vs)))

  empty : (b : Bool) (us : List Token) → ended is_break b us ≡ true → count_by is_break us ≡ 0 → size us ≡ 0
  empty b [] h n = refl
  empty b (u ∷ us) h n = absurd (some u us h n) where
    some : (u : Token) (us : List Token) → ended is_break (is_break u) us ≡ true → count_by is_break (u ∷ us) ≡ 0 → ⊥
    some u [] h n = omega (arith, n, breaks-cons u [] ∙ ap (λ (b : Bool). cond b 1 0 + 0) h)
    some u (v ∷ vs) h n = some v vs h (omega (arith, n, breaks-cons u (v ∷ vs)))

  off : (b : Bool) (us : List Token) (j : ℕ) → ended is_break b us ≡ true → count_by is_break us ≡ suc j → Ended us
  off b [] j h n = absurd (omega (arith, n))
  off b (u ∷ us) j h n = h

  byte : (t : Token) (b : ℕ) → is_break t ≡ is_feed b → (c : Bool) → is_feed b ≡ c → ended is_break (is_break t) ts ≡ true → count_by is_break (t ∷ ts) ≡ suc k
      → ((p j : ℕ) → Ended ts → count_by is_break ts ≡ suc j → get_or (behind_feeds p (tokens_bytes ts)) j 0 ≡ p + size ts)
      → get_or (cond c ((o + 1) ∷ behind_feeds (o + 1) (tokens_bytes ts)) (behind_feeds (o + 1) (tokens_bytes ts))) k 0 ≡ o + (1 + size ts)
  byte t b is true f h e next = by k (omega (arith, e, breaks-cons t ts ∙ ap (λ (d : Bool). cond d 1 0 + count_by is_break ts) (is ∙ f))) where
    by : (m : ℕ) → count_by is_break ts ≡ m → get_or ((o + 1) ∷ behind_feeds (o + 1) (tokens_bytes ts)) m 0 ≡ o + (1 + size ts)
    by zero n = omega (arith, empty (is_break t) ts h n)
    by (suc m) n = omega (arith, next (o + 1) m (off (is_break t) ts m h n) n)
  byte t b is false f h e next =
      let n : count_by is_break ts ≡ suc k = omega (arith, e, breaks-cons t ts ∙ ap (λ (d : Bool). cond d 1 0 + count_by is_break ts) (is ∙ f)) in
      omega (arith, next (o + 1) k (off (is_break t) ts k h n) n)

  go : (t : Token) → ended is_break (is_break t) ts ≡ true → count_by is_break (t ∷ ts) ≡ suc k
      → ((p j : ℕ) → Ended ts → count_by is_break ts ≡ suc j → get_or (behind_feeds p (tokens_bytes ts)) j 0 ≡ p + size ts)
      → get_or (behind_feeds o (tokens_bytes (t ∷ ts))) k 0 ≡ o + size (t ∷ ts)
  go (Byte q b) h e next = let r = byte (Byte q b) b refl (is_feed b) refl h e next in omega (arith, r, size-append (Byte q b ∷ []) ts)
  go (InlayByte q id b) h e next = let r = byte (InlayByte q id b) b refl (is_feed b) refl h e next in omega (arith, r, size-append (InlayByte q id b ∷ []) ts)
  go (Hidden q) h e next =
      let n : count_by is_break ts ≡ suc k = omega (arith, e, breaks-cons (Hidden q) ts) in
      let r = next (o + 1 + 1 + 1) k (off false ts k h n) n in
      omega (arith, r, size-append (Hidden q ∷ []) ts)

-- a line starts after all that ends with a break
pub start-behind : (front ts : List Token) → Ended front → line_start (tokens_bytes (front ++ ts)) (count_by is_break front) ≡ size front
start-behind front ts h = go (count_by is_break front) refl where
  go : (k : ℕ) → count_by is_break front ≡ k → line_start (tokens_bytes (front ++ ts)) (count_by is_break front) ≡ size front
  go zero e = ap (line_start (tokens_bytes (front ++ ts))) e ∙ sym (none front h e) where
    none : (us : List Token) → Ended us → count_by is_break us ≡ 0 → size us ≡ 0
    none [] h n = refl
    none (u ∷ us) h n = absurd (some u us h n) where
      some : (u : Token) (us : List Token) → ended is_break (is_break u) us ≡ true → count_by is_break (u ∷ us) ≡ 0 → ⊥
      some u [] h n = omega (arith, n, breaks-cons u [] ∙ ap (λ (b : Bool). cond b 1 0 + 0) h)
      some u (v ∷ vs) h n = some v vs h (omega (arith, n, breaks-cons u (v ∷ vs)))
  go (suc k) e =
      let long : length (behind_feeds 0 (tokens_bytes front)) ≡ suc k = length-behind_feeds 0 (tokens_bytes front) ∙ feeds-tokens front ∙ e in
      let first : line_start (tokens_bytes (front ++ ts)) (suc k) ≡ get_or (behind_feeds 0 (tokens_bytes (front ++ ts))) k 0 = refl in
      ap (line_start (tokens_bytes (front ++ ts))) e
      ∙ first
      ∙ ap (λ (l : List ℕ). get_or l k 0) (ap (behind_feeds 0) (flat_map-append bytes_of_token front ts) ∙ behind_feeds-append 0 (tokens_bytes front) (tokens_bytes ts))
      ∙ get_or_append_left (behind_feeds 0 (tokens_bytes front)) (behind_feeds (0 + length (tokens_bytes front)) (tokens_bytes ts)) 0 k (omega (arith, long))
      ∙ (let last : get_or (behind_feeds 0 (tokens_bytes front)) k 0 ≡ size front = omega (arith, last-feed 0 front k h e) in last)

-- ---- the walk

Goes-right : (text : List ℕ) (xs ys : List Token) → Goes text (xs ++ ys) → Goes text ys
Goes-right text [] ys g = g
Goes-right text (x ∷ []) [] g = tt
Goes-right text (x ∷ []) (y ∷ ys) g = g.1
Goes-right text (x ∷ z ∷ zs) ys g = Goes-right text (z ∷ zs) ys g.1

Goes-left : (text : List ℕ) (xs ys : List Token) → Goes text (xs ++ ys) → Goes text xs
Goes-left text [] ys g = tt
Goes-left text (x ∷ []) ys g = tt
Goes-left text (x ∷ z ∷ zs) ys g = (g.0, Goes-left text (z ∷ zs) ys g.1)

some-tokens : (ts : List Token) (c : Token) → (t : Token) × (us : List Token) × (ts ++ c ∷ [] ≡ t ∷ us)
some-tokens [] c = (c, [], refl)
some-tokens (t ∷ ts) c = (t, ts ++ c ∷ [], refl)

regap-none : (ps : List (Piece Amount NoLoad)) → regap [] ps ≡ ps
regap-none [] = refl
regap-none (p ∷ ps) =
    let bytes : p.gap.bytes - 0 ≡ p.gap.bytes = omega arith in
    let feeds : p.gap.feeds - 0 ≡ p.gap.feeds = omega arith in
    λ i. record { gap = record { buffer = p.gap.buffer; bytes = bytes i; feeds = feeds i }; old = p.old; new = p.new; load = p.load } ∷ ps

-- one splice more, in the lower layer
lower-next : (ps : List (Piece Amount NoLoad)) (n : ℕ) (p : Piece Amount NoLoad) → slice_get ps n ≡ Some p
    → ((sums (take (n + 1) ps)).lower.buffer ≡ (sums (take n ps)).lower.buffer + (p.gap.buffer + p.old.buffer))
    × ((sums (take (n + 1) ps)).lower.bytes ≡ (sums (take n ps)).lower.bytes + (p.gap.bytes + p.old.bytes))
    × ((sums (take (n + 1) ps)).lower.feeds ≡ (sums (take n ps)).lower.feeds + (p.gap.feeds + p.old.feeds))
lower-next [] zero p e = absurd (cc)
lower-next [] (suc n) p e = absurd (cc)
lower-next (q ∷ qs) zero p e =
    let same : q ≡ p = cc in (
      omega (arith, ap (λ (t : Piece Amount NoLoad). t.gap.buffer + t.old.buffer) same),
      omega (arith, ap (λ (t : Piece Amount NoLoad). t.gap.bytes + t.old.bytes) same),
      omega (arith, ap (λ (t : Piece Amount NoLoad). t.gap.feeds + t.old.feeds) same),
    )
lower-next (q ∷ qs) (suc n) p e =
    let one : suc n + 1 ≡ suc (n + 1) = omega arith in
    let r = lower-next qs n p e in (
      omega (arith, ap (λ (k : ℕ). (sums (take k (q ∷ qs))).lower.buffer) one, r.0),
      omega (arith, ap (λ (k : ℕ). (sums (take k (q ∷ qs))).lower.bytes) one, r.1),
      omega (arith, ap (λ (k : ℕ). (sums (take k (q ∷ qs))).lower.feeds) one, r.2),
    )

-- So far the pieces `done` of a line are there. Next is a line of the lower layer, after the tokens `front`, in the gap
-- before the splice of the index, or after all.
pub record IsWalk (s : Source) (ps : List (Piece Amount NoLoad)) (line index place below_line : ℕ) (done : List PieceShown) : Type 0 where
  pub offset : ℕ
  pub front : List Token
  pub kept : List Token
  pub below : List Token
  pub above : List Token
  pub offset_is : offset ≡ (sums (take index ps)).lower.buffer
  pub below_is : from s.text s.inlays [] 0 ≡ front ++ below
  pub place_is : size front ≡ place
  pub line_is : count_by is_break front ≡ below_line
  pub bytes : place ≡ (sums (take index ps)).lower.bytes + size kept
  pub feeds : below_line ≡ (sums (take index ps)).lower.feeds + count_by is_break kept
  pub fits : (p : Piece Amount NoLoad) → slice_get ps index ≡ Some p → (size kept ≤ p.gap.bytes) × (count_by is_break kept ≤ p.gap.feeds)
  pub rest : AreSpliced s offset (regap kept (drop index ps)) below above
  pub opens : IsWellFormed s → (place ≡ line_start (shown_text (unfolded s)) below_line) ⊎ Opens (below ++ closing s ∷ [])
  pub pieces : pieces_of (line_tokens s line) ≡ done ++ pieces_of (upto is_break (above ++ closing s ∷ []))

module _ (s : Source) (ps : List (Piece Amount NoLoad)) (are : AreSplices s ps) where
  abbrev c : Token
  c = closing s

  abbrev low : List ℕ
  low = shown_text (unfolded s)

  -- it begins where the line does
  pub walk-start : (line : ℕ) (at : LineStart) (start : IsLineStart ps line at) (lt : line < line_count (shown_text s)) → IsWalk s ps line at.index (line_start low at.below) at.below []
  walk-start line at start lt =
      let a = at-line s ps are line at start lt in
      let front = a.front_below ++ a.kept in
      let lines : count_by is_break front ≡ at.below =
      omega (arith, breaks-append a.front_below a.kept, a.lower.feeds, a.breaks, start.below, ap (λ x. x.lower.feeds) start.before, ap (λ x. x.upper.feeds) start.before) in
      let whole : from s.text s.inlays [] 0 ≡ front ++ a.below = a.below_is ∙ sym (append_assoc a.front_below a.kept a.below) in
      let place : size front ≡ line_start low at.below =
      sym ((λ i. line_start (text-below s ps are i) (sym lines i)) ∙ ap (λ (l : List Token). line_start (tokens_bytes l) (count_by is_break front)) whole ∙ start-behind front a.below (closed-below s ps are line at start lt)) in
      record {
        offset = a.offset;
        front = front;
        kept = a.kept;
        below = a.below;
        above = a.above;
        offset_is = a.offset_is;
        below_is = whole;
        place_is = place;
        line_is = lines;
        bytes = omega (arith, place, size-append a.front_below a.kept, a.lower.bytes);
        feeds = omega (arith, lines, breaks-append a.front_below a.kept, a.lower.feeds);
        fits = a.fits;
        rest = a.rest;
        opens = λ _. inl refl;
        pieces = ap pieces_of (tokens-above s ps are line at start lt);
      }

  module _ (line index place below_line : ℕ) (done : List PieceShown) (w : IsWalk s ps line index place below_line done) where
    -- what is left of the lower layer's line, and of the line
    abbrev pub left_below : List Token
    left_below = upto is_break (w.below ++ c ∷ [])

    -- The lower layer's line, of which some tokens are passed.
    pub record IsHere : Type 0 where
      pub behind : List Token
      pub tokens : line_tokens (unfolded s) below_line ≡ behind ++ left_below
      pub size_is : line_start low below_line + size behind ≡ place
      pub goes : Goes s.text (behind ++ left_below)

    goes-all : Goes s.text (folded s.text s.inlays [])
    goes-all = folded-goes s.text s.inlays [] refl refl

    pub here : IsHere
    here = record {
      behind = cut.rest;
      tokens = tokens-are;
      size_is = omega (arith, start, ap size cut.is, size-append cut.whole cut.rest, w.place_is);
      goes = goes-line;
    } where
      cut : Split is_break w.front
      cut = split is_break w.front

      lines : count_by is_break cut.whole ≡ below_line
      lines = omega (arith, w.line_is, ap (count_by is_break) cut.is, breaks-append cut.whole cut.rest, none-free cut.rest cut.rest_free)

      all : folded s.text s.inlays [] ≡ cut.whole ++ (cut.rest ++ (w.below ++ c ∷ []))
      all =
          folded-below s ps are
          ∙ ap (λ (l : List Token). l ++ c ∷ []) (w.below_is ∙ ap (λ (l : List Token). l ++ w.below) cut.is)
          ∙ append_assoc (cut.whole ++ cut.rest) w.below (c ∷ [])
          ∙ append_assoc cut.whole cut.rest (w.below ++ c ∷ [])

      start : line_start low below_line ≡ size cut.whole
      start =
          (λ i. line_start (text-below s ps are i) (sym lines i))
          ∙ ap (λ (l : List Token). line_start (tokens_bytes l) (count_by is_break cut.whole)) (w.below_is ∙ ap (λ (l : List Token). l ++ w.below) cut.is ∙ append_assoc cut.whole cut.rest w.below)
          ∙ start-behind cut.whole (cut.rest ++ w.below) cut.whole_ended

      line-at : (rest ts : List Token) → get_or (cut_lines is_break (cut.whole ++ (rest ++ (ts ++ c ∷ [])))) below_line [] ≡ upto is_break (rest ++ (ts ++ c ∷ []))
      line-at [] [] = line-behind cut.whole c [] below_line cut.whole_ended lines
      line-at [] (t ∷ ts) = line-behind cut.whole t (ts ++ c ∷ []) below_line cut.whole_ended lines
      line-at (r ∷ rs) ts = line-behind cut.whole r (rs ++ (ts ++ c ∷ [])) below_line cut.whole_ended lines

      tokens-are : line_tokens (unfolded s) below_line ≡ cut.rest ++ left_below
      tokens-are = ap (λ (l : List Token). get_or (cut_lines is_break l) below_line []) all ∙ line-at cut.rest w.below ∙ upto-free cut.rest (w.below ++ c ∷ []) cut.rest_free

      goes-line : Goes s.text (cut.rest ++ left_below)
      goes-line =
          let rest = cut.rest ++ (w.below ++ c ∷ []) in
          let g = Goes-right s.text cut.whole rest (subst (Goes s.text) all goes-all) in
          subst (Goes s.text) (upto-free cut.rest (w.below ++ c ∷ []) cut.rest_free)
          (Goes-left s.text (upto is_break rest) (after is_break rest) (subst (Goes s.text) (sym (upto-after is_break rest)) g))

    pub walk-fits : (place ≤ length low) × (below_line < line_count low) × (line_start low below_line ≤ place)
    walk-fits = (
      omega (arith, w.place_is, ap length (text-below s ps are ∙ ap tokens_bytes w.below_is), size-append w.front w.below),
      omega (arith, line_count-is low, breaks-below s ps are, ap (count_by is_break) w.below_is, breaks-append w.front w.below, w.line_is),
      omega (arith, here.size_is),
    )

    -- what is left of the lower layer's line, as pieces
    pub pieces-left : pieces_of left_below ≡ rest_pieces (place - line_start low below_line) (pieces_of (line_tokens (unfolded s) below_line))
    pieces-left = go left_below refl where
      from_size : size here.behind ≡ place - line_start low below_line
      from_size = omega (arith, here.size_is)

      first : (t : Token) × (us : List Token) × (left_below ≡ t ∷ us)
      first = let r = some-tokens w.below c in (r.0, cond (is_break r.0) [] (upto is_break r.1), ap (upto is_break) r.2)

      go : (left : List Token) → left_below ≡ left → pieces_of left_below ≡ rest_pieces (place - line_start low below_line) (pieces_of (line_tokens (unfolded s) below_line))
      go left e =
          ap pieces_of first.2
          ∙ rest-pieces s.text here.behind first.0 first.1 (subst (λ (l : List Token). Goes s.text (here.behind ++ l)) first.2 here.goes)
          ∙ (λ i. rest_pieces (from_size i) (pieces_of ((ap (λ (l : List Token). here.behind ++ l) (sym first.2) ∙ sym here.tokens) i)))

    finish : upto is_break (w.above ++ c ∷ []) ≡ left_below → pieces_of (line_tokens s line) ≡ done ++ rest_pieces (place - line_start low below_line) (pieces_of (line_tokens (unfolded s) below_line))
    finish e = w.pieces ∙ ap (λ (l : List Token). done ++ pieces_of l) e ∙ ap (λ (l : List PieceShown). done ++ l) pieces-left

    -- after all splices the line goes on to its end as the lower layer's line does
    pub walk-end : drop index ps ≡ [] → pieces_of (line_tokens s line) ≡ done ++ rest_pieces (place - line_start low below_line) (pieces_of (line_tokens (unfolded s) below_line))
    walk-end e =
        let same : w.below ≡ w.above = subst (λ (qs : List (Piece Amount NoLoad)). AreSpliced s w.offset (regap w.kept qs) w.below w.above) e w.rest in
        finish (ap (λ (l : List Token). upto is_break (l ++ c ∷ [])) (sym same))

    module _ (p : Piece Amount NoLoad) (found : slice_get ps index ≡ Some p) where
      abbrev lower : Amount
      lower = (sums (take index ps)).lower

      pub at-splice : AreSpliced s w.offset (regap w.kept (p ∷ drop (suc index) ps)) w.below w.above
      at-splice = subst (λ (qs : List (Piece Amount NoLoad)). AreSpliced s w.offset (regap w.kept qs) w.below w.above) (drop-found ps index p found) w.rest

      -- and so where the next splice is on a later line
      pub walk-off : lower.feeds + p.gap.feeds ≢ below_line → pieces_of (line_tokens s line) ≡ done ++ rest_pieces (place - line_start low below_line) (pieces_of (line_tokens (unfolded s) below_line))
      walk-off ne = go at-splice where
        go : AreSpliced s w.offset (regap w.kept (p ∷ drop (suc index) ps)) w.below w.above → pieces_of (line_tokens s line) ≡ done ++ rest_pieces (place - line_start low below_line) (pieces_of (line_tokens (unfolded s) below_line))
        go (a, i, r) =
            let some : 0 < count_by is_break a.gap = positive (count_by is_break a.gap) (λ z. ne (omega (arith, i.gap.feeds, w.feeds, (w.fits p found).1, z))) in
            finish
            (ap (λ (l : List Token). upto is_break (l ++ c ∷ [])) i.above_is
            ∙ ap (upto is_break) (append_assoc a.gap (Hidden a.start ∷ a.above) (c ∷ []))
            ∙ upto-front a.gap (Hidden a.start ∷ a.above ++ c ∷ []) ((a.old ++ a.below) ++ c ∷ []) some
            ∙ sym (ap (λ (l : List Token). upto is_break (l ++ c ∷ [])) i.below_is ∙ ap (upto is_break) (append_assoc a.gap (a.old ++ a.below) (c ∷ [])))) where
              positive : (k : ℕ) → (k ≡ 0 → ⊥) → 0 < k
              positive zero h = absurd (h refl)
              positive (suc k) h = omega arith

      abbrev hidden : ℕ
      hidden = lower.bytes + p.gap.bytes

      abbrev start : ℕ
      start = lower.buffer + p.gap.buffer

      module _ (a : Around) (i : IsAround s w.offset (regapped (left_of w.kept p.gap) p) w.below w.above a) (r : AreSpliced s a.end (drop (suc index) ps) a.below a.above) (same : lower.feeds + p.gap.feeds ≡ below_line) where
        free : Every IsFree a.gap
        free = free-of a.gap (omega (arith, i.gap.feeds, w.feeds, same, (w.fits p found).1))

        pub gap_size : size a.gap ≡ hidden - place
        gap_size = omega (arith, i.gap.bytes, w.bytes, (w.fits p found).0)

        starts : a.start ≡ start
        starts = omega (arith, i.start, w.offset_is)

        ends : a.end ≡ start + p.old.buffer
        ends = omega (arith, i.end, starts)

        behind : (t : Token) × (us : List Token) × (a.above ++ c ∷ [] ≡ t ∷ us)
        behind = some-tokens a.above c

        begins : offset_of behind.0 ≡ a.end
        begins = subst (BeginAt a.end) behind.2 (begins-alike s a.end (drop (suc index) ps) a.below a.above a.end r i.next)

        pub own : (t : Token) × (us : List Token) × (a.old ≡ t ∷ us) × (offset_of t ≡ a.start)
        own = first a.old i.first where
          first : (ts : List Token) → BeginAt a.start ts → (t : Token) × (us : List Token) × (ts ≡ t ∷ us) × (offset_of t ≡ a.start)
          first [] h = absurd h
          first (t ∷ us) h = (t, us, refl, h)

        -- the rest of the lower layer's line, from what is hidden on
        abbrev pub later : List Token
        later = cond (is_break own.0) [] (upto is_break ((own.1 ++ a.below) ++ c ∷ []))

        pub left-is : left_below ≡ a.gap ++ (own.0 ∷ later)
        left-is =
            ap (λ (l : List Token). upto is_break (l ++ c ∷ [])) (i.below_is ∙ ap (λ (l : List Token). a.gap ++ (l ++ a.below)) own.2)
            ∙ ap (upto is_break) (append_assoc a.gap ((own.0 ∷ own.1) ++ a.below) (c ∷ []))
            ∙ upto-free a.gap (((own.0 ∷ own.1) ++ a.below) ++ c ∷ []) free

        above-is : upto is_break (w.above ++ c ∷ []) ≡ a.gap ++ (Hidden a.start ∷ upto is_break (a.above ++ c ∷ []))
        above-is =
            ap (λ (l : List Token). upto is_break (l ++ c ∷ [])) i.above_is
            ∙ ap (upto is_break) (append_assoc a.gap (Hidden a.start ∷ a.above) (c ∷ []))
            ∙ upto-free a.gap (Hidden a.start ∷ a.above ++ c ∷ []) free

        abbrev rest_there : List Token
        rest_there = upto is_break (a.above ++ c ∷ [])

        front-is : pieces_of (a.gap ++ Hidden a.start ∷ []) ≡ front_pieces (hidden - place) (rest_pieces (place - line_start low below_line) (pieces_of (line_tokens (unfolded s) below_line)))
        front-is =
            pieces-closed a.gap (Hidden a.start) own.0 (sym own.3)
            ∙ front-pieces s.text a.gap own.0 later (subst (Goes s.text) left-is (Goes-right s.text here.behind left_below here.goes))
            ∙ (λ k. front_pieces (gap_size k) ((ap pieces_of (sym left-is) ∙ pieces-left) k))

        pieces-on : pieces_of (upto is_break (w.above ++ c ∷ []))
            ≡ front_pieces (hidden - place) (rest_pieces (place - line_start low below_line) (pieces_of (line_tokens (unfolded s) below_line))) ++ (hidden_piece start (start + p.old.buffer) ∷ pieces_of rest_there)
        pieces-on =
            let there : rest_there ≡ behind.0 ∷ cond (is_break behind.0) [] (upto is_break behind.1) = ap (upto is_break) behind.2 in
            ap pieces_of (above-is ∙ ap (λ (l : List Token). a.gap ++ (Hidden a.start ∷ l)) there)
            ∙ pieces-around a.gap a.start behind.0 (cond (is_break behind.0) [] (upto is_break behind.1))
            ∙ (λ k. front-is k ++ (hidden_piece (starts k) ((begins ∙ ends) k) ∷ pieces_of (sym there k)))

        next-at : IsWalk s ps line (index + 1) (hidden + p.old.bytes) (below_line + p.old.feeds)
            (done ++ (front_pieces (hidden - place) (rest_pieces (place - line_start low below_line) (pieces_of (line_tokens (unfolded s) below_line))) ++ hidden_piece start (start + p.old.buffer) ∷ []))
        next-at =
            let next = lower-next ps index p found in
            let one : suc index ≡ index + 1 = omega arith in
            let done_more = front_pieces (hidden - place) (rest_pieces (place - line_start low below_line) (pieces_of (line_tokens (unfolded s) below_line))) in
            record {
              offset = a.end;
              front = w.front ++ (a.gap ++ a.old);
              kept = [];
              below = a.below;
              above = a.above;
              offset_is = omega (arith, ends, next.0);
              below_is =
                  w.below_is
                  ∙ ap (λ (l : List Token). w.front ++ l) (i.below_is ∙ sym (append_assoc a.gap a.old a.below))
                  ∙ sym (append_assoc w.front (a.gap ++ a.old) a.below);
              place_is = omega (arith, size-append w.front (a.gap ++ a.old), size-append a.gap a.old, w.place_is, gap_size, i.old.bytes, w.bytes, (w.fits p found).0);
              line_is = omega (arith, breaks-append w.front (a.gap ++ a.old), breaks-append a.gap a.old, w.line_is, none-free a.gap free, i.old.feeds);
              bytes = omega (arith, next.1);
              feeds = omega (arith, next.2, same);
              fits = λ q f. (omega arith, omega arith);
              rest = subst (λ (k : ℕ). AreSpliced s a.end (regap [] (drop k ps)) a.below a.above) one
                  (subst (λ (qs : List (Piece Amount NoLoad)). AreSpliced s a.end qs a.below a.above) (sym (regap-none (drop (suc index) ps))) r);
              opens = λ is. inr (i.opens_next is);
              pieces =
                  w.pieces
                  ∙ ap (λ (l : List PieceShown). done ++ l) (pieces-on ∙ sym (append_assoc done_more (hidden_piece start (start + p.old.buffer) ∷ []) (pieces_of rest_there)))
                  ∙ sym (append_assoc done (done_more ++ hidden_piece start (start + p.old.buffer) ∷ []) (pieces_of rest_there));
            }

      -- after a splice on it the line goes on: up to what is hidden as the lower layer's line, and then with a
      -- placeholder
      pub walk-on : lower.feeds + p.gap.feeds ≡ below_line
          → IsWalk s ps line (index + 1) (hidden + p.old.bytes) (below_line + p.old.feeds)
          (done ++ (front_pieces (hidden - place) (rest_pieces (place - line_start low below_line) (pieces_of (line_tokens (unfolded s) below_line))) ++ hidden_piece start (start + p.old.buffer) ∷ []))
      walk-on same = let x = at-splice in next-at x.0 x.1 x.2 same

      -- what is hidden lies in the text
      pub hidden-fits : (place ≤ hidden) × (start + p.old.buffer ≤ length s.text) × (hidden ≤ length low) × (lower.feeds + p.gap.feeds < line_count low)
      hidden-fits =
          let x = at-splice in
          let a = x.0 in
          let i = x.1 in (
            omega (arith, w.bytes, (w.fits p found).0),
            omega (arith, i.start, i.end, i.within, w.offset_is),
            omega (
              arith,
              ap length (text-below s ps are ∙ ap tokens_bytes w.below_is),
              size-append w.front w.below,
              ap size i.below_is,
              size-append a.gap (a.old ++ a.below),
              i.gap.bytes,
              w.place_is,
              w.bytes,
              (w.fits p found).0,
            ),
            omega (
              arith,
              line_count-is low,
              breaks-below s ps are,
              ap (count_by is_break) w.below_is,
              breaks-append w.front w.below,
              ap (count_by is_break) i.below_is,
              breaks-append a.gap (a.old ++ a.below),
              i.gap.feeds,
              w.line_is,
              w.feeds,
              (w.fits p found).1,
            ),
          )
