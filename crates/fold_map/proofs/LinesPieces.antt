-- Where the pieces of the lower layer's line are cut: between characters, and so that all are copied.
use Rattle.std.proofs.Common.{◌≡◌, ◌≢◌, ℕ, suc, ◌+◌, ◌-◌, ◌<◌, ◌≤◌, ◌^◌, ◌⊎◌, Bool, true, false, cond, eqb, List, [], ◌∷◌, ◌++◌, length, length-append, take, drop, slice_range, get_or, Some, refl, sym, ap, ◌∙◌, subst, inl, inr, arith, append_assoc}
use Rattle.std.specs.List.{All, slice_get}
use Rattle.std.specs.Str.{IsCharBoundary}
use Rattle.std.proofs.lemmas.Bool.{le-leb}
use Rattle.std.proofs.lemmas.List.{get_or-append-add, get_or-map, length-drop, length-map, length-take}
use Rattle.std.proofs.lemmas.List.Concat.{flat_map-append}
use Rattle.std.proofs.lemmas.Option.{get_or_from_slice_get, slice_get-get_or}
use Rattle.cell_units.specs.declared.piece.Piece.{Piece as PieceShown}
use Rattle.cell_units.specs.BufferLines.{line_start}
use Rattle.cell_units.specs.Folded.{display_lines}
use Rattle.cell_units.specs.Folding.{front_pieces, piece_front, rest_pieces}
use Rattle.cell_units.specs.Inlaid.{Token, Byte, Hidden, InlayByte, bytes_of as bytes_of_token, is_break}
use Rattle.cell_units.specs.Lawful.{IsWellFormed}
use Rattle.cell_units.specs.Laws.{IsCopied}
use Rattle.cell_units.specs.Layers.{Source, line_tokens, shown_lines, shown_text, unfolded}
use Rattle.cell_units.specs.Pieces.{before_break, pieces_of}
use Rattle.cell_units.proofs.BufferPieces.{shown-copied}
use Rattle.cell_units.proofs.CutLists.{upto}
use Rattle.cell_units.proofs.PieceRuns.{none_empty}
use Rattle.cell_units.proofs.ShownText.{bytes-pieces_of, size, size-append, tokens_bytes}
use Rattle.sum_core.specs.declared.load.NoLoad.{NoLoad}
use Rattle.splice_tree.specs.Splices.{Piece, regapped}
use Rattle.fold_map.specs.declared.amount.Amount.{Amount}
use Rattle.fold_map.specs.declared.pieces.LineBelow.{LineBelow}
use Rattle.fold_map.specs.LinePieces.{IsLineOf, IsWhole, MayCopy, MayCut, bytes_in, hidden_piece}
use Rattle.fold_map.specs.Splices.{AreSplices}
use Rattle.fold_map.proofs.LinesFound.{left_of}
use Rattle.fold_map.proofs.LinesWalk.{IsHere, IsWalk, at-splice, gap_size, here, hidden-fits, later, left-is, left_below, own, pieces-left, walk-end, walk-fits, walk-off, walk-on}
use Rattle.fold_map.proofs.ShownOpens.{Opens}
use Rattle.fold_map.proofs.ShownSplices.{AreSpliced, Around, IsAround, closing, sums}
use Rattle.fold_map.proofs.SpotsShown.{text-below}

-- ---- a line without its break

before-append : (xs : List Token) (t : Token) (us : List Token) → before_break (xs ++ t ∷ us) ≡ xs ++ before_break (t ∷ us)
before-append [] t us = refl
before-append (x ∷ []) t us = refl
before-append (x ∷ y ∷ ys) t us = ap (λ (l : List Token). x ∷ l) (before-append (y ∷ ys) t us)

head-of : (t : Token) (bs : List ℕ) → get_or (bytes_of_token t ++ bs) 0 0 ≡ get_or (bytes_of_token t) 0 0
head-of (Byte o b) bs = refl
head-of (InlayByte o id b) bs = refl
head-of (Hidden o) bs = refl

some-bytes : (t : Token) → 0 < length (bytes_of_token t)
some-bytes (Byte o b) = omega arith
some-bytes (InlayByte o id b) = omega arith
some-bytes (Hidden o) = omega arith

-- before a token that begins with a character a line may be cut
cut-before : (xs : List Token) (t : Token) (us : List Token) → IsCharBoundary (bytes_of_token t) 0 → MayCut (size xs) (tokens_bytes (before_break (xs ++ t ∷ us)))
cut-before xs t [] h some lt = absurd (omega (arith, lt, ap size (before-append xs t []), size-append xs []))
cut-before xs t (u ∷ us) h some lt =
    let more = tokens_bytes (before_break (u ∷ us)) in
    let X = tokens_bytes xs in
    let whole : tokens_bytes (before_break (xs ++ t ∷ u ∷ us)) ≡ X ++ (bytes_of_token t ++ more) = ap tokens_bytes (before-append xs t (u ∷ us)) ∙ flat_map-append bytes_of_token xs (t ∷ before_break (u ∷ us)) in
    let none : length X ≡ length X + 0 = omega arith in
    let byte : get_or (X ++ (bytes_of_token t ++ more)) (length X) 0 ≡ get_or (bytes_of_token t) 0 0 =
    ap (λ (k : ℕ). get_or (X ++ (bytes_of_token t ++ more)) k 0) none ∙ get_or-append-add X (bytes_of_token t ++ more) 0 0 ∙ head-of t more in
    subst (λ (l : List ℕ). IsCharBoundary l (length X)) (sym whole) (
      omega (arith, length-append X (bytes_of_token t ++ more)),
      λ _ from. let high = h.1 (some-bytes t) (omega (arith, from, byte)) in omega (arith, high, byte),
    )

module _ (s : Source) where
  before-less : (xs : List Token) → size (before_break (upto is_break (xs ++ closing s ∷ []))) ≤ size xs
  before-less [] = omega arith
  before-less (x ∷ []) = go (is_break x) where
    go : (b : Bool) → size (before_break (x ∷ cond b [] (upto is_break (closing s ∷ [])))) ≤ size (x ∷ [])
    go true = omega arith
    go false = omega arith
  before-less (x ∷ y ∷ ys) = go (is_break x) (before-less (y ∷ ys)) where
    go : (b : Bool) → size (before_break (upto is_break (y ∷ ys ++ closing s ∷ []))) ≤ size (y ∷ ys) → size (before_break (x ∷ cond b [] (upto is_break (y ∷ ys ++ closing s ∷ [])))) ≤ size (x ∷ y ∷ ys)
    go true le = omega arith
    go false le = omega (arith, le, size-append (x ∷ []) (before_break (upto is_break (y ∷ ys ++ closing s ∷ []))), size-append (x ∷ []) (y ∷ ys))

-- ---- pieces

front-all : (n : ℕ) (ps : List PieceShown) → length (bytes_in ps) ≤ n → front_pieces n ps ≡ ps
front-all n [] le = refl
front-all n (p ∷ ps) le =
    let sum = length-append p.text (bytes_in ps) in
    ap (λ (b : Bool). cond b (p ∷ front_pieces (n - length p.text) ps) (cond (eqb n 0) [] (piece_front n p ∷ []))) (le-leb (length p.text) n (omega (arith, le, sum)))
    ∙ ap (λ (l : List PieceShown). p ∷ l) (front-all (n - length p.text) ps (omega (arith, le, sum)))

-- the pieces of a line
pub line-pieces : (u : Source) (line : ℕ) (ps : List PieceShown) → line < length (shown_lines u) → slice_get (shown_lines u) line ≡ Some ps → ps ≡ pieces_of (line_tokens u line)
line-pieces u line ps lt e =
    let lines = display_lines u.text u.inlays u.folds in
    sym (get_or_from_slice_get (shown_lines u) line ps [] e) ∙ get_or-map pieces_of lines line [] [] (omega (arith, lt, length-map lines pieces_of))

pub line-found : (u : Source) (line : ℕ) (ps : List PieceShown) → line < length (shown_lines u) → ps ≡ pieces_of (line_tokens u line) → slice_get (shown_lines u) line ≡ Some ps
line-found u line ps lt e =
    let lines = display_lines u.text u.inlays u.folds in
    slice_get-get_or (shown_lines u) line [] lt ∙ ap Some (get_or-map pieces_of lines line [] [] (omega (arith, lt, length-map lines pieces_of)) ∙ sym e)

module _ (s : Source) (ps : List (Piece Amount NoLoad)) (are : AreSplices s ps) (formed : IsWellFormed s) where
  abbrev low : List ℕ
  low = shown_text (unfolded s)

  module _ (line index place below_line : ℕ) (done : List PieceShown) (w : IsWalk s ps line index place below_line done) (b : LineBelow) (is : IsLineOf (unfolded s) below_line b) (lt : below_line < length (shown_lines (unfolded s))) where
    abbrev at : IsHere s ps are line index place below_line done w
    at = here s ps are line index place below_line done w

    abbrev left : List Token
    left = left_below s ps are line index place below_line done w

    pub items : b.pieces.items ≡ pieces_of (line_tokens (unfolded s) below_line)
    items = line-pieces (unfolded s) below_line b.pieces.items lt is.pieces

    bytes-are : bytes_in b.pieces.items ≡ tokens_bytes (before_break (at.behind ++ left))
    bytes-are = ap bytes_in (items ∙ ap pieces_of at.tokens) ∙ bytes-pieces_of (at.behind ++ left)

    from_size : place - b.start ≡ size at.behind
    from_size = omega (arith, at.size_is, is.start)

    -- what is left is no more than the rest of the text
    left-size : size (before_break left) ≤ length low - place
    left-size = omega (arith, before-less s w.below, ap length (text-below s ps are ∙ ap tokens_bytes w.below_is), size-append w.front w.below, w.place_is)

    left-cons : (t : Token) × (us : List Token) × (left ≡ t ∷ us) × (Opens (w.below ++ closing s ∷ []) → IsCharBoundary (bytes_of_token t) 0)
    left-cons = go w.below refl where
      go : (ts : List Token) → w.below ≡ ts → (t : Token) × (us : List Token) × (left ≡ t ∷ us) × (Opens (w.below ++ closing s ∷ []) → IsCharBoundary (bytes_of_token t) 0)
      go [] e = (closing s, [], ap (λ (l : List Token). upto is_break (l ++ closing s ∷ [])) e, λ h. subst (λ (l : List Token). Opens (l ++ closing s ∷ [])) e h)
      go (t ∷ ts) e =
          (t, cond (is_break t) [] (upto is_break (ts ++ closing s ∷ [])), ap (λ (l : List Token). upto is_break (l ++ closing s ∷ [])) e, λ h. subst (λ (l : List Token). Opens (l ++ closing s ∷ [])) e h)

    before-is : size (before_break (at.behind ++ left)) ≡ size at.behind + size (before_break left)
    before-is =
        ap (λ (l : List Token). size (before_break (at.behind ++ l))) left-cons.2
        ∙ ap size (before-append at.behind left-cons.0 left-cons.1)
        ∙ size-append at.behind (before_break (left-cons.0 ∷ left-cons.1))
        ∙ ap (λ (l : List Token). size at.behind + size (before_break l)) (sym left-cons.2)

    pub in-low : b.start + length (bytes_in b.pieces.items) ≤ length low
    in-low =
        omega (
          arith,
          ap (λ (l : List ℕ). length l) bytes-are,
          before-is,
          left-size,
          at.size_is,
          is.start,
          (walk-fits s ps are line index place below_line done w).0,
        )

    pub each-whole : All IsWhole b.pieces.items
    each-whole = subst (All IsWhole) (sym items) (λ i d h. record {
      some = none_empty (line_tokens (unfolded s) below_line) i d h;
      buffer = λ k. let c = copied i d h k in omega (arith, c.0, c.1, ap (λ (l : List ℕ). length l) c.2, length-range s.text (get_or (pieces_of (line_tokens (unfolded s) below_line)) i d).start (get_or (pieces_of (line_tokens (unfolded s) below_line)) i d).end c.0 c.1);
    }) where
      lines : List (List PieceShown)
      lines = shown_lines (unfolded s)

      copied : All (IsCopied s.text) (pieces_of (line_tokens (unfolded s) below_line))
      copied = subst (All (IsCopied s.text)) (get_or-map pieces_of (display_lines s.text s.inlays []) below_line [] [] (omega (arith, lt, length-map (display_lines s.text s.inlays []) pieces_of))) (shown-copied (unfolded s) (refl, refl) below_line [] lt)

      length-range : (text : List ℕ) (a b : ℕ) → a ≤ b → b ≤ length text → length (slice_range text a b) ≡ b - a
      length-range text a b le within = omega (arith, length-take (b - a) (drop a text), length-drop a text, le, within)

    -- where it goes on
    first-cut : MayCut (place - b.start) (bytes_in b.pieces.items)
    first-cut some h = go (w.opens formed) where
      go : (place ≡ line_start low below_line) ⊎ Opens (w.below ++ closing s ∷ []) → IsCharBoundary (bytes_in b.pieces.items) (place - b.start)
      go (inl e) = absurd (omega (arith, some, e, is.start))
      go (inr o) =
          let cut = cut-before at.behind left-cons.0 left-cons.1 (left-cons.3 o) in
          let all : bytes_in b.pieces.items ≡ tokens_bytes (before_break (at.behind ++ left-cons.0 ∷ left-cons.1)) = bytes-are ∙ ap (λ (l : List Token). tokens_bytes (before_break (at.behind ++ l))) left-cons.2 in
          (subst (λ (n : ℕ). MayCut n (bytes_in b.pieces.items)) (sym from_size) (subst (MayCut (size at.behind)) (sym all) cut)) some h

    -- up to its end
    pub copy-end : length low < 2 ^ 32 → MayCopy b place (length low)
    copy-end small = record {
      start = omega (arith, at.size_is, is.start);
      order = (walk-fits s ps are line index place below_line done w).0;
      first = first-cut;
      last = λ some h. absurd (omega (arith, h, in-low));
      each = each-whole;
      fits = omega (arith, in-low, small);
    }

    pub copied-end : front_pieces (length low - place) (rest_pieces (place - b.start) b.pieces.items) ≡ rest_pieces (place - line_start low below_line) (pieces_of (line_tokens (unfolded s) below_line))
    copied-end =
        let left-are = pieces-left s ps are line index place below_line done w in
        (λ i. front_pieces (length low - place) (rest_pieces (place - is.start i) (items i)))
        ∙ front-all (length low - place) (rest_pieces (place - line_start low below_line) (pieces_of (line_tokens (unfolded s) below_line)))
        (omega (arith, ap (λ (l : List PieceShown). length (bytes_in l)) left-are, ap (λ (l : List ℕ). length l) (bytes-pieces_of left), left-size))

    -- all pieces of the line, where it goes on to its end
    module _ (on : line < length (shown_lines s)) where
      all-are : pieces_of (line_tokens s line) ≡ done ++ rest_pieces (place - line_start low below_line) (pieces_of (line_tokens (unfolded s) below_line))
          → slice_get (shown_lines s) line ≡ Some (done ++ front_pieces (length low - place) (rest_pieces (place - b.start) b.pieces.items))
      all-are e = line-found s line (done ++ front_pieces (length low - place) (rest_pieces (place - b.start) b.pieces.items)) on (ap (λ (l : List PieceShown). done ++ l) copied-end ∙ sym e)

      pub ends-behind : drop index ps ≡ [] → slice_get (shown_lines s) line ≡ Some (done ++ front_pieces (length low - place) (rest_pieces (place - b.start) b.pieces.items))
      ends-behind e = all-are (walk-end s ps are line index place below_line done w e)

      pub ends-off : (p : Piece Amount NoLoad) → slice_get ps index ≡ Some p → (sums (take index ps)).lower.feeds + p.gap.feeds ≢ below_line
          → slice_get (shown_lines s) line ≡ Some (done ++ front_pieces (length low - place) (rest_pieces (place - b.start) b.pieces.items))
      ends-off p found ne = all-are (walk-off s ps are line index place below_line done w p found ne)

    -- up to what a splice hides
    module _ (p : Piece Amount NoLoad) (found : slice_get ps index ≡ Some p) (same : (sums (take index ps)).lower.feeds + p.gap.feeds ≡ below_line) where
      abbrev hidden : ℕ
      hidden = (sums (take index ps)).lower.bytes + p.gap.bytes

      last-cut : MayCut (hidden - b.start) (bytes_in b.pieces.items)
      last-cut = go (at-splice s ps are line index place below_line done w p found) where
        go : (a : Around) × IsAround s w.offset (regapped (left_of w.kept p.gap) p) w.below w.above a × AreSpliced s a.end (drop (suc index) ps) a.below a.above → MayCut (hidden - b.start) (bytes_in b.pieces.items)
        go (a, i, r) =
            let u = own s ps are line index place below_line done w p found a i r same in
            let more = later s ps are line index place below_line done w p found a i r same in
            let opens : IsCharBoundary (bytes_of_token u.0) 0 = subst Opens u.2 (i.opens formed) in
            let front = at.behind ++ a.gap in
            let whole : at.behind ++ left ≡ front ++ u.0 ∷ more = ap (λ (l : List Token). at.behind ++ l) (left-is s ps are line index place below_line done w p found a i r same) ∙ sym (append_assoc at.behind a.gap (u.0 ∷ more)) in
            let count : size front ≡ hidden - b.start =
            omega (
              arith,
              size-append at.behind a.gap,
              gap_size s ps are line index place below_line done w p found a i r same,
              at.size_is,
              is.start,
              (hidden-fits s ps are line index place below_line done w p found).0,
            ) in
            subst (λ (n : ℕ). MayCut n (bytes_in b.pieces.items)) count
            (subst (MayCut (size front)) (sym (bytes-are ∙ ap (λ (l : List Token). tokens_bytes (before_break l)) whole)) (cut-before front u.0 more opens))

      pub copy-on : length low < 2 ^ 32 → MayCopy b place hidden
      copy-on small = record {
        start = omega (arith, at.size_is, is.start);
        order = (hidden-fits s ps are line index place below_line done w p found).0;
        first = first-cut;
        last = last-cut;
        each = each-whole;
        fits = omega (arith, in-low, small);
      }

      abbrev start : ℕ
      start = (sums (take index ps)).lower.buffer + p.gap.buffer

      -- and so on after it
      pub goes-on : IsWalk s ps line (index + 1) (hidden + p.old.bytes) (below_line + p.old.feeds)
          ((done ++ front_pieces (hidden - place) (rest_pieces (place - b.start) b.pieces.items)) ++ hidden_piece start (start + p.old.buffer) ∷ [])
      goes-on =
          let one = hidden_piece start (start + p.old.buffer) ∷ [] in
          let copied-are : done ++ (front_pieces (hidden - place) (rest_pieces (place - line_start low below_line) (pieces_of (line_tokens (unfolded s) below_line))) ++ one)
          ≡ (done ++ front_pieces (hidden - place) (rest_pieces (place - b.start) b.pieces.items)) ++ one =
          (λ i. done ++ (front_pieces (hidden - place) (rest_pieces (place - sym is.start i) (sym items i)) ++ one))
          ∙ sym (append_assoc done (front_pieces (hidden - place) (rest_pieces (place - b.start) b.pieces.items)) one) in
          subst (IsWalk s ps line (index + 1) (hidden + p.old.bytes) (below_line + p.old.feeds)) copied-are (walk-on s ps are line index place below_line done w p found same)
