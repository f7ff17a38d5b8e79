-- The pieces that go on from a place of a source without folds, and those of a line.
use Rattle.std.proofs.Common.{◌≡◌, ℕ, ◌+◌, ◌-◌, ◌<◌, ◌≤◌, min, count_by, get_or, List, [], ◌∷◌, ◌++◌, length, take, drop, Some, refl, sym, ap, ◌∙◌, subst, arith, ◌⊎◌, inl, inr, append_assoc, append-nil}
use Rattle.std.specs.List.{slice_get}
use Rattle.std.specs.Str.{IsCharBoundary}
use Rattle.std.proofs.lemmas.Str.{IsCharBoundary-end}
use Rattle.std.proofs.lemmas.Bool.{cases_lt}
use Rattle.std.proofs.lemmas.List.{get_or-map, length-drop, length-map, length-take}
use Rattle.std.proofs.lemmas.Option.{slice_get-get_or}
use Rattle.cell_units.specs.declared.limits.TheConstants.{LAID_LIMIT}
use Rattle.cell_units.specs.declared.piece.Piece.{Piece}
use Rattle.cell_units.specs.declared.piece.PieceKind.TheVariants as Kinds
use Rattle.cell_units.specs.BufferLines.{line_end, line_start}
use Rattle.cell_units.specs.Folded.{display_lines, folded}
use Rattle.cell_units.specs.Inlaid.{Token}
use Rattle.cell_units.specs.Lawful.{AreInlays}
use Rattle.cell_units.specs.Layers.{Source, inlay_source, shown_lines, shown_text}
use Rattle.cell_units.specs.Pieces.{pieces_of}
use Rattle.cell_units.specs.Record.{line_count}
use Rattle.cell_units.specs.Text.{IsBoundary, IsText, clean, is_feed}
use Rattle.cell_units.proofs.BufferLines.{line_bounds, line_count-is}
use Rattle.cell_units.proofs.Sources.{lines-are}
use Rattle.text_rope.proofs.RowStarts.{end_boundary, start_boundary}
use Rattle.inlay_map.specs.declared.spot.Spot.{Spot}
use Rattle.inlay_map.specs.Splices.{base_at}
use Rattle.inlay_map.specs.Spots.{IsNextPiece, end_at, part_of}
use Rattle.inlay_map.proofs.InlaidSources.{well-formed}
use Rattle.inlay_map.proofs.LineTokens.{line-tokens}
use Rattle.inlay_map.proofs.MapStates.{source-is}
use Rattle.inlay_map.proofs.PiecesShown.{inlay-piece, text-piece}
use Rattle.inlay_map.proofs.ShownBoundaries.{cut-end, cut-inlay, inlay-boundary, shown-utf8, text-boundary}
use Rattle.inlay_map.proofs.SoughtSpots.{AreNumbers, IsThere}
use Rattle.inlay_map.proofs.Spread.{spread}

module _ (v : Source) (none : v.folds ≡ []) (are : AreInlays v.text v.inlays) (short : length v.text ≤ LAID_LIMIT) (is-text : IsText v.text) where
  -- the part of the source is that of its text with its inlays
  part-same : (place end : ℕ) → part_of (inlay_source v.text v.inlays) place end ≡ part_of v place end
  part-same place end = ap (λ s. part_of s place end) (source-is v none)

  next-is : (place end l : ℕ) (p q : Piece) → pieces_of (part_of (inlay_source v.text v.inlays) place end) ≡ q ∷ pieces_of (part_of (inlay_source v.text v.inlays) (place + l) end)
      → q ≡ p → length p.text ≡ l → 0 < l → place + l ≤ end → IsBoundary (shown_text v) (place + l) → IsNextPiece v place end p
  next-is place end l p q e same long some within b = record {
    next =
        ap pieces_of (sym (part-same place end))
        ∙ e
        ∙ (λ i. same i ∷ pieces_of (part-same (place + (sym long i)) end i));
    some = omega (arith, some, long);
    within = omega (arith, within, long);
    boundary = subst (λ k. IsBoundary (shown_text v) (place + k)) (sym long) b;
  }

  -- a piece of the text
  pub text-next : (place end stop : ℕ) (spot : Spot) (bytes : List ℕ) → AreNumbers v spot → spot.before.upper.bytes ≤ place → place - spot.before.upper.bytes < spot.gap.bytes → place < end
      → IsBoundary (shown_text v) end
      → stop ≡ min (spot.before.lower.bytes + spot.gap.bytes) (spot.before.lower.bytes + (place - spot.before.upper.bytes) + (end - place))
      → bytes ≡ take (stop - (spot.before.lower.bytes + (place - spot.before.upper.bytes))) (drop (spot.before.lower.bytes + (place - spot.before.upper.bytes)) v.text)
      → IsNextPiece v place end (record { kind = Kinds.Buffer; text = bytes; start = spot.before.lower.bytes + (place - spot.before.upper.bytes); end = stop })
  text-next place end stop spot bytes n from lt some b st is =
      let r = place - spot.before.upper.bytes in
      let start = spot.before.lower.bytes + r in
      let l = min (end_at v.text v.inlays spot.index - base_at 0 v.inlays spot.index - r) (end - place) in
      let base : base_at 0 v.inlays spot.index + r ≡ start = omega (arith, n.base) in
      let size : l ≡ stop - start = omega (arith, n.base, n.end, st, lt, some) in
      let last : base_at 0 v.inlays spot.index + r + l ≡ stop = omega (arith, n.base, n.end, st, lt, some) in
      let long : length bytes ≡ l = omega (arith, ap (λ (x : List ℕ). length x) is, length-take (stop - start) (drop start v.text), length-drop start v.text, n.within, size, st, lt) in
      let got : take l (drop (base_at 0 v.inlays spot.index + r) v.text) ≡ bytes = (λ i. take (size i) (drop (base i) v.text)) ∙ sym is in
      next-is place end l (record { kind = Kinds.Buffer; text = bytes; start = start; end = stop })
      (record { kind = Kinds.Buffer; text = take l (drop (base_at 0 v.inlays spot.index + r) v.text); start = base_at 0 v.inlays spot.index + r; end = base_at 0 v.inlays spot.index + r + l })
      (text-piece v.text v.inlays spot.index (spread v.text v.inlays are) are place end r (omega (arith, n.upper, from)) (omega (arith, n.base, n.end, lt)) some)
      (λ i. record { kind = Kinds.Buffer; text = got i; start = base i; end = last i })
      long (omega (arith, n.base, n.end, lt, some)) (omega arith) (go (cases_lt (end - place) (spot.gap.bytes - r)))
    where
      go : ((end - place) < (spot.gap.bytes - (place - spot.before.upper.bytes))) ⊎ ((spot.gap.bytes - (place - spot.before.upper.bytes)) ≤ (end - place))
          → IsBoundary (shown_text v) (place + min (end_at v.text v.inlays spot.index - base_at 0 v.inlays spot.index - (place - spot.before.upper.bytes)) (end - place))
      go (inl less) =
          let e : end ≡ place + min (end_at v.text v.inlays spot.index - base_at 0 v.inlays spot.index - (place - spot.before.upper.bytes)) (end - place) = omega (arith, n.base, n.end, less, some) in
          subst (IsBoundary (shown_text v)) e b
      go (inr more) =
          let e : spot.before.upper.bytes + spot.gap.bytes ≡ place + min (end_at v.text v.inlays spot.index - base_at 0 v.inlays spot.index - (place - spot.before.upper.bytes)) (end - place) = omega (arith, n.base, n.end, more, from, lt) in
          subst (IsBoundary (shown_text v)) e (cut-end v none are short is-text spot n)

  -- where it stops is a boundary of the text
  pub stop-boundary : (place end stop : ℕ) (spot : Spot) → AreNumbers v spot → spot.before.upper.bytes ≤ place → place - spot.before.upper.bytes < spot.gap.bytes → place < end → IsBoundary (shown_text v) end
      → stop ≡ min (spot.before.lower.bytes + spot.gap.bytes) (spot.before.lower.bytes + (place - spot.before.upper.bytes) + (end - place)) → IsBoundary v.text stop
  stop-boundary place end stop spot n from lt some b st = go (cases_lt (end - place) (spot.gap.bytes - (place - spot.before.upper.bytes))) where
    go : ((end - place) < (spot.gap.bytes - (place - spot.before.upper.bytes))) ⊎ ((spot.gap.bytes - (place - spot.before.upper.bytes)) ≤ (end - place)) → IsBoundary v.text stop
    go (inl less) =
        let r = place - spot.before.upper.bytes + (end - place) in
        let there : end ≡ spot.before.upper.bytes + r = omega (arith, from, some) in
        let e : spot.before.lower.bytes + r ≡ stop = omega (arith, st, less, some) in
        subst (IsBoundary v.text) e (text-boundary v none are short is-text spot n r (omega (arith, less, lt)) (subst (IsBoundary (shown_text v)) there b))
    go (inr more) =
        let e : spot.before.lower.bytes + spot.gap.bytes ≡ stop = omega (arith, st, more, lt) in
        subst (IsBoundary v.text) e (text-boundary v none are short is-text spot n spot.gap.bytes (omega arith) (cut-end v none are short is-text spot n))

  -- a piece of an inlay stops at a boundary of what that shows
  pub to-boundary : (place end to : ℕ) (spot : Spot) (t : IsThere v spot) → AreNumbers v spot → spot.before.upper.bytes ≤ place → spot.gap.bytes ≤ place - spot.before.upper.bytes
      → place - spot.before.upper.bytes - spot.gap.bytes < length (clean t.inlay.text) → place < end → IsBoundary (shown_text v) end
      → to ≡ min (length (clean t.inlay.text)) (place - spot.before.upper.bytes - spot.gap.bytes + (end - place)) → IsCharBoundary (clean t.inlay.text) to
  to-boundary place end to spot t n from past lt some b st = go (cases_lt (end - place) (length (clean t.inlay.text) - (place - spot.before.upper.bytes - spot.gap.bytes))) where
    go : ((end - place) < (length (clean t.inlay.text) - (place - spot.before.upper.bytes - spot.gap.bytes))) ⊎ ((length (clean t.inlay.text) - (place - spot.before.upper.bytes - spot.gap.bytes)) ≤ (end - place))
        → IsCharBoundary (clean t.inlay.text) to
    go (inl less) =
        let r = place - spot.before.upper.bytes - spot.gap.bytes + (end - place) in
        let there : end ≡ spot.before.upper.bytes + spot.gap.bytes + r = omega (arith, from, past, some) in
        let e : r ≡ to = omega (arith, st, less) in
        subst (IsCharBoundary (clean t.inlay.text)) e (inlay-boundary v none are short is-text spot n t r (omega (arith, less, lt)) (subst (IsBoundary (shown_text v)) there b))
    go (inr more) =
        let e : length (clean t.inlay.text) ≡ to = omega (arith, st, more, lt) in
        subst (IsCharBoundary (clean t.inlay.text)) e (IsCharBoundary-end (clean t.inlay.text))

  -- a piece of an inlay
  pub inlay-next : (place end to id : ℕ) (spot : Spot) (bytes : List ℕ) (t : IsThere v spot) → id ≡ t.inlay.id → AreNumbers v spot → spot.before.upper.bytes ≤ place → spot.gap.bytes ≤ place - spot.before.upper.bytes
      → place - spot.before.upper.bytes - spot.gap.bytes < length (clean t.inlay.text) → place < end → IsBoundary (shown_text v) end
      → to ≡ min (length (clean t.inlay.text)) (place - spot.before.upper.bytes - spot.gap.bytes + (end - place))
      → bytes ≡ take (to - (place - spot.before.upper.bytes - spot.gap.bytes)) (drop (place - spot.before.upper.bytes - spot.gap.bytes) (clean t.inlay.text))
      → IsNextPiece v place end (record { kind = Kinds.Inlay id; text = bytes; start = spot.before.lower.bytes + spot.gap.bytes; end = spot.before.lower.bytes + spot.gap.bytes })
  inlay-next place end to id spot bytes t own n from past lt some b st is =
      let shown = clean t.inlay.text in
      let r = place - spot.before.upper.bytes - spot.gap.bytes in
      let o = end_at v.text v.inlays spot.index in
      let l = min (length shown - r) (end - place) in
      let there : o ≡ spot.before.lower.bytes + spot.gap.bytes = sym n.end in
      let size : l ≡ to - r = omega (arith, st, lt, some) in
      let long : length bytes ≡ l = omega (arith, ap (λ (x : List ℕ). length x) is, length-take (to - r) (drop r shown), length-drop r shown, size, st, lt) in
      let got : take l (drop r shown) ≡ bytes = (λ i. take (size i) (drop r shown)) ∙ sym is in
      next-is place end l (record { kind = Kinds.Inlay id; text = bytes; start = spot.before.lower.bytes + spot.gap.bytes; end = spot.before.lower.bytes + spot.gap.bytes })
      (record { kind = Kinds.Inlay t.inlay.id; text = take l (drop r shown); start = o; end = o })
      (inlay-piece v.text v.inlays spot.index (spread v.text v.inlays are) are t.inlay place end r t.got (omega (arith, n.upper, n.base, n.end, from, past)) lt some)
      (λ i. record { kind = Kinds.Inlay (sym own i); text = got i; start = there i; end = there i })
      long (omega (arith, lt, some)) (omega arith) (go (cases_lt (end - place) (length shown - r)))
    where
      go : ((end - place) < (length (clean t.inlay.text) - (place - spot.before.upper.bytes - spot.gap.bytes))) ⊎ ((length (clean t.inlay.text) - (place - spot.before.upper.bytes - spot.gap.bytes)) ≤ (end - place))
          → IsBoundary (shown_text v) (place + min (length (clean t.inlay.text) - (place - spot.before.upper.bytes - spot.gap.bytes)) (end - place))
      go (inl less) =
          let e : end ≡ place + min (length (clean t.inlay.text) - (place - spot.before.upper.bytes - spot.gap.bytes)) (end - place) = omega (arith, less, some) in
          subst (IsBoundary (shown_text v)) e b
      go (inr more) =
          let e : spot.before.upper.bytes + spot.gap.bytes + length (clean t.inlay.text) ≡ place + min (length (clean t.inlay.text) - (place - spot.before.upper.bytes - spot.gap.bytes)) (end - place) = omega (arith, more, from, past, lt) in
          subst (IsBoundary (shown_text v)) e (cut-inlay v none are short is-text spot n t)

-- ---- the pieces of a line

part-none : (v : Source) (place : ℕ) → pieces_of (part_of v place place) ≡ []
part-none v place = ap (λ n. pieces_of (take n (drop place (folded v.text v.inlays v.folds)))) one ∙ go (drop place (folded v.text v.inlays v.folds)) where
  one : place + 1 - place ≡ 1
  one = omega arith

  go : (ts : List Token) → pieces_of (take 1 ts) ≡ []
  go [] = refl
  go (t ∷ ts) = refl

-- A line lies between two boundaries, and its pieces are those of what is there.
pub record IsRange (v : Source) (line : ℕ) : Type 0 where
  pub start : IsBoundary (shown_text v) (line_start (shown_text v) line)
  pub end : IsBoundary (shown_text v) (line_end (shown_text v) line)
  pub order : line_start (shown_text v) line ≤ line_end (shown_text v) line
  pub pieces : slice_get (shown_lines v) line ≡ Some (pieces_of (part_of v (line_start (shown_text v) line) (line_end (shown_text v) line)))

pub range-is : (v : Source) (none : v.folds ≡ []) (are : AreInlays v.text v.inlays) (short : length v.text ≤ LAID_LIMIT) (is-text : IsText v.text) (line : ℕ) → line < length (shown_lines v) → IsRange v line
range-is v none are short is-text line lt =
    let shown = shown_text v in
    let utf8 = shown-utf8 v none are short is-text in
    let w = well-formed v is-text are none in
    let in' : line < line_count shown = omega (arith, lt, lines-are v w, line_count-is shown) in
    let lines = display_lines v.text v.inlays v.folds in
    let within : line < length lines = omega (arith, lt, length-map lines pieces_of) in
    let same = source-is v none in
    let few : line ≤ count_by is_feed (shown_text (inlay_source v.text v.inlays)) = omega (arith, lt, lines-are v w, ap (λ s. count_by is_feed (shown_text s)) same) in
    let tokens : get_or lines line [] ≡ part_of v (line_start shown line) (line_end shown line) =
    ap (λ (s : Source). get_or (display_lines s.text s.inlays s.folds) line []) (sym same)
    ∙ line-tokens v.text v.inlays line (spread v.text v.inlays are) few
    ∙ ap (λ s. part_of s (line_start (shown_text s) line) (line_end (shown_text s) line)) same in
    record {
      start = start_boundary shown line utf8 in';
      end = end_boundary shown line utf8 in';
      order = (line_bounds shown line in').0;
      pieces =
          slice_get-get_or (shown_lines v) line [] lt
          ∙ ap Some (get_or-map pieces_of lines line [] [] within ∙ ap pieces_of tokens);
    }

-- the pieces of all that a line has been found to have so far, and of the rest
pub all-found : (v : Source) (place end : ℕ) (found : List Piece) (all : List Piece) → found ++ pieces_of (part_of v place end) ≡ all → place ≡ end → found ≡ all
all-found v place end found all e last =
    sym (append-nil found) ∙ ap (λ l. found ++ l) (sym (part-none v end) ∙ ap (λ k. pieces_of (part_of v k end)) (sym last)) ∙ e

pub one-found : (v : Source) (place end : ℕ) (p : Piece) (found more all : List Piece) → found ++ pieces_of (part_of v place end) ≡ all → more ≡ found ++ p ∷ []
    → pieces_of (part_of v place end) ≡ p ∷ pieces_of (part_of v (place + length p.text) end) → more ++ pieces_of (part_of v (place + length p.text) end) ≡ all
one-found v place end p found more all e m n =
    let rest = pieces_of (part_of v (place + length p.text) end) in
    ap (λ l. l ++ rest) m ∙ append_assoc found (p ∷ []) rest ∙ ap (λ l. found ++ l) (sym n) ∙ e
