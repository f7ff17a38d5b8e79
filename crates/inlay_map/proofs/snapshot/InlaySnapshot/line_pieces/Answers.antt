use Rattle.std.proofs.Common.{◌≡◌, ◌+◌, ◌++◌, ◌∙◌, ℕ, List, Some, length, ap, sym, subst, arith}
use Rattle.cell_units.specs.BufferLines.{line_start}
use Rattle.cell_units.specs.Layers.{shown_text}
use Rattle.cell_units.specs.Pieces.{pieces_of}
use Rattle.cell_units.specs.Text.{IsBoundary}
use Rattle.inlay_map.specs.Spots.{part_of}
use Rattle.inlay_map.proofs.PiecesFound.{IsRange, all-found, one-found, range-is}
use Rattle.inlay_map.proofs.snapshot.InlaySnapshot.line_pieces.Goals as goal
use Rattle.inlay_map.proofs.snapshot.InlaySnapshot.line_pieces.Goals.{After-text_len-len}

range : (c : After-text_len-len) → IsRange c.args.self.now c.args.line
range c =
    let e = c.text_len-len.ensures.lawful in
    range-is c.args.self.now e.folds e.inlays e.short e.text c.args.line c.requires

pub loop-place-init : goal.loop-place-init
loop-place-init c =
    let v = c.args.self.now in
    let r = range (goal.at.loop-place-init c).After-text_len-len in
    let start = c.row_start-place.ensures.start in
    let end = c.row_end-end.ensures.end in
    record {
      within = omega (arith, r.order, start, end);
      boundary = subst (IsBoundary (shown_text v)) (sym start) r.start;
      found = λ i. c.new-pieces.ensures.items i ++ pieces_of (part_of v (start i) c.row_end-end.result);
      counted = omega arith;
    }

pub piece_at-requires-clause-start : goal.piece_at-requires-clause-start
piece_at-requires-clause-start c = c.loop-place.invariant.boundary

pub piece_at-requires-clause-end : goal.piece_at-requires-clause-end
piece_at-requires-clause-end c =
    let r = range (goal.at.piece_at-requires-clause-end c).After-text_len-len in
    subst (IsBoundary (shown_text c.args.self.now)) (sym c.row_end-end.ensures.end) r.end

pub loop-place-preserved : goal.loop-place-preserved
loop-place-preserved c =
    let v = c.args.self.now in
    let p = c.in_ok-piece.piece in
    let place = c.loop-place.place in
    let end = c.row_end-end.result in
    let all = pieces_of (part_of v (line_start (shown_text v) c.args.line) end) in
    let long : length c.as_str.result.now ≡ length p.text = ap (λ (l : List ℕ). length l) c.as_str.ensures in
    let more = c.in_ok-push.ensures.items in
    record {
      within = omega (arith, c.in_ok-piece.ensures.next.within, long);
      boundary = subst (λ (k : ℕ). IsBoundary (shown_text v) (place + k)) (sym long) c.in_ok-piece.ensures.next.boundary;
      found =
          subst (λ (k : ℕ). c.push.new.self.items ++ pieces_of (part_of v (place + k) end) ≡ all) (sym long)
          (one-found v place end p c.loop-place.pieces.items c.push.new.self.items all c.loop-place.invariant.found more c.in_ok-piece.ensures.next.next);
      counted = omega arith;
    }

pub returns-clause-pieces : goal.returns-clause-pieces
returns-clause-pieces c =
    let v = c.args.self.now in
    let r = range (goal.at.returns-clause-pieces c).After-text_len-len in
    let shown = shown_text v in
    let start = line_start shown c.args.line in
    let end = c.row_end-end.result in
    let last : c.loop-place.place ≡ end = omega (arith, c.loop-place.invariant.within, c.loop-place-test.false) in
    let found = all-found v c.loop-place.place end c.loop-place.pieces.items (pieces_of (part_of v start end)) c.loop-place.invariant.found last in
    r.pieces ∙ ap Some (sym (found ∙ ap (λ (k : ℕ). pieces_of (part_of v start k)) c.row_end-end.ensures.end))
