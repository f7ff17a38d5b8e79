-- What splices of all joined folds cover is within a u32 on both sides.
use Rattle.std.proofs.Common.{ℕ, ◌<◌, ◌≤◌, ◌^◌, List, [], length, take, refl, arith}
use Rattle.std.proofs.lemmas.List.{length-take}
use Rattle.std.proofs.lemmas.List.Sums.{count_by-le-length}
use Rattle.cell_units.specs.declared.place.Bias.TheVariants.{Left}
use Rattle.cell_units.specs.Lawful.{IsWellFormed}
use Rattle.cell_units.specs.Layers.{Source, place_of, shown_text}
use Rattle.cell_units.specs.Record.{Fold, Inlay}
use Rattle.cell_units.specs.Text.{is_feed, row_of}
use Rattle.cell_units.proofs.LineSpans.{place-line}
use Rattle.cell_units.proofs.ShownPlaces.{place-le}
use Rattle.cell_units.proofs.Sources.{ends_open}
use Rattle.joined_folds.specs.declared.joined_fold.JoinedFold.{JoinedFold}
use Rattle.joined_folds.specs.JoinedLists.{AreAllJoined, last_end}
use Rattle.joined_folds.proofs.JoinedLists.{open_first}
use Rattle.sum_core.specs.Sums.{total}
use Rattle.splice_tree.specs.Sides.{BothFit, none, both}
use Rattle.splice_tree.specs.Splices.{piece_sum}
use Rattle.fold_map.specs.Amounts.{AmountFits, line_at, nothing, together}
use Rattle.fold_map.specs.Snapshots.{PlacesFit}
use Rattle.fold_map.specs.Splices.{splices_from}
use Rattle.fold_map.proofs.Sums.{covers}

row-le : (text : List ℕ) (o : ℕ) → row_of text o ≤ length text
row-le text o = omega (arith, count_by-le-length is_feed (take o text), length-take o text)

module _ (text : List ℕ) (inlays : List Inlay) (folds : List Fold) where
  abbrev low : Source
  low = record { text = text; inlays = inlays; folds = [] }

  abbrev high : Source
  high = record { text = text; inlays = inlays; folds = folds }

  pub fits-all : (js : List JoinedFold) → AreAllJoined folds (length text) js → IsWellFormed high → length text < 2 ^ 32 → PlacesFit low → PlacesFit high
      → BothFit AmountFits (total (none nothing) (both together) (piece_sum together) (splices_from low 0 js))
  fits-all js all is small below above =
      let c = covers text inlays folds all.0 0 js (length text) all.1 (open_first folds) (omega arith) in
      let e = last_end 0 js in
      let within : e ≤ length text = c.within in
      let buffer = c.buffer in
      let upper_buffer = c.upper_buffer in
      let bytes = c.bytes in
      let feeds = c.feeds in
      let upper_bytes = c.upper_bytes in
      let upper_feeds = c.upper_feeds in
      let low_place = place-le low e Left within in
      let high_place = place-le high e Left within in
      let low_line : line_at low e Left ≤ length (shown_text low) = omega (arith, place-line low (refl, refl) e Left within, row-le (shown_text low) (place_of low e Left)) in
      let high_line : line_at high e Left ≤ length (shown_text high) = omega (arith, place-line high (ends_open high is) e Left within, row-le (shown_text high) (place_of high e Left)) in
      ((omega arith, omega arith, omega arith), (omega arith, omega arith, omega arith))
