-- A block map follows an operation, and edits of rows by which lines stay, whatever the layer.
use Rattle.std.proofs.Common.{◌≡◌, ℕ, ◌+◌, ◌*◌, ◌<◌, ◌≤◌, ◌^◌, List, [], ◌∷◌, length, map, Option, None, Some, refl, sym, ap, subst, ◌∙◌, arith}
use Rattle.std.specs.List.{All}
use Rattle.std.proofs.lemmas.List.{length-drop}
use Rattle.std.proofs.lemmas.List.Sums.{sum_by-cons}
use Rattle.cell_units.specs.declared.place.Bias.TheVariants.{Right}
use Rattle.cell_units.specs.declared.place.Shift.{Shift}
use Rattle.cell_units.specs.declared.place.Side.{Side}
use Rattle.cell_units.specs.declared.place.Side.TheVariants.{Above, Below}
use Rattle.cell_units.specs.Lawful.{HasLawfulEntries, IsAllowed, IsWellFormed, source_of}
use Rattle.cell_units.specs.Layers.{Source}
use Rattle.cell_units.specs.LineCounts.{TouchesOneRun, lines_of, operated_offset}
use Rattle.cell_units.specs.Operation.{AddBlock, AddFold, AddInlay, Operation, RemoveBlock, RemoveFold, RemoveInlay, Replace, SetTab, SetWidth, operated}
use Rattle.cell_units.specs.Record.{Record}
use Rattle.cell_units.specs.Rows.{HaveRows, all_rows}
use Rattle.cell_units.specs.Text.{IsBoundary, clean}
use Rattle.cell_units.specs.Touched.{touched}
use Rattle.cell_units.proofs.Characters.{clean-utf8}
use Rattle.cell_units.proofs.CutLists.{Every, Every-mono}
use Rattle.cell_units.proofs.FoundEntries.{All-from_Every, Every-from_All}
use Rattle.cell_units.proofs.MovedBoundaries.{boundary-moved}
use Rattle.cell_units.proofs.RowsWithLines.{lines-after}
use Rattle.cell_units.proofs.SortedLists.{Every-map, Every-sort}
use Rattle.edit_patch.specs.declared.edit.Edit.{Edit}
use Rattle.edit_patch.proofs.Fitting.{fits-none}
use Rattle.block_map.specs.Follows.{Follows, IsFollowed, block_height, moved_one}
use Rattle.block_map.specs.Maps.{BlockState, Kept, kept_le, move_kept, moved_kept}
use Rattle.blocked_rows.specs.Laws.{FollowsOperations, FollowsRows}
use Rattle.blocked_rows.specs.Records.{IsRowSplice, IsShiftOf, Lines, LinesStay}
use Rattle.blocked_rows.specs.Standing.{IsBlockOf, ArePlaced}
use Rattle.blocked_rows.proofs.FollowedLines.{follows, moves, stays}

-- ---- how many rows blocks have

module _ (source : Source) (lines : Lines) (side : Side) where
  height-few : (ks : List Kept) → Every (IsBlockOf source lines side) ks → block_height ks ≤ 256 * length ks
  height-few [] of = omega arith
  height-few (k ∷ ks) of = omega (arith, sum_by-cons (λ (k : Kept). length k.lines) k ks, height-few ks of.1, of.0.few)

  pub each : (P : Kept → Type 0) → ((k : Kept) → IsBlockOf source lines side k → P k) → (ks : List Kept) → All (IsBlockOf source lines side) ks → All P ks
  each P to ks of = All-from_Every P ks (Every-mono (IsBlockOf source lines side) P ks to (Every-from_All (IsBlockOf source lines side) ks of))

-- all rows are a u32
rows-fit : (source : Source) (s : BlockState) (rows : ℕ) → ArePlaced source s → rows ≤ 2 ^ 31 → rows + (block_height s.above + block_height s.below) < 2 ^ 32
rows-fit source s rows placed_on few =
    omega (
      arith,
      height-few source s.lines Above s.above (Every-from_All (IsBlockOf source s.lines Above) s.above placed_on.above),
      height-few source s.lines Below s.below (Every-from_All (IsBlockOf source s.lines Below) s.below placed_on.below),
      placed_on.few,
      few,
    )

-- ---- after an operation

-- a boundary goes to one
boundary-then : (operation : Operation) (r : Record) → HasLawfulEntries r → IsAllowed operation r → (o : ℕ) → IsBoundary r.text o → IsBoundary (operated operation r).text (operated_offset operation o)
boundary-then (Replace a b s) r is ok o at = boundary-moved r.text a b (clean s) is.source.text.0 ok.0 ok.1 ok.2 (clean-utf8 s ok.3) o Right at
boundary-then (AddInlay inlay) r is ok o at = at
boundary-then (RemoveInlay id) r is ok o at = at
boundary-then (AddFold fold) r is ok o at = at
boundary-then (RemoveFold id) r is ok o at = at
boundary-then (AddBlock row id side lines) r is ok o at = at
boundary-then (RemoveBlock id) r is ok o at = at
boundary-then (SetTab tab) r is ok o at = at
boundary-then (SetWidth width) r is ok o at = at

module _ (operation : Operation) (r : Record) (is : HasLawfulEntries r) (ok : IsAllowed operation r)
    (run : TouchesOneRun (touched operation r) r (operated operation r)) (old new : Lines) (edits : List Edit) (equal : length (lines_of r) ≡ length old)
    (splice : IsRowSplice old new edits run.front run.before run.after) where
  abbrev made : Record
  made = operated operation r

  anchors : (shift : Option Shift) → IsShiftOf operation shift → (side : Side) (ks : List Kept) → All (IsBlockOf (source_of r) old side) ks
      → All (λ k. IsBoundary made.text k.offset) (moved_kept shift ks)
  anchors shift by side ks stand = All-from_Every (λ k. IsBoundary made.text k.offset) (moved_kept shift ks) (go shift by (Every-from_All (IsBlockOf (source_of r) old side) ks stand)) where
    one : (shift : Option Shift) → IsShiftOf operation shift → (k : Kept) → IsBlockOf (source_of r) old side k → IsBoundary made.text (moved_one shift k).offset
    one shift by k of = subst (IsBoundary made.text) (sym (moves operation shift by k)) (boundary-then operation r is ok k.offset of.anchor)

    go : (shift : Option Shift) → IsShiftOf operation shift → Every (IsBlockOf (source_of r) old side) ks → Every (λ k. IsBoundary made.text k.offset) (moved_kept shift ks)
    go None by stand = Every-mono (IsBlockOf (source_of r) old side) (λ k. IsBoundary made.text k.offset) ks (one None by) stand
    go (Some s) by stand =
        Every-sort kept_le (λ k. IsBoundary made.text k.offset) (map (move_kept s) ks)
        (Every-map (move_kept s) (IsBlockOf (source_of r) old side) (λ k. IsBoundary made.text k.offset) (one (Some s) by) ks stand)

  -- there is a display line for each list of rows
  as-many : length (lines_of made) ≡ length new
  as-many =
      let leads = splice.leads in
      omega (
        arith,
        lines-after r is operation ok run,
        equal,
        leads.within,
        leads.reaches,
        ap (λ (ls : Lines). length ls) leads.behind,
        length-drop (run.front + run.after) new,
        length-drop (run.front + run.before) old,
      )

  side-follows : (shift : Option Shift) → IsShiftOf operation shift → (side : Side) (ks : List Kept) → All (IsBlockOf (source_of r) old side) ks
      → All (Follows (source_of made) shift edits old new side) ks
  side-follows shift by side ks stand =
      each (source_of r) old side (Follows (source_of made) shift edits old new side) (λ k of. follows operation r is ok run shift by old new edits equal splice side k of) ks stand

pub follows-operations : FollowsOperations
follows-operations operation r is ok run shift by new edits s placed_on splice = record {
  edits = splice.fits;
  equal = as-many operation r is ok run s.lines new edits placed_on.equal splice;
  anchors_above = anchors operation r is ok run s.lines new edits placed_on.equal splice shift by Above s.above placed_on.above;
  anchors_below = anchors operation r is ok run s.lines new edits placed_on.equal splice shift by Below s.below placed_on.below;
  above = side-follows operation r is ok run s.lines new edits placed_on.equal splice shift by Above s.above placed_on.above;
  below = side-follows operation r is ok run s.lines new edits placed_on.equal splice shift by Below s.below placed_on.below;
  sizes = rows-fit (source_of r) s (length (all_rows new)) placed_on splice.room;
}

-- ---- where the text stays

pub followed : (source : Source) → IsWellFormed source → (new : Lines) (edits : List Edit) (s : BlockState) → ArePlaced source s → LinesStay s.lines new edits
    → IsFollowed source None edits new s
followed source formed new edits s placed_on lines =
    let follow : (side : Side) (ks : List Kept) → All (IsBlockOf source s.lines side) ks → All (Follows source None edits s.lines new side) ks =
    λ side ks of. each source s.lines side (Follows source None edits s.lines new side) (stays source formed edits s.lines new placed_on.equal lines.have lines.stay side) ks of in
    record {
      edits = lines.fits;
      equal = placed_on.equal ∙ lines.as_many;
      anchors_above = each source s.lines Above (λ k. IsBoundary source.text k.offset) (λ k of. of.anchor) s.above placed_on.above;
      anchors_below = each source s.lines Below (λ k. IsBoundary source.text k.offset) (λ k of. of.anchor) s.below placed_on.below;
      above = follow Above s.above placed_on.above;
      below = follow Below s.below placed_on.below;
      sizes = rows-fit source s (length (all_rows new)) placed_on lines.room;
    }

pub follows-rows : FollowsRows
follows-rows r is new edits s placed_on lines = followed (source_of r) is.source new edits s placed_on lines

-- rows as they were
pub followed-same : (source : Source) → IsWellFormed source → (s : BlockState) → HaveRows s.lines → ArePlaced source s → IsFollowed source None [] s.lines s
followed-same source formed s have placed_on =
    followed source formed s.lines [] s placed_on
    (record {
      have = have;
      as_many = refl;
      stay = λ line lt keeps. record { there = lt; size = refl; rows = λ k within. ap Some (omega arith) };
      fits = fits-none (all_rows s.lines);
      room = placed_on.room;
    })

-- in rows that are given
pub followed-given : (source : Source) → IsWellFormed source → (s : BlockState) (lines : Lines) (edits : List Edit) → s.lines ≡ lines → edits ≡ []
    → HaveRows lines → ArePlaced source s → IsFollowed source None edits lines s
followed-given source formed s lines edits same none have placed_on =
    subst (λ (es : List Edit). IsFollowed source None es lines s) (sym none)
    (subst (λ (ls : Lines). IsFollowed source None [] ls s) same (followed-same source formed s (subst HaveRows (sym same) have) placed_on))
