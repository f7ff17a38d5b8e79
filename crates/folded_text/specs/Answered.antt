-- What the maps of inlays and folds return for one operation on a text all of which was shown.
use Rattle.std.specs.Prelude.{◌≡◌, ◌≤◌, ◌+◌, ◌==◌, length, find, option_map, Option, Some, None}
use Rattle.cell_units.specs.declared.place.Shift.{Shift}
use Rattle.cell_units.specs.Lawful.{HasLawfulEntries, IsAllowed, IsWellFormed, source_of}
use Rattle.cell_units.specs.Layers.{Source, unfolded}
use Rattle.cell_units.specs.LineCounts.{TouchesOneRun}
use Rattle.cell_units.specs.Operation.{AddFold, AddInlay, Operation, RemoveFold, RemoveInlay, Replace, operated}
use Rattle.cell_units.specs.Record.{Fold, Inlay, Record}
use Rattle.cell_units.specs.Text.{clean}
use Rattle.cell_units.specs.Touched.{EachLine, NoLine, Rows, Touched, touched}
use Rattle.cell_units.specs.declared.limits.TheConstants.{LAID_LIMIT}
use Rattle.edit_patch.specs.LayerLeads.{LayerLeads}
use Rattle.edit_patch.specs.Leads.{Reach, reach_of}
use Rattle.inlay_map.specs.Maps as inlaid
use Rattle.inlay_map.specs.Maps.{InlayState, added, removed}
use Rattle.fold_map.specs.Maps.{FoldState, folded_up, opened_up, state_of}
use Rattle.fold_map.specs.Synced.{Follows, IsSynced}
use Rattle.tab_map.specs.TabLines.{LinesFollow, first_met, new_reach, old_reach}

-- a record's text with its inlays
abbrev pub inlaid_of : Record → Source
inlaid_of r = unfolded (source_of r)

-- the replacement of the text, if the operation is one
abbrev pub text_shift : Operation → Option Reach
text_shift (Replace a b s) = Some (record { start = a; end = b; count = length (clean s) })
text_shift _ = None

-- ---- both maps before they show what is there

-- all that the map of inlays has was shown
abbrev pub inlays_settled : Record → InlayState
inlays_settled r = record { current = inlaid_of r; shown = inlaid_of r; pending = None }

-- an inlay was added to it or removed, if the operation is one on inlays
abbrev pub inlays_without : Record → Option Inlay → InlayState
inlays_without r None = inlays_settled r
inlays_without r (Some i) = removed i (inlays_settled r)

abbrev pub inlays_told : Operation → Record → InlayState
inlays_told (AddInlay i) r = added i (inlays_settled r)
inlays_told (RemoveInlay id) r = inlays_without r (find (λ i. i.id == id) r.inlays)
inlays_told _ r = inlays_settled r

-- the same of the map of folds
abbrev pub folds_settled : Record → FoldState
folds_settled r = state_of (source_of r)

abbrev pub folds_without : Record → Option Fold → FoldState
folds_without r None = folds_settled r
folds_without r (Some f) = opened_up f (folds_settled r)

abbrev pub folds_told : Operation → Record → FoldState
folds_told (AddFold f) r = folded_up f (folds_settled r)
folds_told (RemoveFold id) r = folds_without r (find (λ f. f.id == id) r.folds)
folds_told _ r = folds_settled r

-- ---- what both return

-- The map of inlays shows the text with the inlays of the record after the operation. It returns `below`, as its `sync`
-- ensures it after the replacement of the text.
pub record IsLaid (operation : Operation) (r : Record) (shift below : Option Shift) : Type 0 where
  pub shift_is : option_map reach_of shift ≡ text_shift operation
  pub synced : inlaid.IsSynced (operated operation r).text (option_map reach_of shift) (inlays_told operation r) (inlaid_of (operated operation r))
      (option_map reach_of below)

-- what the map of folds asks then, once it was given the operation
abbrev pub FollowsLaid : Operation → Record → Option Shift → Option Shift → Type 0
FollowsLaid operation r shift below =
    Follows (folds_told operation r).current (inlaid_of (operated operation r)) (option_map reach_of shift) (option_map reach_of below)

-- and it shows the record after the operation, as its `sync` ensures it
pub record IsAnswered (operation : Operation) (r : Record) (shift below answer : Option Shift) : Type 0 where
  pub laid : IsLaid operation r shift below
  pub follows : FollowsLaid operation r shift below
  pub synced : IsSynced (inlaid_of (operated operation r)) (option_map reach_of shift) (option_map reach_of below) (folds_told operation r)
      (source_of (operated operation r)) (option_map reach_of answer)

-- ---- lines

-- The lines that a replacement of what is shown meets are those that are touched, before it and after it. They are one
-- run, with as many lines before it and after it.
pub record MeetsRun (touched : Touched) (r r' : Record) (s : Shift) : Type 0 where
  pub run : TouchesOneRun touched r r'
  pub first : first_met (source_of r) s ≡ run.front
  pub last : old_reach (source_of r) s ≡ run.front + run.before
  pub last_after : new_reach (source_of r') s ≡ run.front + run.after

-- what is replaced meets the lines that are touched where these are those of rows, and nothing is replaced where not
abbrev pub MeetsTouched : Touched → Record → Record → Option Shift → Type 0
MeetsTouched (Rows before after) r r' (Some s) = MeetsRun (Rows before after) r r' s
MeetsTouched (Rows before after) r r' None = ⊥
MeetsTouched NoLine r r' (Some s) = ⊥
MeetsTouched NoLine r r' None = Unit {0}
MeetsTouched EachLine r r' (Some s) = ⊥
MeetsTouched EachLine r r' None = Unit {0}

-- ---- laws

-- what the map of inlays returns is what the map of folds asks for
abbrev pub AnswersSuffice : Type 0
AnswersSuffice = (operation : Operation) (r : Record) (shift below : Option Shift) → HasLawfulEntries r → IsAllowed operation r
    → length (operated operation r).text ≤ LAID_LIMIT → IsLaid operation r shift below → FollowsLaid operation r shift below

-- the lines that what is returned meets are those that the operation touches
abbrev pub AnswersMeet : Type 0
AnswersMeet = (operation : Operation) (r : Record) (shift below answer : Option Shift) → HasLawfulEntries r → IsAllowed operation r
    → IsAnswered operation r shift below answer → MeetsTouched (touched operation r) r (operated operation r) answer

-- Whatever a replacement came of that leads from layer to layer, the lines that it doesn't meet have pieces of the same
-- texts.
abbrev pub LeadsFollow : Type 0
LeadsFollow = (shift : Option Reach) (old new : Source) (answer : Option Shift) → IsWellFormed old → IsWellFormed new
    → LayerLeads shift old new (option_map reach_of answer) → LinesFollow old new answer
