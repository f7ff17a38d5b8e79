-- The history of every display and of every view is lawful.
use Rattle.std.proofs.Common.{◌≡◌, ℕ, ◌≤◌, List, length, ap, sym, subst, arith}
use Rattle.cell_units.specs.declared.limits.TheConstants.{LAID_LIMIT}
use Rattle.cell_units.specs.Lawful.{IsLawful}
use Rattle.cell_units.specs.Record.{Record}
use Rattle.display_sheet.proofs.Relaid.{lawful-unstamped}
use Rattle.display_map.specs.Displays.{KeepsShortDisplay, KeepsView}
use Rattle.display_map.specs.Events.{Event}
use Rattle.display_map.specs.LawfulStates.{IsLawfulHistory}
use Rattle.display_map.specs.Outs.{OutParts}
use Rattle.display_map.specs.Replay.{History, present_of}
use Rattle.display_map.proofs.Works.{kept-lawful}

module _ (h : History) (sheet : Record) (outs : List OutParts) (versions jobs first : ℕ) (k : KeepsShortDisplay h sheet outs versions jobs first) where
  pub lawful-history : IsLawfulHistory h
  lawful-history = record {
    opening = k.kept.opening;
    fits = k.kept.fits;
    lawful = kept-lawful h sheet outs versions jobs first k.kept;
    short = omega (arith, k.short, ap (λ (q : Record). length q.text) k.kept.sheet_is);
    numbered = k.kept.stamped.numbered;
  }

  -- a view of the same sheet, opening text and journal
  pub kept-view : (opening : List ℕ) (events : List Event) (shared : Record) → opening ≡ h.opening → events ≡ h.events → shared ≡ sheet →
      KeepsView (record { opening = opening; events = events }) shared versions
  kept-view opening events shared same_opening same_events same =
      subst (λ (text : List ℕ). KeepsView (record { opening = text; events = events }) shared versions) (sym same_opening)
      (subst (λ (es : List Event). KeepsView (record { opening = h.opening; events = es }) shared versions) (sym same_events)
      (subst (λ (q : Record). KeepsView h q versions) (sym same)
      (record { history = lawful-history; sheet_is = k.kept.sheet_is; versions_are = k.kept.versions_are })))

-- what a view keeps is lawful, and short enough to be laid out
pub sheet-lawful : {h : History} {sheet : Record} {versions : ℕ} → KeepsView h sheet versions → IsLawful sheet
sheet-lawful {h} {sheet} {versions} k = subst IsLawful k.sheet_is (lawful-unstamped (present_of h) k.history.lawful)

pub sheet-short : {h : History} {sheet : Record} {versions : ℕ} → KeepsView h sheet versions → length sheet.text ≤ LAID_LIMIT
sheet-short {h} {sheet} {versions} k = omega (arith, k.history.short, ap (λ (q : Record). length q.text) k.sheet_is)
