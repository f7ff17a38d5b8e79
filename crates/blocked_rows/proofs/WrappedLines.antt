-- What the rows of a wrap map are when some of its lines were replaced, and when some landed.
use Rattle.std.proofs.Common.{◌≡◌, ℕ, ◌<◌, false, length, Some, ap, sym, ◌∙◌, arith, subst}
use Rattle.cell_units.specs.Rows.{rows_before}
use Rattle.edit_patch.specs.Fits.{replacement}
use Rattle.edit_patch.specs.Leads.{LeadsAt}
use Rattle.wrap_map.specs.Landing.{is_landed, standing_landed}
use Rattle.wrap_map.specs.Standing.{shown_rows, standing_after}
use Rattle.wrap_map.proofs.Carried.{length-marks_landed}
use Rattle.wrap_map.proofs.Landed.{length-shown}
use Rattle.wrap_map.proofs.Snapshots.{shown-have-rows}
use Rattle.blocked_rows.specs.Wrapped.{LandsLines, SplicesRows}
use Rattle.blocked_rows.proofs.LandedLines.{kept-stays, stays-came, stays-same}
use Rattle.blocked_rows.proofs.LinesShown.{shown-before, shown-lead}

pub splices-rows : SplicesRows
splices-rows old lines below rows edits is before end =
    let new = shown_rows (standing_after old lines (Some below)) in
    let was = shown_rows old in
    record {
      have = shown-have-rows old;
      leads = subst (λ (b : ℕ). LeadsAt was new below.start b below.count) end (shown-lead old lines below is.one_each is.leads);
      single = shown-before old lines below is.one_each is.leads;
      edits_are =
          is.edits_are
          ∙ (λ i. replacement (is.rows_are.start_is i) (is.rows_are.end_is i) (is.rows_are.count_is i))
          ∙ ap (λ (b : ℕ). replacement (rows_before was below.start) (rows_before was b) below.count) end;
      fits = is.fits;
      room = is.room;
    }

pub lands-lines : LandsLines
lands-lines old since run width patch one_each landed few =
    let new = standing_landed since run width old in
    let was = shown_rows old in
    let is = shown_rows new in
    let were : length was ≡ length old.lines = length-shown old one_each in
    let are : length is ≡ length old.lines = length-shown new (length-marks_landed since run width old.marks ∙ one_each) in
    record {
      have = shown-have-rows old;
      as_many = were ∙ sym are;
      stay = λ line lt keeps.
          let within : line < length old.lines = omega (arith, lt, were) in
          let stays : is_landed since run line ≡ false = kept-stays old since run width patch one_each landed line within keeps in
          record {
            there = omega (arith, lt, were, are);
            size = ap length (stays-same old since run width patch one_each landed line within stays);
            rows = λ k here. stays-came old since run width patch one_each landed line k within stays here;
          };
      fits = landed.fits;
      room = few;
    }
