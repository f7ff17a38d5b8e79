use Rattle.std.proofs.Common.{◌≡◌, ◌∙◌, ◌+◌, ◌-◌, suc, Some, ap, sym, length, arith}
use Rattle.std.specs.List.{slice_get}
use Rattle.std.proofs.lemmas.Result.{IfOk-weaker}
use Rattle.cell_units.specs.declared.place.Bias.TheVariants.{Left}
use Rattle.plain_rows.specs.declared.shown.Shown.{Shown}
use Rattle.block_map.specs.Between.{Between, block_row}
use Rattle.plain_rows.specs.ShownRows.{row_of_shown}
use Rattle.block_map.specs.Stops.{rows_upto, texts_at}
use Rattle.block_map.specs.inside.Zones.{text_row, zone}
use Rattle.block_map.proofs.RowsInZones.{above-part, below-part, text-part}
use Rattle.block_map.proofs.ZoneStarts.{length-zone}
use Rattle.block_map.proofs.snapshot.BlockSnapshot.row_at.Goals as goal

pub text_at-text-requires-clause-there : goal.text_at-text-requires-clause-there
text_at-text-requires-clause-there g c =
    let t = c.args.place.text_row in
    omega (arith, c.rows_above-above.ensures.count, c.if-place-above.true, ap (λ (b : Between). length (texts_at t b.above)) c.self.view_is)

pub text_at-text-requires-clause-before : goal.text_at-text-requires-clause-before
text_at-text-requires-clause-before g c =
    let t = c.args.place.text_row in
    c.requires.place.above ∙ sym (ap (λ (b : Between). rows_upto Left t b.above) c.self.view_is)

pub returns-then-place-above-clause-row : goal.returns-then-place-above-clause-row
returns-then-place-above-clause-row g c =
    let b = c.args.self.now in
    let t = c.args.place.text_row in
    let at = c.args.place.at in
    let text = sym (ap (λ (b : Between). slice_get (texts_at t b.above) at) c.self.view_is) ∙ c.text_at-text.ensures.text in
    IfOk-weaker c.block_row.result (λ (s : Shown). row_of_shown s ≡ block_row c.text_at-text.result.now) (λ (s : Shown). slice_get (zone b t) at ≡ Some (row_of_shown s))
    (λ s e. above-part b t at c.text_at-text.result.now text ∙ ap Some (sym e)) c.block_row.ensures

pub returns-then-place-above-2-clause-row : goal.returns-then-place-above-2-clause-row
returns-then-place-above-2-clause-row g c =
    let b = c.args.self.now in
    let t = c.args.place.text_row in
    let at = c.args.place.at in
    let above : at ≡ length (texts_at t b.above) = omega (arith, c.rows_above-above.ensures.count, c.if-place-above-2.true) in
    IfOk-weaker c.text_row.result (λ (s : Shown). row_of_shown s ≡ text_row b t) (λ (s : Shown). slice_get (zone b t) at ≡ Some (row_of_shown s))
    (λ s e. text-part b t at above ∙ ap Some (sym e)) c.text_row.ensures

pub text_at-text-requires-2-clause-there : goal.text_at-text-requires-2-clause-there
text_at-text-requires-2-clause-there g c =
    let t = c.args.place.text_row in
    omega (
      arith,
      c.rows_above-above.ensures.count,
      c.if-place-above.false,
      c.if-place-above-2.false,
      c.requires.there,
      length-zone c.args.self.now t,
      ap (λ (b : Between). length (texts_at (t + 1) b.below)) c.self.view_is,
    )

pub text_at-text-requires-2-clause-before : goal.text_at-text-requires-2-clause-before
text_at-text-requires-2-clause-before g c =
    let t = c.args.place.text_row + 1 in
    c.requires.place.below ∙ sym (ap (λ (b : Between). rows_upto Left t b.below) c.self.view_is)

pub returns-clause-row : goal.returns-clause-row
returns-clause-row g c =
    let b = c.args.self.now in
    let t = c.args.place.text_row in
    let at = c.args.place.at in
    let j = at - c.rows_above-above.result - 1 in
    let index : at ≡ length (texts_at t b.above) + suc j = omega (arith, c.rows_above-above.ensures.count, c.if-place-above.false, c.if-place-above-2.false) in
    let text = sym (ap (λ (b : Between). slice_get (texts_at (t + 1) b.below) j) c.self.view_is) ∙ c.text_at-text-2.ensures.text in
    IfOk-weaker c.block_row-2.result (λ (s : Shown). row_of_shown s ≡ block_row c.text_at-text-2.result.now) (λ (s : Shown). slice_get (zone b t) at ≡ Some (row_of_shown s))
    (λ s e. below-part b t at j c.text_at-text-2.result.now index text ∙ ap Some (sym e)) c.block_row-2.ensures
