use Rattle.std.proofs.Common.{◌≡◌, List, ℕ, sym, subst}
use Rattle.cell_units.specs.Record.{Record}
use Rattle.plain_rows.specs.declared.folded_lines.PlainSource.{PlainSource}
use Rattle.plain_rows.specs.declared.plain.Plain.{Plain}
use Rattle.plain_rows.specs.declared.plain.PlainBlock.{PlainBlock}
use Rattle.plain_rows.specs.FoldedLines.{seen}
use Rattle.plain_rows.specs.Plain.{listed_record, listed_source, record_of}
use Rattle.plain_rows.specs.inside.SpotRows.{IsLaid}
use Rattle.plain_rows.proofs.spots.Laid.rows.Goals as goal

same : (p : Plain) (source : PlainSource) (blocks : List PlainBlock) (widths : List ℕ) → seen source ≡ listed_source p.text p.inlays.items p.folds.items → blocks ≡ p.blocks.items →
    widths ≡ p.marks.items → listed_record (seen source) blocks p.tab p.width widths ≡ record_of p
same p source blocks widths s b w = λ i. listed_record (s i) (b i) p.tab p.width (w i)

pub invariant_of-result : goal.invariant_of-result
invariant_of-result c =
    let p = c.args.plain.now in
    let first_rows = c.as_slice-3.result.now in
    let is = same p c.source.result c.as_slice.result.now c.as_slice-2.result.now c.source.ensures c.as_slice.ensures.value c.as_slice-2.ensures.value in
    subst (λ (r : Record). IsLaid r c.args.self.now.lines first_rows) (sym is)
    (subst (λ (rows : List ℕ). IsLaid (record_of p) c.args.self.now.lines rows) (sym c.as_slice-3.ensures.value) c.requires)

pub returns : goal.returns
returns c =
    same c.args.plain.now c.source.result c.as_slice.result.now c.as_slice-2.result.now c.source.ensures c.as_slice.ensures.value c.as_slice-2.ensures.value
