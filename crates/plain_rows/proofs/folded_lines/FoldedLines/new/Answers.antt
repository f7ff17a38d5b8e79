use Rattle.std.proofs.Common.{ap, ◌∙◌, arith}
use Rattle.plain_rows.specs.FoldedLines.{seen}
use Rattle.plain_rows.specs.inside.PartPieces.{ends_from}
use Rattle.plain_rows.proofs.LawfulSources.{lawful_source, plain-folds_rise, plain-folds_some}
use Rattle.plain_rows.proofs.ShownSizes.{folded-size, parts-size, size}
use Rattle.plain_rows.proofs.folded_lines.FoldedLines.new.Goals as goal

pub joined_folds-requires-clause-in_order : goal.joined_folds-requires-clause-in_order
joined_folds-requires-clause-in_order c =
    let src = c.args.source.now in plain-folds_rise src.text.now src.inlays.now src.folds.now (lawful_source (seen src) c.requires.formed c.requires.size)

pub joined_folds-requires-clause-none_empty : goal.joined_folds-requires-clause-none_empty
joined_folds-requires-clause-none_empty c =
    let src = c.args.source.now in plain-folds_some src.text.now src.inlays.now src.folds.now (lawful_source (seen src) c.requires.formed c.requires.size)

pub lay_out-requires-clause-lawful : goal.lay_out-requires-clause-lawful
lay_out-requires-clause-lawful c = lawful_source (seen c.args.source.now) c.requires.formed c.requires.size

pub invariant_of-result : goal.invariant_of-result
invariant_of-result c =
    let s = seen c.args.source.now in
    let parts = c.in_ok-parts.parts.items in
    let shown = c.in_ok-parts.ensures in
    let lawful = lawful_source s c.requires.formed c.requires.size in
    record {
      ends_are = c.in_ok-ends.ensures ∙ ap (ends_from 0) c.as_slice-2.ensures.value;
      closed = shown.closed;
      size = omega (arith, parts-size s parts shown.lie, ap size shown.shows, folded-size s lawful);
    }

pub returns : goal.returns
returns c =
    let s = seen c.args.source.now in
    record {
      lawful = lawful_source s c.requires.formed c.requires.size;
      shown = c.in_ok-parts.ensures;
      joins = c.in_ok-joined.ensures;
    }
