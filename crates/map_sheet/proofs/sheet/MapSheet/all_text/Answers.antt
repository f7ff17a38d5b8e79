use Rattle.std.proofs.Common.{ap, ◌∙◌}
use Rattle.cell_units.specs.Layers.{Source}
use Rattle.map_sheet.proofs.Listing.{end-boundary, sliced-all, start-boundary}
use Rattle.map_sheet.proofs.sheet.MapSheet.all_text.Goals as goal

pub slice-requires-clause-start : goal.slice-requires-clause-start
slice-requires-clause-start c = start-boundary c.rope-rope.result.now

pub slice-requires-clause-end : goal.slice-requires-clause-end
slice-requires-clause-end c =
    end-boundary c.args.self.now.text c.lawful.ensures.lawful.entries.source.text.0 c.rope-rope.result.now
    (c.rope-rope.ensures ∙ ap (λ (s : Source). s.text) c.text.ensures) c.len.result c.len.ensures.value

pub returns-clause-text : goal.returns-clause-text
returns-clause-text c =
    sliced-all c.args.self.now.text c.rope-rope.result.now (c.rope-rope.ensures ∙ ap (λ (s : Source). s.text) c.text.ensures) c.len.result c.len.ensures.value
    c.slice.result c.slice.ensures.text
