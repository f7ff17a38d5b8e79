use Rattle.std.proofs.Common.{ap, nat_le, sym, ◌∙◌}
use Rattle.std.specs.List.{position_or_len}
use Rattle.cell_units.specs.Layers.{Source}
use Rattle.inlay_map.proofs.FoundInlays.{first-of, none-of}
use Rattle.inlay_map.proofs.StepSums.{marks-height}
use Rattle.inlay_map.proofs.inlaid.Inlaid.index_from.Goals as goal

pub returns-in-Some-clause-index : goal.returns-in-Some-clause-index
returns-in-Some-clause-index c =
    first-of c.args.offset c.self.inside.marks c.in-Some.at (sym c.in-Some.ensures.place)
    ∙ ap (λ (s : Source). position_or_len (λ i. nat_le c.args.offset i.offset) s.inlays) c.self.view_is

pub returns-in-None-clause-index : goal.returns-in-None-clause-index
returns-in-None-clause-index c =
    c.len.ensures.len
    ∙ none-of c.args.offset c.self.inside.marks (sym c.in-None.ensures.place)
    ∙ ap (λ (s : Source). position_or_len (λ i. nat_le c.args.offset i.offset) s.inlays) c.self.view_is

pub returns-in-Some-clause-steps : goal.returns-in-Some-clause-steps
returns-in-Some-clause-steps c h lt = c.in-Some.ensures.steps h (marks-height c.self.inside.rope c.self.inside.marks c.args.self.now h c.self.view_is lt)

pub returns-in-None-clause-steps : goal.returns-in-None-clause-steps
returns-in-None-clause-steps c h lt = c.in-None.ensures.steps h (marks-height c.self.inside.rope c.self.inside.marks c.args.self.now h c.self.view_is lt)
