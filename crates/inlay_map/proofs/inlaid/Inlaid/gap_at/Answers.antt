use Rattle.std.proofs.Common.{ap, ◌∙◌, length, drop, arith}
use Rattle.std.proofs.lemmas.List.{length-map}
use Rattle.cell_units.specs.Layers.{Source}
use Rattle.splice_tree.specs.Splices.{with_first_gap}
use Rattle.inlay_map.specs.declared.amount.Amount.{Amount}
use Rattle.inlay_map.specs.Splices.{inlay_of, splices_from}
use Rattle.inlay_map.proofs.Respliced.{no-gap, own-gap}
use Rattle.inlay_map.proofs.SpliceLists.{length-splices}
use Rattle.inlay_map.proofs.inlaid.Inlaid.gap_at.Goals as goal

pub returns-then-at-len-clause-gap : goal.returns-then-at-len-clause-gap
returns-then-at-len-clause-gap c =
    let s = c.args.self.now in
    let ps = splices_from s.text 0 s.inlays in
    ap (λ (g : Amount). with_first_gap g (drop c.args.at ps)) c.gap.ensures ∙ own-gap ps c.args.at c.splice_at.result c.splice_at.ensures.splice

pub returns-else-at-len-clause-gap : goal.returns-else-at-len-clause-gap
returns-else-at-len-clause-gap c =
    let s = c.args.self.now in
    no-gap (splices_from s.text 0 s.inlays) c.args.at c.zero.result
    (omega (arith, length-splices s.text 0 s.inlays, c.len.ensures.len, length-map c.self.inside.marks inlay_of, ap (λ (v : Source). length v.inlays) c.self.view_is))
