use Rattle.std.proofs.Common.{◌≡◌, length, map, set, sym, ap, ◌∙◌}
use Rattle.std.proofs.lemmas.List.{length-map, with_items_is}
use Rattle.display_map.specs.Outs.{carried, carried_out}
use Rattle.display_map.proofs.AlteredLines.{map_more}
use Rattle.display_map.proofs.outs.carry.Goals as goal

pub loop-out-preserved : goal.loop-out-preserved
loop-out-preserved c =
    let f = c.args.splice.first in
    let g = c.args.splice.end in
    let n = c.args.splice.count in
    let lines = c.carry_lines.ensures ∙ ap (map (carried f g n)) c.deref_mut.ensures.value in
    let long : length c.carry_lines.new.lines ≡ c.out.inside.lines.len = ap length lines ∙ length-map c.out.inside.lines.items (carried f g n) ∙ sym c.out.inside.lines.ok.0 in
    let one = (λ i. record { number = c.out.inside.number; width = c.out.inside.width; lines = (with_items_is c.out.inside.lines c.carry_lines.new.lines long ∙ lines) i }) ∙ ap (carried_out f g n) c.out.view_is in
    ap (set c.loop-out.outs c.loop-out.out-index) one
    ∙ map_more (carried_out f g n) c.loop-out.outs c.args.outs.now c.loop-out.out-index c.out-item.result c.loop-out-test.true c.loop-out.invariant
