use Rattle.std.proofs.Common.{◌+◌, ap, ◌∙◌, arith}
use Rattle.cell_units.specs.Layers.{shown_text}
use Rattle.tab_map.proofs.TabLemmas.{met_rises}
use Rattle.tab_map.proofs.map.met.Goals as goal

pub overflow_sub-last_after : goal.overflow_sub-last_after
overflow_sub-last_after g c =
    let below = c.args.below in
    let rises = met_rises (shown_text (g.L.Layer.source c.args.old.now)) (shown_text (g.L.Layer.source c.args.new.now)) below.start below.end below.count below.ordered c.requires.0 in
    omega (arith, c.line_of-first.ensures.line, c.line_of-last_after.ensures.line, rises.1)

pub new-requires : goal.new-requires
new-requires g c =
    let below = c.args.below in
    let rises = met_rises (shown_text (g.L.Layer.source c.args.old.now)) (shown_text (g.L.Layer.source c.args.new.now)) below.start below.end below.count below.ordered c.requires.0 in
    omega (arith, c.line_of-first.ensures.line, c.line_of-last.ensures.line, rises.0)

pub returns : goal.returns
returns g c =
    let below = c.args.below in
    let rises = met_rises (shown_text (g.L.Layer.source c.args.old.now)) (shown_text (g.L.Layer.source c.args.new.now)) below.start below.end below.count below.ordered c.requires.0 in
    let first = c.line_of-first.ensures.line in
    let last_after = c.line_of-last_after.ensures.line in
    record {
      start_is = c.new.ensures.start ∙ first;
      end_is = c.new.ensures.end ∙ ap (λ n. n + 1) c.line_of-last.ensures.line;
      reach_is = omega (arith, c.new.ensures.start, c.new.ensures.count, first, last_after, rises.1);
    }
