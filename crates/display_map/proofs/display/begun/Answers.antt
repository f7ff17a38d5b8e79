use Rattle.std.proofs.Common.{length, ap, ◌∙◌, arith}
use Rattle.cell_units.specs.Record.{Record}
use Rattle.display_map.proofs.OpenedDisplays.{kept-opened}
use Rattle.display_map.proofs.display.begun.Goals as goal

pub invariant_of-result : goal.invariant_of-result
invariant_of-result g c =
    let sheet = g.S.Sheet.kept c.in_ok-sheet.sheet in
    record {
      kept = kept-opened (g.S.Sheet.kept c.args.opening).text c.none.result sheet c.new.result.items
          c.requires.text c.none.ensures
          (c.in_ok-sheet.ensures ∙ c.requires.opened)
          c.new.ensures.items;
      short = omega (arith, ap (λ (r : Record). length r.text) c.in_ok-sheet.ensures, c.requires.short);
    }
