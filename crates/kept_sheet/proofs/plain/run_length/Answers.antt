use Rattle.std.proofs.Common.{◌≡◌, ℕ, ◌+◌, true, sym, subst, ◌∙◌, arith}
use Rattle.display_sheet.specs.Sheets.{marks_in}
use Rattle.cell_line.specs.Waiting.{waits}
use Rattle.kept_sheet.proofs.Waits.{and-next, before, long}
use Rattle.kept_sheet.proofs.plain.run_length.Goals as goal

pub loop-count-init : goal.loop-count-init
loop-count-init c =
    let ms = marks_in c.args.wraps.now in
    record {
      each = λ k lt.
          subst (λ (n : ℕ). waits ms c.args.width c.args.out.now n ≡ true) (let e : c.args.first ≡ c.args.first + k = omega (arith, lt) in e) c.requires;
      within = omega (arith, before ms c.args.width c.args.out.now c.args.first c.requires, long c.args.wraps.now);
    }

pub loop-count-preserved : goal.loop-count-preserved
loop-count-preserved c =
    let ms = marks_in c.args.wraps.now in
    let here = sym c.waits.ensures ∙ c.if-not-waits.false in
    record {
      each = and-next (λ (k : ℕ). waits ms c.args.width c.args.out.now (c.args.first + k) ≡ true) c.loop-count.count c.loop-count.invariant.each here;
      within = omega (arith, before ms c.args.width c.args.out.now (c.args.first + c.loop-count.count) here, long c.args.wraps.now);
    }
