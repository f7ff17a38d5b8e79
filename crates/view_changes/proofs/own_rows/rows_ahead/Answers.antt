use Rattle.std.proofs.Common.{◌≡◌, ℕ, ◌+◌, ◌-◌, ◌<◌, drop, take, sym, ap, ◌∙◌, arith}
use Rattle.map_sheet.specs.Listed.{side_blocks}
use Rattle.view_changes.specs.Operations.{at_line, rows_in}
use Rattle.view_changes.proofs.Ahead.{all-ahead, few-before, few-lines, none-ahead, one-ahead}
use Rattle.view_changes.proofs.own_rows.rows_ahead.Goals as goal

pub ahead-init : goal.ahead-init
ahead-init c = record {
  rows = sym (none-ahead c.args.sheet.now c.lawful.ensures.lawful c.args.side c.args.number c.args.line c.requires.0 c.requires.1 c.requires.2);
  few = omega arith;
  counted = omega arith;
}

pub ahead-preserved : goal.ahead-preserved
ahead-preserved c =
    let r = c.args.sheet.now in
    let is = c.lawful.ensures.lawful in
    let k = c.ahead.other - 1 in
    let lt : k < c.args.number = omega (arith, c.ahead-test.true, c.ahead.auto.other) in
    let one : k + 1 ≡ c.ahead.other = omega (arith, c.ahead-test.true) in
    let more = one-ahead r is c.args.side c.args.number c.args.line c.requires.0 c.requires.1 c.requires.2 k lt c.in-Some.count c.in-Some.ensures.there in
    let before = take c.args.number (side_blocks r c.args.side) in
    let rest = ap (λ (n : ℕ). rows_in (at_line r c.args.line (drop n before))) one in
    let few = few-lines r is c.args.side c.args.number c.args.line c.requires.0 c.requires.1 c.requires.2 k lt c.in-Some.count c.in-Some.ensures.there in
    record {
      rows = omega (arith, c.ahead.invariant.rows, more, rest);
      few = omega (arith, c.ahead.invariant.few, few, lt, one, c.ahead.auto.other);
      counted = omega (arith, c.ahead.invariant.counted, c.in-Some.ensures.counted);
    }

pub returns-in_default-clause-rows : goal.returns-in_default-clause-rows
returns-in_default-clause-rows c =
    let r = c.args.sheet.now in
    let is = c.lawful.ensures.lawful in
    let k = c.ahead.other - 1 in
    let lt : k < c.args.number = omega (arith, c.ahead-test.true, c.ahead.auto.other) in
    let one : k + 1 ≡ c.ahead.other = omega (arith, c.ahead-test.true) in
    let before = take c.args.number (side_blocks r c.args.side) in
    c.ahead.invariant.rows
    ∙ ap (λ (n : ℕ). rows_in (at_line r c.args.line (drop n before))) (sym one)
    ∙ all-ahead r is c.args.side c.args.number c.args.line c.requires.0 c.requires.1 c.requires.2 k lt c.in_default.ensures.there

pub returns-clause-rows : goal.returns-clause-rows
returns-clause-rows c =
    let before = take c.args.number (side_blocks c.args.sheet.now c.args.side) in
    let none : c.ahead.other ≡ 0 = omega (arith, c.ahead-test.false) in
    c.ahead.invariant.rows ∙ ap (λ (n : ℕ). rows_in (at_line c.args.sheet.now c.args.line (drop n before))) none

pub overflow_add-rows : goal.overflow_add-rows
overflow_add-rows c =
    let r = c.args.sheet.now in
    let is = c.lawful.ensures.lawful in
    let k = c.ahead.other - 1 in
    let lt : k < c.args.number = omega (arith, c.ahead-test.true, c.ahead.auto.other) in
    let few = few-lines r is c.args.side c.args.number c.args.line c.requires.0 c.requires.1 c.requires.2 k lt c.in-Some.count c.in-Some.ensures.there in
    omega (arith, c.ahead.invariant.few, few, few-before r is c.args.side c.args.number c.args.line c.requires.0 c.requires.1 c.requires.2)
