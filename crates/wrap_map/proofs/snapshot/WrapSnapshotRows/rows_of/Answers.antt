use Rattle.std.proofs.Common.{◌<◌, List, length, ap, subst, ◌∙◌, arith}
use Rattle.wrap_map.specs.Standing.{IsStanding, Standing, stood_of}
use Rattle.wrap_map.specs.Stood.{Stood, stood_at}
use Rattle.wrap_map.proofs.Snapshots.{count-shown, count-there, rows-small}
use Rattle.wrap_map.proofs.snapshot.WrapSnapshotRows.rows_of.Goals as goal

pub returns : goal.returns
returns g c =
    let s = c.args.self.now in
    let is = subst (λ (t : Standing). IsStanding t) c.self.view_is c.self.invariant.0 in
    let st = c.self.invariant.1 ∙ ap stood_of c.self.view_is in
    let cuts = c.cuts.ensures.cuts ∙ ap (λ (l : List Stood). (stood_at l c.args.line).cuts) st in
    let within : c.args.line < length s.lines = omega (arith, c.requires, count-shown s is) in
    omega (arith, c.len.ensures.value, ap length cuts, count-there s is c.args.line within)

pub overflow_cast-result : goal.overflow_cast-result
overflow_cast-result g c =
    let s = c.args.self.now in
    let is = subst (λ (t : Standing). IsStanding t) c.self.view_is c.self.invariant.0 in
    let st = c.self.invariant.1 ∙ ap stood_of c.self.view_is in
    let cuts = c.cuts.ensures.cuts ∙ ap (λ (l : List Stood). (stood_at l c.args.line).cuts) st in
    let within : c.args.line < length s.lines = omega (arith, c.requires, count-shown s is) in
    omega (arith, c.len.ensures.value, ap length cuts, count-there s is c.args.line within, rows-small s is c.args.line)

pub overflow_add-result : goal.overflow_add-result
overflow_add-result g c =
    let s = c.args.self.now in
    let is = subst (λ (t : Standing). IsStanding t) c.self.view_is c.self.invariant.0 in
    let st = c.self.invariant.1 ∙ ap stood_of c.self.view_is in
    let cuts = c.cuts.ensures.cuts ∙ ap (λ (l : List Stood). (stood_at l c.args.line).cuts) st in
    let within : c.args.line < length s.lines = omega (arith, c.requires, count-shown s is) in
    omega (arith, c.len.ensures.value, ap length cuts, count-there s is c.args.line within, rows-small s is c.args.line)
