use Rattle.std.proofs.Common.{◌≡◌, ◌+◌, ◌-◌, [], ◌∷◌, ◌++◌, List, take, ap, sym, subst, ◌∙◌, arith}
use Rattle.std.proofs.lemmas.Option.{slice_get_within}
use Rattle.cell_units.specs.declared.place.Bias.TheVariants.{Right}
use Rattle.wrap_map.specs.inside.Gathering.{IsTail}
use Rattle.wrap_map.specs.Stood.{rows_in}
use Rattle.wrap_map.specs.inside.Stretches.{Stretched, spread}
use Rattle.wrap_map.proofs.Parts.{before-lines, before-rows, found-none, found-some, line-high-Right, line-low, rows-found, rows-part}
use Rattle.wrap_map.proofs.Puts.{part_of, tail-none, tail-some}
use Rattle.wrap_map.proofs.stretches.part_behind.Goals as goal
use Rattle.wrap_map.proofs.stretches.part_behind.Goals.{After-find-found}

pub returns-in_default-clause-tail : goal.returns-in_default-clause-tail
returns-in_default-clause-tail c =
    let ss = c.args.tree.now in
    let f = c.find-found.result in
    let e = found-none ss f.index f.item c.find-found.ensures.item c.in_default.is in
    subst (λ (l : List Stretched). IsTail ss c.args.line l f.index) (sym c.new-stretches.ensures.items)
    (tail-none ss c.args.line f.index e c.find-found.ensures.first)

pub overflow_sub-lines : goal.overflow_sub-lines
overflow_sub-lines c =
    let ss = c.args.tree.now in
    let f = c.find-found.result in
    let e = found-some ss f.index f.item c.in-Some.last c.find-found.ensures.item c.in-Some.is in
    let high = line-high-Right ss c.args.line f.index c.in-Some.last.now e c.find-found.ensures.first in
    let start = before-lines ss f.index f.before c.find-found.ensures.before in
    omega (arith, c.lines.ensures.value)

pub part-requires : goal.part-requires
part-requires c =
    let ss = c.args.tree.now in
    let f = c.find-found.result in
    let e = found-some ss f.index f.item c.in-Some.last c.find-found.ensures.item c.in-Some.is in
    let high = line-high-Right ss c.args.line f.index c.in-Some.last.now e c.find-found.ensures.first in
    let start = before-lines ss f.index f.before c.find-found.ensures.before in
    (omega (arith, c.lines.ensures.value), omega (arith, c.lines.ensures.value))

pub overflow_add-result : goal.overflow_add-result
overflow_add-result c =
    let ss = c.args.tree.now in
    let f = c.find-found.result in
    let e = found-some ss f.index f.item c.in-Some.last c.find-found.ensures.item c.in-Some.is in
    omega (arith, slice_get_within ss f.index c.in-Some.last.now e, c.len-count.ensures)

pub returns-clause-tail : goal.returns-clause-tail
returns-clause-tail c =
    let ss = c.args.tree.now in
    let f = c.find-found.result in
    let n = c.args.line in
    let s = c.in-Some.last.now in
    let k = c.lines.result - (n - f.before.lines) in
    let e = found-some ss f.index f.item c.in-Some.last c.find-found.ensures.item c.in-Some.is in
    let high = line-high-Right ss n f.index s e c.find-found.ensures.first in
    let low = line-low Right ss n f.index c.find-found.ensures.first in
    let start = before-lines ss f.index f.before c.find-found.ensures.before in
    let items : c.push.new.self.items ≡ part_of s k ∷ [] =
    c.in_ok-push.ensures.items
    ∙ ap (λ (l : List Stretched). l ++ (c.in_ok-part.field-0 ∷ [])) c.new-stretches.ensures.items
    ∙ ap (λ (s : Stretched). s ∷ []) c.in_ok-part.ensures in
    subst (λ (l : List Stretched). IsTail ss n l (f.index + 1)) (sym items)
    (tail-some ss n f.index k s c.requires.stretches e c.find-found.ensures.first (omega (arith, c.lines.ensures.value)))

-- the rows before the line
rows : (c : After-find-found) → c.find-found.result.before.rows + (c.args.line - c.find-found.result.before.lines)
    ≡ rows_in (take c.args.line (spread c.args.tree.now))
rows c =
    let ss = c.args.tree.now in
    let f = c.find-found.result in
    let is = rows-found ss c.args.line f.index f.item c.requires.stretches.each c.find-found.ensures.first c.requires.within c.find-found.ensures.item in
    omega (arith, is, before-lines ss f.index f.before c.find-found.ensures.before, before-rows ss f.index f.before c.requires.stretches.each c.find-found.ensures.before)

pub overflow_add-rows : goal.overflow_add-rows
overflow_add-rows c =
    omega (arith, rows (goal.at.overflow_add-rows c).After-find-found, rows-part (spread c.args.tree.now) c.args.line, c.requires.stretches.rows_fit)

pub returns-in_default-clause-rows : goal.returns-in_default-clause-rows
returns-in_default-clause-rows c = rows (goal.at.returns-in_default-clause-rows c).After-find-found

pub returns-clause-rows : goal.returns-clause-rows
returns-clause-rows c = rows (goal.at.returns-clause-rows c).After-find-found
