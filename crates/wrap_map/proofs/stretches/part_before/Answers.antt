use Rattle.std.proofs.Common.{◌≡◌, ◌-◌, [], ◌∷◌, ◌++◌, List, Vec, Global, ap, sym, subst, ◌∙◌, arith}
use Rattle.wrap_map.specs.inside.Gathering.{IsHead}
use Rattle.wrap_map.specs.declared.extent.Extent.{Extent}
use Rattle.wrap_map.specs.inside.Stretches.{Stretched, extent_of, spread}
use Rattle.wrap_map.proofs.Parts.{before-lines, found-none, found-some, line-high-Left, line-low, rows-part}
use Rattle.wrap_map.proofs.Puts.{head-begin, head-none, head-rows, head-some, part_of}
use Rattle.cell_units.specs.declared.place.Bias.TheVariants.{Left}
use Rattle.wrap_map.proofs.stretches.part_before.Goals as goal
use Rattle.wrap_map.proofs.stretches.part_before.Goals.{in-Some+then-lines-gt0+in_ok-part+in_ok-push, in-Some+else-lines-gt0, in_default}

pub part-requires : goal.part-requires
part-requires c =
    let ss = c.args.tree.now in
    let f = c.find-found.result in
    let e = found-some ss f.index f.item c.in-Some.first c.find-found.ensures.item c.in-Some.is in
    let high = line-high-Left ss c.args.line f.index c.in-Some.first.now e c.find-found.ensures.first in
    let start = before-lines ss f.index f.before c.find-found.ensures.before in
    (omega arith, omega arith)

pub returns-clause-head : goal.returns-clause-head
returns-clause-head c =
    let ss = c.args.tree.now in
    let f = c.find-found.result in
    let n = c.args.line in
    let start = before-lines ss f.index f.before c.find-found.ensures.before in
    let low = line-low Left ss n f.index c.find-found.ensures.first in
    elim c.match-found.branch [
      | in-Some+then-lines-gt0+in_ok-part+in_ok-push w ↦
          let s = w.in-Some.first.now in
          let k = n - f.before.lines in
          let e = found-some ss f.index f.item w.in-Some.first c.find-found.ensures.item w.in-Some.is in
          let items : c.match-found.stretches.items ≡ part_of s k ∷ [] =
          ap (λ (v : Vec Stretched Global). v.items) w.stretches-is
          ∙ w.in_ok-push.ensures.items
          ∙ ap (λ (l : List Stretched). l ++ (w.in_ok-part.part ∷ [])) c.new-stretches.ensures.items
          ∙ ap (λ (s : Stretched). s ∷ []) w.in_ok-part.ensures in
          subst (λ (l : List Stretched). IsHead ss n l f.index) (sym items)
          (head-some ss n f.index k s c.requires.stretches e c.find-found.ensures.first (omega arith) (omega arith))
      | in-Some+else-lines-gt0 w ↦
          let e = found-some ss f.index f.item w.in-Some.first c.find-found.ensures.item w.in-Some.is in
          let items : c.match-found.stretches.items ≡ [] =
          ap (λ (v : Vec Stretched Global). v.items) w.stretches-is ∙ c.new-stretches.ensures.items in
          subst (λ (l : List Stretched). IsHead ss n l f.index) (sym items)
          (head-begin ss n f.index w.in-Some.first.now e c.find-found.ensures.first (omega arith))
      | in_default w ↦
          let e = found-none ss f.index f.item c.find-found.ensures.item w.in_default.is in
          let items : c.match-found.stretches.items ≡ [] =
          ap (λ (v : Vec Stretched Global). v.items) w.stretches-is ∙ c.new-stretches.ensures.items in
          subst (λ (l : List Stretched). IsHead ss n l f.index) (sym items)
          (head-none ss n f.index c.requires.within e c.find-found.ensures.first)
    ]

pub overflow_add-rows : goal.overflow_add-rows
overflow_add-rows c =
    let ss = c.args.tree.now in
    let f = c.find-found.result in
    let n = c.args.line in
    let s = c.in-Some.first.now in
    let k = n - f.before.lines in
    let start = before-lines ss f.index f.before c.find-found.ensures.before in
    let low = line-low Left ss n f.index c.find-found.ensures.first in
    let e = found-some ss f.index f.item c.in-Some.first c.find-found.ensures.item c.in-Some.is in
    let rows = head-rows ss (part_of s k ∷ []) n f.index c.requires.stretches.each
    (head-some ss n f.index k s c.requires.stretches e c.find-found.ensures.first (omega arith) (omega arith)) in
    omega (
      arith,
      rows,
      ap (λ (t : Extent). t.rows) c.find-found.ensures.before,
      ap (λ (t : Extent). t.rows) c.sum-rows.ensures,
      ap (λ (t : Stretched). (extent_of t).rows) c.in_ok-part.ensures,
      rows-part (spread ss) n,
      c.requires.stretches.rows_fit,
    )

pub returns-clause-rows : goal.returns-clause-rows
returns-clause-rows c =
    let ss = c.args.tree.now in
    let f = c.find-found.result in
    let n = c.args.line in
    let start = before-lines ss f.index f.before c.find-found.ensures.before in
    let low = line-low Left ss n f.index c.find-found.ensures.first in
    let before = ap (λ (t : Extent). t.rows) c.find-found.ensures.before in
    elim c.match-found.branch [
      | in-Some+then-lines-gt0+in_ok-part+in_ok-push w ↦
          let s = w.in-Some.first.now in
          let k = n - f.before.lines in
          let e = found-some ss f.index f.item w.in-Some.first c.find-found.ensures.item w.in-Some.is in
          let rows = head-rows ss (part_of s k ∷ []) n f.index c.requires.stretches.each
          (head-some ss n f.index k s c.requires.stretches e c.find-found.ensures.first (omega arith) (omega arith)) in
          omega (
            arith,
            rows,
            before,
            w.rows-is,
            ap (λ (t : Extent). t.rows) w.sum-rows.ensures,
            ap (λ (t : Stretched). (extent_of t).rows) w.in_ok-part.ensures,
          )
      | in-Some+else-lines-gt0 w ↦
          let e = found-some ss f.index f.item w.in-Some.first c.find-found.ensures.item w.in-Some.is in
          let rows = head-rows ss [] n f.index c.requires.stretches.each
          (head-begin ss n f.index w.in-Some.first.now e c.find-found.ensures.first (omega arith)) in
          omega (arith, rows, before, w.rows-is)
      | in_default w ↦
          let e = found-none ss f.index f.item c.find-found.ensures.item w.in_default.is in
          let rows = head-rows ss [] n f.index c.requires.stretches.each (head-none ss n f.index c.requires.within e c.find-found.ensures.first) in
          omega (arith, rows, before, w.rows-is)
    ]
