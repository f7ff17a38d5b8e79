use Rattle.std.proofs.Common.{◌≡◌, ◌+◌, ◌-◌, ◌<◌, ◌≤◌, ℕ, List, [], ◌∷◌, ◌++◌, length, map, take, Some, None, ap, sym, subst, ◌∙◌, arith}
use Rattle.std.specs.List.{slice_get}
use Rattle.std.specs.Option.{option_copied}
use Rattle.std.proofs.lemmas.Result.{IfOk-weaker}
use Rattle.std.proofs.lemmas.List.{drop_all, length-drop}
use Rattle.std.proofs.lemmas.Option.{slice_get_within}
use Rattle.fold_map.proofs.ShownSplices.{sums}
use Rattle.cell_units.specs.BufferLines.{line_start}
use Rattle.cell_units.specs.Folding.{front_pieces, rest_pieces}
use Rattle.cell_units.specs.Lawful.{IsWellFormed}
use Rattle.cell_units.specs.Layers.{Source, shown_lines, shown_text, unfolded}
use Rattle.joined_folds.specs.Sweeps.{fold_of}
use Rattle.sum_core.specs.declared.load.NoLoad.{NoLoad}
use Rattle.splice_tree.specs.Splices.{Piece}
use Rattle.splice_tree.specs.declared.sides.Sides.{Sides}
use Rattle.splice_tree.proofs.Passing.{drop-past}
use Rattle.fold_map.specs.declared.amount.Amount.{Amount}
use Rattle.fold_map.specs.declared.pieces.LineBelow.{LineBelow}
use Rattle.fold_map.specs.LinePieces.{IsLineOf, MayCopy, hidden_piece}
use Rattle.fold_map.proofs.LinesFound.{same-splices}
use Rattle.fold_map.proofs.LinesLayer.{line-fits, line-lt, lines-below, there-at}
use Rattle.fold_map.proofs.LinesPieces.{copy-end, copy-on, ends-behind, ends-off, goes-on}
use Rattle.fold_map.proofs.LinesWalk.{IsWalk, hidden-fits, walk-fits, walk-start}
use Rattle.fold_map.proofs.SpotsLayer.{over}
use Rattle.fold_map.proofs.layer.FoldSnapshotLayer.pieces.Goals as goal
use Rattle.fold_map.proofs.layer.FoldSnapshotLayer.pieces.Goals.{then-old-ne0+in_ok-next, else-old-ne0}

made-line : (s : Source) (number : ℕ) (line : LineBelow) → line.number ≡ number → line.start ≡ line_start (shown_text s) number
    → slice_get (shown_lines s) number ≡ Some line.pieces.items → IsLineOf s line.number line
made-line s number line is start pieces = subst (λ (n : ℕ). IsLineOf s n line) (sym is) (record { number_is = is; start = start; pieces = pieces })

pub start_of-start-requires : goal.start_of-start-requires
start_of-start-requires g c =
    let v = c.args.self.now in
    let ps = c.self.inside.splices in
    let o = over (g.L.Layer.source c.self.inside.layer) v (map fold_of c.self.inside.folds) ps c.self.invariant c.self.view_is in
    let low-lines = c.lines-lines.ensures ∙ ap (λ (u : Source). length (shown_lines u)) o.below in
    let low-size = c.length-length.ensures ∙ ap (λ (u : Source). length (shown_text u)) o.below in
    line-fits v ps o.are c.args.line c.requires (omega (arith, low-lines, c.lines-lines.type_inv))

pub pieces-requires : goal.pieces-requires
pieces-requires g c =
    let v = c.args.self.now in
    let ps = c.self.inside.splices in
    let o = over (g.L.Layer.source c.self.inside.layer) v (map fold_of c.self.inside.folds) ps c.self.invariant c.self.view_is in
    omega (arith, there-at v ps o.are c.args.line c.start_of-start.result c.start_of-start.ensures.start c.requires, ap (λ (u : Source). length (shown_lines u)) o.below)

pub line_start-begin-requires : goal.line_start-begin-requires
line_start-begin-requires g c =
    let v = c.args.self.now in
    let ps = c.self.inside.splices in
    let o = over (g.L.Layer.source c.self.inside.layer) v (map fold_of c.self.inside.folds) ps c.self.invariant c.self.view_is in
    omega (arith, there-at v ps o.are c.args.line c.start_of-start.result c.start_of-start.ensures.start c.requires, ap (λ (u : Source). length (shown_lines u)) o.below)

pub loop-index-init : goal.loop-index-init
loop-index-init g c =
    let v = c.args.self.now in
    let ps = c.self.inside.splices in
    let o = over (g.L.Layer.source c.self.inside.layer) v (map fold_of c.self.inside.folds) ps c.self.invariant c.self.view_is in
    let at = c.start_of-start.result in
    let start = c.start_of-start.ensures.start in
    let begin : c.line_start-begin.result ≡ line_start (shown_text (unfolded v)) at.below = c.line_start-begin.ensures ∙ ap (λ (u : Source). line_start (shown_text u) at.below) o.below in
    let first = subst (λ (u : Source). slice_get (shown_lines u) at.below ≡ Some c.in_ok-first.first.items) o.below c.in_ok-first.ensures in
    record {
      walk = λ qs are.
          subst (λ (n : ℕ). IsWalk v qs c.args.line at.index c.line_start-begin.result n c.new-pieces.result.items) (sym c.of-below.ensures.number)
          (subst (λ (rs : List (Piece Amount NoLoad)). IsWalk v rs c.args.line at.index c.line_start-begin.result at.below c.new-pieces.result.items) (same-splices v ps qs o.are are)
          (subst (λ (k : ℕ). IsWalk v ps c.args.line at.index k at.below c.new-pieces.result.items) (sym begin)
          (subst (IsWalk v ps c.args.line at.index (line_start (shown_text (unfolded v)) at.below) at.below) (sym c.new-pieces.ensures.items) (walk-start v ps o.are c.args.line at start (line-lt v ps o.are c.args.line at start c.requires)))));
      below = made-line (unfolded v) at.below c.of-below.result c.of-below.ensures.number (c.of-below.ensures.start ∙ begin)
          (subst (λ ps. slice_get (shown_lines (unfolded v)) at.below ≡ Some ps.items) (sym c.of-below.ensures.pieces) first);
    }

pub overflow_add-here : goal.overflow_add-here
overflow_add-here g c =
    let v = c.args.self.now in
    let ps = c.self.inside.splices in
    let o = over (g.L.Layer.source c.self.inside.layer) v (map fold_of c.self.inside.folds) ps c.self.invariant c.self.view_is in
    let low-lines = c.lines-lines.ensures ∙ ap (λ (u : Source). length (shown_lines u)) o.below in
    let low-size = c.length-length.ensures ∙ ap (λ (u : Source). length (shown_text u)) o.below in
    let formed : IsWellFormed v = subst IsWellFormed c.self.view_is (record {
      text = c.buffer_len-len.ensures.well_formed.text;
      inlays = c.buffer_len-len.ensures.well_formed.inlays;
      folds = c.self.invariant.lawful;
    }) in
    let l = c.loop-index in
    let w = l.invariant.walk ps o.are in
    let is = l.invariant.below in
    let there : l.below.number < length (shown_lines (unfolded v)) = omega (arith, (walk-fits v ps o.are c.args.line l.index l.place l.below.number l.pieces.items w).1, lines-below v ps o.are) in
    let f = c.find_at-found in
    let p = c.in-Some.splice.now in
    let seen : slice_get ps f.result.index ≡ Some p = sym f.ensures.splice ∙ ap option_copied c.in-Some.is in
    let same-index : f.result.index ≡ l.index = omega (arith, slice_get_within ps f.result.index p seen, f.ensures.index) in
    let found : slice_get ps l.index ≡ Some p = subst (λ (n : ℕ). slice_get ps n ≡ Some p) same-index seen in
    let before : f.result.before ≡ sums (take l.index ps) = f.ensures.before ∙ ap (λ (n : ℕ). sums (take n ps)) same-index in
    let fits = hidden-fits v ps o.are c.args.line l.index l.place l.below.number l.pieces.items w p found in
    omega (arith, fits.3, lines-below v ps o.are, low-lines, c.lines-lines.type_inv, ap (λ (b : Sides Amount). b.lower.feeds) before, ap (λ (a : Amount). a.feeds) c.gap-gap.ensures)

pub overflow_add-hidden : goal.overflow_add-hidden
overflow_add-hidden g c =
    let v = c.args.self.now in
    let ps = c.self.inside.splices in
    let o = over (g.L.Layer.source c.self.inside.layer) v (map fold_of c.self.inside.folds) ps c.self.invariant c.self.view_is in
    let low-lines = c.lines-lines.ensures ∙ ap (λ (u : Source). length (shown_lines u)) o.below in
    let low-size = c.length-length.ensures ∙ ap (λ (u : Source). length (shown_text u)) o.below in
    let formed : IsWellFormed v = subst IsWellFormed c.self.view_is (record {
      text = c.buffer_len-len.ensures.well_formed.text;
      inlays = c.buffer_len-len.ensures.well_formed.inlays;
      folds = c.self.invariant.lawful;
    }) in
    let l = c.loop-index in
    let w = l.invariant.walk ps o.are in
    let is = l.invariant.below in
    let there : l.below.number < length (shown_lines (unfolded v)) = omega (arith, (walk-fits v ps o.are c.args.line l.index l.place l.below.number l.pieces.items w).1, lines-below v ps o.are) in
    let f = c.find_at-found in
    let p = c.in-Some.splice.now in
    let seen : slice_get ps f.result.index ≡ Some p = sym f.ensures.splice ∙ ap option_copied c.in-Some.is in
    let same-index : f.result.index ≡ l.index = omega (arith, slice_get_within ps f.result.index p seen, f.ensures.index) in
    let found : slice_get ps l.index ≡ Some p = subst (λ (n : ℕ). slice_get ps n ≡ Some p) same-index seen in
    let before : f.result.before ≡ sums (take l.index ps) = f.ensures.before ∙ ap (λ (n : ℕ). sums (take n ps)) same-index in
    let fits = hidden-fits v ps o.are c.args.line l.index l.place l.below.number l.pieces.items w p found in
    omega (arith, fits.2, low-size, c.length-length.type_inv, ap (λ (b : Sides Amount). b.lower.bytes) before, ap (λ (a : Amount). a.bytes) c.gap-gap.ensures)

pub copy-requires : goal.copy-requires
copy-requires g c =
    let v = c.args.self.now in
    let ps = c.self.inside.splices in
    let o = over (g.L.Layer.source c.self.inside.layer) v (map fold_of c.self.inside.folds) ps c.self.invariant c.self.view_is in
    let low-lines = c.lines-lines.ensures ∙ ap (λ (u : Source). length (shown_lines u)) o.below in
    let low-size = c.length-length.ensures ∙ ap (λ (u : Source). length (shown_text u)) o.below in
    let formed : IsWellFormed v = subst IsWellFormed c.self.view_is (record {
      text = c.buffer_len-len.ensures.well_formed.text;
      inlays = c.buffer_len-len.ensures.well_formed.inlays;
      folds = c.self.invariant.lawful;
    }) in
    let l = c.loop-index in
    let w = l.invariant.walk ps o.are in
    let is = l.invariant.below in
    let there : l.below.number < length (shown_lines (unfolded v)) = omega (arith, (walk-fits v ps o.are c.args.line l.index l.place l.below.number l.pieces.items w).1, lines-below v ps o.are) in
    let f = c.find_at-found in
    let p = c.in-Some.splice.now in
    let seen : slice_get ps f.result.index ≡ Some p = sym f.ensures.splice ∙ ap option_copied c.in-Some.is in
    let same-index : f.result.index ≡ l.index = omega (arith, slice_get_within ps f.result.index p seen, f.ensures.index) in
    let found : slice_get ps l.index ≡ Some p = subst (λ (n : ℕ). slice_get ps n ≡ Some p) same-index seen in
    let before : f.result.before ≡ sums (take l.index ps) = f.ensures.before ∙ ap (λ (n : ℕ). sums (take n ps)) same-index in
    let here : f.result.before.lower.feeds + c.gap-gap.result.feeds ≡ l.below.number = omega (arith, c.if-here-below.false) in
    let same = (λ i. (sym before i).lower.feeds + (sym c.gap-gap.ensures i).feeds) ∙ here in
    let copy = copy-on v ps o.are formed c.args.line l.index l.place l.below.number l.pieces.items w l.below is there p found same (omega (arith, low-size, c.length-length.type_inv)) in
    subst (MayCopy l.below l.place) (λ i. (sym before i).lower.bytes + (sym c.gap-gap.ensures i).bytes) copy

pub overflow_add-offset : goal.overflow_add-offset
overflow_add-offset g c =
    let v = c.args.self.now in
    let ps = c.self.inside.splices in
    let o = over (g.L.Layer.source c.self.inside.layer) v (map fold_of c.self.inside.folds) ps c.self.invariant c.self.view_is in
    let low-lines = c.lines-lines.ensures ∙ ap (λ (u : Source). length (shown_lines u)) o.below in
    let low-size = c.length-length.ensures ∙ ap (λ (u : Source). length (shown_text u)) o.below in
    let formed : IsWellFormed v = subst IsWellFormed c.self.view_is (record {
      text = c.buffer_len-len.ensures.well_formed.text;
      inlays = c.buffer_len-len.ensures.well_formed.inlays;
      folds = c.self.invariant.lawful;
    }) in
    let l = c.loop-index in
    let w = l.invariant.walk ps o.are in
    let is = l.invariant.below in
    let there : l.below.number < length (shown_lines (unfolded v)) = omega (arith, (walk-fits v ps o.are c.args.line l.index l.place l.below.number l.pieces.items w).1, lines-below v ps o.are) in
    let f = c.find_at-found in
    let p = c.in-Some.splice.now in
    let seen : slice_get ps f.result.index ≡ Some p = sym f.ensures.splice ∙ ap option_copied c.in-Some.is in
    let same-index : f.result.index ≡ l.index = omega (arith, slice_get_within ps f.result.index p seen, f.ensures.index) in
    let found : slice_get ps l.index ≡ Some p = subst (λ (n : ℕ). slice_get ps n ≡ Some p) same-index seen in
    let before : f.result.before ≡ sums (take l.index ps) = f.ensures.before ∙ ap (λ (n : ℕ). sums (take n ps)) same-index in
    let fits = hidden-fits v ps o.are c.args.line l.index l.place l.below.number l.pieces.items w p found in
    let text = ap (λ (u : Source). length u.text) o.below in
    omega (arith, fits.1, text, c.buffer_len-len.ensures.value, c.buffer_len-len.type_inv, ap (λ (b : Sides Amount). b.lower.buffer) before, ap (λ (a : Amount). a.buffer) c.gap-gap.ensures)

pub overflow_add-behind : goal.overflow_add-behind
overflow_add-behind g c =
    let v = c.args.self.now in
    let ps = c.self.inside.splices in
    let o = over (g.L.Layer.source c.self.inside.layer) v (map fold_of c.self.inside.folds) ps c.self.invariant c.self.view_is in
    let low-lines = c.lines-lines.ensures ∙ ap (λ (u : Source). length (shown_lines u)) o.below in
    let low-size = c.length-length.ensures ∙ ap (λ (u : Source). length (shown_text u)) o.below in
    let formed : IsWellFormed v = subst IsWellFormed c.self.view_is (record {
      text = c.buffer_len-len.ensures.well_formed.text;
      inlays = c.buffer_len-len.ensures.well_formed.inlays;
      folds = c.self.invariant.lawful;
    }) in
    let l = c.loop-index in
    let w = l.invariant.walk ps o.are in
    let is = l.invariant.below in
    let there : l.below.number < length (shown_lines (unfolded v)) = omega (arith, (walk-fits v ps o.are c.args.line l.index l.place l.below.number l.pieces.items w).1, lines-below v ps o.are) in
    let f = c.find_at-found in
    let p = c.in-Some.splice.now in
    let seen : slice_get ps f.result.index ≡ Some p = sym f.ensures.splice ∙ ap option_copied c.in-Some.is in
    let same-index : f.result.index ≡ l.index = omega (arith, slice_get_within ps f.result.index p seen, f.ensures.index) in
    let found : slice_get ps l.index ≡ Some p = subst (λ (n : ℕ). slice_get ps n ≡ Some p) same-index seen in
    let before : f.result.before ≡ sums (take l.index ps) = f.ensures.before ∙ ap (λ (n : ℕ). sums (take n ps)) same-index in
    let fits = hidden-fits v ps o.are c.args.line l.index l.place l.below.number l.pieces.items w p found in
    let text = ap (λ (u : Source). length u.text) o.below in
    omega (arith, fits.1, text, c.buffer_len-len.ensures.value, c.buffer_len-len.type_inv, ap (λ (b : Sides Amount). b.lower.buffer) before, ap (λ (a : Amount). a.buffer) c.gap-gap.ensures, ap (λ (a : Amount). a.buffer) c.old-old.ensures)

pub overflow_add-place : goal.overflow_add-place
overflow_add-place g c =
    let v = c.args.self.now in
    let ps = c.self.inside.splices in
    let o = over (g.L.Layer.source c.self.inside.layer) v (map fold_of c.self.inside.folds) ps c.self.invariant c.self.view_is in
    let low-lines = c.lines-lines.ensures ∙ ap (λ (u : Source). length (shown_lines u)) o.below in
    let low-size = c.length-length.ensures ∙ ap (λ (u : Source). length (shown_text u)) o.below in
    let formed : IsWellFormed v = subst IsWellFormed c.self.view_is (record {
      text = c.buffer_len-len.ensures.well_formed.text;
      inlays = c.buffer_len-len.ensures.well_formed.inlays;
      folds = c.self.invariant.lawful;
    }) in
    let l = c.loop-index in
    let w = l.invariant.walk ps o.are in
    let is = l.invariant.below in
    let there : l.below.number < length (shown_lines (unfolded v)) = omega (arith, (walk-fits v ps o.are c.args.line l.index l.place l.below.number l.pieces.items w).1, lines-below v ps o.are) in
    let f = c.find_at-found in
    let p = c.in-Some.splice.now in
    let seen : slice_get ps f.result.index ≡ Some p = sym f.ensures.splice ∙ ap option_copied c.in-Some.is in
    let same-index : f.result.index ≡ l.index = omega (arith, slice_get_within ps f.result.index p seen, f.ensures.index) in
    let found : slice_get ps l.index ≡ Some p = subst (λ (n : ℕ). slice_get ps n ≡ Some p) same-index seen in
    let before : f.result.before ≡ sums (take l.index ps) = f.ensures.before ∙ ap (λ (n : ℕ). sums (take n ps)) same-index in
    let here : f.result.before.lower.feeds + c.gap-gap.result.feeds ≡ l.below.number = omega (arith, c.if-here-below.false) in
    let same = (λ i. (sym before i).lower.feeds + (sym c.gap-gap.ensures i).feeds) ∙ here in
    let next = goes-on v ps o.are formed c.args.line l.index l.place l.below.number l.pieces.items w l.below is there p found same in
    let fits = walk-fits v ps o.are c.args.line (l.index + 1) _ _ _ next in
    omega (arith, fits.0, low-size, c.length-length.type_inv, ap (λ (b : Sides Amount). b.lower.bytes) before, ap (λ (a : Amount). a.bytes) c.gap-gap.ensures, ap (λ (a : Amount). a.bytes) c.old-old.ensures)

pub overflow_add-number : goal.overflow_add-number
overflow_add-number g c =
    let v = c.args.self.now in
    let ps = c.self.inside.splices in
    let o = over (g.L.Layer.source c.self.inside.layer) v (map fold_of c.self.inside.folds) ps c.self.invariant c.self.view_is in
    let low-lines = c.lines-lines.ensures ∙ ap (λ (u : Source). length (shown_lines u)) o.below in
    let low-size = c.length-length.ensures ∙ ap (λ (u : Source). length (shown_text u)) o.below in
    let formed : IsWellFormed v = subst IsWellFormed c.self.view_is (record {
      text = c.buffer_len-len.ensures.well_formed.text;
      inlays = c.buffer_len-len.ensures.well_formed.inlays;
      folds = c.self.invariant.lawful;
    }) in
    let l = c.loop-index in
    let w = l.invariant.walk ps o.are in
    let is = l.invariant.below in
    let there : l.below.number < length (shown_lines (unfolded v)) = omega (arith, (walk-fits v ps o.are c.args.line l.index l.place l.below.number l.pieces.items w).1, lines-below v ps o.are) in
    let f = c.find_at-found in
    let p = c.in-Some.splice.now in
    let seen : slice_get ps f.result.index ≡ Some p = sym f.ensures.splice ∙ ap option_copied c.in-Some.is in
    let same-index : f.result.index ≡ l.index = omega (arith, slice_get_within ps f.result.index p seen, f.ensures.index) in
    let found : slice_get ps l.index ≡ Some p = subst (λ (n : ℕ). slice_get ps n ≡ Some p) same-index seen in
    let before : f.result.before ≡ sums (take l.index ps) = f.ensures.before ∙ ap (λ (n : ℕ). sums (take n ps)) same-index in
    let here : f.result.before.lower.feeds + c.gap-gap.result.feeds ≡ l.below.number = omega (arith, c.if-here-below.false) in
    let same = (λ i. (sym before i).lower.feeds + (sym c.gap-gap.ensures i).feeds) ∙ here in
    let next = goes-on v ps o.are formed c.args.line l.index l.place l.below.number l.pieces.items w l.below is there p found same in
    let fits = walk-fits v ps o.are c.args.line (l.index + 1) _ _ _ next in
    omega (arith, fits.1, here, lines-below v ps o.are, low-lines, c.lines-lines.type_inv, ap (λ (a : Amount). a.feeds) c.old-old.ensures)

pub pieces-requires-then-old-ne0 : goal.pieces-requires-then-old-ne0
pieces-requires-then-old-ne0 g c =
    let v = c.args.self.now in
    let ps = c.self.inside.splices in
    let o = over (g.L.Layer.source c.self.inside.layer) v (map fold_of c.self.inside.folds) ps c.self.invariant c.self.view_is in
    let low-lines = c.lines-lines.ensures ∙ ap (λ (u : Source). length (shown_lines u)) o.below in
    let low-size = c.length-length.ensures ∙ ap (λ (u : Source). length (shown_text u)) o.below in
    let formed : IsWellFormed v = subst IsWellFormed c.self.view_is (record {
      text = c.buffer_len-len.ensures.well_formed.text;
      inlays = c.buffer_len-len.ensures.well_formed.inlays;
      folds = c.self.invariant.lawful;
    }) in
    let l = c.loop-index in
    let w = l.invariant.walk ps o.are in
    let is = l.invariant.below in
    let there : l.below.number < length (shown_lines (unfolded v)) = omega (arith, (walk-fits v ps o.are c.args.line l.index l.place l.below.number l.pieces.items w).1, lines-below v ps o.are) in
    let f = c.find_at-found in
    let p = c.in-Some.splice.now in
    let seen : slice_get ps f.result.index ≡ Some p = sym f.ensures.splice ∙ ap option_copied c.in-Some.is in
    let same-index : f.result.index ≡ l.index = omega (arith, slice_get_within ps f.result.index p seen, f.ensures.index) in
    let found : slice_get ps l.index ≡ Some p = subst (λ (n : ℕ). slice_get ps n ≡ Some p) same-index seen in
    let before : f.result.before ≡ sums (take l.index ps) = f.ensures.before ∙ ap (λ (n : ℕ). sums (take n ps)) same-index in
    let here : f.result.before.lower.feeds + c.gap-gap.result.feeds ≡ l.below.number = omega (arith, c.if-here-below.false) in
    let same = (λ i. (sym before i).lower.feeds + (sym c.gap-gap.ensures i).feeds) ∙ here in
    let next = goes-on v ps o.are formed c.args.line l.index l.place l.below.number l.pieces.items w l.below is there p found same in
    let fits = walk-fits v ps o.are c.args.line (l.index + 1) _ _ _ next in
    omega (arith, fits.1, here, lines-below v ps o.are, ap (λ (u : Source). length (shown_lines u)) o.below, ap (λ (a : Amount). a.feeds) c.old-old.ensures)

pub line_start-from-requires : goal.line_start-from-requires
line_start-from-requires g c =
    let v = c.args.self.now in
    let ps = c.self.inside.splices in
    let o = over (g.L.Layer.source c.self.inside.layer) v (map fold_of c.self.inside.folds) ps c.self.invariant c.self.view_is in
    let low-lines = c.lines-lines.ensures ∙ ap (λ (u : Source). length (shown_lines u)) o.below in
    let low-size = c.length-length.ensures ∙ ap (λ (u : Source). length (shown_text u)) o.below in
    let formed : IsWellFormed v = subst IsWellFormed c.self.view_is (record {
      text = c.buffer_len-len.ensures.well_formed.text;
      inlays = c.buffer_len-len.ensures.well_formed.inlays;
      folds = c.self.invariant.lawful;
    }) in
    let l = c.loop-index in
    let w = l.invariant.walk ps o.are in
    let is = l.invariant.below in
    let there : l.below.number < length (shown_lines (unfolded v)) = omega (arith, (walk-fits v ps o.are c.args.line l.index l.place l.below.number l.pieces.items w).1, lines-below v ps o.are) in
    let f = c.find_at-found in
    let p = c.in-Some.splice.now in
    let seen : slice_get ps f.result.index ≡ Some p = sym f.ensures.splice ∙ ap option_copied c.in-Some.is in
    let same-index : f.result.index ≡ l.index = omega (arith, slice_get_within ps f.result.index p seen, f.ensures.index) in
    let found : slice_get ps l.index ≡ Some p = subst (λ (n : ℕ). slice_get ps n ≡ Some p) same-index seen in
    let before : f.result.before ≡ sums (take l.index ps) = f.ensures.before ∙ ap (λ (n : ℕ). sums (take n ps)) same-index in
    let here : f.result.before.lower.feeds + c.gap-gap.result.feeds ≡ l.below.number = omega (arith, c.if-here-below.false) in
    let same = (λ i. (sym before i).lower.feeds + (sym c.gap-gap.ensures i).feeds) ∙ here in
    let next = goes-on v ps o.are formed c.args.line l.index l.place l.below.number l.pieces.items w l.below is there p found same in
    let fits = walk-fits v ps o.are c.args.line (l.index + 1) _ _ _ next in
    omega (arith, fits.1, here, lines-below v ps o.are, ap (λ (u : Source). length (shown_lines u)) o.below, ap (λ (a : Amount). a.feeds) c.old-old.ensures)

pub copied_behind-requires-then-here-below : goal.copied_behind-requires-then-here-below
copied_behind-requires-then-here-below g c =
    let v = c.args.self.now in
    let ps = c.self.inside.splices in
    let o = over (g.L.Layer.source c.self.inside.layer) v (map fold_of c.self.inside.folds) ps c.self.invariant c.self.view_is in
    let low-lines = c.lines-lines.ensures ∙ ap (λ (u : Source). length (shown_lines u)) o.below in
    let low-size = c.length-length.ensures ∙ ap (λ (u : Source). length (shown_text u)) o.below in
    let formed : IsWellFormed v = subst IsWellFormed c.self.view_is (record {
      text = c.buffer_len-len.ensures.well_formed.text;
      inlays = c.buffer_len-len.ensures.well_formed.inlays;
      folds = c.self.invariant.lawful;
    }) in
    let l = c.loop-index in
    let w = l.invariant.walk ps o.are in
    let is = l.invariant.below in
    let there : l.below.number < length (shown_lines (unfolded v)) = omega (arith, (walk-fits v ps o.are c.args.line l.index l.place l.below.number l.pieces.items w).1, lines-below v ps o.are) in
    subst (MayCopy l.below l.place) (sym low-size) (copy-end v ps o.are formed c.args.line l.index l.place l.below.number l.pieces.items w l.below is there (omega (arith, low-size, c.length-length.type_inv)))

pub returns-then-here-below : goal.returns-then-here-below
returns-then-here-below g c =
    let v = c.args.self.now in
    let ps = c.self.inside.splices in
    let o = over (g.L.Layer.source c.self.inside.layer) v (map fold_of c.self.inside.folds) ps c.self.invariant c.self.view_is in
    let low-lines = c.lines-lines.ensures ∙ ap (λ (u : Source). length (shown_lines u)) o.below in
    let low-size = c.length-length.ensures ∙ ap (λ (u : Source). length (shown_text u)) o.below in
    let formed : IsWellFormed v = subst IsWellFormed c.self.view_is (record {
      text = c.buffer_len-len.ensures.well_formed.text;
      inlays = c.buffer_len-len.ensures.well_formed.inlays;
      folds = c.self.invariant.lawful;
    }) in
    let l = c.loop-index in
    let w = l.invariant.walk ps o.are in
    let is = l.invariant.below in
    let there : l.below.number < length (shown_lines (unfolded v)) = omega (arith, (walk-fits v ps o.are c.args.line l.index l.place l.below.number l.pieces.items w).1, lines-below v ps o.are) in
    let f = c.find_at-found in
    let p = c.in-Some.splice.now in
    let seen : slice_get ps f.result.index ≡ Some p = sym f.ensures.splice ∙ ap option_copied c.in-Some.is in
    let same-index : f.result.index ≡ l.index = omega (arith, slice_get_within ps f.result.index p seen, f.ensures.index) in
    let found : slice_get ps l.index ≡ Some p = subst (λ (n : ℕ). slice_get ps n ≡ Some p) same-index seen in
    let before : f.result.before ≡ sums (take l.index ps) = f.ensures.before ∙ ap (λ (n : ℕ). sums (take n ps)) same-index in
    let all = ends-off v ps o.are formed c.args.line l.index l.place l.below.number l.pieces.items w l.below is there c.requires p found
    (λ e. c.if-here-below.true ((λ i. (before i).lower.feeds + (c.gap-gap.ensures i).feeds) ∙ e)) in
    let same = ap (λ (n : ℕ). l.pieces.items ++ front_pieces (n - l.place) (rest_pieces (l.place - l.below.start) l.below.pieces.items)) low-size in
    IfOk-weaker c.copied_behind-then-here-below.result _ _ (λ x e. all ∙ ap Some (sym (e ∙ same))) c.copied_behind-then-here-below.ensures

pub copied_behind-requires : goal.copied_behind-requires
copied_behind-requires g c =
    let v = c.args.self.now in
    let ps = c.self.inside.splices in
    let o = over (g.L.Layer.source c.self.inside.layer) v (map fold_of c.self.inside.folds) ps c.self.invariant c.self.view_is in
    let low-lines = c.lines-lines.ensures ∙ ap (λ (u : Source). length (shown_lines u)) o.below in
    let low-size = c.length-length.ensures ∙ ap (λ (u : Source). length (shown_text u)) o.below in
    let formed : IsWellFormed v = subst IsWellFormed c.self.view_is (record {
      text = c.buffer_len-len.ensures.well_formed.text;
      inlays = c.buffer_len-len.ensures.well_formed.inlays;
      folds = c.self.invariant.lawful;
    }) in
    let l = c.loop-index in
    let w = l.invariant.walk ps o.are in
    let is = l.invariant.below in
    let there : l.below.number < length (shown_lines (unfolded v)) = omega (arith, (walk-fits v ps o.are c.args.line l.index l.place l.below.number l.pieces.items w).1, lines-below v ps o.are) in
    subst (MayCopy l.below l.place) (sym low-size) (copy-end v ps o.are formed c.args.line l.index l.place l.below.number l.pieces.items w l.below is there (omega (arith, low-size, c.length-length.type_inv)))

pub returns-in-None : goal.returns-in-None
returns-in-None g c =
    let v = c.args.self.now in
    let ps = c.self.inside.splices in
    let o = over (g.L.Layer.source c.self.inside.layer) v (map fold_of c.self.inside.folds) ps c.self.invariant c.self.view_is in
    let low-lines = c.lines-lines.ensures ∙ ap (λ (u : Source). length (shown_lines u)) o.below in
    let low-size = c.length-length.ensures ∙ ap (λ (u : Source). length (shown_text u)) o.below in
    let formed : IsWellFormed v = subst IsWellFormed c.self.view_is (record {
      text = c.buffer_len-len.ensures.well_formed.text;
      inlays = c.buffer_len-len.ensures.well_formed.inlays;
      folds = c.self.invariant.lawful;
    }) in
    let l = c.loop-index in
    let w = l.invariant.walk ps o.are in
    let is = l.invariant.below in
    let there : l.below.number < length (shown_lines (unfolded v)) = omega (arith, (walk-fits v ps o.are c.args.line l.index l.place l.below.number l.pieces.items w).1, lines-below v ps o.are) in
    let f = c.find_at-found in
    let none : slice_get ps f.result.index ≡ None = sym f.ensures.splice ∙ ap option_copied c.in-None.is in
    let past : length ps ≤ l.index = omega (arith, ap (λ (qs : List (Piece Amount NoLoad)). length qs) (drop-past ps f.result.index none), length-drop f.result.index ps, f.ensures.index) in
    let all = ends-behind v ps o.are formed c.args.line l.index l.place l.below.number l.pieces.items w l.below is there c.requires (drop_all l.index ps past) in
    let same = ap (λ (n : ℕ). l.pieces.items ++ front_pieces (n - l.place) (rest_pieces (l.place - l.below.start) l.below.pieces.items)) low-size in
    IfOk-weaker c.copied_behind.result _ _ (λ x e. all ∙ ap Some (sym (e ∙ same))) c.copied_behind.ensures

pub copied_behind-requires-2 : goal.copied_behind-requires-2
copied_behind-requires-2 g c =
    let v = c.args.self.now in
    let ps = c.self.inside.splices in
    let o = over (g.L.Layer.source c.self.inside.layer) v (map fold_of c.self.inside.folds) ps c.self.invariant c.self.view_is in
    let low-lines = c.lines-lines.ensures ∙ ap (λ (u : Source). length (shown_lines u)) o.below in
    let low-size = c.length-length.ensures ∙ ap (λ (u : Source). length (shown_text u)) o.below in
    let formed : IsWellFormed v = subst IsWellFormed c.self.view_is (record {
      text = c.buffer_len-len.ensures.well_formed.text;
      inlays = c.buffer_len-len.ensures.well_formed.inlays;
      folds = c.self.invariant.lawful;
    }) in
    let l = c.loop-index in
    let w = l.invariant.walk ps o.are in
    let is = l.invariant.below in
    let there : l.below.number < length (shown_lines (unfolded v)) = omega (arith, (walk-fits v ps o.are c.args.line l.index l.place l.below.number l.pieces.items w).1, lines-below v ps o.are) in
    subst (MayCopy l.below l.place) (sym low-size) (copy-end v ps o.are formed c.args.line l.index l.place l.below.number l.pieces.items w l.below is there (omega (arith, low-size, c.length-length.type_inv)))

pub returns : goal.returns
returns g c =
    let v = c.args.self.now in
    let ps = c.self.inside.splices in
    let o = over (g.L.Layer.source c.self.inside.layer) v (map fold_of c.self.inside.folds) ps c.self.invariant c.self.view_is in
    let low-lines = c.lines-lines.ensures ∙ ap (λ (u : Source). length (shown_lines u)) o.below in
    let low-size = c.length-length.ensures ∙ ap (λ (u : Source). length (shown_text u)) o.below in
    let formed : IsWellFormed v = subst IsWellFormed c.self.view_is (record {
      text = c.buffer_len-len.ensures.well_formed.text;
      inlays = c.buffer_len-len.ensures.well_formed.inlays;
      folds = c.self.invariant.lawful;
    }) in
    let l = c.loop-index in
    let w = l.invariant.walk ps o.are in
    let is = l.invariant.below in
    let there : l.below.number < length (shown_lines (unfolded v)) = omega (arith, (walk-fits v ps o.are c.args.line l.index l.place l.below.number l.pieces.items w).1, lines-below v ps o.are) in
    let past : length ps ≤ l.index = omega (arith, c.loop-index-test.false, c.len-count.ensures) in
    let all = ends-behind v ps o.are formed c.args.line l.index l.place l.below.number l.pieces.items w l.below is there c.requires (drop_all l.index ps past) in
    let same = ap (λ (n : ℕ). l.pieces.items ++ front_pieces (n - l.place) (rest_pieces (l.place - l.below.start) l.below.pieces.items)) low-size in
    IfOk-weaker c.copied_behind-2.result _ _ (λ x e. all ∙ ap Some (sym (e ∙ same))) c.copied_behind-2.ensures

pub loop-index-preserved : goal.loop-index-preserved
loop-index-preserved g c =
    let v = c.args.self.now in
    let ps = c.self.inside.splices in
    let o = over (g.L.Layer.source c.self.inside.layer) v (map fold_of c.self.inside.folds) ps c.self.invariant c.self.view_is in
    let low-lines = c.lines-lines.ensures ∙ ap (λ (u : Source). length (shown_lines u)) o.below in
    let low-size = c.length-length.ensures ∙ ap (λ (u : Source). length (shown_text u)) o.below in
    let formed : IsWellFormed v = subst IsWellFormed c.self.view_is (record {
      text = c.buffer_len-len.ensures.well_formed.text;
      inlays = c.buffer_len-len.ensures.well_formed.inlays;
      folds = c.self.invariant.lawful;
    }) in
    let l = c.loop-index in
    let w = l.invariant.walk ps o.are in
    let is = l.invariant.below in
    let there : l.below.number < length (shown_lines (unfolded v)) = omega (arith, (walk-fits v ps o.are c.args.line l.index l.place l.below.number l.pieces.items w).1, lines-below v ps o.are) in
    let f = c.find_at-found in
    let p = c.in-Some.splice.now in
    let seen : slice_get ps f.result.index ≡ Some p = sym f.ensures.splice ∙ ap option_copied c.in-Some.is in
    let same-index : f.result.index ≡ l.index = omega (arith, slice_get_within ps f.result.index p seen, f.ensures.index) in
    let found : slice_get ps l.index ≡ Some p = subst (λ (n : ℕ). slice_get ps n ≡ Some p) same-index seen in
    let before : f.result.before ≡ sums (take l.index ps) = f.ensures.before ∙ ap (λ (n : ℕ). sums (take n ps)) same-index in
    let here : f.result.before.lower.feeds + c.gap-gap.result.feeds ≡ l.below.number = omega (arith, c.if-here-below.false) in
    let same = (λ i. (sym before i).lower.feeds + (sym c.gap-gap.ensures i).feeds) ∙ here in
    let next = goes-on v ps o.are formed c.args.line l.index l.place l.below.number l.pieces.items w l.below is there p found same in
    let old = c.old-old.ensures in
    let number : l.below.number + p.old.feeds ≡ c.if-old-ne0.below.number =
    elim c.if-old-ne0.branch [
      | then-old-ne0+in_ok-next w ↦ (λ i. sym here i + (sym old i).feeds) ∙ sym w.of-below-then-old-ne0.ensures.number ∙ ap (λ (b : LineBelow). b.number) (sym w.below-is)
      | else-old-ne0 w ↦ omega (arith, w.if-old-ne0.false, ap (λ (a : Amount). a.feeds) old, ap (λ (b : LineBelow). b.number) w.below-is)
    ] in
    let place : (sums (take l.index ps)).lower.bytes + p.gap.bytes + p.old.bytes ≡ f.result.before.lower.bytes + c.gap-gap.result.bytes + c.old-old.result.bytes =
    λ i. (sym before i).lower.bytes + (sym c.gap-gap.ensures i).bytes + (sym old i).bytes in
    let hidden : (sums (take l.index ps)).lower.bytes + p.gap.bytes ≡ f.result.before.lower.bytes + c.gap-gap.result.bytes = λ i. (sym before i).lower.bytes + (sym c.gap-gap.ensures i).bytes in
    let start : (sums (take l.index ps)).lower.buffer + p.gap.buffer ≡ f.result.before.lower.buffer + c.gap-gap.result.buffer = λ i. (sym before i).lower.buffer + (sym c.gap-gap.ensures i).buffer in
    let one : hidden_piece ((sums (take l.index ps)).lower.buffer + p.gap.buffer) ((sums (take l.index ps)).lower.buffer + p.gap.buffer + p.old.buffer) ≡ c.in_ok-placeholder.placeholder =
    (λ i. hidden_piece (start i) (start i + (sym old i).buffer)) ∙ sym c.in_ok-placeholder.ensures in
    let copied : l.pieces.items ++ front_pieces ((sums (take l.index ps)).lower.bytes + p.gap.bytes - l.place) (rest_pieces (l.place - l.below.start) l.below.pieces.items) ≡ c.copy.new.pieces.items =
    ap (λ (n : ℕ). l.pieces.items ++ front_pieces (n - l.place) (rest_pieces (l.place - l.below.start) l.below.pieces.items)) hidden ∙ sym c.in_ok-copy.ensures in
    let items : (l.pieces.items ++ front_pieces ((sums (take l.index ps)).lower.bytes + p.gap.bytes - l.place) (rest_pieces (l.place - l.below.start) l.below.pieces.items)) ++ hidden_piece ((sums (take l.index ps)).lower.buffer + p.gap.buffer) ((sums (take l.index ps)).lower.buffer + p.gap.buffer + p.old.buffer) ∷ [] ≡ c.push.new.self.items =
    (λ i. copied i ++ one i ∷ []) ∙ sym c.in_ok-push.ensures.items in
    record {
      walk = λ qs are.
          subst (λ (rs : List (Piece Amount NoLoad)). IsWalk v rs c.args.line (l.index + 1) (f.result.before.lower.bytes + c.gap-gap.result.bytes + c.old-old.result.bytes) c.if-old-ne0.below.number c.push.new.self.items) (same-splices v ps qs o.are are)
          (subst (λ (k : ℕ). IsWalk v ps c.args.line (l.index + 1) k c.if-old-ne0.below.number c.push.new.self.items) place
          (subst (λ (k : ℕ). IsWalk v ps c.args.line (l.index + 1) ((sums (take l.index ps)).lower.bytes + p.gap.bytes + p.old.bytes) k c.push.new.self.items) number
          (subst (IsWalk v ps c.args.line (l.index + 1) ((sums (take l.index ps)).lower.bytes + p.gap.bytes + p.old.bytes) (l.below.number + p.old.feeds)) items next)));
      below =
          elim c.if-old-ne0.branch [
            | then-old-ne0+in_ok-next w ↦
                let number = f.result.before.lower.feeds + c.gap-gap.result.feeds + c.old-old.result.feeds in
                let made = w.of-below-then-old-ne0 in
                let start = made.ensures.start ∙ w.line_start-from.ensures ∙ ap (λ (u : Source). line_start (shown_text u) number) o.below in
                let next = subst (λ (u : Source). slice_get (shown_lines u) number ≡ Some w.in_ok-next.next.items) o.below w.in_ok-next.ensures in
                let pieces = subst (λ ps. slice_get (shown_lines (unfolded v)) number ≡ Some ps.items) (sym made.ensures.pieces) next in
                let is-line = made-line (unfolded v) number made.result made.ensures.number start pieces in
                subst (λ (b : LineBelow). IsLineOf (unfolded v) b.number b) (sym w.below-is) is-line
            | else-old-ne0 w ↦ subst (λ (b : LineBelow). IsLineOf (unfolded v) b.number b) (sym w.below-is) is
          ];
    }
