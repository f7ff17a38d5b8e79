use Rattle.std.proofs.Common.{◌+◌, ℕ, sym, subst}
use Rattle.std.specs.List.{concat}
use Rattle.cell_units.specs.declared.place.Bias.{Bias}
use Rattle.cell_units.specs.Points.{IsFirstBoundary, IsLastBoundary, IsNearBoundary}
use Rattle.text_rope.proofs.Nearest.{near_left, near_right}
use Rattle.text_rope.proofs.find.near_boundary.Goals as goal
use Rattle.text_rope.proofs.find.near_boundary.Goals.{in-Left, in-Right}

pub returns-clause-near : goal.returns-clause-near
returns-clause-near c =
    let chunks = c.args.chunks.now in
    let offset = c.args.offset in
    let r = c.found_at-found.result.before in
    let m = c.found_at-found.result.text.now in
    elim c.match-bias.branch [
      | in-Left w ↦
          let floor = w.floor_char_boundary-near in
          let near = near_left chunks offset r m c.requires.rope.cut c.found_at-found.ensures.found c.found_at-found.ensures.here floor.result floor.ensures.bound floor.ensures.boundary floor.ensures.nearest in
          subst (λ (b : Bias). IsNearBoundary (concat chunks) offset b (r.bytes + c.match-bias.near)) (sym w.in-Left.is) (subst (λ (k : ℕ). IsLastBoundary (concat chunks) offset (r.bytes + k)) (sym w.near-is) near)
      | in-Right w ↦
          let ceil = w.ceil_char_boundary-near in
          let near = near_right chunks offset r m c.requires.rope.cut c.found_at-found.ensures.found c.found_at-found.ensures.here ceil.result ceil.ensures.bound ceil.ensures.boundary ceil.ensures.nearest in
          subst (λ (b : Bias). IsNearBoundary (concat chunks) offset b (r.bytes + c.match-bias.near)) (sym w.in-Right.is) (subst (λ (k : ℕ). IsFirstBoundary (concat chunks) offset (r.bytes + k)) (sym w.near-is) near)
    ]
