use Rattle.std.proofs.Common.{◌≡◌, ◌∙◌, true, sym, subst, inl, inr}
use Rattle.cell_units.specs.Layers.{Source}
use Rattle.cell_units.specs.Text.{IsBoundary}
use Rattle.inlay_map.proofs.SourceLayers.{back-apart, back-off, back-some}
use Rattle.inlay_map.proofs.layer.InlaySnapshotLayer.back.Goals as goal
use Rattle.inlay_map.proofs.layer.InlaySnapshotLayer.back.Goals.{After-is_boundary}

-- the offset is a boundary
boundary : (c : After-is_boundary) → c.is_boundary.result ≡ true → IsBoundary c.args.self.now.text c.offset_at-offset.result
boundary c is = subst (λ (s : Source). IsBoundary s.text c.offset_at-offset.result) c.self.view_is (c.is_boundary.ensures.test.0 is)

pub returns-then-not-is_boundary : goal.returns-then-not-is_boundary
returns-then-not-is_boundary c =
    back-off c.args.self.now c.args.place c.offset_at-offset.result c.args._bias
    (λ b.
    let is : c.is_boundary.result ≡ true = c.is_boundary.ensures.test.1 (subst (λ (s : Source). IsBoundary s.text c.offset_at-offset.result) (sym c.self.view_is) b) in
    cc)
    c.offset_at-offset.ensures.offset.back

pub place-left-requires : goal.place-left-requires
place-left-requires c = (boundary (goal.at.place-left-requires c).After-is_boundary c.if-not-is_boundary.false).0

pub returns-then-left-place : goal.returns-then-left-place
returns-then-left-place c =
    back-some c.args.self.now c.args.place c.offset_at-offset.result c.args._bias c.text_len-len.ensures.lawful.folds
    (boundary (goal.at.returns-then-left-place c).After-is_boundary c.if-not-is_boundary.false) (inl (sym c.place-left.ensures.place ∙ c.if-left-place.true)) c.offset_at-offset.ensures.offset.back

pub place-right-requires : goal.place-right-requires
place-right-requires c = (boundary (goal.at.place-right-requires c).After-is_boundary c.if-not-is_boundary.false).0

pub returns-then-right-place : goal.returns-then-right-place
returns-then-right-place c =
    back-some c.args.self.now c.args.place c.offset_at-offset.result c.args._bias c.text_len-len.ensures.lawful.folds
    (boundary (goal.at.returns-then-right-place c).After-is_boundary c.if-not-is_boundary.false) (inr (sym c.place-right.ensures.place ∙ c.if-right-place.true)) c.offset_at-offset.ensures.offset.back

pub returns : goal.returns
returns c =
    back-apart c.args.self.now c.args.place c.offset_at-offset.result c.args._bias
    (λ e. c.if-left-place.false (c.place-left.ensures.place ∙ e)) (λ e. c.if-right-place.false (c.place-right.ensures.place ∙ e)) c.offset_at-offset.ensures.offset.back
