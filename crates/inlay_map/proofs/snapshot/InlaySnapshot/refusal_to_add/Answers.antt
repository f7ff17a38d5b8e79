use Rattle.std.proofs.Common.{◌≡◌, ◌≤◌, ◌<◌, ◌∙◌, true, false, ap, sym, subst, length, inl, inr, arith}
use Rattle.cell_units.specs.declared.limits.TheConstants.{ENTRY_LIMIT, INLAY_LIMIT}
use Rattle.cell_units.specs.Layers.{Source}
use Rattle.cell_units.specs.Text.{is_boundary}
use Rattle.text_rope.specs.Ropes.{HasHeight}
use Rattle.inlay_map.specs.Maps.{add_refusal}
use Rattle.inlay_map.proofs.Refusals.{boundary-false, boundary-true, not-refused, refused-id, refused-long, refused-range, refused-text}
use Rattle.inlay_map.proofs.snapshot.InlaySnapshot.refusal_to_add.Goals as goal

pub returns-then-has_id-clause-refusal : goal.returns-then-has_id-clause-refusal
returns-then-has_id-clause-refusal c =
    let v = c.self.inside.inlaid in
    refused-id v c.args.id c.args.offset c.args.text.now (sym c.has_id.ensures.value ∙ c.if-has_id.true)
    ∙ ap (λ (s : Source). add_refusal s c.args.id c.args.offset c.args.text.now) c.self.view_is

pub returns-then-not-is_boundary-clause-refusal : goal.returns-then-not-is_boundary-clause-refusal
returns-then-not-is_boundary-clause-refusal c =
    let v = c.self.inside.inlaid in
    let off : is_boundary v.text c.args.offset ≡ false =
    boundary-false v.text c.args.offset c.len-len.ensures.lawful.text.0 (λ b. let yes : c.is_boundary.result ≡ true = c.is_boundary.ensures.test.1 b in cc) in
    refused-range v c.args.id c.args.offset c.args.text.now (sym c.has_id.ensures.value ∙ c.if-has_id.false) off
    ∙ ap (λ (s : Source). add_refusal s c.args.id c.args.offset c.args.text.now) c.self.view_is

pub returns-then-text-eq0-clause-refusal : goal.returns-then-text-eq0-clause-refusal
returns-then-text-eq0-clause-refusal c =
    let v = c.self.inside.inlaid in
    let at = boundary-true v.text c.args.offset c.len-len.ensures.lawful.text.0 (c.is_boundary.ensures.test.0 c.if-not-is_boundary.false) in
    let none : length c.args.text.now ≡ 0 = omega arith in
    refused-text v c.args.id c.args.offset c.args.text.now (sym c.has_id.ensures.value ∙ c.if-has_id.false) at none
    ∙ ap (λ (s : Source). add_refusal s c.args.id c.args.offset c.args.text.now) c.self.view_is

pub returns-then-text-gt-INLAY_LIMIT-clause-refusal : goal.returns-then-text-gt-INLAY_LIMIT-clause-refusal
returns-then-text-gt-INLAY_LIMIT-clause-refusal c =
    let v = c.self.inside.inlaid in
    let at = boundary-true v.text c.args.offset c.len-len.ensures.lawful.text.0 (c.is_boundary.ensures.test.0 c.if-not-is_boundary.false) in
    let some : 0 < length c.args.text.now = omega arith in
    let long : INLAY_LIMIT < length c.args.text.now = omega arith in
    refused-long v c.args.id c.args.offset c.args.text.now (sym c.has_id.ensures.value ∙ c.if-has_id.false) at some (inl long)
    ∙ ap (λ (s : Source). add_refusal s c.args.id c.args.offset c.args.text.now) c.self.view_is

pub returns-then-count-ge-ENTRY_LIMIT-clause-refusal : goal.returns-then-count-ge-ENTRY_LIMIT-clause-refusal
returns-then-count-ge-ENTRY_LIMIT-clause-refusal c =
    let v = c.self.inside.inlaid in
    let at = boundary-true v.text c.args.offset c.len-len.ensures.lawful.text.0 (c.is_boundary.ensures.test.0 c.if-not-is_boundary.false) in
    let some : 0 < length c.args.text.now = omega arith in
    let full : ENTRY_LIMIT ≤ length v.inlays = omega arith in
    refused-long v c.args.id c.args.offset c.args.text.now (sym c.has_id.ensures.value ∙ c.if-has_id.false) at some (inr full)
    ∙ ap (λ (s : Source). add_refusal s c.args.id c.args.offset c.args.text.now) c.self.view_is

pub returns-clause-refusal : goal.returns-clause-refusal
returns-clause-refusal c =
    let v = c.self.inside.inlaid in
    let at = boundary-true v.text c.args.offset c.len-len.ensures.lawful.text.0 (c.is_boundary.ensures.test.0 c.if-not-is_boundary.false) in
    let some : 0 < length c.args.text.now = omega arith in
    let short : length c.args.text.now ≤ INLAY_LIMIT = omega arith in
    let room : length v.inlays < ENTRY_LIMIT = omega arith in
    not-refused v c.args.id c.args.offset c.args.text.now (sym c.has_id.ensures.value ∙ c.if-has_id.false) at some short room
    ∙ ap (λ (s : Source). add_refusal s c.args.id c.args.offset c.args.text.now) c.self.view_is

-- ---- steps

pub returns-then-has_id-clause-steps : goal.returns-then-has_id-clause-steps
returns-then-has_id-clause-steps c h high = omega (arith, c.has_id.ensures.steps, ap (λ (s : Source). length s.inlays) c.self.view_is)

pub returns-then-not-is_boundary-clause-steps : goal.returns-then-not-is_boundary-clause-steps
returns-then-not-is_boundary-clause-steps c h high =
    let text = subst (λ (s : Source). HasHeight h s.text) (sym c.self.view_is) high.0 in
    omega (arith, c.has_id.ensures.steps, c.is_boundary.ensures.steps h text, ap (λ (s : Source). length s.inlays) c.self.view_is)

pub returns-then-text-eq0-clause-steps : goal.returns-then-text-eq0-clause-steps
returns-then-text-eq0-clause-steps c h high =
    let text = subst (λ (s : Source). HasHeight h s.text) (sym c.self.view_is) high.0 in
    omega (arith, c.has_id.ensures.steps, c.is_boundary.ensures.steps h text, ap (λ (s : Source). length s.inlays) c.self.view_is)

pub returns-then-text-gt-INLAY_LIMIT-clause-steps : goal.returns-then-text-gt-INLAY_LIMIT-clause-steps
returns-then-text-gt-INLAY_LIMIT-clause-steps c h high =
    let text = subst (λ (s : Source). HasHeight h s.text) (sym c.self.view_is) high.0 in
    omega (arith, c.has_id.ensures.steps, c.is_boundary.ensures.steps h text, ap (λ (s : Source). length s.inlays) c.self.view_is)

pub returns-then-count-ge-ENTRY_LIMIT-clause-steps : goal.returns-then-count-ge-ENTRY_LIMIT-clause-steps
returns-then-count-ge-ENTRY_LIMIT-clause-steps c h high =
    let text = subst (λ (s : Source). HasHeight h s.text) (sym c.self.view_is) high.0 in
    omega (arith, c.has_id.ensures.steps, c.is_boundary.ensures.steps h text, ap (λ (s : Source). length s.inlays) c.self.view_is)

pub returns-clause-steps : goal.returns-clause-steps
returns-clause-steps c h high =
    let text = subst (λ (s : Source). HasHeight h s.text) (sym c.self.view_is) high.0 in
    omega (arith, c.has_id.ensures.steps, c.is_boundary.ensures.steps h text, ap (λ (s : Source). length s.inlays) c.self.view_is)
