use Rattle.std.proofs.Common.{◌≤◌, ap, sym, ◌∙◌, length, Some, arith}
use Rattle.cell_units.specs.declared.limits.TheConstants.{LAID_LIMIT}
use Rattle.cell_units.specs.Layers.{Source}
use Rattle.inlay_map.proofs.FoundInlays.{found-in, splice-fits, splice-found}
use Rattle.inlay_map.proofs.Measured.{own-end}
use Rattle.inlay_map.proofs.StepSums.{marks-height}
use Rattle.inlay_map.proofs.inlaid.Inlaid.splice_at.Goals as goal

pub amount_behind-requires-clause-before : goal.amount_behind-requires-clause-before
amount_behind-requires-clause-before c = (own-end c.args.self.now.text _ c.args.before c.requires.before).1

pub amount_behind-requires-clause-order : goal.amount_behind-requires-clause-order
amount_behind-requires-clause-order c =
    let found = found-in c.args.self.now c.self.inside.marks c.args.at _ c.len-len.ensures.lawful.inlays (ap (λ (s : Source). s.inlays) c.self.view_is) c.in-Some.ensures.mark in
    let own = own-end c.args.self.now.text _ c.args.before c.requires.before in
    omega (arith, found.order, own.0)

pub amount_behind-requires-clause-within : goal.amount_behind-requires-clause-within
amount_behind-requires-clause-within c =
    let found = found-in c.args.self.now c.self.inside.marks c.args.at _ c.len-len.ensures.lawful.inlays (ap (λ (s : Source). s.inlays) c.self.view_is) c.in-Some.ensures.mark in
    found.within

pub amount_shown-requires : goal.amount_shown-requires
amount_shown-requires c =
    let found = found-in c.args.self.now c.self.inside.marks c.args.at _ c.len-len.ensures.lawful.inlays (ap (λ (s : Source). s.inlays) c.self.view_is) c.in-Some.ensures.mark in
    found.short

pub new-requires-clause-upper : goal.new-requires-clause-upper
new-requires-clause-upper c =
    let s = c.args.self.now in
    let short : length s.text ≤ LAID_LIMIT = omega (arith, c.len-len.ensures.value, c.len-len.ensures.lawful.short) in
    let found = found-in s c.self.inside.marks c.args.at _ c.len-len.ensures.lawful.inlays (ap (λ (v : Source). v.inlays) c.self.view_is) c.in-Some.ensures.mark in
    splice-fits s c.args.at _ c.args.before.bytes c.amount_behind.result c.amount_shown.result c.len-len.ensures.lawful.inlays short found (own-end s.text _ c.args.before c.requires.before).0 c.amount_behind.ensures.amount c.amount_shown.ensures

pub returns-clause-splice : goal.returns-clause-splice
returns-clause-splice c =
    let s = c.args.self.now in
    let found = found-in s c.self.inside.marks c.args.at _ c.len-len.ensures.lawful.inlays (ap (λ (v : Source). v.inlays) c.self.view_is) c.in-Some.ensures.mark in
    splice-found s c.args.at _ c.args.before.bytes c.amount_behind.result c.zero.result c.amount_shown.result found (own-end s.text _ c.args.before c.requires.before).0 c.amount_behind.ensures.amount c.zero.ensures c.amount_shown.ensures
    ∙ ap Some (sym c.new.ensures)

pub returns-clause-steps : goal.returns-clause-steps
returns-clause-steps c h high =
    omega (
      arith,
      c.in-Some.ensures.steps h (marks-height c.self.inside.rope c.self.inside.marks c.args.self.now h c.self.view_is high.1),
      c.amount_behind.ensures.steps h high.0,
    )
