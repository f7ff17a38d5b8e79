use Rattle.std.proofs.Common.{◌∙◌, ap, sym, subst, arith}
use Rattle.cell_units.specs.Lawful.{IsWellFormed}
use Rattle.inlay_map.specs.Maps.{InlayState}
use Rattle.inlay_map.proofs.Sent.{sent}
use Rattle.fold_map.specs.Maps.{FoldState}
use Rattle.layered_text.specs.inside.Kept.{IsLayered}
use Rattle.layered_text.proofs.ShownSteps.{shows-both, shows-inlays, shows-none}
use Rattle.layered_text.proofs.ToldMaps.{follows, inlays-fit, inlays-lead, is-changed, is-layered, replaces}
use Rattle.layered_text.proofs.text.LayeredText.changed.Goals as goal
use Rattle.layered_text.proofs.text.LayeredText.changed.Goals.{After-len-2}

-- the inlays and folds fit the text
formed : (c : After-len-2) → IsWellFormed c.args.self.now
formed c = subst IsWellFormed (ap (λ (m : FoldState). m.current) c.self.invariant.folds_are ∙ c.self.view_is) c.len-2.ensures.lawful

pub len-requires-2-send-L : goal.len-requires-2-send-L
len-requires-2-send-L c κs = search sent depth 60 fits 20000

pub len-requires-2-sync-L : goal.len-requires-2-sync-L
len-requires-2-sync-L c κs = search sent depth 60 fits 20000

pub sync-requires-clause-leads : goal.sync-requires-clause-leads
sync-requires-clause-leads c =
    let is = formed (goal.at.sync-requires-clause-leads c).After-len-2 in
    inlays-lead c.requires.0 c.args.self.now c.args.rope c.args.inlays c.args.folds c.args.shift c.requires.1 is c.in_ok-next.next c.in_ok-next.ensures

pub sync-requires-clause-boundaries : goal.sync-requires-clause-boundaries
sync-requires-clause-boundaries c =
    let is = formed (goal.at.sync-requires-clause-boundaries c).After-len-2 in
    inlays-fit c.requires.0 c.args.self.now c.args.rope c.args.inlays c.args.folds c.args.shift c.requires.1 is c.in_ok-next.next c.in_ok-next.ensures

pub sync-requires-2-send-L : goal.sync-requires-2-send-L
sync-requires-2-send-L c κs = search sent depth 60 fits 20000

pub sync-requires-2-sync-L : goal.sync-requires-2-sync-L
sync-requires-2-sync-L c κs = search sent depth 60 fits 20000

pub sync-requires-2-clause-follows : goal.sync-requires-2-clause-follows
sync-requires-2-clause-follows c κs =
    let is = formed (goal.at.sync-requires-2-clause-follows c).After-len-2 in
    follows c.requires.0 c.args.self.now c.args.rope c.args.inlays c.args.folds c.args.shift c.requires.1 is c.in_ok-next.next c.in_ok-next.ensures
    (omega (arith, c.len.ensures.value, c.len.ensures.within)) c.in_ok-inlaid.inlaid c.in_ok-inlaid.below c.in_ok-inlaid.ensures.synced
    c.answer_laws.ensures.suffice c.in_ok-lower.lower c.in_ok-lower.ensures

pub unwrap-shown-requires : goal.unwrap-shown-requires
unwrap-shown-requires c =
    let is = formed (goal.at.unwrap-shown-requires c).After-len-2 in
    replaces c.requires.0 c.args.self.now c.args.rope c.args.inlays c.args.folds c.args.shift c.requires.1 is c.in_ok-next.next c.in_ok-next.ensures
    (omega (arith, c.len.ensures.value, c.len.ensures.within)) c.in_ok-inlaid.inlaid c.in_ok-inlaid.below c.in_ok-inlaid.ensures.synced
    c.answer_laws.ensures.suffice c.in_ok-lower.lower c.in_ok-lower.ensures c.in_ok-layer.layer c.in_ok-layer.answer c.in_ok-layer.ensures.synced c.answer_laws.ensures.meet

pub invariant_of-text : goal.invariant_of-text
invariant_of-text c =
    let is = formed (goal.at.invariant_of-text c).After-len-2 in
    subst (λ (p : InlayState × FoldState). IsLayered c.args.rope p.0 c.in_ok-inlaid.inlaid p.1 c.in_ok-layer.layer)
    (λ i. (sym c.in_ok-inlaid.ensures.ok i, sym c.in_ok-layer.ensures.ok i))
    (is-layered c.requires.0 c.args.self.now c.args.rope c.args.inlays c.args.folds c.args.shift c.requires.1 is c.in_ok-next.next c.in_ok-next.ensures
    (omega (arith, c.len.ensures.value, c.len.ensures.within)) c.in_ok-inlaid.inlaid c.in_ok-inlaid.below c.in_ok-inlaid.ensures.synced
    c.answer_laws.ensures.suffice c.in_ok-lower.lower c.in_ok-lower.ensures c.in_ok-layer.layer c.in_ok-layer.answer c.in_ok-layer.ensures.synced)

pub returns-clause-changed : goal.returns-clause-changed
returns-clause-changed c operation told =
    let is = formed (goal.at.returns-clause-changed c).After-len-2 in
    is-changed operation c.args.self.now c.args.rope c.args.inlays c.args.folds c.args.shift told is c.in_ok-next.next c.in_ok-next.ensures
    (omega (arith, c.len.ensures.value, c.len.ensures.within)) c.in_ok-inlaid.inlaid c.in_ok-inlaid.below c.in_ok-inlaid.ensures.synced
    c.answer_laws.ensures.suffice c.in_ok-lower.lower c.in_ok-lower.ensures c.in_ok-layer.layer c.in_ok-layer.answer c.in_ok-layer.ensures.synced
    c.answer_laws.ensures.meet c.answer_laws.ensures.follow c.unwrap-shown.result c.unwrap-shown.ensures

-- ---- steps

pub returns-in_err-next-clause-steps : goal.returns-in_err-next-clause-steps
returns-in_err-next-clause-steps c operation told = shows-none operation c.args.self.now c.args.steps.now

pub returns-in_err-inlaid-clause-steps : goal.returns-in_err-inlaid-clause-steps
returns-in_err-inlaid-clause-steps c operation told =
    shows-inlays operation c.args.self.now c.args.rope c.args.inlays c.args.folds c.args.shift told c.in_ok-next.next c.in_ok-next.ensures
    c.args.steps.now c.sync.new.steps c.sync.ensures.steps

pub returns-in_err-lower-clause-steps : goal.returns-in_err-lower-clause-steps
returns-in_err-lower-clause-steps c operation told =
    shows-inlays operation c.args.self.now c.args.rope c.args.inlays c.args.folds c.args.shift told c.in_ok-next.next c.in_ok-next.ensures
    c.args.steps.now c.sync.new.steps c.sync.ensures.steps

pub returns-in_err-layer-clause-steps : goal.returns-in_err-layer-clause-steps
returns-in_err-layer-clause-steps c operation told =
    let is = formed (goal.at.returns-in_err-layer-clause-steps c).After-len-2 in
    shows-both operation c.args.self.now c.args.rope c.args.inlays c.args.folds c.args.shift told c.in_ok-next.next c.in_ok-next.ensures is
    (omega (arith, c.len.ensures.value, c.len.ensures.within)) c.in_ok-inlaid.inlaid c.in_ok-inlaid.below c.in_ok-inlaid.ensures.synced
    c.answer_laws.ensures.suffice c.in_ok-lower.lower c.in_ok-lower.ensures
    c.met_laws.ensures.added c.met_laws.ensures.removed c.met_laws.ensures.replaced
    c.args.steps.now c.sync.new.steps c.sync-2.new.steps c.sync.ensures.steps c.sync-2.ensures.steps

pub returns-clause-steps : goal.returns-clause-steps
returns-clause-steps c operation told =
    let is = formed (goal.at.returns-clause-steps c).After-len-2 in
    shows-both operation c.args.self.now c.args.rope c.args.inlays c.args.folds c.args.shift told c.in_ok-next.next c.in_ok-next.ensures is
    (omega (arith, c.len.ensures.value, c.len.ensures.within)) c.in_ok-inlaid.inlaid c.in_ok-inlaid.below c.in_ok-inlaid.ensures.synced
    c.answer_laws.ensures.suffice c.in_ok-lower.lower c.in_ok-lower.ensures
    c.met_laws.ensures.added c.met_laws.ensures.removed c.met_laws.ensures.replaced
    c.args.steps.now c.sync.new.steps c.sync-2.new.steps c.sync.ensures.steps c.sync-2.ensures.steps
