use Rattle.std.proofs.Common.{◌∙◌, ◌+◌, ◌≤◌, ℕ, List, None, ap, sym, subst, arith}
use Rattle.cell_units.specs.Layers.{inlay_source}
use Rattle.inlay_map.specs.Bounds.{TakesInlaid, syncing}
use Rattle.inlay_map.specs.Maps.{InlayState, source_after, state_of, synced}
use Rattle.layered_text.proofs.text.LayeredText.opened.Goals as goal
use Rattle.layered_text.proofs.text.LayeredText.opened.Goals.{After-sync}

pub sync-requires-clause-leads : goal.sync-requires-clause-leads
sync-requires-clause-leads c =
    c.in_ok-next.ensures ∙ sym (ap (λ (m : InlayState). m.current.text) c.in_ok-inlays.ensures.ok ∙ c.in_ok-base.ensures)

pub unfolded-requires-clause-inlays : goal.unfolded-requires-clause-inlays
unfolded-requires-clause-inlays c =
    c.in_ok-inlaid.ensures.ok ∙ (λ i. synced (c.in_ok-next.ensures i) None (c.in_ok-inlays.ensures.ok i))

pub unfolded-requires-clause-inlaid : goal.unfolded-requires-clause-inlaid
unfolded-requires-clause-inlaid c =
    c.in_ok-inlaid.ensures.synced.made ∙ (λ i. source_after (c.in_ok-next.ensures i) None (c.in_ok-inlays.ensures.ok i).current)

-- ---- steps

-- the map of inlays shows them
synced-steps : (c : After-sync) → c.sync.new.steps ≤ c.new.new.steps + syncing 0 7
synced-steps c =
    let plain = c.in_ok-inlays.ensures.ok ∙ (λ i. state_of (c.in_ok-base.ensures i)) in
    let takes = subst (λ (p : InlayState × List ℕ). TakesInlaid (syncing 0) (inlay_source p.1 p.0.current.inlays) c.new.new.steps c.sync.new.steps)
    (λ i. (plain i, c.in_ok-next.ensures i)) c.sync.ensures.steps in
    takes 7 (omega (arith, c.len-len.ensures.value, c.len-len.ensures.within), omega arith)

pub returns-in_err-inlaid-clause-steps : goal.returns-in_err-inlaid-clause-steps
returns-in_err-inlaid-clause-steps c =
    omega (arith, c.new.ensures.steps, synced-steps (goal.at.returns-in_err-inlaid-clause-steps c).After-sync)

pub returns-clause-steps : goal.returns-clause-steps
returns-clause-steps c =
    omega (arith, c.new.ensures.steps, synced-steps (goal.at.returns-clause-steps c).After-sync, c.unfolded.ensures.steps)
