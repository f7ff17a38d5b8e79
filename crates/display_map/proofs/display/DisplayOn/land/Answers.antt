use Rattle.std.proofs.Common.{◌≡◌, ℕ, eqb, not, List, [], ◌∷◌, ◌++◌, ap, sym, subst, ◌∙◌}
use Rattle.std.specs.List.{find, filter}
use Rattle.cell_line.specs.declared.element.Element.{Element}
use Rattle.cell_line.specs.declared.lines.Run.{Run}
use Rattle.plain_rows.specs.Reach.{LandsAtMost}
use Rattle.wrap_workers.specs.Jobs.{IsLawful, JobParts, places_of}
use Rattle.display_map.specs.Events.{Landed}
use Rattle.display_map.specs.Outs.{OutParts}
use Rattle.display_map.specs.Replay.{History, job_numbered, lines_landed_on, present_of, state_of}
use Rattle.display_map.specs.Sending.{IsOutstanding, seen_job}
use Rattle.display_map.specs.Works.{LinesFit, landing_lines, with_landed}
use Rattle.display_map.proofs.LandedWorks.{landing-kept, landing-takes, lines-fit}
use Rattle.display_map.proofs.display.DisplayOn.land.Goals as goal

pub landed-landed-requires-after_bounds : goal.landed-landed-requires-after_bounds
landed-landed-requires-after_bounds g c κs b =
    let d = c.self.inside in
    let r = g.S.Sheet.kept d.sheet in
    let elements = g.S.Held.Lines.elements_by_line in
    let h : History = record { opening = (g.S.Sheet.kept d.opening).text; events = d.journal } in
    let job = seen_job elements c.args.done.job in
    let same = ap (seen_job elements) c.job-job.ensures in
    let number : c.number-number.result ≡ job.number = c.number-number.ensures ∙ ap (λ j. j.number) same in
    let run : c.run-run.result ≡ job.run = c.run-run.ensures.value ∙ ap (λ j. j.run) same in
    let lines : elements c.lines-old.result.now ≡ job.lines = ap elements c.lines-old.ensures ∙ ap (λ j. j.lines) same in
    let lawful = subst (λ (j : JobParts (List (List Element))). IsLawful j.lines j.run j.width) same c.run-run.ensures.lawful in
    let out = subst (λ (h : History). IsOutstanding h job) (sym c.self.view_is) c.requires.sent in
    let wraps = places_of c.wraps-wraps.result.now in
    subst (λ (n : ℕ). LinesFit r (find (λ out. eqb out.number n) c.deref.result.now) (elements c.lines-old.result.now) c.run-run.result wraps) (sym number)
    (subst (λ (outs : List OutParts). LinesFit r (find (λ out. eqb out.number job.number) outs) (elements c.lines-old.result.now) c.run-run.result wraps) (sym c.deref.ensures.value)
    (subst (λ (es : List (List Element)). LinesFit r (find (λ out. eqb out.number job.number) d.outs.items) es c.run-run.result wraps) (sym lines)
    (subst (λ (n : Run). LinesFit r (find (λ out. eqb out.number job.number) d.outs.items) job.lines n wraps) (sym run)
    (lines-fit h r d.outs.items d.versions d.jobs d.first c.self.invariant.kept job out wraps c.wraps-wraps.ensures.cuts lawful.1))))

pub invariant_of-self-2 : goal.invariant_of-self-2
invariant_of-self-2 g c =
    let d = c.self.inside in
    let r = g.S.Sheet.kept d.sheet in
    let elements = g.S.Held.Lines.elements_by_line in
    let h : History = record { opening = (g.S.Sheet.kept d.opening).text; events = d.journal } in
    let job = seen_job elements c.args.done.job in
    let number : c.number-number.result ≡ job.number = c.number-number.ensures ∙ ap (λ j. j.number) (ap (seen_job elements) c.job-job.ensures) in
    let out = subst (λ (h : History). IsOutstanding h job) (sym c.self.view_is) c.requires.sent in
    landing-kept h r d.outs.items d.versions d.jobs d.first c.self.invariant.kept job out
    c.push.new.self (g.S.Sheet.kept c.in-Ok.landed) c.remove.new.outs.items c.self.invariant.short
    (c.in_default-push.ensures.appended ∙ ap (λ (n : ℕ). d.journal ++ Landed n ∷ []) number)
    (c.in-Ok.ensures.landed ∙ (λ i. with_landed r (find (λ out. eqb out.number (number i)) (c.deref.ensures.value i))))
    (c.remove.ensures ∙ (λ i. filter (λ out. not (eqb out.number (number i))) d.outs.items))

pub returns-in_default-clause-steps : goal.returns-in_default-clause-steps
returns-in_default-clause-steps g c =
    let d = c.self.inside in
    let r = g.S.Sheet.kept d.sheet in
    let elements = g.S.Held.Lines.elements_by_line in
    let h : History = record { opening = (g.S.Sheet.kept d.opening).text; events = d.journal } in
    let job = seen_job elements c.args.done.job in
    let same = ap (seen_job elements) c.job-job.ensures in
    let number : c.number-number.result ≡ job.number = c.number-number.ensures ∙ ap (λ j. j.number) same in
    let run : c.run-run.result ≡ job.run = c.run-run.ensures.value ∙ ap (λ j. j.run) same in
    let out = subst (λ (h : History). IsOutstanding h job) (sym c.self.view_is) c.requires.sent in
    let old = c.args.steps.now in
    let new = c.landed-landed.new.steps in
    subst (λ (h : History). LandsAtMost job.run.count (lines_landed_on (present_of h) (job_numbered job.number (state_of h).jobs)) (present_of h) old new) c.self.view_is
    (landing-takes h r d.outs.items d.versions d.jobs d.first c.self.invariant.kept job out job.run.count old new
    (subst (λ (n : ℕ). LandsAtMost job.run.count (landing_lines r (find (λ out. eqb out.number n) d.outs.items)) r old new) number
    (subst (λ (outs : List OutParts). LandsAtMost job.run.count (landing_lines r (find (λ out. eqb out.number c.number-number.result) outs)) r old new) c.deref.ensures.value
    (subst (λ (n : Run). LandsAtMost n.count (landing_lines r (find (λ out. eqb out.number c.number-number.result) c.deref.result.now)) r old new) run
    c.landed-landed.ensures.steps))))

pub returns-in-Err-clause-steps : goal.returns-in-Err-clause-steps
returns-in-Err-clause-steps g c =
    let d = c.self.inside in
    let r = g.S.Sheet.kept d.sheet in
    let elements = g.S.Held.Lines.elements_by_line in
    let h : History = record { opening = (g.S.Sheet.kept d.opening).text; events = d.journal } in
    let job = seen_job elements c.args.done.job in
    let same = ap (seen_job elements) c.job-job.ensures in
    let number : c.number-number.result ≡ job.number = c.number-number.ensures ∙ ap (λ j. j.number) same in
    let run : c.run-run.result ≡ job.run = c.run-run.ensures.value ∙ ap (λ j. j.run) same in
    let out = subst (λ (h : History). IsOutstanding h job) (sym c.self.view_is) c.requires.sent in
    let old = c.args.steps.now in
    let new = c.landed-landed.new.steps in
    subst (λ (h : History). LandsAtMost job.run.count (lines_landed_on (present_of h) (job_numbered job.number (state_of h).jobs)) (present_of h) old new) c.self.view_is
    (landing-takes h r d.outs.items d.versions d.jobs d.first c.self.invariant.kept job out job.run.count old new
    (subst (λ (n : ℕ). LandsAtMost job.run.count (landing_lines r (find (λ out. eqb out.number n) d.outs.items)) r old new) number
    (subst (λ (outs : List OutParts). LandsAtMost job.run.count (landing_lines r (find (λ out. eqb out.number c.number-number.result) outs)) r old new) c.deref.ensures.value
    (subst (λ (n : Run). LandsAtMost n.count (landing_lines r (find (λ out. eqb out.number c.number-number.result) c.deref.result.now)) r old new) run
    c.landed-landed.ensures.steps))))

pub returns-clause-steps : goal.returns-clause-steps
returns-clause-steps g c =
    let d = c.self.inside in
    let r = g.S.Sheet.kept d.sheet in
    let elements = g.S.Held.Lines.elements_by_line in
    let h : History = record { opening = (g.S.Sheet.kept d.opening).text; events = d.journal } in
    let job = seen_job elements c.args.done.job in
    let same = ap (seen_job elements) c.job-job.ensures in
    let number : c.number-number.result ≡ job.number = c.number-number.ensures ∙ ap (λ j. j.number) same in
    let run : c.run-run.result ≡ job.run = c.run-run.ensures.value ∙ ap (λ j. j.run) same in
    let out = subst (λ (h : History). IsOutstanding h job) (sym c.self.view_is) c.requires.sent in
    let old = c.args.steps.now in
    let new = c.landed-landed.new.steps in
    subst (λ (h : History). LandsAtMost job.run.count (lines_landed_on (present_of h) (job_numbered job.number (state_of h).jobs)) (present_of h) old new) c.self.view_is
    (landing-takes h r d.outs.items d.versions d.jobs d.first c.self.invariant.kept job out job.run.count old new
    (subst (λ (n : ℕ). LandsAtMost job.run.count (landing_lines r (find (λ out. eqb out.number n) d.outs.items)) r old new) number
    (subst (λ (outs : List OutParts). LandsAtMost job.run.count (landing_lines r (find (λ out. eqb out.number c.number-number.result) outs)) r old new) c.deref.ensures.value
    (subst (λ (n : Run). LandsAtMost n.count (landing_lines r (find (λ out. eqb out.number c.number-number.result) c.deref.result.now)) r old new) run
    c.landed-landed.ensures.steps))))
