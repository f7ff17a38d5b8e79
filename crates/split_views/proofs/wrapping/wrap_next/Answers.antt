use Rattle.std.proofs.Common.{◌≡◌, ℕ, ◌∷◌, [], ap, ◌∙◌, subst}
use Rattle.display_map.specs.Events.{Landed}
use Rattle.display_map.specs.Replay.{appended}
use Rattle.display_map.specs.Sending.{IsRunTakenOn, IsSent, seen_job}
use Rattle.split_views.proofs.Wraps.{begun-landed, idle-wrapped, on_err}
use Rattle.split_views.proofs.wrapping.wrap_next.Goals as goal

pub returns-in_err-publish-clause-begun : goal.returns-in_err-publish-clause-begun
returns-in_err-publish-clause-begun g c =
    let elements = g.S.Held.Lines.elements_by_line in
    let old = c.args.display.now in
    let out = c.take_run.new.self in
    let job = seen_job elements c.in-Some.job in
    let sent : IsSent old out job = subst (IsRunTakenOn elements old out) c.in-Some.is c.in_ok-job.ensures.taken in
    let number : c.in-Done.done.job.number ≡ job.number = ap (λ j. j.number) c.in-Done.ensures in
    let landed : c.land.new.self ≡ appended out (Landed job.number ∷ []) = c.in-Ok.ensures.landed ∙ ap (λ (n : ℕ). appended out (Landed n ∷ [])) number in
    on_err c.from_residual-in_err-publish.result
    (begun-landed old out c.land.new.self c.publish.new.self job sent landed c.in_err-publish.ensures.unchanged)

pub returns-clause-idle : goal.returns-clause-idle
returns-clause-idle g c =
    let elements = g.S.Held.Lines.elements_by_line in
    let old = c.args.display.now in
    let out = c.take_run.new.self in
    let job = seen_job elements c.in-Some.job in
    let sent : IsSent old out job = subst (IsRunTakenOn elements old out) c.in-Some.is c.in_ok-job.ensures.taken in
    let number : c.in-Done.done.job.number ≡ job.number = ap (λ j. j.number) c.in-Done.ensures in
    let landed : c.land.new.self ≡ appended out (Landed job.number ∷ []) = c.in-Ok.ensures.landed ∙ ap (λ (n : ℕ). appended out (Landed n ∷ [])) number in
    idle-wrapped old out c.land.new.self c.publish.new.self job sent landed c.in_ok-publish.ensures.published c.requires.idle
