use Rattle.display_map.specs.Sending.{seen_job}
use Rattle.test_jobs.proofs.OutJobs.{all_stay, one_more, sent_stay}
use Rattle.test_jobs.proofs.play.send_next.Goals as goal

pub returns : goal.returns
returns g c =
    let elements = g.S.Held.Lines.elements_by_line in
    let before = c.args.display.now in
    let after = c.send_run.new.display in
    let out = c.args.out.now.items in
    let job = c.in_ok-job.job in
    let sent = c.in_ok-job.ensures in
    one_more elements after out c.push.new.self.items job c.in_ok-push.ensures.items
    (all_stay elements before after out (sent_stay before after (seen_job elements job) c.job_laws.ensures.stays sent) c.requires)
    (c.job_laws.ensures.sent before after (seen_job elements job) sent)
