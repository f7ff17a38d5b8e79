-- A change sends and lands nothing.
use Rattle.std.specs.Prelude.{option_map}
use Rattle.wrap_workers.specs.Finishes.{job_of}
use Rattle.display_sheet.specs.Changes.{ops_of}
use Rattle.display_session.proofs.LoneDisplays.{applied}
use Rattle.display_session.proofs.lone.LoneDisplay.apply.Goals as goal

pub invariant_of-self : goal.invariant_of-self
invariant_of-self c =
    applied c.job_laws.ensures.over_operations c.self.inside.display c.apply.new.self (ops_of c.args.change.now) (option_map job_of c.self.inside.late)
    c.apply.result c.apply.ensures.done c.apply.ensures.unchanged c.self.invariant
