-- Wrapping doesn't change why a question is refused.
use Rattle.std.proofs.Common.{◌∙◌}
use Rattle.display_session.proofs.Wrapping.{wrapped-refusal}
use Rattle.display_session.proofs.session.Session.ask_accepted.Goals as goal

pub answer_now-requires : goal.answer_now-requires
answer_now-requires c =
    wrapped-refusal c.args.self.now.display c.prepare.new.self.display c.args.query.now c.prepare.ensures.wrapped ∙ c.requires
