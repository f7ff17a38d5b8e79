-- Nothing happened but that lines were wrapped, and what they replaced is covered.
use Rattle.std.proofs.Common.{◌≡◌, true}
use Rattle.display_session.specs.Watches.{asked_at, is_watched}
use Rattle.display_session.specs.Wrapping.{IsWrapped}
use Rattle.display_session.proofs.lone.LoneDisplay.wrap.Given as goal

abbrev pub invariant-loop : goal.invariant-loop
invariant-loop l = record {
  wrapped : IsWrapped l.initial.self l.self;
  watched : is_watched l.self l.watch ≡ true;
  asked : asked_at l.watch ≡ asked_at l.initial.watch;
}
