-- The text ends where a row past its last one is.
use Rattle.std.proofs.Common.{◌∙◌}
use Rattle.display_map.specs.Replay.{present_of}
use Rattle.display_session.proofs.Slices.{text-end}
use Rattle.display_session.proofs.text_parts.text_len.Goals as goal

pub returns : goal.returns
returns c = c.offset_of.ensures.value ∙ text-end (present_of c.args.view.now).text c.lawful.ensures.short
