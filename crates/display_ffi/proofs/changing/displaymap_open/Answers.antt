-- Each refusal of a text has a status of its own.
use Rattle.std.proofs.Common.{sym, ◌∙◌}
use Rattle.display_ffi.proofs.Statuses.{long_text, not_utf8_text}
use Rattle.display_ffi.proofs.changing.displaymap_open.Goals as goal

pub returns-in-Err-clause-long : goal.returns-in-Err-clause-long
returns-in-Err-clause-long c is = long_text c.args.text.now c.in-Err.fault c.in-Err.ensures.opened (sym c.text_status_of.ensures.value ∙ is)

pub returns-in-Err-clause-not_utf8 : goal.returns-in-Err-clause-not_utf8
returns-in-Err-clause-not_utf8 c is = not_utf8_text c.args.text.now c.in-Err.fault c.in-Err.ensures.opened (sym c.text_status_of.ensures.value ∙ is)
