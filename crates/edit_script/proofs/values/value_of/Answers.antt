-- What was read of a line is its value.
use Rattle.std.proofs.Common.{sym, true≢false}
use Rattle.serde_json.specs.View.{view}
use Rattle.edit_script.proofs.Lines.{value_of-read, value_of-unread}
use Rattle.edit_script.proofs.values.value_of.Goals as goal

pub returns-in-Ok : goal.returns-in-Ok
returns-in-Ok c = value_of-read c.args.line.now (view c.in-Ok.value) c.utf8.line c.in-Ok.ensures.ok

pub returns-else-is_memory : goal.returns-else-is_memory
returns-else-is_memory c =
    let f = c.if-is_memory.ensures in
    value_of-unread c.args.line.now (λ utf8. c.in-Err.ensures.err (λ m. true≢false (sym (f.1 m))))
