use Rattle.std.proofs.Common.{sym, ◌∙◌, ap, not, arith}
use Rattle.display_sheet.specs.Sheets.{marks_in}
use Rattle.kept_sheet.proofs.Waits.{differs, long, past, stands}
use Rattle.kept_sheet.proofs.plain.waits.Goals as goal

pub returns-then-line-len : goal.returns-then-line-len
returns-then-line-len c =
    sym (past (marks_in c.args.wraps.now) c.args.width c.args.out.now c.args.line (omega (arith, c.if-line-len.true, c.len.ensures, long c.args.wraps.now)))

pub returns-then-get-width : goal.returns-then-get-width
returns-then-get-width c =
    sym (stands c.args.wraps.now c.args.width c.args.out.now c.args.line c.get.result (omega (arith, c.if-line-len.false, c.len.ensures)) c.get.ensures c.if-get-width.true)

pub returns : goal.returns
returns c =
    ap not c.is_out.ensures
    ∙ sym (differs c.args.wraps.now c.args.width c.args.out.now c.args.line c.get.result (omega (arith, c.if-line-len.false, c.len.ensures)) c.get.ensures c.if-get-width.false)
