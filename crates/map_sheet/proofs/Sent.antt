-- What a sheet holds of a text, of its lines and of their rows may go to another thread.
use denote.RattleType.{RattleType}
use denote.Param.Send.{IsSend, IsSync, sendable}
use Rattle.inlay_map.specs.contracts.snapshot.InlaySnapshot as inlays
use Rattle.inlay_map.proofs.Sent.{sent}
use Rattle.fold_map.specs.contracts.snapshot.FoldSnapshot as folds
use Rattle.fold_map.proofs.amount.Amount.TheSendSync as amount
use Rattle.text_rope.specs.contracts.rope.Rope as ropes
use Rattle.inlay_map.specs.contracts.inlay_map.InlayMap as inlaying
use Rattle.fold_map.specs.contracts.fold_map.FoldMap as folding
use Rattle.layered_text.specs.contracts.text.LayeredText as layered
use Rattle.tab_map.specs.contracts.snapshot.TabSnapshot as tabs
use Rattle.wrap_map.specs.contracts.map.WrapMap as wrapping
use Rattle.wrapped_lines.specs.contracts.lines.WrappedLines as lines
use Rattle.block_map.specs.contracts.snapshot.BlockSnapshot as between
use Rattle.block_map.specs.contracts.block_map.BlockMap as blocking
use Rattle.block_map.specs.contracts.block_marks.BlockMarks as marks
use Rattle.block_map.specs.contracts.block_side.BlockSide as sides
use Rattle.block_map.proofs.row_count.RowCount.TheSendSync as row_count
use Rattle.block_map.proofs.block_lines.BlockLines.TheSendSync as block_lines
use Rattle.blocked_rows.specs.contracts.blocked_rows.BlockedRows as blocks
use Rattle.map_sheet.specs.contracts.sheet.MapSheet as sheets
use Rattle.wrap_map.specs.contracts.snapshot.WrapSnapshot as wraps
use Rattle.wrap_map.specs.Standing.{shown_rows}
use Rattle.wrap_map.proofs.extent.Extent.TheSendSync as extent
use Rattle.wrap_map.proofs.stretch.Stretch.TheSendSync as stretch

-- ---- a text with its inlays and folds

abbrev pub layer : RattleType
layer = folds.the_row inlays.the_row (record { source = λ s. s })

pub inlay-send : IsSend inlays.the_row
inlay-send = search sent depth 60 fits 20000

pub inlay-sync : IsSync inlays.the_row
inlay-sync = search sent depth 60 fits 20000

pub layer-send : IsSend layer
layer-send = search (sent, amount.the_send, amount.the_sync, inlay-send) depth 60 fits 20000

pub layer-sync : IsSync layer
layer-sync = search (sent, amount.the_send, amount.the_sync, inlay-sync) depth 60 fits 20000

-- ---- its lines

abbrev pub held : RattleType
held = tabs.the_row layer (record { source = λ s. s })

pub held-send : IsSend held
held-send = search (sent, layer-send) depth 60 fits 20000

pub held-sync : IsSync held
held-sync = search (sent, layer-sync) depth 60 fits 20000

-- ---- their rows

abbrev pub rows : RattleType
rows = wraps.the_row held (record { elements_by_line = λ s. s })

pub rows-send : IsSend rows
rows-send = search (sent, stretch.the_send, stretch.the_sync, extent.the_send, extent.the_sync, held-send) depth 60 fits 20000

pub rows-sync : IsSync rows
rows-sync = search (sent, stretch.the_send, stretch.the_sync, extent.the_send, extent.the_sync, held-sync) depth 60 fits 20000

-- ---- the text with its maps

pub rope-send : IsSend ropes.the_row
rope-send = search sent depth 60 fits 20000

pub rope-sync : IsSync ropes.the_row
rope-sync = search sent depth 60 fits 20000

pub inlaying-send : IsSend inlaying.the_row
inlaying-send = search (sent, inlay-send) depth 60 fits 20000

pub inlaying-sync : IsSync inlaying.the_row
inlaying-sync = search (sent, inlay-sync) depth 60 fits 20000

abbrev pub fold_map : RattleType
fold_map = folding.the_row inlays.the_row (record { source = λ s. s })

pub folding-send : IsSend fold_map
folding-send = search (sent, layer-send) depth 60 fits 20000

pub folding-sync : IsSync fold_map
folding-sync = search (sent, layer-sync) depth 60 fits 20000

pub text-send : IsSend layered.the_row
text-send = search (sent, rope-send, inlaying-send, inlay-send, folding-send, layer-send) depth 12 fits 20000

pub text-sync : IsSync layered.the_row
text-sync = search (sent, rope-sync, inlaying-sync, inlay-sync, folding-sync, layer-sync) depth 12 fits 20000

-- ---- the lines as they are wrapped

abbrev pub wrap_map : RattleType
wrap_map = wrapping.the_row held (record { elements_by_line = λ s. s })

pub wrapping-send : IsSend wrap_map
wrapping-send = search (sent, stretch.the_send, stretch.the_sync, extent.the_send, extent.the_sync, held-send) depth 60 fits 20000

pub wrapping-sync : IsSync wrap_map
wrapping-sync = search (sent, stretch.the_send, stretch.the_sync, extent.the_send, extent.the_sync, held-sync) depth 60 fits 20000

abbrev pub wrapped : RattleType
wrapped = lines.the_row layer (record { source = λ s. s })

pub wrapped-send : IsSend wrapped
wrapped-send = search (sent, layer-send, held-send, wrapping-send, rows-send) depth 12 fits 20000

pub wrapped-sync : IsSync wrapped
wrapped-sync = search (sent, layer-sync, held-sync, wrapping-sync, rows-sync) depth 12 fits 20000

-- ---- the blocks between their rows

abbrev pub stops : RattleType
stops = between.the_row rows (record { shown = shown_rows })

pub stops-send : IsSend stops
stops-send = search (sent, row_count.the_send, row_count.the_sync, block_lines.the_send, block_lines.the_sync, rows-send) depth 60 fits 20000

pub stops-sync : IsSync stops
stops-sync = search (sent, row_count.the_send, row_count.the_sync, block_lines.the_send, block_lines.the_sync, rows-sync) depth 60 fits 20000

pub marks-send : IsSend marks.the_row
marks-send = search (sent, block_lines.the_send, block_lines.the_sync) depth 60 fits 20000

pub marks-sync : IsSync marks.the_row
marks-sync = search (sent, block_lines.the_send, block_lines.the_sync) depth 60 fits 20000

pub side-send : IsSend sides.the_row
side-send = search (sent, row_count.the_send, row_count.the_sync, block_lines.the_send, block_lines.the_sync, marks-send) depth 60 fits 20000

pub side-sync : IsSync sides.the_row
side-sync = search (sent, row_count.the_send, row_count.the_sync, block_lines.the_send, block_lines.the_sync, marks-sync) depth 60 fits 20000

abbrev pub block_map : RattleType
block_map = blocking.the_row rows (record { shown = shown_rows })

pub blocking-send : IsSend block_map
blocking-send = search (sent, side-send, rows-send) depth 12 fits 20000

pub blocking-sync : IsSync block_map
blocking-sync = search (sent, side-sync, rows-sync) depth 12 fits 20000

abbrev pub blocked : RattleType
blocked = blocks.the_row rows (record { shown = shown_rows })

pub blocked-send : IsSend blocked
blocked-send = search (sent, rows-send, blocking-send, stops-send) depth 12 fits 20000

pub blocked-sync : IsSync blocked
blocked-sync = search (sent, rows-sync, blocking-sync, stops-sync) depth 12 fits 20000

-- ---- the sheet

pub sheet-send : IsSend sheets.the_row
sheet-send = search (sent, text-send, text-sync, wrapped-send, wrapped-sync, blocked-send, blocked-sync) depth 12 fits 20000

pub sheet-sync : IsSync sheets.the_row
sheet-sync = search (sent, text-send, text-sync, wrapped-send, wrapped-sync, blocked-send, blocked-sync) depth 12 fits 20000

-- all of these types, as a set for `search`
pub ruleset sheet_sent = (sendable, inlay-send, inlay-sync, layer-send, layer-sync, held-send, held-sync, rows-send, rows-sync, sheet-send, sheet-sync)
