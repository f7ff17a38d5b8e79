-- Views, versions and displays over the maps may go to another thread.
use denote.RattleType.{RattleType}
use denote.Param.Send.{IsSend, IsSync}
use Rattle.inlay_map.proofs.Sent.{sent}
use Rattle.map_sheet.specs.contracts.sheet.MapSheet as sheets
use Rattle.map_sheet.proofs.Sent.{sheet-send, sheet-sync, sheet_sent}
use Rattle.display_map.specs.contracts.outs.Out as outs
use Rattle.display_map.specs.contracts.display.DisplayOn as displays
use Rattle.display_map.specs.contracts.journal.Journal as journals
use Rattle.display_map.specs.contracts.view.ViewOn as views
use Rattle.display_map.specs.contracts.version.VersionOn as versions

pub journal-send : IsSend journals.the_row
journal-send = search sent depth 60 fits 20000

pub journal-sync : IsSync journals.the_row
journal-sync = search sent depth 60 fits 20000

abbrev pub view : RattleType
view = views.the_row sheets.the_row (record { kept = λ s. s })

pub view-send : IsSend view
view-send = search (sent, sheet-send, journal-send) depth 12 fits 20000

pub view-sync : IsSync view
view-sync = search (sent, sheet-sync, journal-sync) depth 12 fits 20000

abbrev pub version : RattleType
version = versions.the_row sheets.the_row (record { kept = λ s. s })

pub version-send : IsSend version
version-send = search (sent, view-send) depth 12 fits 20000

pub version-sync : IsSync version
version-sync = search (sent, view-sync) depth 12 fits 20000

pub outs-send : IsSend outs.the_row
outs-send = search sent depth 60 fits 20000

pub outs-sync : IsSync outs.the_row
outs-sync = search sent depth 60 fits 20000

abbrev pub display : RattleType
display = displays.the_row sheets.the_row (record { kept = λ s. s })

pub display-send : IsSend display
display-send = search (sent, sheet-send, journal-send, outs-send) depth 12 fits 20000

pub display-sync : IsSync display
display-sync = search (sent, sheet-sync, journal-sync, outs-sync) depth 12 fits 20000

-- all of these types and those of a sheet, as a set for `search`
pub ruleset display_sent = (sheet_sent, view-send, view-sync, version-send, version-sync, display-send, display-sync)
