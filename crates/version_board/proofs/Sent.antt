-- What a board holds may go to another thread: its readers, its writer, and what that names.
use denote.RattleType.{RattleType}
use denote.Param.Send.{IsSend, IsSync, sendable}
use denote.Param.SendFields.{declared_send}
use Rattle.std_heap.specs.contracts.Global as heaps
use Rattle.std_heap.specs.contracts.GlobalAllocator.TheImpl.{ghosts}
use Rattle.std.proofs.Crossing.{crosses, send, frees, Deque-send}
use Rattle.logbook.proofs.tokens.Seen.TheSendSync as seen
use Rattle.logbook.proofs.word.Word.TheSendSync as words
use Rattle.crossbeam_utils.specs.declared.rule.Protocol as rules
use Rattle.atomic_table.specs.declared.shared.TableRule as table_rules
use Rattle.atomic_table.specs.contracts.owned.Table as tables
use Rattle.atomic_table.proofs.shared.Seat.TheSendSync as seats
use Rattle.atomic_table.proofs.shared.Shared.TheSendSync as shared
use Rattle.atomic_table.proofs.send_lease.SendLease.TheSendSync as leases
use Rattle.left_right.specs.declared.Absorb as absorbs
use Rattle.left_right.specs.contracts.reader.Factory as factories
use Rattle.left_right.specs.contracts.reader.Reader as places
use Rattle.left_right.specs.contracts.desk.Desk as sides
use Rattle.left_right.specs.contracts.writer.Writer as desks
use Rattle.left_right.proofs.part.Part.TheSendSync as parts
use Rattle.left_right.proofs.part.Deed.TheSendSync as deeds
use Rattle.display_map.proofs.Sent.{version-send, version-sync, display_sent}
use Rattle.version_board.specs.contracts.kept.Kept as kepts
use Rattle.version_board.specs.contracts.shown.Shown as shows
use Rattle.version_board.specs.contracts.reader.Reader as readers
use Rattle.version_board.specs.contracts.writer.Told as told
use Rattle.version_board.specs.contracts.writer.Writer as writers
use Rattle.version_board.specs.contracts.writer.Writer.TheInside as inside

-- ---- a share of a version

pub kept-send : IsSend kepts.the_row
kept-send = search (sendable, crosses, seen.the_send, version-send, version-sync) depth 12 fits 20000

pub kept-sync : IsSync kepts.the_row
kept-sync = search (sendable, crosses, seen.the_sync, version-send, version-sync) depth 12 fits 20000

pub told-send : IsSend told.the_row
told-send = search (sendable, kept-send) depth 12 fits 20000

pub told-sync : IsSync told.the_row
told-sync = search (sendable, kept-sync) depth 12 fits 20000

shown-send : IsSend shows.the_row
shown-send = search (sendable, kept-send) depth 12 fits 20000

shown-sync : IsSync shows.the_row
shown-sync = search (sendable, kept-sync) depth 12 fits 20000

-- ---- the table that the two ends share

table-send : (S V K P : RattleType) (g : table_rules.Ghosts P.Denot S.Denot V.Denot K.Denot) → IsSend S → IsSend (tables.the_row S V K P heaps.the_row g ghosts)
table-send S V K P g s = search (sendable, crosses, shared.the_send, leases.the_send) depth 60 fits 20000

table-sync : (S V K P : RattleType) (g : table_rules.Ghosts P.Denot S.Denot V.Denot K.Denot) → IsSend S → IsSync (tables.the_row S V K P heaps.the_row g ghosts)
table-sync S V K P g s = search (sendable, crosses, shared.the_sync, leases.the_sync) depth 60 fits 20000

factory-send : (T V P : RattleType) (g : rules.Ghosts P.Denot T.Denot V.Denot) → IsSync T → IsSend (factories.the_row T V P heaps.the_row g ghosts)
factory-send T V P g s = search (sendable, crosses, parts.the_send, table-send, table-sync) depth 12 fits 20000

place-send : (T V P : RattleType) (g : rules.Ghosts P.Denot T.Denot V.Denot) → IsSync T → IsSend (places.the_row T V P heaps.the_row g ghosts)
place-send T V P g s =
    declared_send (places.the_type T V P heaps.the_row g ghosts)
    (factory-send T V P g s, (search (sendable, crosses, seats.the_send, parts.the_send) depth 12, (search sendable, tt)))

side-send : (T V P : RattleType) (g : rules.Ghosts P.Denot T.Denot V.Denot) → IsSend T → IsSync T → IsSend (sides.the_row T V P heaps.the_row g ghosts)
side-send T V P g t s =
    declared_send (sides.the_type T V P heaps.the_row g ghosts) (
      factory-send T V P g s,
      (
        search (sendable, crosses, seats.the_send, parts.the_send) depth 12,
        (
          search sendable,
          (
            search sendable,
            (
              search (sendable, crosses) depth 12,
              (
                search (sendable, deeds.the_send T heaps.the_row ghosts t send frees) depth 12,
                (
                  search (sendable, parts.the_send T s) depth 12,
                  (search (sendable, deeds.the_send T heaps.the_row ghosts t send frees) depth 12, (search (sendable, parts.the_send T s) depth 12, tt)),
                ),
              ),
            ),
          ),
        ),
      ),
    )

desk-send : (T O V P Q : RattleType) (a : absorbs.Ghosts T.Denot O.Denot Q.Denot) (g : rules.Ghosts P.Denot T.Denot V.Denot)
    → IsSend T → IsSync T → IsSend O → IsSend (desks.the_row T O V P heaps.the_row Q a g ghosts)
desk-send T O V P Q a g t s o =
    declared_send (desks.the_type T O V P heaps.the_row Q a g ghosts)
    (side-send T V P g t s, (search (sendable, Deque-send O o) depth 12, (search sendable, (search sendable, tt))))

-- ---- the two ends

pub reader-send : IsSend readers.the_row
reader-send = search (sendable, crosses, kept-send, shown-sync, place-send) depth 12 fits 20000

writer_inside-send : IsSend inside.the_row
writer_inside-send =
    declared_send inside.the_type
    (search (sendable, kept-send, shown-send, shown-sync, desk-send) depth 12 fits 20000, (search (sendable, words.the_send) depth 12, (search (sendable, kept-send) depth 12, tt)))

pub writer-send : IsSend writers.the_row
writer-send = search (sendable, writer_inside-send) depth 12 fits 20000

-- all of these types and those of a display, as a set for `search`
pub ruleset board_sent = (display_sent, crosses, told-send, told-sync, reader-send, writer-send)
