-- What is kept from when a host asks for the changed rows until it asks again.
use Rattle.std.specs.Prelude.{ℕ, ◌==◌, ◌&&◌, ◌^◌, leb, ltb, Bool, true, length, take, drop, Option, Some, None, option_map}
use Rattle.plain_rows.specs.Rows.{rows_of}
use Rattle.display_map.specs.Replay.{History, present_of, state_of}
use Rattle.row_pieces.specs.declared.row_change.RowChange.{RowChange}
use Rattle.row_pieces.specs.Changed.{change, no_change}
use Rattle.view_changes.specs.Events.{covered}
use Rattle.display_session.specs.declared.watch.Watch.{Watch}

-- the history of the first events
abbrev pub earlier : History → ℕ → History
earlier h events = record { opening = h.opening; events = take events h.events }

-- what covers the rows that all later events replaced, in turn
abbrev pub changed_since : History → ℕ → RowChange
changed_since h events = covered no_change (drop events h.events) (state_of (earlier h events))

-- the rows that changed since a host last asked. Where it never did, no row makes place for all
abbrev pub changed_rows : History → Option ℕ → RowChange
changed_rows h None = change 0 0 (length (rows_of (present_of h)))
changed_rows h (Some events) = changed_since h events

-- after how many events a host last asked, if it did
abbrev pub asked_at : Option Watch → Option ℕ
asked_at watch = option_map (λ w. w.events) watch

abbrev pub is_same : RowChange → RowChange → Bool
is_same c d = (c.from == d.from) && (c.to == d.to) && (c.count == d.count)

-- a host asked after so many events, when the rows were as many as a u32 counts, and what is kept covers all that was
-- replaced since; or it never did
abbrev pub is_watched : History → Option Watch → Bool
is_watched h None = true
is_watched h (Some w) =
    leb w.events (length h.events)
    && ltb (length (rows_of (present_of (earlier h w.events)))) (2 ^ 32)
    && is_same w.replaced (changed_since h w.events)
