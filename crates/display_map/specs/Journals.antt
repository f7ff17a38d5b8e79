-- How a journal keeps its events, in chunks.
use Rattle.std.specs.Prelude.{ℕ, ◌≤◌, List, [], length, Option, Some, None}
use Rattle.std.specs.declared.sync.Arc.{Arc}
use Rattle.std.specs.declared.vec.Vec.{Vec}
use Rattle.std.specs.Arc.{arc_value}
use Rattle.display_sheet.specs.Chunks.{AreChunks, joined}
use Rattle.display_map.specs.Events.{Event}
use Rattle.display_map.specs.declared.journal.TheConstants.{CHUNK}

-- the chunks that are shared, if there are any
abbrev pub kept_chunks : {Z : Type 0} → Option (Arc (Vec (List Event) Z) Z) → List (List Event)
kept_chunks None = []
kept_chunks (Some chunks) = (arc_value chunks).items

-- events in chunks, at least so many
pub record KeepsEvents (len : ℕ) (chunks : List (List Event)) : Type 0 where
  pub full : AreChunks CHUNK chunks
  pub long : len ≤ length (joined chunks)
