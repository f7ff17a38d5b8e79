-- How many rows changes of them lead from and to.
use Rattle.std.specs.Prelude.{ℕ, ◌≡◌, ◌+◌, ◌-◌, ◌<◌, ◌≤◌, ◌^◌}
use Rattle.row_pieces.specs.declared.row_change.RowChange.{RowChange}

-- the change leads from so many rows to so many
pub record LeadsTo (c : RowChange) (old new : ℕ) : Type 0 where
  pub order : c.from ≤ c.to
  pub within : c.to ≤ old
  pub room : c.from + c.count ≤ new
  pub others : new - (c.from + c.count) ≡ old - c.to

-- the second leads on from where the first led to, and the rows are at all times as many as a u32 counts
pub record LeadInTurn (c d : RowChange) : Type 0 where
  pub old : ℕ
  pub between : ℕ
  pub new : ℕ
  pub first : LeadsTo c old between
  pub then : LeadsTo d between new
  pub few : (old < 2 ^ 32) × (between < 2 ^ 32) × (new < 2 ^ 32)
