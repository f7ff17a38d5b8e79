-- Handles.
use Rattle.std.specs.Prelude.{◌≡◌}
use Rattle.display_ffi.specs.Held.{is_held}
use Rattle.display_ffi.specs.declared.handle.Handle.{Handle}

-- a handle is open exactly where it holds a session
abbrev pub IsHandle : Handle → Type 0
IsHandle handle = handle.open ≡ is_held handle.kept.session
