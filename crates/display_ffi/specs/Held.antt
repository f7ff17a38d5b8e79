-- What a handle owns.
use Rattle.std.specs.Prelude.{Bool, true, false, Option, Some, None}
use base.Fml.{Fml, ftrue}
use denote.RawPtr.{Ptr}
use Rattle.std_alloc.specs.Box.Ownership.{box_owns}
use Rattle.std_heap.specs.declared.Global.{Global}
use Rattle.std_heap.specs.contracts.GlobalAllocator.TheImpl.{ghosts}
use Rattle.display_session.specs.declared.session.Session.{Session}
use Rattle.display_session.specs.contracts.session.Session as session

-- the allocator, of which there is one value
abbrev pub heap : Global
heap = record { memory = record { seal = tt } }

-- a session in a block of the heap, or nothing
abbrev pub holds : Ptr → Option Session → Fml
holds p None = ftrue
holds p (Some s) = box_owns (ghosts.dealloc_token heap) session.the_row p s

abbrev pub is_held : Option Session → Bool
is_held None = false
is_held (Some s) = true
