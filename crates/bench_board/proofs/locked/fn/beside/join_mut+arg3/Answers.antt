-- The readers look in other threads: what their closure captures may be shared among these.
use denote.Exit.{no}
use denote.RattleType.{RattleType}
use denote.Ref.{ShrRef}
use denote.Param.{param}
use denote.Param.Send.{IsSync, param_sync, arg_sync, shr_sync}
use denote.Param.SendFields.{as_row_sync, declared_sync}
use denote.Struct.Field.{row_field}
use denote.Struct.Field as fields
use denote.Struct.Tuple.{TupleAt, type_at}
use mir.Syntax.{named}
use Rattle.std.specs.Prelude.{codes, List, [], ◌∷◌}
use Rattle.std.proofs.Common.{rules}
use Rattle.std.proofs.Crossing.{crosses}
use Rattle.std.specs.contracts.alloc.Global as heaps
use Rattle.std.specs.contracts.impls.GlobalAllocator.TheImpl.{ghosts}
use Rattle.std.specs.contracts.sync.Arc as shares
use Rattle.std.specs.contracts.sync.Mutex as locks
use Rattle.std.specs.contracts.sync.atomic.AtomicU64 as atomics
use Rattle.display_map.proofs.Sent.{version, version-send, version-sync}
use Rattle.bench_board.proofs.locked.fn.beside.join_mut+arg3.Lts as lts
use Rattle.bench_board.proofs.locked.fn.beside.join_mut+arg3.Goals as goal

pub for_each_mut-requires-sync-F : goal.for_each_mut-requires-sync-F
for_each_mut-requires-sync-F g c κs within =
    let ls = κs.1.1.1.1.1.1 in
    let runtime : RattleType = ShrRef (named 6) ls.0 (param 0 g.row.R) in
    let lock : RattleType = locks.the_row (shares.the_row version heaps.the_row ghosts) in
    let newest : RattleType = ShrRef (named 7) ls.1.0 lock in
    let times : RattleType = ShrRef (named 8) ls.1.1.0 fields.u32-field.row in
    let done : RattleType = ShrRef (named 9) ls.1.1.1.0 atomics.the_row in
    let rows : List RattleType = runtime ∷ newest ∷ times ∷ done ∷ [] in
    let name = codes "bench_board::locked::fn::beside::fn::join_mut+arg3::for_each_mut+Self" in
    let captured : IsSync (TupleAt name rows) = declared_sync (type_at name rows) (
      as_row_sync (row_field runtime) (shr_sync _ _ (param 0 g.row.R) (search rules)),
      (
        as_row_sync (row_field newest) (shr_sync _ _ lock (search (crosses, rules, version-send, version-sync) depth 12)),
        (
          as_row_sync (row_field times) (shr_sync _ _ fields.u32-field.row (search (crosses, rules))),
          (as_row_sync (row_field done) (shr_sync _ _ atomics.the_row (search (crosses, rules))), tt),
        ),
      ),
    ) in
    param_sync 2 (lts.arg-1-2 g.row.R g.R.laws g.R.Threads-dict g.R.Wait-dict κs) (arg_sync _ no (TupleAt name rows) captured)
