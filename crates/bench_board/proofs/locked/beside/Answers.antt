-- The owner may publish in another thread: what its closure captures may go there.
use denote.Exit.{no}
use denote.RattleType.{RattleType}
use denote.Ref.{MutRef, ShrRef}
use denote.Param.{param}
use denote.Param.Send.{IsSend, IsSync, param_send, arg_send, mut_send, shr_send}
use denote.Param.SendFields.{as_row_send, declared_send}
use denote.Struct.Field.{row_field}
use denote.Struct.Field as fields
use denote.Struct.Tuple.{TupleAt, type_at}
use mir.Syntax.{named}
use Rattle.std.specs.Prelude.{codes, List, [], ◌∷◌}
use Rattle.std.proofs.Common.{rules}
use Rattle.std.proofs.Crossing.{crosses, sync}
use Rattle.std.specs.contracts.alloc.Global as heaps
use Rattle.std.specs.contracts.sync.atomic.AtomicU64 as atomics
use Rattle.std.specs.contracts.impls.GlobalAllocator.TheImpl.{ghosts}
use Rattle.std.specs.contracts.sync.Arc as shares
use Rattle.std.specs.contracts.sync.Mutex as locks
use Rattle.display_map.proofs.Sent.{display, display-send, version, version-send, version-sync}
use Rattle.bench_board.proofs.locked.beside.Lts as lts
use Rattle.bench_board.proofs.locked.beside.Goals as goal

pub join_mut-versions-requires-send-F : goal.join_mut-versions-requires-send-F
join_mut-versions-requires-send-F g c κs within =
    let ls = κs.1.1.1.1.1.1.1.1 in
    let runtime : RattleType = ShrRef (named 8) ls.0 (param 0 g.row.R) in
    let heap : RattleType = ShrRef (named 9) ls.1.0 heaps.the_row in
    let shown : RattleType = MutRef (named 10) ls.1.1.0 display in
    let lock : RattleType = locks.the_row (shares.the_row version heaps.the_row ghosts) in
    let newest : RattleType = ShrRef (named 11) ls.1.1.1.0 lock in
    let done : RattleType = ShrRef (named 12) ls.1.1.1.1.0 atomics.the_row in
    let count : RattleType = ShrRef (named 13) ls.1.1.1.1.1.0 fields.u64-field.row in
    let rows : List RattleType = runtime ∷ heap ∷ shown ∷ newest ∷ done ∷ count ∷ [] in
    let name = codes "bench_board::locked::fn::beside::join_mut+arg2+Self" in
    let captured : IsSend (TupleAt name rows) = declared_send (type_at name rows) (
      as_row_send (row_field runtime) (shr_send _ _ _ c.type_bounds.sync-R),
      (
        as_row_send (row_field heap) (shr_send _ _ _ sync),
        (
          as_row_send (row_field shown) (mut_send _ _ _ display-send),
          (
            as_row_send (row_field newest) (shr_send _ _ lock (search (crosses, rules, version-send, version-sync) depth 12)),
            (as_row_send (row_field done) (shr_send _ _ atomics.the_row (search (crosses, rules))), (as_row_send (row_field count) (shr_send _ _ fields.u64-field.row (search (crosses, rules))), tt)),
          ),
        ),
      ),
    ) in
    param_send 1 (lts.arg-2-1 g.row.R g.R.laws g.R.Threads-dict g.R.Wait-dict κs) (arg_send _ no (TupleAt name rows) captured)
