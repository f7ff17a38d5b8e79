-- The workers and the watchers may go to another thread: what their closure captures may.
use denote.Exit.{no}
use denote.RattleType.{RattleType}
use denote.Ref.{MutRef, ShrRef}
use denote.Param.{param}
use denote.Param.Send.{IsSend, param_send, arg_send, mut_send, shr_send}
use denote.Param.SendFields.{as_row_send, declared_send}
use denote.Struct.Field.{row_field}
use denote.Struct.Tuple.{TupleAt, type_at}
use mir.Syntax.{named}
use Rattle.std.specs.Prelude.{codes, List, [], ◌∷◌}
use Rattle.std.proofs.Common.{rules}
use Rattle.std.proofs.Crossing.{crosses, sync}
use Rattle.std.specs.contracts.alloc.Global as heaps
use Rattle.std.specs.contracts.impls.GlobalAllocator.TheImpl.{ghosts}
use Rattle.std.specs.contracts.vec.Vec as vecs
use Rattle.std.specs.contracts.sync.atomic.AtomicU64 as atomics
use Rattle.map_sheet.proofs.Sent.{held, held-send}
use Rattle.wrap_workers.specs.contracts.worker.Worker as working
use Rattle.wrap_workers.proofs.worker.Worker.TheSendSync as worker
use Rattle.board_watch.proofs.Sent.{watcher-send}
use Rattle.board_watch.specs.contracts.watcher.Watcher as watching
use Rattle.display_cli.proofs.beside.play_beside.Lts as lts
use Rattle.display_cli.proofs.beside.play_beside.Goals as goal

pub join_mut-left-requires-send-F : goal.join_mut-left-requires-send-F
join_mut-left-requires-send-F g c κs within =
    let ls = κs.1.1.1.1.1.1.1.1 in
    let team : RattleType = vecs.the_row (working.the_row held (record { elements_by_line = λ s. s })) heaps.the_row ghosts in
    let readers : RattleType = vecs.the_row watching.the_row heaps.the_row ghosts in
    let runtime : RattleType = ShrRef (named 8) ls.0 (param 0 g.row.R) in
    let heap : RattleType = ShrRef (named 9) ls.1.0 heaps.the_row in
    let gate : RattleType = ShrRef (named 10) ls.1.1.0 (param 1 g.row.G) in
    let workers : RattleType = MutRef (named 11) ls.1.1.1.0 team in
    let watchers : RattleType = MutRef (named 12) ls.1.1.1.1.0 readers in
    let flag : RattleType = ShrRef (named 13) ls.1.1.1.1.1.0 atomics.the_row in
    let rows : List RattleType = runtime ∷ heap ∷ gate ∷ workers ∷ watchers ∷ flag ∷ [] in
    let name = codes "display_cli::beside::fn::play_beside::join_mut+arg2+Self" in
    let captured : IsSend (TupleAt name rows) = declared_send (type_at name rows) (
      as_row_send (row_field runtime) (shr_send _ _ (param 0 g.row.R) c.type_bounds.sync-R),
      (
        as_row_send (row_field heap) (shr_send _ _ heaps.the_row sync),
        (
          as_row_send (row_field gate) (shr_send _ _ (param 1 g.row.G) c.type_bounds.sync-G),
          (
            as_row_send (row_field workers) (mut_send _ _ team (search (crosses, worker.the_send, held-send) depth 12)),
            (
              as_row_send (row_field watchers) (mut_send _ _ readers (search (crosses, watcher-send) depth 12)),
              (as_row_send (row_field flag) (shr_send _ _ atomics.the_row (search (crosses, rules))), tt),
            ),
          ),
        ),
      ),
    ) in
    param_send 1 (lts.arg-1-1 g.row.R g.row.G g.row.K g.R.laws g.G.laws g.K.laws g.R.Threads-dict g.R.Wait-dict g.G.Gate-dict g.K.Sink-dict κs)
    (arg_send _ no (TupleAt name rows) captured)
