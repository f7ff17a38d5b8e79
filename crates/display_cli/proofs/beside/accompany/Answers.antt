-- The workers of a team may work in another thread: what their closure captures may go there.
use denote.Exit.{no}
use denote.RattleType.{RattleType}
use denote.Ref.{MutRef, ShrRef}
use denote.Param.{param}
use denote.Param.Send.{IsSend, param_send, arg_send, mut_send, shr_send}
use denote.Param.SendFields.{as_row_send, declared_send}
use denote.Struct.Field.{row_field}
use denote.Struct.Tuple.{TupleAt, type_at}
use mir.Syntax.{named}
use Rattle.std.specs.Prelude.{codes, List, [], ◌∷◌}
use Rattle.std.proofs.Common.{rules}
use Rattle.std.proofs.Crossing.{crosses, sync}
use Rattle.std.specs.contracts.alloc.Global as heaps
use Rattle.std.specs.contracts.impls.GlobalAllocator.TheImpl.{ghosts}
use Rattle.std.specs.contracts.vec.Vec as vecs
use Rattle.map_sheet.proofs.Sent.{held, held-send}
use Rattle.wrap_workers.specs.contracts.worker.Worker as working
use Rattle.wrap_workers.proofs.worker.Worker.TheSendSync as worker
use Rattle.display_cli.proofs.beside.accompany.Lts as lts
use Rattle.display_cli.proofs.beside.accompany.Goals as goal

pub join_mut-requires-send-F : goal.join_mut-requires-send-F
join_mut-requires-send-F g c κs within =
    let ls = κs.1.1.1.1.1.1.1.1 in
    let team : RattleType = vecs.the_row (working.the_row held (record { elements_by_line = λ s. s })) heaps.the_row ghosts in
    let runtime : RattleType = ShrRef (named 8) ls.0 (param 0 g.row.R) in
    let heap : RattleType = ShrRef (named 9) ls.1.0 heaps.the_row in
    let gate : RattleType = ShrRef (named 10) ls.1.1.0 (param 1 g.row.G) in
    let workers : RattleType = MutRef (named 11) ls.1.1.1.0 team in
    let rows : List RattleType = runtime ∷ heap ∷ gate ∷ workers ∷ [] in
    let name = codes "display_cli::beside::fn::accompany::join_mut+arg2+Self" in
    let captured : IsSend (TupleAt name rows) = declared_send (type_at name rows) (
      as_row_send (row_field runtime) (shr_send _ _ (param 0 g.row.R) c.type_bounds.sync-R),
      (
        as_row_send (row_field heap) (shr_send _ _ heaps.the_row sync),
        (
          as_row_send (row_field gate) (shr_send _ _ (param 1 g.row.G) c.type_bounds.sync-G),
          (as_row_send (row_field workers) (mut_send _ _ team (search (crosses, worker.the_send, held-send) depth 12)), tt),
        ),
      ),
    ) in
    param_send 1 (lts.arg-0-1 g.row.R g.row.G g.R.laws g.G.laws g.R.Threads-dict g.R.Wait-dict g.G.Gate-dict κs)
    (arg_send _ no (TupleAt name rows) captured)
