-- The writer with the display may go to another thread: what the closure that publishes captures may.
use denote.Exit.{no}
use denote.RattleType.{RattleType}
use denote.Ref.{MutRef, ShrRef}
use denote.Param.{param}
use denote.Param.Send.{IsSend, param_send, arg_send, mut_send, shr_send}
use denote.Param.SendFields.{as_row_send, declared_send}
use denote.Struct.Field.{row_field}
use denote.Struct.Tuple.{TupleAt, type_at}
use mir.Syntax.{named}
use Rattle.std.specs.Prelude.{codes, List, [], ◌∷◌}
use Rattle.std_heap.specs.contracts.Global as heaps
use Rattle.std.proofs.Crossing.{sync}
use Rattle.display_map.proofs.Sent.{display, display-send}
use Rattle.version_board.proofs.Sent.{writer-send}
use Rattle.version_board.specs.contracts.writer.Writer as writers
use Rattle.version_board.proofs.tests.beside.Lts as lts
use Rattle.version_board.proofs.tests.beside.Goals as goal

pub join_mut-published-requires-send-F : goal.join_mut-published-requires-send-F
join_mut-published-requires-send-F g c κs within =
    let ls = κs.1.1.1.1.1.1.1.1 in
    let runtime : RattleType = ShrRef (named 8) ls.0 (param 0 g.row.R) in
    let heap : RattleType = ShrRef (named 9) ls.1.0 heaps.the_row in
    let shown : RattleType = MutRef (named 10) ls.1.1.0 display in
    let writer : RattleType = MutRef (named 11) ls.1.1.1.0 writers.the_row in
    let rows : List RattleType = runtime ∷ heap ∷ shown ∷ writer ∷ [] in
    let name = codes "version_board::tests::fn::beside::join_mut+arg2+Self" in
    let captured : IsSend (TupleAt name rows) = declared_send (type_at name rows) (
      as_row_send (row_field runtime) (shr_send _ _ _ c.type_bounds.sync-R),
      (
        as_row_send (row_field heap) (shr_send _ _ _ sync),
        (as_row_send (row_field shown) (mut_send _ _ _ display-send), (as_row_send (row_field writer) (mut_send _ _ _ writer-send), tt)),
      ),
    ) in
    param_send 1 (lts.arg-3-1 g.row.R g.R.laws g.R.Threads-dict g.R.Wait-dict κs) (arg_send _ no (TupleAt name rows) captured)
