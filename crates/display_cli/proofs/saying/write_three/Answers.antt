-- A front of one of three pieces is a front of all, behind the pieces before it.
use Rattle.std.specs.Prelude.{Result, Ok, Err, OnErr}
use Rattle.std.proofs.Common.{◌++◌, ◌∙◌, [], append_assoc, append-nil}
use Rattle.script_runner.specs.Outside.{TakesFront}
use Rattle.script_runner.proofs.Fronts.{takes-more, front-behind}
use Rattle.script_runner.proofs.Results.{on-err}
use Rattle.display_cli.proofs.saying.write_three.Goals as goal

on_err_weaker : {A E : Type 0} (r : Result A E) (P Q : Type 0) → (P → Q) → OnErr r P → OnErr r Q
on_err_weaker (Ok x) P Q f h = h
on_err_weaker (Err e) P Q f h = f h

pub returns-in_err-write_piece-2-clause-front : goal.returns-in_err-write_piece-2-clause-front
returns-in_err-write_piece-2-clause-front g c =
    on-err c.from_residual-in_err-write_piece-2.result
    (TakesFront (c.args.first.now ++ (c.args.second.now ++ c.args.third.now)) (g.K.Sink.state c.args.out.now) (g.K.Sink.state c.write_piece-2.new.out))
    (front-behind _ (g.K.Sink.state c.write_piece.new.out) _ c.args.first.now c.args.second.now c.args.third.now _ c.in_ok-write_piece.ensures.written
    c.in_err-write_piece-2.ensures.front (append_assoc c.args.first.now c.args.second.now c.args.third.now))

pub returns-clause-front : goal.returns-clause-front
returns-clause-front g c =
    let first = c.args.first.now in
    let second = c.args.second.now in
    let third = c.args.third.now in
    on_err_weaker c.write_piece-3.result
    (TakesFront third (g.K.Sink.state c.write_piece-2.new.out) (g.K.Sink.state c.write_piece-3.new.out))
    (TakesFront (first ++ (second ++ third)) (g.K.Sink.state c.args.out.now) (g.K.Sink.state c.write_piece-3.new.out))
    (λ it. front-behind _ (g.K.Sink.state c.write_piece-2.new.out) _ (first ++ second) third [] _
    (takes-more _ (g.K.Sink.state c.write_piece.new.out) _ first second c.in_ok-write_piece.ensures.written c.in_ok-write_piece-2.ensures.written)
    it (append-nil ((first ++ second) ++ third) ∙ append_assoc first second third))
    c.write_piece-3.ensures.front
