use Rattle.std.proofs.Common.{◌≡◌, ◌∷◌, [], ◌++◌, List, length, take, drop, refl, sym, ap, ◌∙◌, arith}
use Rattle.std.proofs.lemmas.List.{take_at}
use Rattle.display_sheet.specs.Changes.{replacement}
use Rattle.display_sheet.specs.declared.change.Splice.{Splice}
use Rattle.display_map.specs.Events.{Event, Did}
use Rattle.display_map.specs.Splicing.{did_events}
use Rattle.display_map.proofs.DidEvents.{did-none, did-passed, did-pushed, room_for_one}
use Rattle.display_map.proofs.splicing.push_each.Goals as goal

begins : (old journal more : List Event) → journal ≡ old ++ more → take (length old) journal ≡ old
begins old journal more e = ap (take (length old)) e ∙ take_at old more (length old) refl

pub loop-i-init : goal.loop-i-init
loop-i-init c = did-none c.args.journal.now c.args.splices.now (length c.args.splices.now) refl

pub returns-in_err-copy-clause-begins : goal.returns-in_err-copy-clause-begins
returns-in_err-copy-clause-begins c = begins c.args.journal.now c.loop-i.journal (did_events (drop c.loop-i.i c.args.splices.now)) c.loop-i.invariant

pub push-requires : goal.push-requires
push-requires c =
    omega (
      arith,
      room_for_one c.args.journal.now c.loop-i.journal c.args.splices.now c.loop-i.i c.index-splices-i.result (omega arith) (omega arith) c.index-splices-i.is (sym c.is_operation.ensures.operation ∙ c.if-is_operation.true) c.loop-i.invariant,
      c.requires.room,
    )

pub loop-i-preserved-in_ok-push : goal.loop-i-preserved-in_ok-push
loop-i-preserved-in_ok-push c =
    did-pushed c.args.journal.now c.loop-i.journal c.push.new.self c.args.splices.now c.loop-i.i c.index-splices-i.result (omega arith) (omega arith) c.index-splices-i.is (sym c.is_operation.ensures.operation ∙ c.if-is_operation.true) c.loop-i.invariant
    (c.in_ok-push.ensures.appended ∙ ap (λ (s : Splice). c.loop-i.journal ++ Did (replacement s) ∷ []) c.in_ok-copy.ensures)

pub returns-in_err-push-clause-begins : goal.returns-in_err-push-clause-begins
returns-in_err-push-clause-begins c =
    begins c.args.journal.now c.push.new.self (did_events (drop c.loop-i.i c.args.splices.now)) (c.in_err-push.ensures.unchanged ∙ c.loop-i.invariant)

pub loop-i-preserved : goal.loop-i-preserved
loop-i-preserved c =
    did-passed c.args.journal.now c.loop-i.journal c.args.splices.now c.loop-i.i c.index-splices-i.result (omega arith) (omega arith) c.index-splices-i.is (sym c.is_operation.ensures.operation ∙ c.if-is_operation.false) c.loop-i.invariant

pub returns-clause-begins : goal.returns-clause-begins
returns-clause-begins c = begins c.args.journal.now c.loop-i.journal (did_events (drop c.loop-i.i c.args.splices.now)) c.loop-i.invariant
