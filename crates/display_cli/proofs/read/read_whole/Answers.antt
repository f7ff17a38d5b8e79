-- Turn after turn what was read is a front of what is told.
use Rattle.std.proofs.Common.{ℕ, List, length, Option, ap, subst, arith, length-append, length-take}
use Rattle.display_cli.specs.inside.Reading.{HasFront}
use Rattle.display_cli.proofs.NameRead.{counted-up-to, reads-once-more, up-to-more}
use Rattle.display_cli.proofs.read.read_whole.Goals as goal

pub returns-in_err-read_more-clause-reads : goal.returns-in_err-read_more-clause-reads
returns-in_err-read_more-clause-reads g c =
    reads-once-more c.args.part c.args.name.now c.args.limit (length c.loop-part.bytes.items) c.read_more.result (g.I.Inputs.state c.args.inputs.now)
    (g.I.Inputs.state c.loop-part.inputs) (g.I.Inputs.state c.read_more.new.inputs) c.loop-part.invariant.reads c.read_more.ensures.reads

pub returns-then-branch-eq0-clause-reads : goal.returns-then-branch-eq0-clause-reads
returns-then-branch-eq0-clause-reads g c =
    reads-once-more c.args.part c.args.name.now c.args.limit (length c.loop-part.bytes.items) c.read_more.result (g.I.Inputs.state c.args.inputs.now)
    (g.I.Inputs.state c.loop-part.inputs) (g.I.Inputs.state c.read_more.new.inputs) c.loop-part.invariant.reads c.read_more.ensures.reads

pub loop-part-preserved : goal.loop-part-preserved
loop-part-preserved g c =
    let P : Option (List ℕ) → Type 0 = λ told. HasFront told c.read_more.new.bytes.items in
    record {
      room = simp (length-take, length-append) (omega (arith, c.read_more.auto.room, c.as_mut_slice.ensures.len, ap length c.as_mut_slice.ensures.value, c.loop-part.invariant.room));
      within = c.in_ok-read_more.ensures.within;
      front = subst P (c.loop-part.invariant.reads.tells c.args.name.now) c.in_ok-read_more.ensures.front;
      reads = up-to-more c.args.part c.args.name.now c.args.limit (length c.loop-part.bytes.items) c.in_ok-read_more.field-0 (length c.read_more.new.bytes.items) c.read_more.result
          (g.I.Inputs.state c.args.inputs.now) (g.I.Inputs.state c.loop-part.inputs) (g.I.Inputs.state c.read_more.new.inputs)
          c.loop-part.invariant.reads c.read_more.ensures.reads c.in_ok-read_more.was c.in_ok-read_more.ensures.grows c.in_ok-read_more.ensures.passed;
    }

pub returns-then-branch-eq0-clause-counted : goal.returns-then-branch-eq0-clause-counted
returns-then-branch-eq0-clause-counted g c =
    counted-up-to c.args.part c.args.name.now c.args.limit (length c.read_more.new.bytes.items) (g.I.Inputs.state c.args.inputs.now) (g.I.Inputs.state c.read_more.new.inputs)
    (up-to-more c.args.part c.args.name.now c.args.limit (length c.loop-part.bytes.items) c.in_ok-read_more.field-0 (length c.read_more.new.bytes.items) c.read_more.result
    (g.I.Inputs.state c.args.inputs.now) (g.I.Inputs.state c.loop-part.inputs) (g.I.Inputs.state c.read_more.new.inputs)
    c.loop-part.invariant.reads c.read_more.ensures.reads c.in_ok-read_more.was c.in_ok-read_more.ensures.grows c.in_ok-read_more.ensures.passed)
