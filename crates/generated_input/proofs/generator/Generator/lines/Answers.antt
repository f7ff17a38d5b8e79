use Rattle.std.proofs.Common.{ℕ, List, string_bytes, refl, arith}
use Rattle.std.specs.List.{concat}
use Rattle.generated_input.specs.Made.{line, text_lines}
use Rattle.generated_input.proofs.Drawings.{leads_over_one, leads_to_end}
use Rattle.generated_input.proofs.generator.Generator.lines.Goals as goal

pub loop-preserved : goal.loop-preserved
loop-preserved c =
    leads_over_one (λ (n : ℕ) (lines : List (List ℕ)). concat lines) (λ (n : ℕ) (bytes : List ℕ). bytes) line c.args.count c.loop.counter (string_bytes c.args.out.now) c.args.self.now.state
    (string_bytes c.loop.out) c.loop.self.state (string_bytes c.line.new.out) c.line.new.self.state
    (λ value rest. refl) c.loop-test.true c.loop.invariant c.in_ok-line.ensures.written c.in_ok-line.ensures.state

pub returns-clause-written : goal.returns-clause-written
unfolding text_lines
returns-clause-written c =
    (leads_to_end (λ (n : ℕ) (lines : List (List ℕ)). concat lines) line c.args.count c.loop.counter (string_bytes c.args.out.now) c.args.self.now.state (string_bytes c.loop.out) c.loop.self.state
    (omega arith) refl c.loop.invariant).0

pub returns-clause-state : goal.returns-clause-state
unfolding text_lines
returns-clause-state c =
    (leads_to_end (λ (n : ℕ) (lines : List (List ℕ)). concat lines) line c.args.count c.loop.counter (string_bytes c.args.out.now) c.args.self.now.state (string_bytes c.loop.out) c.loop.self.state
    (omega arith) refl c.loop.invariant).1
