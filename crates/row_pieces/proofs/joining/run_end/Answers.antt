use Rattle.std.proofs.Common.{◌≡◌, ◌-◌, ℕ, true, sym, subst, inl, inr, ◌∙◌, arith}
use Rattle.std.proofs.lemmas.Bool.{cases_lt}
use Rattle.row_pieces.specs.Pieces.{is_one}
use Rattle.row_pieces.specs.inside.Runs.{kind_of}
use Rattle.row_pieces.proofs.Runs.{kind-read}
use Rattle.row_pieces.proofs.joining.run_end.Goals as goal

pub loop-at-preserved : goal.loop-at-preserved
loop-at-preserved c =
    let bits = c.args.bits.now in
    let at = c.loop-at.at in
    let before = kind-read bits (at - 1) c.index-bits-at.result (omega arith) in
    let after = kind-read bits at c.index-bits-at-in-loop-at.result (omega arith) in
    let here : is_one (kind_of bits (at - 1)) (kind_of bits at) ≡ true = (λ i. is_one (before i) (after i)) ∙ sym c.is_one.ensures ∙ c.if-not-is_one.false in
    record {
      from = omega arith;
      one = λ k lo hi. elim (cases_lt k at) [
        | inl less ↦ c.loop-at.invariant.one k lo less
        | inr ge ↦ let same : at ≡ k = omega (arith, hi, ge) in subst (λ (j : ℕ). is_one (kind_of bits (j - 1)) (kind_of bits j) ≡ true) same here
      ];
    }
