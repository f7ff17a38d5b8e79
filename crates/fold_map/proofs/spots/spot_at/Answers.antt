use Rattle.std.proofs.Common.{◌≡◌, ◌+◌, ◌-◌, min, nat_lt, ℕ, ap, sym, ◌∙◌, arith}
use Rattle.std.specs.List.{slice_get}
use Rattle.std.specs.Option.{option_copied}
use Rattle.fold_map.specs.declared.amount.Amount.{Amount}
use Rattle.fold_map.specs.Spots.{kept_of}
use Rattle.fold_map.proofs.spots.spot_at.Goals as goal
use Rattle.fold_map.proofs.spots.spot_at.Goals.{in-Some, in-None}

pub overflow_add-below : goal.overflow_add-below
overflow_add-below c =
    let f = c.find_upper-found in
    let ps = c.args.splices.now in
    let rest = c.args.place - f.result.before.upper.bytes in
    let kept : c.match-found.kept ≡ kept_of (slice_get ps f.result.index) rest =
    elim c.match-found.branch [
      | in-Some w ↦ w.kept-is ∙ w.min-kept.ensures ∙ ap (λ (a : Amount). min rest a.bytes) w.gap.ensures ∙ ap (λ x. kept_of x rest) (sym (ap option_copied w.in-Some.is) ∙ f.ensures.splice)
      | in-None w ↦ w.kept-is ∙ ap (λ x. kept_of x rest) (sym (ap option_copied w.in-None.is) ∙ f.ensures.splice)
    ] in
    let fits = c.requires (record { below = f.result.before.lower.bytes + c.match-found.kept; before = f.result.before; is_hidden = nat_lt c.match-found.kept rest })
    (record {
      index = f.result.index;
      first = f.ensures.first;
      before = f.ensures.before;
      below = ap (λ (k : ℕ). f.result.before.lower.bytes + k) kept;
      hidden = ap (λ (k : ℕ). nat_lt k rest) kept;
    }) in
    omega (arith, fits)

pub returns-clause-spot : goal.returns-clause-spot
returns-clause-spot c =
    let f = c.find_upper-found in
    let ps = c.args.splices.now in
    let rest = c.args.place - f.result.before.upper.bytes in
    let kept : c.match-found.kept ≡ kept_of (slice_get ps f.result.index) rest =
    elim c.match-found.branch [
      | in-Some w ↦ w.kept-is ∙ w.min-kept.ensures ∙ ap (λ (a : Amount). min rest a.bytes) w.gap.ensures ∙ ap (λ x. kept_of x rest) (sym (ap option_copied w.in-Some.is) ∙ f.ensures.splice)
      | in-None w ↦ w.kept-is ∙ ap (λ x. kept_of x rest) (sym (ap option_copied w.in-None.is) ∙ f.ensures.splice)
    ] in
    record {
      index = f.result.index;
      first = f.ensures.first;
      before = f.ensures.before;
      below = ap (λ (k : ℕ). f.result.before.lower.bytes + k) kept;
      hidden = ap (λ (k : ℕ). nat_lt k rest) kept;
    }
