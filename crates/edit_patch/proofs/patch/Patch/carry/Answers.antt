use Rattle.std.proofs.Common.{◌^◌, ◌<◌, ◌+◌, ◌-◌, ap, subst, sym, ◌∙◌, arith, rules}
use Rattle.std.specs.Prelude.{IfSome}
use Rattle.edit_patch.specs.Came.{carry_of}
use Rattle.edit_patch.proofs.Search.{rising_old, split, old_start, carry-first, carry-inside, carry-outside}
use Rattle.edit_patch.proofs.patch.Patch.carry.Goals as goal

pub returns-in-None : goal.returns-in-None
returns-in-None c =
    let s = split old_start _ c.args.old _ (rising_old _ c.edits-edits.ensures.normal) c.partition_point-begun.ensures.partitioned (λ a r q k. search rules) in
    sym (carry-first _ _ _ c.partition_point-begun.ensures.bound s (sym c.in-None.ensures.value)) ∙ ap (λ es. carry_of es c.args.old) c.edits-edits.ensures.value

pub returns-in-Some : goal.returns-in-Some
returns-in-Some c =
    let s = split old_start _ c.args.old _ (rising_old _ c.edits-edits.ensures.normal) c.partition_point-begun.ensures.partitioned (λ a r q k. search rules) in
    sym (carry-inside _ _ _ _ c.edits-edits.ensures.normal c.partition_point-begun.ensures.bound s (sym c.in-Some.ensures.value) c.if-old-last.true)
    ∙ ap (λ es. carry_of es c.args.old) c.edits-edits.ensures.value

pub returns-in-Some-2 : goal.returns-in-Some-2
returns-in-Some-2 c =
    let s = split old_start _ c.args.old _ (rising_old _ c.edits-edits.ensures.normal) c.partition_point-begun.ensures.partitioned (λ a r q k. search rules) in
    sym (carry-outside _ _ _ _ c.edits-edits.ensures.normal c.partition_point-begun.ensures.bound s (sym c.in-Some.ensures.value) c.if-old-last.false)
    ∙ ap (λ es. carry_of es c.args.old) c.edits-edits.ensures.value

pub overflow_add-result : goal.overflow_add-result
overflow_add-result c =
    let s = split old_start _ c.args.old _ (rising_old _ c.edits-edits.ensures.normal) c.partition_point-begun.ensures.partitioned (λ a r q k. search rules) in
    let g = carry-outside _ _ _ _ c.edits-edits.ensures.normal c.partition_point-begun.ensures.bound s (sym c.in-Some.ensures.value) c.if-old-last.false in
    let fits : c.in-Some.last.now.new_end + (c.args.old - c.in-Some.last.now.old_end) < 2 ^ 32 =
    subst (λ o. IfSome o (λ j. j < 2 ^ 32)) (ap (λ es. carry_of es c.args.old) (sym c.edits-edits.ensures.value) ∙ g) c.requires in
    omega arith
