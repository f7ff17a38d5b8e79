use Rattle.std.proofs.Common.{◌^◌, ◌<◌, ◌+◌, ◌-◌, ap, subst, sym, ◌∙◌, arith, rules}
use Rattle.std.specs.Prelude.{IfSome}
use Rattle.edit_patch.specs.Came.{origin_of}
use Rattle.edit_patch.proofs.Search.{rising, split, new_start, origin-first, origin-inside, origin-outside}
use Rattle.edit_patch.proofs.patch.Patch.origin.Goals as goal

pub returns-in-None : goal.returns-in-None
returns-in-None c =
    let s = split new_start _ c.args.new _ (rising _ c.edits-edits.ensures.normal) c.partition_point-begun.ensures.partitioned (λ a r q k. search rules) in
    sym (origin-first _ _ _ c.partition_point-begun.ensures.bound s (sym c.in-None.ensures.value)) ∙ ap (λ es. origin_of es c.args.new) c.edits-edits.ensures.value

pub returns-in-Some : goal.returns-in-Some
returns-in-Some c =
    let s = split new_start _ c.args.new _ (rising _ c.edits-edits.ensures.normal) c.partition_point-begun.ensures.partitioned (λ a r q k. search rules) in
    sym (origin-inside _ _ _ _ c.edits-edits.ensures.normal c.partition_point-begun.ensures.bound s (sym c.in-Some.ensures.value) c.if-new-last.true)
    ∙ ap (λ es. origin_of es c.args.new) c.edits-edits.ensures.value

pub returns-in-Some-2 : goal.returns-in-Some-2
returns-in-Some-2 c =
    let s = split new_start _ c.args.new _ (rising _ c.edits-edits.ensures.normal) c.partition_point-begun.ensures.partitioned (λ a r q k. search rules) in
    sym (origin-outside _ _ _ _ c.edits-edits.ensures.normal c.partition_point-begun.ensures.bound s (sym c.in-Some.ensures.value) c.if-new-last.false)
    ∙ ap (λ es. origin_of es c.args.new) c.edits-edits.ensures.value

pub overflow_add-result : goal.overflow_add-result
overflow_add-result c =
    let s = split new_start _ c.args.new _ (rising _ c.edits-edits.ensures.normal) c.partition_point-begun.ensures.partitioned (λ a r q k. search rules) in
    let g = origin-outside _ _ _ _ c.edits-edits.ensures.normal c.partition_point-begun.ensures.bound s (sym c.in-Some.ensures.value) c.if-new-last.false in
    let fits : c.in-Some.last.now.old_end + (c.args.new - c.in-Some.last.now.new_end) < 2 ^ 32 = subst (λ o. IfSome o (λ j. j < 2 ^ 32)) (ap (λ es. origin_of es c.args.new) (sym c.edits-edits.ensures.value) ∙ g) c.requires in
    omega arith
