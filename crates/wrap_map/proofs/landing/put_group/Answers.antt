use Rattle.std.proofs.Common.{◌≡◌, ◌-◌, take, ap, sym, ◌∙◌, arith}
use Rattle.wrap_map.specs.Stood.{put_in, rows_in}
use Rattle.wrap_map.specs.inside.Stretches.{spread}
use Rattle.wrap_map.proofs.StoodRows.{AreRound, group-round}
use Rattle.wrap_map.proofs.landing.put_group.Goals as goal
use Rattle.wrap_map.proofs.landing.put_group.Goals.{In_ok-rows}

round : (c : In_ok-rows) → AreRound c.args.before.now c.args.lines.now (put_in c.args.start c.args.end (spread c.args.fresh.items) c.args.lines.now) c.args.start c.args.end
round c = group-round c.args.before.now c.args.lines.now (spread c.args.fresh.items) c.args.start c.args.end c.requires.unlanded c.requires.group c.requires.within

pub overflow_sub-behind : goal.overflow_sub-behind
overflow_sub-behind c =
    let r = round (goal.at.overflow_sub-behind c).In_ok-rows in
    omega (arith, c.in_ok-rows.ensures.rows.end_is, c.rows-all.ensures, r.all)

pub overflow_sub-old_end : goal.overflow_sub-old_end
overflow_sub-old_end c =
    let r = round (goal.at.overflow_sub-old_end c).In_ok-rows in
    omega (arith, c.in_ok-rows.ensures.rows.end_is, c.rows-all.ensures, c.rows.ensures, r.all, r.first)

pub overflow_sub-result : goal.overflow_sub-result
overflow_sub-result c =
    let r = round (goal.at.overflow_sub-result c).In_ok-rows in
    omega (arith, c.in_ok-rows.ensures.rows.start_is, c.in_ok-rows.ensures.rows.end_is, r.order)

pub overflow_sub-result-2 : goal.overflow_sub-result-2
overflow_sub-result-2 c =
    let r = round (goal.at.overflow_sub-result-2 c).In_ok-rows in
    omega (arith, c.in_ok-rows.ensures.rows.start_is, c.in_ok-rows.ensures.rows.end_is, c.rows-all.ensures, c.rows.ensures, r.all, r.first, r.group, r.order)

pub overflow_sub-result-3 : goal.overflow_sub-result-3
overflow_sub-result-3 c =
    let r = round (goal.at.overflow_sub-result-3 c).In_ok-rows in
    omega (arith, c.in_ok-rows.ensures.rows.end_is, c.rows-all.ensures, c.rows-2.ensures, ap rows_in c.in_ok-rows.ensures.put, r.all, r.now)

pub returns-clause-edit : goal.returns-clause-edit
returns-clause-edit c =
    let r = round (goal.at.returns-clause-edit c).In_ok-rows in
    let start = c.args.start in
    let end = c.args.end in
    let before = c.args.before.now in
    let rows = c.in_ok-rows.rows in
    let put = c.in_ok-rows.ensures.put in
    let begins = c.in_ok-rows.ensures.rows.start_is in
    let ends = c.in_ok-rows.ensures.rows.end_is in
    let behind = c.rows-all.result - rows.end in
    let all = c.rows-all.ensures in
    let first = c.rows.ensures in
    let now = c.rows-2.ensures ∙ ap rows_in put in
    let old_end : c.rows.result - behind ≡ rows_in (take end before) = omega (arith, ends, all, first, r.all, r.first) in
    let old_start : c.rows.result - behind - (rows.end - rows.start) ≡ rows_in (take start before) =
    omega (arith, old_end, begins, ends, r.group, r.order) in
    let new_start : rows.start ≡ rows_in (take start c.put.new.self) = begins ∙ sym r.start_is ∙ ap (λ ls. rows_in (take start ls)) (sym put) in
    let new_end : c.rows-2.result - behind ≡ rows_in (take end c.put.new.self) =
    (let e : c.rows-2.result - behind ≡ rows_in (take end (put_in start end (spread c.args.fresh.items) c.args.lines.now)) =
    omega (arith, ends, all, now, r.all, r.now) in e) ∙ ap (λ ls. rows_in (take end ls)) (sym put) in
    λ i. record { old_start = old_start i; old_end = old_end i; new_start = new_start i; new_end = new_end i }
