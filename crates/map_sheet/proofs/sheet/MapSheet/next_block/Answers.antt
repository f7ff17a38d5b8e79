use Rattle.std.proofs.Common.{◌≡◌, ◌+◌, ◌-◌, ℕ, [], ◌∷◌, ◌++◌, arith, subst}
use Rattle.plain_rows.specs.Plain.{block_of}
use Rattle.map_sheet.specs.Listed.{AreListed}
use Rattle.map_sheet.proofs.ListedBlocks.{above-pushed, above-there, below-pushed, below-there}
use Rattle.map_sheet.proofs.Sent.{sheet_sent}
use Rattle.map_sheet.proofs.sheet.MapSheet.next_block.Goals as goal

pub block_at-requires : goal.block_at-requires
block_at-requires c = above-there c.args.self.now c.args.above c.args.below c.in-Above.ensures.next

pub block_at-requires-in-Below : goal.block_at-requires-in-Below
block_at-requires-in-Below c = below-there c.args.self.now c.args.above c.args.below c.in-Below.ensures.next

pub returns-in_ok-block-in-Above-clause-next : goal.returns-in_ok-block-in-Above-clause-next
returns-in_ok-block-in-Above-clause-next c = λ listed are.
    let all = listed ++ block_of c.in_ok-block-in-Above.block ∷ [] in
    let rest : c.args.below ≡ c.args.above + c.args.below + 1 - (c.args.above + 1) = omega arith in
    subst (λ (n : ℕ). AreListed c.args.self.now (c.args.above + 1) n all) rest
    (above-pushed c.args.self.now c.lawful.ensures.lawful.entries c.args.above c.args.below listed are (block_of c.in_ok-block-in-Above.block) c.in-Above.ensures.next
    c.in_ok-block-in-Above.ensures.block)

pub returns-in_ok-block-in-Below-clause-next : goal.returns-in_ok-block-in-Below-clause-next
returns-in_ok-block-in-Below-clause-next c = λ listed are.
    let all = listed ++ block_of c.in_ok-block-in-Below.block ∷ [] in
    let rest : c.args.below + 1 ≡ c.args.above + c.args.below + 1 - c.args.above = omega arith in
    subst (λ (n : ℕ). AreListed c.args.self.now c.args.above n all) rest
    (below-pushed c.args.self.now c.lawful.ensures.lawful.entries c.args.above c.args.below listed are (block_of c.in_ok-block-in-Below.block) c.in-Below.ensures.next
    c.in_ok-block-in-Below.ensures.block)

pub len-count-requires-send-R : goal.len-count-requires-send-R
len-count-requires-send-R c κs = search sheet_sent depth 12 fits 4000

pub len-count-requires-sync-R : goal.len-count-requires-sync-R
len-count-requires-sync-R c κs = search sheet_sent depth 12 fits 4000
