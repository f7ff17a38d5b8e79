use Rattle.splice_tree.proofs.LawProofs.{dont_fall, left_at_most_right, there_and_back}
use Rattle.splice_tree.proofs.Edges.{gaps_are_kept, inside}
use Rattle.splice_tree.proofs.Replacing.{before_stays, behind_moves, wider_gap_moves}
use Rattle.splice_tree.proofs.laws.splice_laws.Goals as goal

pub returns-clause-dont_fall : goal.returns-clause-dont_fall
returns-clause-dont_fall c = dont_fall

pub returns-clause-left_at_most_right : goal.returns-clause-left_at_most_right
returns-clause-left_at_most_right c = left_at_most_right

pub returns-clause-there_and_back : goal.returns-clause-there_and_back
returns-clause-there_and_back c = there_and_back

pub returns-clause-gaps : goal.returns-clause-gaps
returns-clause-gaps c = gaps_are_kept

pub returns-clause-edges : goal.returns-clause-edges
returns-clause-edges c = inside

pub returns-clause-before : goal.returns-clause-before
returns-clause-before c = before_stays

pub returns-clause-behind : goal.returns-clause-behind
returns-clause-behind c = behind_moves

pub returns-clause-gap : goal.returns-clause-gap
returns-clause-gap c = wider_gap_moves
