-- An entry is at most one operation.
use Rattle.std.proofs.Common.{◌≡◌, ◌≤◌, List, length, reverse, sym, subst, arith, rules}
use Rattle.std.specs.Prelude.{filter}
use Rattle.std.proofs.lemmas.List.{length-map, length-reverse}
use Rattle.std.proofs.lemmas.List.Sums.{length-filter, count_by-le-length}
use Rattle.display_sheet.specs.declared.change.Change.{Change}
use Rattle.display_sheet.specs.declared.change.Splice.{Splice}
use Rattle.display_sheet.specs.Changes.{Edit, entries_in, operations_in, ops_of, parts_of, is_operation, replacement}
use Rattle.split_runner.proofs.changing.operations.Goals as goal

few-splices : (splices : List Splice) → length (operations_in (Edit splices)) ≤ length splices
few-splices splices =
    let some : List Splice = filter is_operation splices in
    let mapped = length-map (reverse some) replacement in
    let turned = length-reverse some in
    let filtered = length-filter is_operation splices in
    let few = count_by-le-length is_operation splices in
    omega arith

pub returns-in-Edit-clause-most : goal.returns-in-Edit-clause-most
returns-in-Edit-clause-most c =
    let P : Change → Type 0 = λ change. length (ops_of change) ≤ entries_in (parts_of change) in
    let few : length (ops_of c.args.change.now) ≤ entries_in (parts_of c.args.change.now) = subst P (sym c.in-Edit.is) (few-splices c.in-Edit.splices.items) in
    let all : entries_in (parts_of c.args.change.now) ≡ c.len.result = search rules in
    omega arith
