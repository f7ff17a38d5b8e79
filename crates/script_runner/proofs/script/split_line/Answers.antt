-- A line ends at the first line feed, or with the script.
use Rattle.std.proofs.Common.{◌≡◌, ◌+◌, ◌-◌, ◌<◌, ◌≤◌, ℕ, List, [], ◌∷◌, length, take, drop, ap, ◌∙◌, sym, refl, length-take, arith, add-one}
use Rattle.std.proofs.lemmas.List.{take_all, length-drop}
use Rattle.std.proofs.lemmas.List.Quantifiers.{position-Some}
use Rattle.cell_units.specs.Text.{is_feed}
use Rattle.script_runner.specs.Entries.{script_lines}
use Rattle.script_runner.proofs.Played.{lines-at, lines-all}
use Rattle.script_runner.proofs.script.split_line.Goals as goal

empty : (xs : List ℕ) → length xs ≤ 0 → xs ≡ []
empty [] e = refl
empty (x ∷ xs) e = absurd (omega arith)

pub returns-in-Some-clause-lines : goal.returns-in-Some-clause-lines
returns-in-Some-clause-lines c =
    let xs : List ℕ = c.args.script.now in
    let end : ℕ = c.in-Some.end in
    let at = position-Some is_feed xs end 0 (sym c.in-Some.ensures) in
    let below : end < length xs = at.0 in
    let dropped = length-drop (end + 1) xs in
    let all : take (length xs - (end + 1)) (drop (end + 1) xs) ≡ drop (end + 1) xs = take_all (length xs - (end + 1)) (drop (end + 1) xs) (omega arith) in
    lines-at xs end at.0 at.1 at.2
    ∙ ap (λ l. take end xs ∷ script_lines l) (ap (λ k. drop k xs) (sym (add-one end)) ∙ sym all)

pub returns-in-None-clause-lines : goal.returns-in-None-clause-lines
returns-in-None-clause-lines c =
    let xs : List ℕ = c.args.script.now in
    let n : ℕ = length xs in
    let dropped = length-drop n xs in
    let rest : List ℕ = take (n - n) (drop n xs) in
    let none : rest ≡ [] = empty rest (simp (length-take, length-drop) (omega arith)) in
    lines-all xs c.requires (sym c.in-None.ensures) ∙ ap (λ l. xs ∷ script_lines l) (sym none)
