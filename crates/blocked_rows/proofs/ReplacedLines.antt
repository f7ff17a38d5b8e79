-- Lines of rows of which some were replaced, each by one of one row, and the edit of rows that says so.
use Rattle.std.proofs.Common.{◌≡◌, ℕ, ◌+◌, ◌-◌, ◌<◌, ◌≤◌, ◌||◌, Bool, true, false, List, [], ◌∷◌, None, Some, length, take, drop, get_or, refl, sym, ap, subst, ◌∙◌, arith, inl, inr, length-append}
use Rattle.std.specs.Prelude.{nat_lt, if◌then◌else◌}
use Rattle.std.proofs.Math.Seq.{take-add}
use Rattle.std.proofs.lemmas.Bool.{cases_lt, lt-ltb, le-ltb}
use Rattle.std.proofs.lemmas.Grind.{flat_map-append}
use Rattle.std.proofs.lemmas.List.{get_or-drop, get_or-take, length-drop, take-take}
use Rattle.cell_units.specs.Rows.{all_rows, line_rows, rows_before}
use Rattle.edit_patch.specs.Came.{Came, IsReplaced, edit_of, origin_of}
use Rattle.edit_patch.specs.Fits.{replacement}
use Rattle.edit_patch.specs.Leads.{LeadsAt}
use Rattle.blocked_rows.specs.Records.{Lines}

-- ---- where rows come from

pub came-before : (a b n i : ℕ) → i < a → Came (replacement a b n) i i
came-before a b n i lt = go (nat_lt a b || nat_lt 0 n) where
  go : (c : Bool) → origin_of (if c then edit_of a b a (a + n) ∷ [] else []) i ≡ Some i
  go false = ap Some (omega arith)
  go true = ap (λ (c : Bool). if c then Some (0 + (i - 0)) else (if nat_lt i (a + n) then None else Some (b + (i - (a + n))))) (lt-ltb i a lt) ∙ ap Some (omega arith)

pub came-behind : (a b n i : ℕ) → a ≤ b → a + n ≤ i → Came (replacement a b n) i (b + (i - (a + n)))
came-behind a b n i order le = go (nat_lt a b || nat_lt 0 n) refl where
  go : (c : Bool) → (nat_lt a b || nat_lt 0 n) ≡ c → origin_of (if c then edit_of a b a (a + n) ∷ [] else []) i ≡ Some (b + (i - (a + n)))
  go false e = ap Some (omega (arith, le, order, none e)) where
    none : (nat_lt a b || nat_lt 0 n) ≡ false → (b ≤ a) × (n ≡ 0)
    none e = elim (cases_lt a b) [
      | inl lt ↦ absurd (let t = lt-ltb a b lt in cc)
      | inr ge ↦ elim (cases_lt 0 n) [
        | inl lt ↦ absurd (let t = lt-ltb 0 n lt in let u = le-ltb a b ge in cc)
        | inr z ↦ (ge, omega (arith, z))
      ]
    ]
  go true e = ap (λ (c : Bool). if c then Some (0 + (i - 0)) else (if nat_lt i (a + n) then None else Some (b + (i - (a + n))))) (le-ltb i a (omega (arith, le)))
      ∙ ap (λ (c : Bool). if c then None else Some (b + (i - (a + n)))) (le-ltb i (a + n) le)

-- a row from `a` up to `b` is replaced
pub is-replaced : (a b n i : ℕ) → a ≤ i → i < b → IsReplaced (replacement a b n) i
is-replaced a b n i from to =
    let some : (nat_lt a b || nat_lt 0 n) ≡ true = ap (λ (c : Bool). c || nat_lt 0 n) (lt-ltb a b (omega (arith, from, to))) in
    subst (λ (c : Bool). IsReplaced (if c then edit_of a b a (a + n) ∷ [] else []) i) (sym some) (0, edit_of a b a (a + n), omega arith, refl, (from, to))

-- ---- lines

module _ (old new : Lines) (a b n : ℕ) (order : a ≤ b) (leads : LeadsAt old new a b n) where
  -- lines before those that were replaced
  pub line-before : (i : ℕ) → i < a → line_rows new i ≡ line_rows old i
  line-before i lt = sym (get_or-take a new i [] lt) ∙ ap (λ (ls : Lines). get_or ls i []) leads.before ∙ get_or-take a old i [] lt

  pub start-before : (i : ℕ) → i ≤ a → rows_before new i ≡ rows_before old i
  start-before i le = ap (λ (ls : Lines). length (all_rows ls)) (sym (take-take i a new le) ∙ ap (take i) leads.before ∙ take-take i a old le)

  -- lines after them
  pub line-behind : (i : ℕ) → b ≤ i → line_rows new (a + n + (i - b)) ≡ line_rows old i
  line-behind i le =
      sym (get_or-drop (a + n) new (i - b) [])
      ∙ ap (λ (ls : Lines). get_or ls (i - b) []) leads.behind
      ∙ get_or-drop b old (i - b) []
      ∙ ap (line_rows old) (omega (arith, le))

  pub there-behind : (i : ℕ) → b ≤ i → i < length old → a + n + (i - b) < length new
  there-behind i le lt =
      omega (arith, ap (λ (ls : Lines). length ls) leads.behind, length-drop (a + n) new, length-drop b old, le, lt)

  rows-on : (ls : Lines) (i k : ℕ) → rows_before ls (i + k) ≡ rows_before ls i + length (all_rows (take k (drop i ls)))
  rows-on ls i k =
      ap (λ (xs : Lines). length (all_rows xs)) (take-add i k ls)
      ∙ ap length (flat_map-append (λ (rows : List (List ℕ)). rows) (take i ls) (take k (drop i ls)))
      ∙ length-append (all_rows (take i ls)) (all_rows (take k (drop i ls)))

  pub start-behind : (i : ℕ) → b ≤ i → rows_before new (a + n + (i - b)) + rows_before old b ≡ rows_before new (a + n) + rows_before old i
  start-behind i le =
      let k = i - b in
      let same : length (all_rows (take k (drop (a + n) new))) ≡ length (all_rows (take k (drop b old))) =
      ap (λ (ls : Lines). length (all_rows (take k ls))) leads.behind in
      let at : b + k ≡ i = omega (arith, le) in
      omega (arith, rows-on new (a + n) k, rows-on old b k, same, ap (rows_before old) at)
