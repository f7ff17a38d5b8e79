-- Drawing from a state: what is drawn, and the state after it.
use Rattle.std.specs.Prelude.{ℕ, ◌+◌, ◌*◌, ◌/◌, ◌%◌, ◌^◌, zero, suc, List, [], ◌∷◌}

-- what is drawn from a state, and the state after it
pub record Drawn (A : Type 0) : Type 0 where
  pub value : A
  pub state : ℕ

abbrev pub Drawing : Type 0 → Type 0
Drawing A = ℕ → Drawn A

-- a value for which nothing is drawn
abbrev pub give : {A : Type 0} → A → Drawing A
give value state = record { value = value; state = state }

infixl 1 ◌>>=◌
-- a drawing, and after it one that is given what the first one drew. `do` is written for it
abbrev pub ◌>>=◌ : {A B : Type 0} → Drawing A → (A → Drawing B) → Drawing B
◌>>=◌ first rest state = rest (first state).value (first state).state

-- the state after a draw
abbrev pub next : ℕ → ℕ
next state = (state * 6364136223846793005 + 1442695040888963407) % 2 ^ 64

-- a draw of a number below m
unfoldable pub draw : ℕ → Drawing ℕ
draw m state = record { value = (next state / 2 ^ 33) % m; state = next state }

-- the same drawing so many times, one after the other
unfoldable pub times : {A : Type 0} → ℕ → Drawing A → Drawing (List A)
times zero drawing = give []
times (suc n) drawing = do
  value ← drawing
  rest ← times n drawing
  give (value ∷ rest)
