-- How a text is cleaned from carriage return to carriage return.
use Rattle.std.proofs.Common.{◌≡◌, ◌≢◌, ℕ, ◌<◌, ◌==◌, ◌&&◌, Bool, true, false, if◌then◌else◌, List, [], ◌∷◌, ◌++◌, suc, length, map, length-append, ◌≤◌, get_or, refl, ap, sym, ◌∙◌, subst, arith}
use Rattle.std.proofs.lemmas.Bool.{eqb-true}
use Rattle.std.proofs.lemmas.Bool.Decides.{nat_tests}
use Rattle.cell_units.specs.Text.{begins_with_feed, carriage_return, clean, line_feed, without_returns_before_feeds}
use Rattle.std.proofs.lemmas.List.{length-map}
use Rattle.std.proofs.lemmas.List.Elements.{All-from_get_or}
use Rattle.cell_units.specs.Laws.{HasNoReturn}
use Rattle.cell_units.proofs.TextLaws.{fed}

-- a prefix without carriage returns is clean
pub clean-front : (front rest : List ℕ) → HasNoReturn front → clean (front ++ rest) ≡ front ++ clean rest
clean-front [] rest none = refl
clean-front (b ∷ bs) rest none =
    let off : (b == carriage_return) ≡ false = grind (arith, nat_tests, none 0 b (omega arith)) in
    let tail : clean (bs ++ rest) ≡ bs ++ clean rest = clean-front bs rest (λ k d h. none (suc k) d (omega (arith, h))) in
    subst (λ (t : Bool). map fed (if t && begins_with_feed (bs ++ rest) then without_returns_before_feeds (bs ++ rest) else b ∷ without_returns_before_feeds (bs ++ rest)) ≡ b ∷ (bs ++ clean rest)) (sym off)
    (subst (λ (t : Bool). (if t then line_feed else b) ∷ clean (bs ++ rest) ≡ b ∷ (bs ++ clean rest)) (sym off) (ap (λ (l : List ℕ). b ∷ l) tail))

pub clean-return_feed : (rest : List ℕ) → clean (13 ∷ 10 ∷ rest) ≡ 10 ∷ clean rest
clean-return_feed rest = refl

pub clean-return : (rest : List ℕ) → ((more : List ℕ) → rest ≢ 10 ∷ more) → clean (13 ∷ rest) ≡ 10 ∷ clean rest
clean-return [] other = refl
clean-return (b ∷ bs) other = by_byte (b == line_feed) refl where
  by_byte : (t : Bool) → (b == line_feed) ≡ t → clean (13 ∷ b ∷ bs) ≡ 10 ∷ clean (b ∷ bs)
  by_byte true e = absurd (other bs (ap (λ (x : ℕ). x ∷ bs) (eqb-true b 10 e)))
  by_byte false e = subst (λ (t : Bool). map fed (if t then without_returns_before_feeds (b ∷ bs) else 13 ∷ without_returns_before_feeds (b ∷ bs)) ≡ 10 ∷ clean (b ∷ bs)) (sym e) refl

no_return-at : (bytes : List ℕ) → ((i : ℕ) → i < length bytes → get_or bytes i 0 ≢ 13) → HasNoReturn bytes
no_return-at bytes none = All-from_get_or (λ (b : ℕ). b ≢ carriage_return) bytes 0 none

-- a line, its carriage return and its feed, and the rest
pub split_feed : (text line behind rest : List ℕ) → text ≡ line ++ (13 ∷ behind) → behind ≡ 10 ∷ rest → ((i : ℕ) → i < length line → get_or line i 0 ≢ 13) → (clean text ≡ line ++ line_feed ∷ clean rest) × (length rest < length text)
split_feed text line behind rest e f none = (
  ap clean e ∙ clean-front line (13 ∷ behind) (no_return-at line none) ∙ ap (λ (t : List ℕ). line ++ t) (ap (λ (b : List ℕ). clean (13 ∷ b)) f ∙ clean-return_feed rest),
  omega (arith, ap length e, length-append line (13 ∷ behind), ap length f),
)

-- a line, its carriage return, and the rest, which does not begin with a feed
pub split_return : (text line behind : List ℕ) → text ≡ line ++ (13 ∷ behind) → ((more : List ℕ) → behind ≢ 10 ∷ more) → ((i : ℕ) → i < length line → get_or line i 0 ≢ 13) → (clean text ≡ line ++ line_feed ∷ clean behind) × (length behind < length text)
split_return text line behind e other none = (
  ap clean e ∙ clean-front line (13 ∷ behind) (no_return-at line none) ∙ ap (λ (t : List ℕ). line ++ t) (clean-return behind other),
  omega (arith, ap length e, length-append line (13 ∷ behind)),
)

without_not_longer : (bytes : List ℕ) → length (without_returns_before_feeds bytes) ≤ length bytes
without_not_longer [] = omega arith
without_not_longer (b ∷ rest) = by_case ((b == carriage_return) && begins_with_feed rest) (without_not_longer rest) where
  by_case : (t : Bool) → length (without_returns_before_feeds rest) ≤ length rest → length (if t then without_returns_before_feeds rest else b ∷ without_returns_before_feeds rest) ≤ suc (length rest)
  by_case true fewer = omega (arith, fewer)
  by_case false fewer = omega (arith, fewer)

pub clean-not_longer : (bytes : List ℕ) → length (clean bytes) ≤ length bytes
clean-not_longer bytes = rw length-map (without_not_longer bytes)
