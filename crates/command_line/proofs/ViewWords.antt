-- Words that ask for views have no other reading.
use Rattle.std.proofs.Common.{◌≡◌, ℕ, ◌<◌, ◌≤◌, ◌⊎◌, inl, inr, Bool, true, false, List, [], ◌∷◌, length, get_or, Option, Some, None, refl, ap, ◌∙◌, arith}
use Rattle.std.specs.Prelude.{◌&&◌, codes, if◌then◌else◌, option_and_then, option_map}
use Rattle.std.specs.List.{list_any}
use Rattle.std.proofs.lemmas.Slice.Eq.{bytes_eq-Decides}
use Rattle.command_line.specs.Words.{Token, Word, is_dashes, plan_from, plan_of_tokens, positional, reading, tokens, with_token}
use Rattle.command_line.specs.Words.{is_name, number}
use Rattle.command_line.specs.declared.limits.TheConstants.{VIEWS_LEAST, VIEWS_MOST}
use Rattle.command_line.specs.ViewWords.{asks_for_views, of_views, view_reading}

-- a positional that begins with a hyphen gives no plan
no-plan : (crew watchers : Option ℕ) (seed : Option (Option ℕ)) (words : List Word) → plan_from crew watchers seed (codes "--views" ∷ words) ≡ None
no-plan None watchers seed words = refl
no-plan (Some crew) None seed words = refl
no-plan (Some crew) (Some watchers) None words = refl
no-plan (Some crew) (Some watchers) (Some (Some seed)) words = refl
no-plan (Some crew) (Some watchers) (Some None) [] = refl
no-plan (Some crew) (Some watchers) (Some None) (script ∷ []) = refl
no-plan (Some crew) (Some watchers) (Some None) (script ∷ (word ∷ words)) = refl

no-tokens : (rest : Option (List Token)) → option_and_then plan_of_tokens (with_token (positional (codes "--views")) rest) ≡ None
no-tokens None = refl
no-tokens (Some rest) = no-plan _ _ _ _

no-reading : (words : List Word) → reading (codes "--views" ∷ words) ≡ None
unfolding tokens
no-reading words = either (list_any is_dashes words)
  where
    either : (b : Bool) → (if b then None else option_and_then plan_of_tokens (tokens None (codes "--views" ∷ words))) ≡ None
    either true = refl
    either false = no-tokens (tokens None words)

pub no-run : (words : List Word) → asks_for_views words ≡ true → reading words ≡ None
unfolding tokens
no-run [] asks = refl
no-run (word ∷ words) asks =
    let same : word ≡ codes "--views" = (bytes_eq-Decides word (codes "--views")).0 asks in
    ap (λ w. reading (w ∷ words)) same ∙ no-reading words

pub no-views : (words : List Word) → asks_for_views words ≡ false → view_reading words ≡ None
no-views [] asks = refl
no-views (a ∷ []) asks = refl
no-views (a ∷ (b ∷ [])) asks = refl
no-views (a ∷ (b ∷ (c ∷ []))) asks = refl
no-views (a ∷ (b ∷ (c ∷ (d ∷ [])))) asks =
    ap (λ x. if x && (is_name c && is_name d) then option_map (of_views c d) (number VIEWS_LEAST VIEWS_MOST b) else None) asks
no-views (a ∷ (b ∷ (c ∷ (d ∷ (e ∷ words))))) asks = refl

-- other words than four have no reading
pub not-four : (words : List Word) → (length words < 4) ⊎ (5 ≤ length words) → view_reading words ≡ None
not-four [] wrong = refl
not-four (a ∷ []) wrong = refl
not-four (a ∷ (b ∷ [])) wrong = refl
not-four (a ∷ (b ∷ (c ∷ []))) wrong = refl
not-four (a ∷ (b ∷ (c ∷ (d ∷ [])))) wrong = absurd (elim wrong [ inl few ↦ omega (arith, few) | inr many ↦ omega (arith, many) ])
not-four (a ∷ (b ∷ (c ∷ (d ∷ (e ∷ words))))) wrong = refl

-- four words are those at their places
pub four-are : {X : Type 0} (xs : List X) (a b c d : X) → 4 ≤ length xs → length xs < 5 → a ≡ get_or xs 0 a → b ≡ get_or xs 1 b
    → c ≡ get_or xs 2 c → d ≡ get_or xs 3 d → xs ≡ a ∷ (b ∷ (c ∷ (d ∷ [])))
four-are [] a b c d many few p q r s = absurd (omega arith)
four-are (w ∷ []) a b c d many few p q r s = absurd (omega arith)
four-are (w ∷ (x ∷ [])) a b c d many few p q r s = absurd (omega arith)
four-are (w ∷ (x ∷ (y ∷ []))) a b c d many few p q r s = absurd (omega arith)
four-are (w ∷ (x ∷ (y ∷ (z ∷ [])))) a b c d many few p q r s = cc
four-are (w ∷ (x ∷ (y ∷ (z ∷ (v ∷ xs))))) a b c d many few p q r s = absurd (omega arith)
