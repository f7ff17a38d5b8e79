-- The reading of the words that ask for several views of one text.
use Rattle.std.specs.Prelude.{ℕ, ◌≤◌, ◌&&◌, Bool, false, if◌then◌else◌, List, [], ◌∷◌, Option, None, codes, map, option_map, string_bytes, String}
use Rattle.std.specs.Str.{bytes_eq}
use Rattle.std.specs.declared.alloc.Global.{Global}
use Rattle.command_line.specs.declared.limits.TheConstants.{VIEWS_LEAST, VIEWS_MOST, WATCHERS_DEFAULT, WORKERS_DEFAULT}
use Rattle.command_line.specs.declared.views.ViewPlan.{ViewPlan}
use Rattle.command_line.specs.Laws.{of_names}
use Rattle.command_line.specs.Words.{Word, is_name, number}

abbrev pub is_views : Word → Bool
is_views word = bytes_eq word (codes "--views")

-- the words ask for views: the first of them says so
abbrev pub asks_for_views : List Word → Bool
asks_for_views [] = false
asks_for_views (word ∷ words) = is_views word

-- so many views of a text, and a script
abbrev pub of_views : Word → Word → ℕ → ViewPlan
of_views text script views = record { views = views; plan = of_names text script WORKERS_DEFAULT WATCHERS_DEFAULT }

-- `--views`, one digit, and two names
abbrev pub view_reading : List Word → Option ViewPlan
view_reading (first ∷ (views ∷ (text ∷ (script ∷ [])))) =
    if is_views first && (is_name text && is_name script)
    then option_map (of_views text script) (number VIEWS_LEAST VIEWS_MOST views) else None
view_reading _ = None

-- the plan of the words, if they ask for views and have a reading
abbrev pub view_plan_of : List (String Global) → Option ViewPlan
view_plan_of words = view_reading (map string_bytes words)

-- a plan's number of views is in its range
pub record HasViews (plan : ViewPlan) : Type 0 where
  pub least : VIEWS_LEAST ≤ plan.views
  pub most : plan.views ≤ VIEWS_MOST
