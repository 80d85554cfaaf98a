-- Steps that name one member at most.
use Rattle.jsonb.proofs.Common.{◌≡◌, ℕ, ◌+◌, ◌<◌, ◌≤◌, List, [], ◌∷◌, length, drop, get_or, map, Bool, true, Option, Some, None, Ok, refl, sym, ap, ◌∙◌, ◌&&◌, MatchOption, ⊤, Outcome, and_then, Tree, Spot, Step, field_step, Steps, no_steps, steps_of, step_view, steps_view, step_meaning, steps_meaning, is_member, are_members, AllZip, option_spots, taken_step, AreRefused, Mode, Expressions, Path, arith}
use Rattle.jsonb.specs.PathTree as math
use Rattle.std.specs.Borrow.{Bor}
use Rattle.jsonb.proofs.StepLemmas.{joined_one, left_at, only_one, refused_steps, steps_at}

member_taken : (expressions : Expressions) (s : Step) → is_member s ≡ true → taken_step expressions s ≡ s
member_taken expressions s h = grind arith

-- steps of no items select no items
pub none_left : (mode : Mode) (ss : Steps) (top : Tree) → steps_meaning mode ss top [] ≡ Ok []
none_left mode no_steps top = refl
none_left mode (math.step s rest) top = none_left mode rest top

-- what a step selects is what it selects without a step after it
pub nothing_behind : (mode : Mode) (top : Tree) (given : Outcome (List Tree)) → and_then given (steps_meaning mode no_steps top) ≡ given
nothing_behind mode top given = grind arith

-- one step alone
one_step : (mode : Mode) (s : Step) (top t : Tree)
    → steps_meaning mode (steps_of (map (taken_step AreRefused) (s ∷ []))) top (t ∷ []) ≡ step_meaning mode s top t
one_step mode s top t =
    ap (λ l. steps_meaning mode (steps_of l) top (t ∷ [])) (refused_steps (s ∷ []))
    ∙ ap (λ o. and_then o (steps_meaning mode no_steps top)) (joined_one (step_meaning mode s top) t)
    ∙ nothing_behind mode top (step_meaning mode s top t)

only_step : (steps : List Path) (s : Path) → 1 ≤ length steps → length steps < 2 → s ≡ get_or steps 0 s → steps_view steps ≡ step_view s ∷ []
only_step [] s some few is = absurd (omega (arith, some))
only_step (x ∷ []) s some few is = ap (λ y. step_view y ∷ []) (sym is)
only_step (x ∷ y ∷ ys) s some few is = absurd (omega (arith, few))

-- the name of a step, if it is the only one
pub named_alone : (N : Mode → Tree → Type 0) (steps : List Path) (s : Path) (found : Option (Bor (List ℕ)))
    → 1 ≤ length steps → length steps < 2 → s ≡ get_or steps 0 s
    → ((mode : Mode) (top : Tree) → MatchOption found (N mode top) (λ name. step_meaning mode (step_view s) top ≡ field_step mode name.now))
    → MatchOption found ⊤ (λ name. (mode : Mode) (top t : Tree)
    → steps_meaning mode (steps_of (map (taken_step AreRefused) (steps_view steps))) top (t ∷ []) ≡ field_step mode name.now t)
named_alone N steps s None some few is h = tt
named_alone N steps s (Some name) some few is h = λ mode top t.
    ap (λ l. steps_meaning mode (steps_of (map (taken_step AreRefused) l)) top (t ∷ [])) (only_step steps s some few is)
    ∙ one_step mode (step_view s) top t ∙ ap (λ f. f t) (h mode top)

-- what was found stands for one tree, or for none
pub no_member : (R : Spot → Tree → Type 0) (found : Option Spot) (ts : List Tree) → found ≡ None → AllZip R (option_spots found) ts → ts ≡ []
no_member R found ts none h = grind arith

pub one_member : (R : Spot → Tree → Type 0) (found : Option Spot) (x : Spot) (ts : List Tree) → found ≡ Some x → AllZip R (option_spots found) ts
    → (t : Tree) × (ts ≡ t ∷ []) × R x t
one_member R found x ts is h = only_one R x ts (rw is at h)

pub both_true : (a b : Bool) → a && b ≡ true → (a ≡ true) × (b ≡ true)
both_true a b h = grind arith

module _ (steps : List Path) (i : ℕ) (s : Path) (h : i < length steps) (is : s ≡ get_or steps i s) where
  -- the first of the steps that are left, and those after it
  pub member_first : are_members (steps_view (drop i steps)) ≡ true → (is_member (step_view s) ≡ true) × (are_members (steps_view (drop (i + 1) steps)) ≡ true)
  member_first all = grind (arith, both_true, left_at steps i s h is)

  pub member_next : (mode : Mode) (expressions : Expressions) (top u : Tree) → is_member (step_view s) ≡ true →
      steps_meaning mode (steps_of (map (taken_step expressions) (steps_view (drop i steps)))) top (u ∷ [])
      ≡ and_then (step_meaning mode (step_view s) top u)
      (steps_meaning mode (steps_of (map (taken_step expressions) (steps_view (drop (i + 1) steps)))) top)
  member_next mode expressions top u member =
      steps_at mode expressions steps i s top (u ∷ []) h is
      ∙ ap (λ o. and_then o (steps_meaning mode (steps_of (map (taken_step expressions) (steps_view (drop (i + 1) steps)))) top))
      (joined_one (step_meaning mode (taken_step expressions (step_view s)) top) u
      ∙ ap (λ x. step_meaning mode x top u) (member_taken expressions (step_view s) member))
