-- Parts of the meaning of steps and filters.
use Rattle.jsonb.proofs.Common.{◌≡◌, ℕ, ◌+◌, ◌<◌, List, [], ◌∷◌, length, drop, get_or, suc, add-one, map, Bool, Option, refl, sym, ap, ◌∙◌, append-nil, then_some, drop-cons, Outcome, and_then, try_flat_map, Tree, Spot, steps_of, step_view, steps_view, AllZip, step_meaning, steps_meaning, start, as_filter, IsKept, option_spots, taken_step, Mode, Expressions, AreFilters, AreRefused, Path, arith}
use Rattle.jsonb.specs.PathTree as math

-- one item alone
pub joined_one : {B C : Type 0} (f : B → Outcome (List C)) (t : B) → try_flat_map f (t ∷ []) ≡ f t
joined_one f t = grind (arith, append-nil)

pub only_one : (R : Spot → Tree → Type 0) (item : Spot) (ts : List Tree) → AllZip R (item ∷ []) ts → (t : Tree) × (ts ≡ t ∷ []) × R item t
only_one R item ts a = grind arith

pub kept_found : (R : Spot → Tree → Type 0) (keeps : Bool) (o : Option Spot) (item : Spot) (t : Tree) (ts : List Tree) →
    o ≡ then_some keeps item → IsKept t keeps ts → R item t → AllZip R (option_spots o) ts
kept_found R keeps o item t ts is k r = grind arith

-- what is left from the i-th one on
pub left_at : {A : Type 0} (xs : List A) (i : ℕ) (x : A) → i < length xs → x ≡ get_or xs i x → drop i xs ≡ x ∷ drop (i + 1) xs
left_at xs i x h is = drop-cons xs i x h ∙ ap (λ y. y ∷ drop (suc i) xs) (sym is) ∙ ap (λ n. x ∷ drop n xs) (sym (add-one i))

-- the steps from the i-th one on: that step, and those after it
pub steps_at : (mode : Mode) (expressions : Expressions) (steps : List Path) (i : ℕ) (s : Path) (top : Tree) (us : List Tree) → i < length steps
    → s ≡ get_or steps i s →
    steps_meaning mode (steps_of (map (taken_step expressions) (steps_view (drop i steps)))) top us
    ≡ and_then (try_flat_map (step_meaning mode (taken_step expressions (step_view s)) top) us)
    (steps_meaning mode (steps_of (map (taken_step expressions) (steps_view (drop (i + 1) steps)))) top)
steps_at mode expressions steps i s top us h is =
    ap (λ l. steps_meaning mode (steps_of (map (taken_step expressions) (steps_view l))) top us) (left_at steps i s h is)

-- expressions that fail stay as they are, and those that are filters are seen as filters
pub refused_step : (s : math.Step) → taken_step AreRefused s ≡ s
refused_step s = grind arith

filter_step : (s : math.Step) → taken_step AreFilters s ≡ as_filter s
filter_step s = grind arith

pub refused_steps : (ss : List math.Step) → map (taken_step AreRefused) ss ≡ ss
refused_steps [] = refl
refused_steps (s ∷ ss) = λ i. refused_step s i ∷ refused_steps ss i

pub filter_steps : (ss : List math.Step) → map (taken_step AreFilters) ss ≡ map as_filter ss
filter_steps [] = refl
filter_steps (s ∷ ss) = λ i. filter_step s i ∷ filter_steps ss i

-- the path of an operand or of `exists`, by the slices that are passed on
pub from_start : (mode : Mode) (vs d1 d2 : List Path) (top u : Tree) → d1 ≡ vs → d2 ≡ vs →
    steps_meaning mode (steps_of (steps_view vs)) top (start (steps_of (steps_view vs)) top u ∷ [])
    ≡ steps_meaning mode (steps_of (map (taken_step AreRefused) (steps_view d1))) top (start (steps_of (steps_view d2)) top u ∷ [])
from_start mode vs d1 d2 top u p q = grind (arith, refused_steps)

pub from_root : (mode : Mode) (vs d : List Path) (top : Tree) → d ≡ vs →
    steps_meaning mode (steps_of (steps_view vs)) top (start (steps_of (steps_view vs)) top top ∷ [])
    ≡ steps_meaning mode (steps_of (map (taken_step AreRefused) (steps_view d))) top (top ∷ [])
from_root mode vs d top is = grind (arith, from_start)
