-- Evaluating the branches of an expression returns its truth.
use Rattle.jsonb.proofs.Common.{◌≡◌, ℕ, ◌≤◌, List, [], ◌∷◌, length, Bool, true, false, Some, None, Ok, refl, ◌∙◌, arith, ◌&&◌, ◌||◌, le-leb, lt-leb, Outcome, and_then, Tree, Truth, joined_truth, truth, Expression, binary, and_op, or_op, Branch, branches_of, taken, passed, evaluated, Mode, Jump}

two_parts : {A B : Type 0} (o p : Outcome A) (f : A → A → A) (after : A → Outcome B) →
    and_then o (λ a. and_then p (λ b. after (f a b))) ≡ and_then (and_then o (λ a. and_then p (λ b. Ok (f a b)))) after
two_parts o p f after = grind arith

abbrev jump_at : ℕ → Bool → Jump
jump_at left truth = record { left = left; truth = truth }

pub same_after : {A B : Type 0} (o : Outcome A) (f g : A → Outcome B) → ((x : A) → f x ≡ g x) → and_then o f ≡ and_then o g
same_after o f g h = grind arith

-- the branches of an expression precede the others
pub longer : (e : Expression) (t f : ℕ) (others : List Branch) → length others ≤ length (branches_of e t f others)
longer (binary and_op l r) t f others = grind (arith, (longer r t f others), (longer l (length (branches_of r t f others)) f (branches_of r t f others)))
longer (binary or_op l r) t f others = grind (arith, (longer r t f others), (longer l t (length (branches_of r t f others)) (branches_of r t f others)))
longer e t f others = omega arith

module _ (mode : Mode) (top item : Tree) where
  -- after an unknown branch the condition is unknown, and the other branches are evaluated
  evaluated-unknown : (e : Expression) (t f : ℕ) (others : List Branch)
      → evaluated mode top item (branches_of e t f others) None ≡ and_then (truth mode e top item) (λ b. evaluated mode top item others None)
  evaluated-unknown (binary and_op l r) t f others = evaluated-unknown l (length (branches_of r t f others)) f (branches_of r t f others)
      ∙ same_after (truth mode l top item) _ _ (λ a. evaluated-unknown r t f others)
      ∙ two_parts (truth mode l top item) (truth mode r top item) (joined_truth ◌&&◌) (λ c. evaluated mode top item others None)
  evaluated-unknown (binary or_op l r) t f others = evaluated-unknown l t (length (branches_of r t f others)) (branches_of r t f others)
      ∙ same_after (truth mode l top item) _ _ (λ a. evaluated-unknown r t f others)
      ∙ two_parts (truth mode l top item) (truth mode r top item) (joined_truth ◌||◌) (λ c. evaluated mode top item others None)
  evaluated-unknown e t f others = refl

  leaf-passed : (e : Expression) (t f : ℕ) (others : List Branch) (go : Jump) → go.left ≤ length others
      → evaluated mode top item (record { condition = e; on_true = t; on_false = f } ∷ others) (Some go)
      ≡ and_then (truth mode e top item) (λ b. evaluated mode top item others (passed go b))
  leaf-passed e t f others go short = grind (arith, lt-leb)

  -- the right side of two that a jump passes over
  passed-right : (join : Bool → Bool → Bool) (r : Expression) (t f : ℕ) (others : List Branch) (go : Jump)
      → evaluated mode top item (branches_of r t f others) (Some go) ≡ and_then (truth mode r top item) (λ b. evaluated mode top item others (passed go b))
      → (a : Truth) → evaluated mode top item (branches_of r t f others) (passed go a)
      ≡ and_then (truth mode r top item) (λ b. evaluated mode top item others (passed go (joined_truth join a b)))
  passed-right join r t f others go right a = grind (arith, evaluated-unknown, same_after)

  -- branches that a jump passes over
  evaluated-passed : (e : Expression) (t f : ℕ) (others : List Branch) (go : Jump) → go.left ≤ length others
      → evaluated mode top item (branches_of e t f others) (Some go) ≡ and_then (truth mode e top item) (λ b. evaluated mode top item others (passed go b))
  evaluated-passed (binary and_op l r) t f others go short =
      evaluated-passed l (length (branches_of r t f others)) f (branches_of r t f others) go (let right = longer r t f others in omega (arith, short, right))
      ∙ same_after (truth mode l top item) _ _ (passed-right ◌&&◌ r t f others go (evaluated-passed r t f others go short))
      ∙ two_parts (truth mode l top item) (truth mode r top item) (joined_truth ◌&&◌) (λ c. evaluated mode top item others (passed go c))
  evaluated-passed (binary or_op l r) t f others go short =
      evaluated-passed l t (length (branches_of r t f others)) (branches_of r t f others) go (let right = longer r t f others in omega (arith, short, right))
      ∙ same_after (truth mode l top item) _ _ (passed-right ◌||◌ r t f others go (evaluated-passed r t f others go short))
      ∙ two_parts (truth mode l top item) (truth mode r top item) (joined_truth ◌||◌) (λ c. evaluated mode top item others (passed go c))
  evaluated-passed e t f others go short = leaf-passed e t f others go short

  leaf-taken : (e : Expression) (t f : ℕ) (others : List Branch) (go : Jump) → length (branches_of e t f others) ≤ go.left
      → length (record { condition = e; on_true = t; on_false = f } ∷ others) ≤ go.left
      → evaluated mode top item (record { condition = e; on_true = t; on_false = f } ∷ others) (Some go)
      ≡ and_then (truth mode e top item) (λ b. evaluated mode top item others (taken t f b))
  leaf-taken e t f others go h here = grind (arith, le-leb)

  -- branches that no jump passes over: the truth determines the jump
  pub evaluated-taken : (e : Expression) (t f : ℕ) (others : List Branch) (go : Jump) → length (branches_of e t f others) ≤ go.left
      → t ≤ length others → f ≤ length others
      → evaluated mode top item (branches_of e t f others) (Some go) ≡ and_then (truth mode e top item) (λ b. evaluated mode top item others (taken t f b))
  evaluated-taken (binary and_op l r) t f others go here after_true after_false =
      evaluated-taken l (length (branches_of r t f others)) f (branches_of r t f others) go here (omega arith)
      (let right = longer r t f others in omega (arith, after_false, right))
      ∙ same_after (truth mode l top item) _ _ (after_left (evaluated-taken r t f others (jump_at (length (branches_of r t f others)) true) (omega arith) after_true after_false))
      ∙ two_parts (truth mode l top item) (truth mode r top item) (joined_truth ◌&&◌) (λ c. evaluated mode top item others (taken t f c))
    where
      if_true : (b : Truth) → evaluated mode top item others (taken t f b) ≡ evaluated mode top item others (taken t f (joined_truth ◌&&◌ (Some true) b))
      if_true b = grind arith

      if_false : (b : Truth) → evaluated mode top item others (passed (jump_at f false) b) ≡ evaluated mode top item others (taken t f (joined_truth ◌&&◌ (Some false) b))
      if_false b = grind arith

      after_left : (evaluated mode top item (branches_of r t f others) (Some (jump_at (length (branches_of r t f others)) true)) ≡ and_then (truth mode r top item) (λ b. evaluated mode top item others (taken t f b))) → (a : Truth) → evaluated mode top item (branches_of r t f others) (taken (length (branches_of r t f others)) f a)
          ≡ and_then (truth mode r top item) (λ b. evaluated mode top item others (taken t f (joined_truth ◌&&◌ a b)))
      after_left right a = grind (arith, evaluated-unknown, same_after, if_true, evaluated-passed, if_false)
  evaluated-taken (binary or_op l r) t f others go here after_true after_false =
      evaluated-taken l t (length (branches_of r t f others)) (branches_of r t f others) go here
      (let right = longer r t f others in omega (arith, after_true, right)) (omega arith)
      ∙ same_after (truth mode l top item) _ _ (after_left (evaluated-taken r t f others (jump_at (length (branches_of r t f others)) false) (omega arith) after_true after_false))
      ∙ two_parts (truth mode l top item) (truth mode r top item) (joined_truth ◌||◌) (λ c. evaluated mode top item others (taken t f c))
    where
      if_false : (b : Truth) → evaluated mode top item others (taken t f b) ≡ evaluated mode top item others (taken t f (joined_truth ◌||◌ (Some false) b))
      if_false b = grind arith

      if_true : (b : Truth) → evaluated mode top item others (passed (jump_at t true) b) ≡ evaluated mode top item others (taken t f (joined_truth ◌||◌ (Some true) b))
      if_true b = grind arith

      after_left : (evaluated mode top item (branches_of r t f others) (Some (jump_at (length (branches_of r t f others)) false)) ≡ and_then (truth mode r top item) (λ b. evaluated mode top item others (taken t f b))) → (a : Truth) → evaluated mode top item (branches_of r t f others) (taken t (length (branches_of r t f others)) a)
          ≡ and_then (truth mode r top item) (λ b. evaluated mode top item others (taken t f (joined_truth ◌||◌ a b)))
      after_left right a = grind (arith, evaluated-unknown, same_after, if_false, evaluated-passed, if_true)
  evaluated-taken e t f others go here after_true after_false = leaf-taken e t f others go here here

  pub at_end : (o : Outcome Truth) → and_then o (λ b. evaluated mode top item [] (taken 0 0 b)) ≡ o
  at_end o = grind arith
