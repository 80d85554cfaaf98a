-- The test of same parts agrees with the relation, and so is symmetric and transitive.
use Rattle.std.specs.Prelude.{◌≡◌, ℕ, List, [], ◌∷◌, if◌then◌else◌, Bool, true, false, ◌&&◌, nat_eq, Option, Some, None}
use Rattle.std.specs.Bool.{Decides, one_answer}
use Rattle.std.specs.Cmp.{IsPartialEquivalence}
use Rattle.std.specs.Cmp.Lexicographic.{pointwise}
use Rattle.std.specs.Option.{option_eq}
use Rattle.std.proofs.Common.{refl, sym, ◌∙◌, ap}
use Rattle.std.proofs.lemmas.Bool.Decides.{Decides-eqb, Decides-int_eq, Decides-and}
use Rattle.std.proofs.lemmas.Option.{same_Some}
use Rattle.std.proofs.lemmas.Slice.Eq.{slice_eq-Decides}
use Rattle.jsonb.specs.PathEquality.{SameLiteral, SameStepsBut}
use Rattle.jsonb.specs.PathText.{operator_text}
use Rattle.jsonb.specs.PathTree.{Place, from_front, from_last, Entry, single, slice, LevelEnd, level, last_level, Levels, BinaryOp, and_op, or_op, eq, not_eq, lt, lte, gt, gte, starts_with_op, add, subtract, multiply, divide, modulo, UnaryOp, plus, minus, Step, root, current, dot_wildcard, recursive_dot_wildcard, bracket_wildcard, dot_field, colon_field, object_field, array_indices, filter, whole_expression, Steps, no_steps, step, Expression, paths, value, binary, unary, exists}
use Rattle.jsonb.specs.Proofs.PathOrder.{literal-same}
use Rattle.jsonb.specs.Proofs.SameParts.{step-symmetric, expression-symmetric, step-transitive, expression-transitive}
use Rattle.jsonb.specs.Private.SamePath.{is_same_place, is_same_entry, is_same_end, is_same_level, is_same_operator, is_same_sign, is_same_step, are_same_steps, is_same_expression, SameStep, SameExpression}

-- a constructor around both sides
around : {A B : Type 0} (f : A → B) (x y : A) (b : Bool) → (f x ≡ f y → x ≡ y) → Decides b (x ≡ y) → Decides b (f x ≡ f y)
around f x y b inside d = (λ h. ap f (d.0 h), λ e. d.1 (inside e))

module _ {A : Type 0} (E : A → A → Bool) (decides : (a b : A) → Decides (E a b) (a ≡ b)) where
  maybe-same : (o p : Option A) → Decides (option_eq E o p) (o ≡ p)
  maybe-same None None = (λ h. refl, λ e. refl)
  maybe-same (Some a) (Some b) = around (λ (x : A). Some x) a b _ (same_Some _ _) (decides a b)
  maybe-same None (Some b) = (λ h. cc, λ e. cc)
  maybe-same (Some a) None = (λ h. cc, λ e. cc)

  list-same : (xs ys : List A) → Decides (pointwise E xs ys) (xs ≡ ys)
  list-same xs ys = slice_eq-Decides decides xs ys (pointwise E xs ys) refl

-- ---- places, entries, levels and operators

pub place-same : (p q : Place) → Decides (is_same_place p q) (p ≡ q)
place-same (from_front i) (from_front j) = around from_front i j _ (λ e. cc) (Decides-int_eq i j)
place-same (from_last i) (from_last j) = around from_last i j _ (λ e. cc) (Decides-int_eq i j)
place-same (from_front i) (from_last j) = (λ h. cc, λ e. cc)
place-same (from_last i) (from_front j) = (λ h. cc, λ e. cc)

abbrev first_end : Entry → Place
first_end (single p) = p
first_end (slice ends) = ends.0

abbrev last_end : Entry → Place
last_end (single p) = p
last_end (slice ends) = ends.1

pub entry-same : (a b : Entry) → Decides (is_same_entry a b) (a ≡ b)
entry-same (single p) (single q) = around single p q _ (λ e. cc) (place-same p q)
entry-same (slice (p, q)) (slice (r, s)) =
    let d = Decides-and (is_same_place p r) (is_same_place q s) (place-same p r) (place-same q s) in (
      λ h. (let parts = d.0 h in rw (parts.0, parts.1) refl),
      λ e. d.1 (ap first_end e, ap last_end e),
    )
entry-same (single p) (slice (r, s)) = (λ h. cc, λ e. cc)
entry-same (slice (p, q)) (single r) = (λ h. cc, λ e. cc)

pub end-same : (a b : LevelEnd) → Decides (is_same_end a b) (a ≡ b)
end-same (level m) (level n) = around level m n _ (λ e. cc) (Decides-eqb m n)
end-same last_level last_level = (λ h. refl, λ e. refl)
end-same (level m) last_level = (λ h. cc, λ e. cc)
end-same last_level (level n) = (λ h. cc, λ e. cc)

pub level-same : (a b : Levels) → Decides (is_same_level a b) (a ≡ b)
level-same a b =
    let d = Decides-and (nat_eq a.start b.start) (option_eq is_same_end a.end b.end) (Decides-eqb a.start b.start)
    (maybe-same is_same_end end-same a.end b.end) in (
      λ h. (let parts = d.0 h in rw (parts.0, parts.1) refl),
      λ e. d.1 (ap (λ (l : Levels). l.start) e, ap (λ (l : Levels). l.end) e),
    )

operators : List BinaryOp
operators = and_op ∷ or_op ∷ eq ∷ not_eq ∷ lt ∷ lte ∷ gt ∷ gte ∷ starts_with_op ∷ add ∷ subtract ∷ multiply ∷ divide ∷ modulo ∷ []

-- the first of these operators with that text
named_among : List BinaryOp → List ℕ → BinaryOp
named_among [] text = and_op
named_among (op ∷ others) text = if pointwise nat_eq (operator_text op) text then op else named_among others text

named_again : (op : BinaryOp) → named_among operators (operator_text op) ≡ op
unfolding operators named_among
named_again and_op = refl
named_again _ = refl

pub operator-same : (a b : BinaryOp) → Decides (is_same_operator a b) (a ≡ b)
operator-same a b =
    let texts = list-same nat_eq Decides-eqb (operator_text a) (operator_text b) in
    (λ h. sym (named_again a) ∙ ap (named_among operators) (texts.0 h) ∙ named_again b, λ e. texts.1 (ap operator_text e))

pub sign-same : (a b : UnaryOp) → Decides (is_same_sign a b) (a ≡ b)
sign-same plus plus = (λ h. refl, λ e. refl)
sign-same minus minus = (λ h. refl, λ e. refl)
sign-same plus minus = (λ h. cc, λ e. cc)
sign-same minus plus = (λ h. cc, λ e. cc)

-- ---- steps and expressions

kind : Step → ℕ
kind root = 0
kind current = 1
kind dot_wildcard = 2
kind (recursive_dot_wildcard l) = 3
kind bracket_wildcard = 4
kind (dot_field n) = 5
kind (colon_field n) = 6
kind (object_field n) = 7
kind (array_indices es) = 8
kind (filter e) = 9
kind (whole_expression e) = 10

false-true : false ≡ true → ⊥
false-true h = cc

-- steps of two kinds differ
apart : (x y : Step) → nat_eq (kind x) (kind y) ≡ false → Decides false (x ≡ y)
apart x y h = (λ e. absurd (false-true e), λ e. sym h ∙ (Decides-eqb (kind x) (kind y)).1 (ap kind e))

named : (f : List ℕ → Step) (n o : List ℕ) → (f n ≡ f o → n ≡ o) → Decides (pointwise nat_eq n o) (f n ≡ f o)
named f n o inside = around f n o _ inside (list-same nat_eq Decides-eqb n o)

mutual
  unfolding kind

  pub step-same : (s t : Step) → Decides (is_same_step s t) (SameStep s t)
  step-same root root = (λ h. refl, λ e. refl)
  step-same current current = (λ h. refl, λ e. refl)
  step-same dot_wildcard dot_wildcard = (λ h. refl, λ e. refl)
  step-same bracket_wildcard bracket_wildcard = (λ h. refl, λ e. refl)
  step-same (recursive_dot_wildcard k) (recursive_dot_wildcard l) =
      around recursive_dot_wildcard k l _ (λ e. cc) (maybe-same is_same_level level-same k l)
  step-same (dot_field n) (dot_field o) = named dot_field n o (λ e. cc)
  step-same (colon_field n) (colon_field o) = named colon_field n o (λ e. cc)
  step-same (object_field n) (object_field o) = named object_field n o (λ e. cc)
  step-same (array_indices es) (array_indices fs) = around array_indices es fs _ (λ e. cc) (list-same is_same_entry entry-same es fs)
  step-same (filter e) (filter f) = expression-same e f
  step-same (whole_expression e) (whole_expression f) = expression-same e f
  step-same s t = apart s t refl

  pub steps-same : (ss ts : Steps) → Decides (are_same_steps ss ts) (SameStepsBut SameLiteral ss ts)
  steps-same no_steps no_steps = (λ h. tt, λ e. refl)
  steps-same (step s ss) (step t ts) = Decides-and (is_same_step s t) (are_same_steps ss ts) (step-same s t) (steps-same ss ts)
  steps-same no_steps (step t ts) = (λ h. cc, λ h. absurd h)
  steps-same (step s ss) no_steps = (λ h. cc, λ h. absurd h)

  pub expression-same : (e f : Expression) → Decides (is_same_expression e f) (SameExpression e f)
  expression-same (paths ss) (paths ts) = steps-same ss ts
  expression-same (value l) (value m) = literal-same l m
  expression-same (binary op left right) (binary op' left' right') =
      let upper = Decides-and (is_same_operator op op') (is_same_expression right right') (operator-same op op') (expression-same right right') in
      let d = Decides-and (is_same_operator op op' && is_same_expression right right') (is_same_expression left left') upper (expression-same left left') in
      (λ h. let parts = d.0 h in (parts.0.0, parts.1, parts.0.1), λ same. d.1 ((same.0, same.2), same.1))
  expression-same (unary op e) (unary op' f) = Decides-and (is_same_sign op op') (is_same_expression e f) (sign-same op op') (expression-same e f)
  expression-same (exists ss) (exists ts) = steps-same ss ts
  expression-same e f = (λ h. absurd (false-true h), λ h. absurd h)

-- ---- laws

module _ {A : Type 0} (E : A → A → Bool) (R : A → A → Type 0) (decides : (x y : A) → Decides (E x y) (R x y)) where
  laws : ((x y : A) → R x y → R y x) → ((x y z : A) → R x y → R y z → R x z) → IsPartialEquivalence E
  laws symmetric transitive = record {
    symm = λ x y. one_answer (E x y) (E y x) (decides x y)
        (λ h. symmetric y x ((decides y x).0 h), λ r. (decides y x).1 (symmetric x y r));
    trans = λ x y z p q. (decides x z).1 (transitive x y z ((decides x y).0 p) ((decides y z).0 q));
  }

pub is_same_step_laws : IsPartialEquivalence is_same_step
is_same_step_laws = laws is_same_step SameStep step-same step-symmetric step-transitive

pub is_same_expression_laws : IsPartialEquivalence is_same_expression
is_same_expression_laws = laws is_same_expression SameExpression expression-same expression-symmetric expression-transitive
