-- Which paths have documents among their literals.
use Rattle.jsonb.proofs.Common.{◌≡◌, ℕ, ◌+◌, ◌<◌, Bool, true, false, List, [], ◌∷◌, ◌++◌, length, take, drop, get_or, suc, Option, refl, sym, ap, ◌∙◌, ◌||◌, IfSome, map, drop-cons, take_more, take-append-drop, map-append, IsOutOfMemory, ◌or◌when◌, Error, InvalidJsonPath, is_document, HasNoDocument, step_has_document, steps_have_document, expression_has_document, has_document, IsOwningError, SameLiteral, SameStepBut, SameStepsBut, SameExpressionBut, SamePath, SameStep, SameExpression, json_path, container_with_none, Literal, raw, Step, filter, whole_expression, Steps, no_steps, step, Expression, paths, value, binary, unary, exists, steps_of, step_view, steps_view, Path, arith}
use Rattle.jsonb.specs.Values.{literal_value}
use Rattle.jsonb.proofs.EqualPrinted.{read_equals_itself}

pub document_equals_nothing : (document : List ℕ) (l : Literal) → ¬ SameLiteral (raw document) l
document_equals_nothing document l h = let e = container_with_none (literal_value l) in cc

-- ---- what equals itself has none

literal_none : (l : Literal) → SameLiteral l l → is_document l ≡ false
literal_none l h = grind arith

abbrev NoDocument : Literal → Literal → Type 0
NoDocument l m = is_document l ≡ false

mutual
  step_none : (s : Step) → SameStep s s → SameStepBut NoDocument s s
  step_none (filter e) h = expression_none e h
  step_none (whole_expression e) h = expression_none e h
  step_none _ h = refl

  steps_none : (ss : Steps) → SameStepsBut SameLiteral ss ss → SameStepsBut NoDocument ss ss
  steps_none no_steps h = tt
  steps_none (step s rest) h = (step_none s h.0, steps_none rest h.1)

  expression_none : (e : Expression) → SameExpression e e → SameExpressionBut NoDocument e e
  expression_none (paths ss) h = steps_none ss h
  expression_none (value l) h = literal_none l h
  expression_none (binary op l r) h = (refl, expression_none l h.1, expression_none r h.2)
  expression_none (unary op e) h = (refl, expression_none e h.1)
  expression_none (exists ss) h = steps_none ss h

none_of : (o : Option (List Step)) → IfSome o (λ p. SamePath p p) → IfSome o HasNoDocument
none_of o h = grind (arith, steps_none)

pub read_has_none : (text : List ℕ) → IfSome (json_path text) HasNoDocument
read_has_none text = none_of (json_path text) (read_equals_itself text)

-- ---- the test of a path is right

pub not_first : (a b : Bool) → a || b ≡ false → a ≡ false
not_first a b h = grind arith

pub not_second : (a b : Bool) → a || b ≡ false → b ≡ false
not_second a b h = grind arith

mutual
  step_tested : (s : Step) → SameStepBut NoDocument s s → step_has_document s ≡ false
  step_tested (filter e) h = expression_tested e h
  step_tested (whole_expression e) h = expression_tested e h
  step_tested _ h = refl

  steps_tested : (ss : Steps) → SameStepsBut NoDocument ss ss → steps_have_document ss ≡ false
  steps_tested no_steps h = refl
  steps_tested (step s rest) h = rw (step_tested s h.0, steps_tested rest h.1) refl

  expression_tested : (e : Expression) → SameExpressionBut NoDocument e e → expression_has_document e ≡ false
  expression_tested (paths ss) h = steps_tested ss h
  expression_tested (value l) h = h
  expression_tested (binary op l r) h = rw (expression_tested l h.1, expression_tested r h.2) refl
  expression_tested (unary op e) h = expression_tested e h.1
  expression_tested (exists ss) h = steps_tested ss h

mutual
  step_without : (s : Step) → step_has_document s ≡ false → SameStepBut NoDocument s s
  step_without (filter e) h = expression_without e h
  step_without (whole_expression e) h = expression_without e h
  step_without _ h = refl

  steps_without : (ss : Steps) → steps_have_document ss ≡ false → SameStepsBut NoDocument ss ss
  steps_without no_steps h = tt
  steps_without (step s rest) h = (step_without s (not_first _ _ h), steps_without rest (not_second _ _ h))

  expression_without : (e : Expression) → expression_has_document e ≡ false → SameExpressionBut NoDocument e e
  expression_without (paths ss) h = steps_without ss h
  expression_without (value l) h = h
  expression_without (binary op l r) h = (refl, expression_without l (not_first _ _ h), expression_without r (not_second _ _ h))
  expression_without (unary op e) h = (refl, expression_without e h)
  expression_without (exists ss) h = steps_without ss h

pub path_without : (p : List Step) → has_document p ≡ false → HasNoDocument p
path_without p h = steps_without (steps_of p) h

-- a step alone, and one that is an expression
pub alone_without : (s : Step) → step_has_document s ≡ false → HasNoDocument (s ∷ [])
alone_without s h = (step_without s h, tt)

pub alone_tested : (s : Step) → HasNoDocument (s ∷ []) → step_has_document s ≡ false
alone_tested s h = step_tested s h.0

-- the errors of a path by its test, and by its literals
pub refused_path : (p : List Step) (e : Error) → IsOwningError (has_document p) e → (IsOutOfMemory or InvalidJsonPath when (¬ HasNoDocument p)) e
refused_path p e h = grind (arith, steps_tested)

pub refused_alone : (s : Step) (e : Error) → IsOwningError (step_has_document s) e → (IsOutOfMemory or InvalidJsonPath when (¬ HasNoDocument (s ∷ []))) e
refused_alone s e h = grind (arith, step_tested)

pub tested_alone : (s : Step) (e : Error) → (IsOutOfMemory or InvalidJsonPath when (¬ HasNoDocument (s ∷ []))) e → IsOwningError (step_has_document s) e
tested_alone s e h = grind (arith, alone_without)

-- ---- lists of steps

pub or_assoc : (a b c : Bool) → a || (b || c) ≡ (a || b) || c
or_assoc a b c = grind arith

pub or_true : (a : Bool) → a || true ≡ true
or_true a = grind arith

pub has_document-append : (ss ts : List Step) → has_document (ss ++ ts) ≡ has_document ss || has_document ts
has_document-append [] ts = refl
has_document-append (s ∷ ss) ts = grind (arith, (has_document-append ss ts), or_assoc)

-- one more step without
pub none_more : (xs : List Path) (i : ℕ) (s : Path) → i < length xs → s ≡ get_or xs i s → step_has_document (step_view s) ≡ false →
    has_document (steps_view (take i xs)) ≡ false → has_document (steps_view (take (i + 1) xs)) ≡ false
none_more xs i s short is none before =
    ap (λ l. has_document (steps_view l)) (take_more xs i s short) ∙ ap has_document (map-append step_view (take i xs) (get_or xs i s ∷ []))
    ∙ has_document-append (steps_view (take i xs)) (step_view (get_or xs i s) ∷ [])
    ∙ (λ j. before j || (step_has_document (step_view (sym is j)) || false)) ∙ ap (λ b. b || false) none

-- one more step that is copied
pub copied_more : (old new : List Path) (copy : Path) (xs : List Path) (i : ℕ) (s : Path) → i < length xs → s ≡ get_or xs i s → new ≡ old ++ copy ∷ [] →
    step_view copy ≡ step_view s → map step_view old ≡ map step_view (take i xs) → map step_view new ≡ map step_view (take (i + 1) xs)
copied_more old new copy xs i s short is added same before = ap (map step_view) added ∙ map-append step_view old (copy ∷ []) ∙ (λ j. before j ++ (same j ∷ []))
    ∙ ap (λ z. map step_view (take i xs) ++ (step_view z ∷ [])) is
    ∙ sym (ap (map step_view) (take_more xs i s short) ∙ map-append step_view (take i xs) (get_or xs i s ∷ []))

-- a step with one
pub some_at : (xs : List Path) (i : ℕ) (s : Path) → i < length xs → s ≡ get_or xs i s → step_has_document (step_view s) ≡ true
    → has_document (steps_view xs) ≡ true
some_at xs i s short is some =
    ap (λ l. has_document (steps_view l)) (sym (take-append-drop i xs)) ∙ ap has_document (map-append step_view (take i xs) (drop i xs))
    ∙ has_document-append (steps_view (take i xs)) (steps_view (drop i xs))
    ∙ ap (λ l. has_document (steps_view (take i xs)) || has_document (steps_view l)) (drop-cons xs i s short)
    ∙ (λ j. has_document (steps_view (take i xs)) || (step_has_document (step_view (sym is j)) || has_document (steps_view (drop (suc i) xs))))
    ∙ ap (λ b. has_document (steps_view (take i xs)) || (b || has_document (steps_view (drop (suc i) xs)))) some
    ∙ or_true (has_document (steps_view (take i xs)))

pub refused_at : (xs : List Path) (i : ℕ) (s : Path) (e : Error) → i < length xs → s ≡ get_or xs i s → IsOwningError (step_has_document (step_view s)) e
    → IsOwningError (has_document (steps_view xs)) e
refused_at xs i s e short is h = grind (arith, some_at)
