-- An expression up to what is last in it: its text, its parts, and whether two are the same.
use Rattle.jsonb.proofs.Common.{◌≡◌, ℕ, ◌<◌, ◌≤◌, List, [], ◌∷◌, ◌++◌, Bool, true, false, Option, None, Some, refl, sym, ap, ◌∙◌, append_assoc, arith, codes, ◌&&◌, if◌then◌else◌, option_map, option_zip, operator_text, sign_text, literal_text, needs_parentheses, side_text, step_text, steps_text, expression_text, Step, filter, whole_expression, Steps, no_steps, step, Expression, paths, value, binary, unary, exists, steps_of, step_view, steps_view, expression_view, but_last, last_step, held_by, held_by_last, last_of, down, steps_down, step_down, step_before, last_before, steps_before, text_before, ends_in_filter, closing, is_same_opening, are_same_before, is_same_before, step_parts, steps_parts, expression_parts, parts, is_same_step, are_same_steps, is_same_expression, Expr, Path}
use Rattle.jsonb_doc.proofs.Common.{Bor}
use Rattle.std.proofs.lemmas.List.{append-nil}
use Rattle.jsonb.specs.Private.Last.{is_filter}

-- ---- lists of steps that the code has

pub last_step-end : (ss : List Path) (s : Path) → last_step (steps_of (steps_view (ss ++ s ∷ []))) ≡ Some (step_view s)
last_step-end [] s = refl
last_step-end (t ∷ []) s = refl
last_step-end (t ∷ u ∷ ss) s = last_step-end (u ∷ ss) s

pub but_last-end : (ss : List Path) (s : Path) → but_last (steps_of (steps_view (ss ++ s ∷ []))) ≡ steps_of (steps_view ss)
but_last-end [] s = refl
but_last-end (t ∷ []) s = refl
but_last-end (t ∷ u ∷ ss) s = ap (step (step_view t)) (but_last-end (u ∷ ss) s)

pub steps_before-end : (ss : List Path) (s : Path) →
    steps_before (steps_of (steps_view (ss ++ s ∷ []))) ≡ steps_text (steps_of (steps_view ss)) ++ step_before (step_view s)
steps_before-end ss s = rw (but_last-end ss s, last_step-end ss s) refl

-- ---- one level

abbrev pub down_of : (Expression → List ℕ) → Option Expression → List ℕ
down_of text None = []
down_of text (Some e) = down text e

held_down : (text : Expression → List ℕ) (s : Step) → step_down text s ≡ down_of text (held_by s)
held_down text s = grind arith

last_down : (text : Expression → List ℕ) (ss : Steps) → steps_down text ss ≡ down_of text (held_by_last (last_step ss))
last_down text no_steps = refl
last_down text (step s no_steps) = held_down text s
last_down text (step s (step t ts)) = last_down text (step t ts)

down-is : (text : Expression → List ℕ) (e : Expression) → down text e ≡ text e ++ down_of text (last_of e)
down-is text e = grind (arith, last_down, append-nil)

-- one more is given, and the next is found
pub one_down : (text : Expression → List ℕ) (had whole : List ℕ) (e : Expression) (next : Option Expression) → next ≡ last_of e →
    had ++ down text e ≡ whole → had ++ text e ++ down_of text next ≡ whole
one_down text had whole e next is all = grind (arith, append_assoc, down-is)

-- what references stand for
abbrev pub seen : Option (Bor Expr) → Option Expression
seen next = option_map (λ e. expression_view e.now) next

-- ---- parts

abbrev pub parts_of : Option Expression → ℕ
parts_of None = 0
parts_of (Some e) = expression_parts e

held_parts : (s : Step) → parts_of (held_by s) ≤ step_parts s
held_parts (filter e) = omega arith
held_parts s = omega arith

last_parts : (ss : Steps) → parts_of (held_by_last (last_step ss)) ≤ steps_parts ss
last_parts no_steps = omega arith
last_parts (step s no_steps) = let held = held_parts s in omega arith
last_parts (step s (step t ts)) = let rest = last_parts (step t ts) in omega arith

pub fewer_parts : (e : Expression) → parts_of (last_of e) < expression_parts e
fewer_parts e = grind (arith, last_parts)

-- ---- closing parentheses, in any order

abbrev Closes : List ℕ → Type 0
Closes text = text ++ codes ")" ≡ codes ")" ++ text

closes_both : (a b : List ℕ) → Closes a → Closes b → Closes (a ++ b)
closes_both a b h k = cc (append_assoc a b (codes ")"), append_assoc a (codes ")") b)

closes_once : (b : Bool) → Closes (if b then codes ")" else [])
closes_once true = refl
closes_once false = refl

closes_twice : (b : Bool) → Closes (if b then codes "))" else codes ")")
closes_twice true = refl
closes_twice false = refl

mutual
  down_closes : (e : Expression) → Closes (down closing e)
  down_closes (paths ss) = closes_both _ _ (closes_once (ends_in_filter (last_step ss))) (steps_close ss)
  down_closes (value l) = refl
  down_closes (binary op left right) = closes_both _ _ (closes_once (needs_parentheses right)) (down_closes right)
  down_closes (unary op e) = down_closes e
  down_closes (exists ss) = closes_both _ _ (closes_twice (ends_in_filter (last_step ss))) (steps_close ss)

  steps_close : (ss : Steps) → Closes (steps_down closing ss)
  steps_close no_steps = refl
  steps_close (step s no_steps) = step_closes s
  steps_close (step s (step t ts)) = steps_close (step t ts)

  step_closes : (s : Step) → Closes (step_down closing s)
  step_closes (filter e) = down_closes e
  step_closes (whole_expression e) = down_closes e
  step_closes _ = refl

-- ---- the text of an expression: what precedes each that is last, and then the closing parentheses

enclosed : (front text b c : List ℕ) → text ≡ b ++ c → Closes c → front ++ text ++ codes ")" ≡ front ++ b ++ (codes ")" ++ c)
enclosed front text b c h k = simp (h, append_assoc, k)

right_side : (is_around : Bool) (text b c : List ℕ) → text ≡ b ++ c → Closes c → (if is_around then codes "(" ++ text ++ codes ")" else text)
    ≡ (if is_around then codes "(" else []) ++ b ++ ((if is_around then codes ")" else []) ++ c)
right_side is_around text b c h k = grind (arith, append_assoc)

-- the text between the sides, and what is open after it, each by itself
between : (left close space operator last_space a b c : List ℕ) → left ++ close ++ space ++ operator ++ last_space ++ (a ++ b ++ c)
    ≡ left ++ (close ++ space ++ operator ++ last_space) ++ a ++ b ++ c
between left close space operator last_space a b c = simp append_assoc refl

sides : (is_around : Bool) (left right operator a b c : List ℕ) → right ≡ a ++ b ++ c →
    (if is_around then codes "(" ++ left ++ codes ")" else left) ++ codes " " ++ operator ++ codes " " ++ right
    ≡ (if is_around then codes "(" else []) ++ left ++ ((if is_around then codes ")" else []) ++ codes " " ++ operator ++ codes " ") ++ a ++ b ++ c
sides true left right operator a b c h = rw h (between (codes "(" ++ left) (codes ")") (codes " ") operator (codes " ") a b c)
sides false left right operator a b c h = rw h (simp append_assoc refl)

exists_whole : (is_filter : Bool) (text a b c : List ℕ) → text ≡ a ++ b ++ ((if is_filter then codes ")" else []) ++ c) → Closes c →
    codes "exists(" ++ text ++ codes ")" ≡ (codes "exists(" ++ a) ++ b ++ ((if is_filter then codes "))" else codes ")") ++ c)
exists_whole is_filter text a b c h k = grind (arith, append_assoc)

one_more : (text a b c d : List ℕ) → text ++ (a ++ b ++ c ++ d) ≡ text ++ a ++ b ++ c ++ d
one_more text a b c d = simp append_assoc refl

mutual
  pub whole_text : (e : Expression) → expression_text e ≡ down text_before e ++ down closing e
  whole_text (paths ss) = steps_whole ss
  whole_text (value l) = sym (append-nil (literal_text l))
  whole_text (binary op left right) = sides (needs_parentheses left) (expression_text left) (side_text right (expression_text right)) (operator_text op)
      (if needs_parentheses right then codes "(" else []) (down text_before right) ((if needs_parentheses right then codes ")" else []) ++ down closing right)
      (right_side (needs_parentheses right) (expression_text right) (down text_before right) (down closing right) (whole_text right) (down_closes right))
  whole_text (unary op e) = ap (λ text. sign_text op ++ text) (whole_text e) ∙ sym (append_assoc (sign_text op) (down text_before e) (down closing e))
  whole_text (exists ss) = exists_whole (ends_in_filter (last_step ss)) (steps_text ss) (steps_before ss) (steps_down text_before ss)
      (steps_down closing ss) (steps_whole ss) (steps_close ss)

  steps_whole : (ss : Steps) → steps_text ss ≡ steps_before ss ++ steps_down text_before ss
      ++ ((if ends_in_filter (last_step ss) then codes ")" else []) ++ steps_down closing ss)
  steps_whole no_steps = refl
  steps_whole (step s no_steps) = append-nil (step_text s) ∙ step_whole s
  steps_whole (step s (step t ts)) = ap (λ text. step_text s ++ text) (steps_whole (step t ts))
      ∙ one_more (step_text s) (steps_text (but_last (step t ts))) (last_before (last_step (step t ts))) (steps_down text_before (step t ts)) _

  step_whole : (s : Step) → step_text s ≡ step_before s ++ step_down text_before s ++ ((if is_filter s then codes ")" else []) ++ step_down closing s)
  step_whole (filter e) = enclosed (codes "?(") (expression_text e) (down text_before e) (down closing e) (whole_text e) (down_closes e)
  step_whole (whole_expression e) = whole_text e
  step_whole s = sym (append-nil (step_text s)) ∙ sym (append-nil (step_text s ++ []))

-- ---- whether two are the same

abbrev pub same_lasts : Option Expression → Option Expression → Bool
same_lasts None f = true
same_lasts (Some e) None = true
same_lasts (Some e) (Some f) = is_same_expression e f

and_true : (b : Bool) → b ≡ b && true
and_true true = refl
and_true false = refl

and_false : (b : Bool) → b && false ≡ false
and_false true = refl
and_false false = refl

regroup : (a b c d : Bool) → a && (b && c && d) ≡ a && b && c && d
regroup a b c d = grind arith

turned : (a b c : Bool) → a && b && c ≡ a && c && b
turned a b c = grind arith

step_split : (s t : Step) → is_same_step s t ≡ is_same_opening s t && same_lasts (held_by s) (held_by t)
step_split s t = grind arith

steps_split : (ss ts : Steps) → are_same_steps ss ts ≡ are_same_before ss ts && same_lasts (held_by_last (last_step ss)) (held_by_last (last_step ts))
steps_split no_steps (step t no_steps) = refl
steps_split (step s no_steps) (step t no_steps) = sym (and_true (is_same_step s t)) ∙ step_split s t
steps_split (step s no_steps) (step t (step u ts)) = and_false (is_same_step s t)
steps_split (step s (step r ss)) (step t no_steps) = and_false (is_same_step s t)
steps_split (step s (step r ss)) (step t (step u ts)) = ap (λ b. is_same_step s t && b) (steps_split (step r ss) (step u ts))
    ∙ regroup (is_same_step s t) (are_same_steps (but_last (step r ss)) (but_last (step u ts))) _ _
steps_split _ _ = refl

-- ---- the same, level by level

pub same-differs : (e f : Expression) → false ≡ is_same_before e f → is_same_expression e f ≡ false
same-differs e f is = grind (arith, steps_split, and_true, turned)

pub same-further : (e f : Expression) (next other : Option Expression) → next ≡ last_of e → other ≡ last_of f → true ≡ is_same_before e f →
    is_same_expression e f ≡ same_lasts next other
same-further e f next other h k is = grind (arith, steps_split, and_true, turned)

-- two that are next
abbrev pub same_next : Option (Bor Expr × Bor Expr) → Bool
same_next None = true
same_next (Some p) = is_same_expression (expression_view p.0.now) (expression_view p.1.now)

abbrev pub next_parts : Option (Bor Expr × Bor Expr) → ℕ
next_parts None = 0
next_parts (Some p) = parts p.0.now

pub same_zip : (next other : Option (Bor Expr)) → same_next (option_zip next other) ≡ same_lasts (seen next) (seen other)
same_zip (Some e) (Some f) = refl
same_zip _ _ = refl

pub zip_parts : (next other : Option (Bor Expr)) → next_parts (option_zip next other) ≤ parts_of (seen next)
zip_parts (Some e) (Some f) = omega arith
zip_parts _ _ = omega arith

-- ---- lists of steps that the code has are the same before what the last ones hold

pub same_before-end : (ss ts : List Path) (s t : Path) → are_same_before (steps_of (steps_view (ss ++ s ∷ []))) (steps_of (steps_view (ts ++ t ∷ [])))
    ≡ are_same_steps (steps_of (steps_view ss)) (steps_of (steps_view ts)) && is_same_opening (step_view s) (step_view t)
same_before-end ss ts s t = rw (but_last-end ss s, last_step-end ss s, but_last-end ts t, last_step-end ts t) refl

pub same_before-shorter : (ss : List Path) (s : Path) → are_same_before (steps_of (steps_view (ss ++ s ∷ []))) no_steps ≡ false
same_before-shorter ss s = grind (arith, last_step-end)

pub same_before-longer : (ts : List Path) (t : Path) → are_same_before no_steps (steps_of (steps_view (ts ++ t ∷ []))) ≡ false
same_before-longer ts t = grind (arith, last_step-end)
