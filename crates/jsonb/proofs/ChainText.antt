-- The text of a chain of expressions, part by part.
use Rattle.jsonb.proofs.Common.{◌≡◌, ℕ, zero, suc, ◌+◌, List, [], ◌++◌, Bool, refl, sym, ◌∙◌, append_assoc, add-zero, arith, codes, if◌then◌else◌, operator_text, needs_parentheses, side_text, expression_text, Expression, binary, left_of, below, front_text, fronts_text, link_text, links_text}
use Rattle.std.proofs.lemmas.List.{append-nil}

-- ---- one more

pub left_more : (n : ℕ) (e : Expression) → below (suc n) e ≡ left_of (below n e)
left_more zero e = refl
left_more (suc n) e = left_more n (left_of e)

pub fronts_more : (n : ℕ) (e : Expression) → fronts_text (suc n) e ≡ fronts_text n e ++ front_text (below n e)
fronts_more zero e = append-nil (front_text e)
fronts_more (suc n) e = simp (fronts_more n (left_of e), append_assoc)

-- ---- the links, in two parts

pub links_halved : (m n : ℕ) (e : Expression) → links_text (m + n) e ≡ links_text m (below n e) ++ links_text n e
links_halved m zero e = grind (arith, append-nil, add-zero)
links_halved m (suc n) e = let more : m + suc n ≡ suc (m + n) = omega arith in simp (more, links_halved m n (left_of e), append_assoc)

-- ---- the whole

around_side : (is_around : Bool) (left operator right : List ℕ) →
    (if is_around then codes "(" ++ left ++ codes ")" else left) ++ codes " " ++ operator ++ codes " " ++ right
    ≡ (if is_around then codes "(" else []) ++ left ++ ((if is_around then codes ")" else []) ++ codes " " ++ operator ++ codes " " ++ right)
around_side is_around left operator right = grind (arith, append_assoc)

one_link : (e : Expression) → expression_text e ≡ front_text e ++ expression_text (left_of e) ++ link_text e
one_link (binary op left right) = around_side (needs_parentheses left) (expression_text left) (operator_text op) (side_text right (expression_text right))
one_link e = sym (append-nil (expression_text e))

inside : (front fronts text links link : List ℕ) → front ++ (fronts ++ text ++ links) ++ link ≡ (front ++ fronts) ++ text ++ (links ++ link)
inside front fronts text links link = simp append_assoc refl

pub chain_text : (n : ℕ) (e : Expression) → expression_text e ≡ fronts_text n e ++ expression_text (below n e) ++ links_text n e
chain_text zero e = sym (append-nil (expression_text e))
chain_text (suc n) e = one_link e ∙ (rw (chain_text n (left_of e)) (simp append_assoc))
