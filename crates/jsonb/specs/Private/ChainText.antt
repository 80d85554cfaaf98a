-- The text of a chain of expressions in parts: what precedes it, its innermost expression, and its links.
use Rattle.std.specs.Prelude.{ℕ, zero, suc, List, [], ◌++◌, codes, if◌then◌else◌}
use Rattle.jsonb.specs.PathText.{operator_text, needs_parentheses, side_text, expression_text}
use Rattle.jsonb.specs.PathTree.{Expression, binary}
use Rattle.jsonb.specs.Private.Chain.{left_of}

-- the parenthesis around a side, if it has one
abbrev pub parenthesis : Expression → List ℕ → List ℕ
parenthesis e text = if needs_parentheses e then text else []

abbrev pub front_text : Expression → List ℕ
front_text (binary op left right) = parenthesis left (codes "(")
front_text _ = []

abbrev pub fronts_text : ℕ → Expression → List ℕ
fronts_text zero e = []
fronts_text (suc n) e = front_text e ++ fronts_text n (left_of e)

-- what follows the left side of a pair
abbrev pub link_text : Expression → List ℕ
link_text (binary op left right) =
    parenthesis left (codes ")") ++ codes " " ++ operator_text op ++ codes " "
    ++ side_text right (expression_text right)
link_text _ = []

-- the outermost links, the inner ones first
abbrev pub links_text : ℕ → Expression → List ℕ
links_text zero e = []
links_text (suc n) e = links_text n (left_of e) ++ link_text e
