-- The items that are counted so far, and those of the expressions that wait.
use Rattle.std.specs.Prelude.{◌≡◌, ℕ, ◌+◌, sum_by}
use Rattle.jsonb.specs.MostItems.{capped, expression_items}
use Rattle.jsonb.specs.PathViews.{expression_view}
use Rattle.jsonb.specs.Private.Parts.{parts}
use Rattle.jsonb.specs.declared.selector.most_items.Count.{Count}
use Rattle.jsonb.specs.declared.selector.most_items.DocumentSize.{DocumentSize}
use Rattle.jsonb.specs.declared.selector.most_items.Waiting.{Waiting}

abbrev pub waiting_items : DocumentSize → Waiting → ℕ
waiting_items size w = expression_items size (expression_view w.expression.now) w.list

-- what the count comes to
abbrev pub total : DocumentSize → Count → ℕ
total size count = count.items + sum_by (waiting_items size) count.waiting.items

-- the count comes to this many more
abbrev pub Grows : DocumentSize → Count → Count → ℕ → Type 0
Grows size old new more = capped (total size new) ≡ capped (total size old + more)

-- the nodes of the expressions that wait
abbrev pub waiting_parts : Count → ℕ
waiting_parts count = sum_by (λ (w : Waiting). parts w.expression.now) count.waiting.items
