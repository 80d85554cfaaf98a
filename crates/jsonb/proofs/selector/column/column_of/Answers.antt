use Rattle.jsonb.proofs.Lemmas.{arith, made_many}
use Rattle.jsonb.proofs.selector.column.column_of.Goals as goal
use Rattle.jsonb.proofs.selector.column.column_of.Goals.{then-items-lt1, else-items-lt1+else-items-lt2}

pub returns-clause-made : goal.returns-clause-made
returns-clause-made g c = elim c.if-items-lt1.branch [
  | then-items-lt1 w ↦ made_many _ c.args.items.now c.in_ok-each.field-0 (λ e. grind (arith, e)) c.in_ok-each.ensures.made
  | else-items-lt1+else-items-lt2 w ↦ made_many _ c.args.items.now c.in_ok-each.field-0 (λ e. grind (arith, e)) c.in_ok-each.ensures.made
]
