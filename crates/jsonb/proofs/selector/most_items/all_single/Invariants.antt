use Rattle.jsonb.proofs.Lemmas.{◌≡◌, drop, list_all, is_single}
use Rattle.jsonb.proofs.selector.most_items.all_single.Given as goal

abbrev pub invariant-loop-entry : goal.invariant-loop-entry
invariant-loop-entry l = list_all is_single l.entries ≡ list_all is_single (drop l.entry-index l.entries)
