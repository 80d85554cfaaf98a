use Rattle.jsonb.proofs.Lemmas.{◌≡◌, ◌++◌, drop, flat}
use Rattle.jsonb.proofs.selector.lists.items_of.Given as goal

-- the items so far, and those of the lists that are left, are those of all lists
abbrev pub invariant-loop-list : goal.invariant-loop-list
invariant-loop-list l = l.items.items ++ flat (drop l.list-index l.list-items) ≡ flat l.list-items
