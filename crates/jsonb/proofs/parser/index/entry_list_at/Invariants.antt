use Rattle.jsonb.proofs.Lemmas.{◌≡◌, ◌<◌, length, repeat, another_entry, entry_list, behind}
use Rattle.jsonb.proofs.parser.index.entry_list_at.Given as goal

-- the entries so far, and those that are still read
abbrev pub invariant-loop-next : goal.invariant-loop-next
invariant-loop-next l = record {
  read : behind l.entries.items (repeat another_entry l.rest) ≡ entry_list l.fn.input;
  shorter : length l.rest < length l.fn.input;
}

abbrev pub decreases-loop-next : goal.decreases-loop-next
decreases-loop-next l = length l.rest
