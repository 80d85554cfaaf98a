use Rattle.std.specs.Iterator.{EndsFrom, items_left}
use Rattle.jsonb_raw.proofs.Lemmas.{◌≡◌, ◌+◌, ◌≤◌, ◌++◌, ℕ, List, length, take, contents_of, YieldsItemsLeft}
use Rattle.jsonb_raw.proofs.functions.path.exists_blocks.take_names.Given as goal

-- the names so far, and those that are left, are all
abbrev pub invariant-loop-at : goal.invariant-loop-at
invariant-loop-at g l = record {
  can : g.I.Iterator.can_next l.rest;
  finite : EndsFrom g.I.Iterator.remaining l.rest;
  fewer : items_left g.I.Iterator.remaining l.rest + l.at ≤ items_left g.I.Iterator.remaining l.fn.rest;
  length : length l.names ≡ length l.fn.names;
  names : (left : _ → List (List ℕ)) → YieldsItemsLeft g.I.Iterator.next_gives left → contents_of (take l.at l.names) ++ left l.rest ≡ left l.fn.rest;
}
