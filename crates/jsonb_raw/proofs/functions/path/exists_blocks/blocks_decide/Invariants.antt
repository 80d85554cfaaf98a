use Rattle.std.specs.Iterator.{EndsFrom, items_left}
use Rattle.jsonb_raw.proofs.Lemmas.{◌≡◌, ℕ, List, Form, HasTextsLeft, decided_by, YieldsItemsLeft}
use Rattle.jsonb_raw.proofs.functions.path.exists_blocks.blocks_decide.Given as goal

-- the names that are left decide
abbrev pub invariant-loop-set : goal.invariant-loop-set
invariant-loop-set g l = record {
  can : g.I.Iterator.can_next l.rest;
  finite : EndsFrom g.I.Iterator.remaining l.rest;
  left : (left : _ → List (List ℕ)) → YieldsItemsLeft g.I.Iterator.next_gives left → (form : Form) (ss : List (List ℕ))
      → HasTextsLeft form l.entries ss → decided_by l.found ss (left l.rest) ≡ decided_by l.found ss (left l.fn.names);
}

abbrev pub decreases-loop-set : goal.decreases-loop-set
decreases-loop-set g l = items_left g.I.Iterator.remaining l.rest
