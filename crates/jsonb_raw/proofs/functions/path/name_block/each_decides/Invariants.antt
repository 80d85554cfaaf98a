use Rattle.jsonb_raw.proofs.Lemmas.{◌≡◌, ℕ, List, drop, Form, contents_of, decided_by, HasTextsLeft, AreSeen}
use Rattle.jsonb_raw.proofs.functions.path.name_block.each_decides.Given as goal

-- the names that are left decide
abbrev pub invariant-loop-at : goal.invariant-loop-at
invariant-loop-at l = (form : Form) (ss : List (List ℕ)) → HasTextsLeft form l.entries ss → AreSeen ss l.names l.seen
    → decided_by l.found ss (contents_of (drop l.at l.names)) ≡ decided_by l.found ss (contents_of l.names)
