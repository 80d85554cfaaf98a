use Rattle.jsonb.proofs.Lemmas.{◌≡◌, ℕ, ◌++◌, List, drop, Locates, Tree, AllZip, picked}
use Rattle.jsonb.proofs.selector.children.push_entries.Given as goal

-- what the entries so far picked, and what those that are left pick, is what all pick
abbrev pub invariant-loop-entry : goal.invariant-loop-entry
invariant-loop-entry l =
    (bytes : List ℕ) (ts before : List Tree) → AllZip (Locates bytes) l.elements ts → AllZip (Locates bytes) l.fn.nodes.items before →
    (given : List Tree) × AllZip (Locates bytes) l.nodes.items given
    × (before ++ picked l.entries ts ≡ given ++ picked (drop l.entry-index l.entries) ts)
