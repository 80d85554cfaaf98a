use Rattle.jsonb_raw.proofs.Lemmas.{◌≡◌, ◌+◌, ◌^◌, ◌<◌, List, length, drop, Tree, Form, RunsHold}
use Rattle.jsonb_raw.proofs.functions.joined.count_entries.Given as goal

-- the entries so far, and those that are left, are all
abbrev pub invariant-loop-run : goal.invariant-loop-run
invariant-loop-run l = record {
  few : l.count < 2 ^ 29;
  whole : (form : Form) (ts : List Tree) → RunsHold form l.runs ts
      → (ys : List Tree) × RunsHold form (drop l.run-index l.runs) ys × (l.count + length ys ≡ length ts);
}
