use Rattle.jsonb_raw.proofs.Lemmas.{ℕ, Trees, Form, HasEntriesLeft, AreHashed, SomeEntries}
use Rattle.jsonb_raw.proofs.functions.array.hashes.entries_hash.Given as goal

-- a hash of the entries that are left, after those before them, is one of all
abbrev pub invariant-loop-entry : goal.invariant-loop-entry
invariant-loop-entry l = (form : Form) (ts : Trees) → HasEntriesLeft form l.fn.entries ts
    → SomeEntries form l.entry-iterator (λ left. (m : ℕ) → AreHashed left l.hash m → AreHashed ts 5 m)
