use Rattle.jsonb_raw.proofs.Lemmas.{◌≡◌, List, AllByRecursion, Tree, Trees, elements, Fits, Form, HasEntriesLeft, overlap, CountsKeys, SomeEntries}
use Rattle.jsonb_raw.proofs.functions.array.overlap_in.has_counted.Given as goal

-- what is left decides what all decides
abbrev pub invariant-loop-entry : goal.invariant-loop-entry
invariant-loop-entry l = (form : Form) (ts : Trees) (us : List Tree) → HasEntriesLeft form l.fn.entries ts → CountsKeys l.counts us
    → AllByRecursion Fits (elements ts) → AllByRecursion Fits us
    → SomeEntries form l.entry-iterator (λ left. AllByRecursion Fits (elements left) × (overlap (elements left) us ≡ overlap (elements ts) us))
