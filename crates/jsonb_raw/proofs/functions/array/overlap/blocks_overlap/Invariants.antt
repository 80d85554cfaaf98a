use Rattle.jsonb_raw.proofs.Lemmas.{◌≡◌, ◌<◌, ◌^◌, length, AllByRecursion, array, Trees, elements, Fits, Form, HasEntriesLeft, entries_bound, overlap, SomeEntries}
use Rattle.jsonb_raw.proofs.functions.array.overlap.blocks_overlap.Given as goal

-- the others that are left decide what all decide
abbrev pub invariant-loop-shared : goal.invariant-loop-shared
invariant-loop-shared l = (form other_form : Form) (ts us : Trees) → HasEntriesLeft form l.found ts → HasEntriesLeft other_form l.fn.others us
    → Fits (array us) → SomeEntries other_form l.rest (λ left. (overlap (elements ts) (elements left) ≡ overlap (elements ts) (elements us))
    × AllByRecursion Fits (elements left) × (length (elements left) < 2 ^ 63))

abbrev pub decreases-loop-shared : goal.decreases-loop-shared
decreases-loop-shared l = entries_bound l.rest
