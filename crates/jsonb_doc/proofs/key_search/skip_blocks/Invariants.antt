use Rattle.jsonb_doc.proofs.Lemmas.{ℕ, ◌≤◌, List, length, HoldKeys, AreBelow, KeysLeft}
use Rattle.jsonb_doc.proofs.key_search.skip_blocks.Given as goal

-- the keys that were skipped are below the name
abbrev pub invariant-loop-other_words : goal.invariant-loop-other_words
invariant-loop-other_words l = record {
  words : length l.words ≤ length l.fn.words;
  bytes : length l.bytes ≤ length l.fn.bytes;
  left : (ks : List (List ℕ)) (rest : List ℕ) → HoldKeys ks l.fn.words l.fn.bytes rest → KeysLeft (AreBelow l.name) ks rest l.words l.bytes;
}

abbrev pub decreases-loop-other_words : goal.decreases-loop-other_words
decreases-loop-other_words l = length l.words
