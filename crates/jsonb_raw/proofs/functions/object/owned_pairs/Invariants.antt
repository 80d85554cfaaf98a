use Rattle.jsonb_raw.proofs.Lemmas.{List, ℕ, ◌≡◌, length, string_bytes, Tree, Form, IsPairOf, HoldPairs, Made, All, IsWholePair, shadow, Utf8}
use Rattle.jsonb_raw.proofs.functions.object.owned_pairs.Given as goal

-- the pairs that were made, followed by those that are left, are the whole, and the names of these are left of the text
abbrev pub invariant-loop-each : goal.invariant-loop-each
invariant-loop-each l = record {
  utf8 : shadow (Utf8 l.others);
  whole : All IsWholePair l.each.items;
  made : (form : Form) (ps : List (List ℕ × Tree)) → HoldPairs form l.pairs ps
      → (others : List (List ℕ × Tree)) × HoldPairs form l.left others × Made (IsPairOf string_bytes form) l.each.items others ps
      × (l.others ≡ l.left.keys.contents.now);
}

abbrev pub decreases-loop-each : goal.decreases-loop-each
decreases-loop-each l = length l.left.keys.words.now
