use Rattle.jsonb_raw.proofs.Lemmas.{◌≡◌, ◌+◌, ◌<◌, ◌≤◌, List, ℕ, length, map, keys_of, Tree, text, Form, AreKeys, HoldTrees, names_left, DecideForKeys, PartsFirst}
use Rattle.jsonb_raw.proofs.functions.object.names.SortedNames.next_run.Given as goal

abbrev pub invariant-loop-key : goal.invariant-loop-key
invariant-loop-key l = record {
  bound : l.count + length l.left.words.now ≤ length l.fn.keys.words.now;
  fewer : length l.left.words.now < length l.fn.keys.words.now;
  run : (form : Form) (ps : List (List ℕ × Tree)) → HoldTrees form l.fn.keys (map text (keys_of ps)) → AreKeys (keys_of ps)
      → DecideForKeys l.fn.self.names.now (names_left l.fn.self) (keys_of ps)
      → PartsFirst form l.fn.self.names.now (names_left l.self) l.is_in l.count l.left ps;
  names : l.self.names.now ≡ l.fn.self.names.now;
}

abbrev pub decreases-loop-key : goal.decreases-loop-key
decreases-loop-key l = length l.left.words.now
