use Rattle.jsonb_raw.proofs.Lemmas.{◌≡◌, List, Tree, any, Decodes, Locates, KeyPath, keys_view, YieldsItemsLeft, tree_at_steps}
use Rattle.jsonb_raw.proofs.raw.RawJsonb.spot_by_keypath.Given as goal

-- the spot is the place of a tree in which the steps that are left select what all steps select in the whole
abbrev pub invariant-loop-step : goal.invariant-loop-step
invariant-loop-step g l = record {
  can : (goal.iterator-loop-step g).can_next l.step-iterator;
  finite : (goal.iterator-loop-step g).is_finite l.step-iterator;
  left : (left : _ → List KeyPath) → YieldsItemsLeft (goal.iterator-loop-step g).next_gives left → (t : Tree) → Decodes any l.bytes t
      → (here : Tree) × Locates l.bytes l.spot here × (tree_at_steps (keys_view (left l.step-iterator)) here ≡ tree_at_steps (keys_view (left l.fn.steps)) t);
}
