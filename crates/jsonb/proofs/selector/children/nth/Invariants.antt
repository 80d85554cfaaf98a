use Rattle.jsonb.proofs.Lemmas.{◌≡◌, ℕ, List, slice_get, HasSpotsLeft, Tree}
use Rattle.jsonb.proofs.selector.children.nth.Given as goal

-- of the elements that are left, that many precede the one at the position
abbrev pub invariant-loop-element : goal.invariant-loop-element
invariant-loop-element l = (bytes : List ℕ) (ts : List Tree) → HasSpotsLeft bytes l.fn.elements ts →
    (rest : List Tree) × HasSpotsLeft bytes l.element-iterator rest × (slice_get rest l.before ≡ slice_get ts l.position)
