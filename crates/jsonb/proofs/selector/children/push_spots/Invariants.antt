use Rattle.jsonb.proofs.Lemmas.{ℕ, ◌++◌, ◌∷◌, [], List, Ok, Locates, HasSpotsLeft, Tree, AllZip, Progress}
use Rattle.jsonb.proofs.selector.children.push_spots.Given as goal

abbrev pub invariant-loop-spot : goal.invariant-loop-spot
invariant-loop-spot l = (bytes : List ℕ) (ts before : List Tree) → HasSpotsLeft bytes l.fn.spots ts → AllZip (Locates bytes) l.fn.nodes.items before →
    Progress (HasSpotsLeft bytes l.spot-iterator) (AllZip (Locates bytes) l.nodes.items) (λ t. Ok (t ∷ [])) (Ok (before ++ ts))
