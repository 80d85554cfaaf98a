use Rattle.jsonb.proofs.Lemmas.{◌∷◌, [], List, Locates, Tree, Step, steps_of, steps_meaning, IsAhead, HasItems, Lax, Searching}
use Rattle.jsonb.proofs.selector.search.first_found.Given as goal

-- what is left, the innermost first, gives the list of the whole
abbrev pub invariant-walk : goal.invariant-walk
invariant-walk l = (top t : Tree) (ss : List Step) → IsAhead l.ahead ss → Locates l.bytes l.fn.first t →
    Searching l.bytes top (HasItems l.bytes l.within.items) l.within.ahead l.around.items (steps_meaning Lax (steps_of ss) top (t ∷ []))
