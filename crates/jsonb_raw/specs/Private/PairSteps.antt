-- Members by the order of their keys.
use Rattle.std.specs.Prelude.{ℕ, Bool, true, false, not, List, filter}
use Rattle.std.specs.Ordering.{nat_cmp, match_ordering}
use Rattle.std.specs.Cmp.Lexicographic.{slice_cmp}
use Rattle.jsonb_doc.specs.Tree.{Tree, Pairs, no_pairs, pair}
use Rattle.jsonb_raw.specs.Objects.{TextSet, is_in}

-- the pairs whose keys are above this one in the order of bytes
abbrev pub pairs_above : List ℕ → Pairs → Pairs
pairs_above key no_pairs = no_pairs
pairs_above key (pair k t ps) =
    match_ordering (slice_cmp nat_cmp k key) (pairs_above key ps) (pairs_above key ps) (pair k t (pairs_above key ps))

-- the pairs whose keys are in the set, or those whose keys are not
abbrev pub parted : Bool → TextSet → List (List ℕ × Tree) → List (List ℕ × Tree)
parted true set ps = filter (λ p. is_in set p.0) ps
parted false set ps = filter (λ p. not (is_in set p.0)) ps
