-- Lists that are partitioned.
use Rattle.std.specs.Prelude.{◌≡◌, ◌⊎◌, List, [], ◌∷◌}

-- Holds if each element of the first list goes, in order, to the second list or to the third, and only to one of them.
abbrev pub IsPartitionedInto : {A : Type 0} → List A → List A → List A → Type 0
IsPartitionedInto [] xs ys = (xs ≡ []) × (ys ≡ [])
IsPartitionedInto {A} (z ∷ zs) xs ys =
    ((more : List A) × (xs ≡ z ∷ more) × IsPartitionedInto zs more ys)
    ⊎ ((more : List A) × (ys ≡ z ∷ more) × IsPartitionedInto zs xs more)
