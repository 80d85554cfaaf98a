use Rattle.jsonb_raw.proofs.Lemmas.{◌≡◌, Bool, true, false, not, List, [], ◌∷◌, filter, cond, Some, inl, inr, refl, Pairs, object, members, pairs_of, members-pairs_of, TextSet, is_in, object_pick, object_delete, IsPartitionedInto}
use Rattle.jsonb_raw.proofs.laws.pick_and_delete_part_objects.Goals as goal

filters_deal : {A : Type 0} (test : A → Bool) (zs : List A) → IsPartitionedInto zs (filter test zs) (filter (λ z. not (test z)) zs)
filters_deal test [] = (refl, refl)
filters_deal {A} test (z ∷ zs) = go (test z) (filters_deal test zs)
  where
    go : (b : Bool) → IsPartitionedInto zs (filter test zs) (filter (λ z. not (test z)) zs)
        → IsPartitionedInto (z ∷ zs) (cond b (z ∷ filter test zs) (filter test zs))
        (cond (not b) (z ∷ filter (λ z. not (test z)) zs) (filter (λ z. not (test z)) zs))
    go true dealt = inl (filter test zs, refl, dealt)
    go false dealt = inr (filter (λ z. not (test z)) zs, refl, dealt)

parted : (set : TextSet) (ps : Pairs) → (picked : Pairs) × (others : Pairs)
    × (object_pick set (object ps) ≡ Some (object picked)) × (object_delete set (object ps) ≡ Some (object others))
    × IsPartitionedInto (members ps) (members picked) (members others)
parted set ps =
    let inside = filter (λ p. is_in set p.0) (members ps) in
    let outside = filter (λ p. not (is_in set p.0)) (members ps) in (
      pairs_of inside,
      pairs_of outside,
      refl,
      refl,
      rw (members-pairs_of inside, members-pairs_of outside) (filters_deal (λ p. is_in set p.0) (members ps)),
    )

pub returns : goal.returns
returns c = parted
