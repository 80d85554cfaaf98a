use Rattle.jsonb.proofs.Lemmas.{[], ◌∷◌, map, drop, try_flat_map, AllZip, all_numbers, value_view, Is, Progress, Behind}
use Rattle.jsonb.proofs.selector.calculate.value_numbers.Given as goal

abbrev pub invariant-loop-value : goal.invariant-loop-value
invariant-loop-value l = Progress (AllZip (Is value_view) (drop l.value-index l.values)) (Behind [] l.numbers.items)
    (λ v. all_numbers (v ∷ [])) (try_flat_map (λ v. all_numbers (v ∷ [])) (map value_view l.values))
