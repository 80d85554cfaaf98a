use Rattle.jsonb.proofs.Lemmas.{◌≡◌, ◌++◌, ◌+◌, map, flat_map, drop, compare, first_decisive, pair_truth, value_view}
use Rattle.jsonb.proofs.selector.operand_value.compare.Given as goal

-- the pairs that are left decide
abbrev pub invariant-loop-l : goal.invariant-loop-l
invariant-loop-l l =
    compare l.op (map value_view l.ls) (map value_view l.rs)
    ≡ compare l.op (map value_view (drop l.l-index l.ls)) (map value_view l.rs)

abbrev pub invariant-loop-r : goal.invariant-loop-r
invariant-loop-r l =
    compare l.op (map value_view l.ls) (map value_view l.rs)
    ≡ first_decisive (map (λ r. pair_truth l.op (value_view l.l) r) (map value_view (drop l.r-index l.rs))
    ++ flat_map (λ v. map (λ r. pair_truth l.op v r) (map value_view l.rs)) (map value_view (drop (l.l-index + 1) l.ls)))
