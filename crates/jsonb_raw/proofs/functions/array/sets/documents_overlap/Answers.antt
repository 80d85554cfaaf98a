use Rattle.jsonb_raw.proofs.Lemmas.{arith, elements, or_false, array_of_entries, left_of_array, no_array_entries, overlap_one, decoded_fits}
use Rattle.jsonb_raw.proofs.functions.array.sets.documents_overlap.Goals as goal

pub returns-in-Some-Some-clause-overlap : goal.returns-in-Some-Some-clause-overlap
returns-in-Some-Some-clause-overlap c = λ form other_form t u d e.
    let a = array_of_entries form t _ _ c.in-Some-Some.is-0 (c.in_ok-element_entries.ensures.entries form t d) in
    let b = array_of_entries other_form u _ _ c.in-Some-Some.is-1 (c.in_ok-others.ensures.entries other_form u e) in
    rw (a.1, b.1) (c.entries_overlap.ensures.overlap form other_form a.0 b.0 (left_of_array form _ a.0 a.2) (left_of_array other_form _ b.0 b.2)
    (rw a.1 at (decoded_fits form c.args.bytes.now t (λ i. omega (arith, c.type_inv.bytes i)) d))
    (rw b.1 at (decoded_fits other_form c.args.other.now u (λ i. omega (arith, c.type_inv.other i)) e)))

pub returns-in-Some-None-clause-overlap : goal.returns-in-Some-None-clause-overlap
returns-in-Some-None-clause-overlap c = λ form other_form t u d e.
    let a = array_of_entries form t _ _ c.in-Some-None.is-0 (c.in_ok-element_entries.ensures.entries form t d) in
    let one = no_array_entries other_form u _ c.in-Some-None.is-1 (c.in_ok-others.ensures.entries other_form u e) in
    rw (a.1, one, overlap_one (elements a.0) u) (c.array_has_root.ensures.has form other_form a.0 u (rw a.1 at d) e)

pub returns-in-None-Some-clause-overlap : goal.returns-in-None-Some-clause-overlap
returns-in-None-Some-clause-overlap c = λ form other_form t u d e.
    let one = no_array_entries form t _ c.in-None-Some.is-0 (c.in_ok-element_entries.ensures.entries form t d) in
    let b = array_of_entries other_form u _ _ c.in-None-Some.is-1 (c.in_ok-others.ensures.entries other_form u e) in
    rw (one, b.1, or_false) (c.array_has_root-in-None-Some.ensures.has other_form form b.0 t (rw b.1 at e) d)

pub returns-in-None-None-clause-overlap : goal.returns-in-None-None-clause-overlap
returns-in-None-None-clause-overlap c = λ form other_form t u d e.
    let one = no_array_entries form t _ c.in-None-None.is-0 (c.in_ok-element_entries.ensures.entries form t d) in
    let other = no_array_entries other_form u _ c.in-None-None.is-1 (c.in_ok-others.ensures.entries other_form u e) in
    rw (one, other, or_false, or_false) (c.roots_equal.ensures.equal form other_form t u d e)
