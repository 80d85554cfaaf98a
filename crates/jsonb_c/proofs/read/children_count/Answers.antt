use Rattle.std.proofs.Common.{refl}
use Rattle.jsonb_c.proofs.MakingLemmas.{elements_length, values_length}
use Rattle.jsonb_c.proofs.read.children_count.Goals as goal

pub returns-in_ok-array_elements-in-Array-clause-count : goal.returns-in_ok-array_elements-in-Array-clause-count
returns-in_ok-array_elements-in-Array-clause-count c = λ form t d.
    let parts = rw c.in-Array.is at (c.in_ok-bytes.ensures.decodes form t d) in
    let left = c.in_ok-array_elements-in-Array.ensures.decodes form parts.0 parts.2 in
    rw (parts.1, c.len.ensures form parts.0 left, elements_length parts.0) refl

pub returns-in_ok-object_pairs-in-Object-clause-count : goal.returns-in_ok-object_pairs-in-Object-clause-count
returns-in_ok-object_pairs-in-Object-clause-count c = λ form t d.
    let parts = rw c.in-Object.is at (c.in_ok-bytes.ensures.decodes form t d) in
    let left = c.in_ok-object_pairs-in-Object.ensures.decodes form parts.0 parts.2 in
    rw (parts.1, c.len-in-Object.ensures form parts.0 left, values_length parts.0) refl
