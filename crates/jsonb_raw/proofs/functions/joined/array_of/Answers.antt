use Rattle.jsonb_raw.proofs.Lemmas.{inr, refl, length, ◌++◌, [], array, trees_of, no_runs, array_made, too_many_made}
use Rattle.jsonb_doc.specs.declared.layout.HeaderKind.TheVariants as header_kind
use Rattle.jsonb_raw.proofs.functions.joined.array_of.Goals as goal

pub returns-in_default-clause-array : goal.returns-in_default-clause-array
returns-in_default-clause-array c = λ form ts h.
    inr (refl, too_many_made form header_kind.Array (length ts) (ts ++ []) (array (trees_of ts)) (array_made (length ts) ts refl) (rw c.in_default.is at (c.count_entries.ensures form ts h)))

pub returns-clause-array : goal.returns-clause-array
returns-clause-array c = λ form ts h.
    c.container_of.ensures.container form ts [] _ h (no_runs form) (array_made c.in-Some.count ts (c.in-Some.ensures form ts h))
