use Rattle.jsonb_raw.proofs.Lemmas.{◌≡◌, number_parts, number_view}
use Rattle.jsonb_doc.specs.Tree as spec
use Rattle.jsonb_raw.proofs.raw.RawJsonb.to_str.Goals as goal

pub returns-in-Number-clause-value : goal.returns-in-Number-clause-value
returns-in-Number-clause-value c = λ form tree d.
    let is : tree ≡ spec.number (number_view c.in-Number.number) = rw c.in-Number.is at (c.in_ok-value.ensures.decodes form tree (rw c.as_bytes.ensures d)) in
    let normal : number_parts c.in-Number.number ≡ number_view c.in-Number.number = rw c.in-Number.is at c.in_ok-value.ensures.normal in
    rw (is, ← normal) c.text_from_number.ensures
