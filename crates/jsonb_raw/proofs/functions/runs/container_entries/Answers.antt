use Rattle.jsonb_raw.proofs.Lemmas.{refl, Decodes-array, Decodes-object, array_entries_are, object_entries_are, no_parts, array_root, object_root}
use Rattle.jsonb_doc.specs.declared.shape.Shape.TheVariants as shapes
use Rattle.jsonb_raw.proofs.functions.runs.container_entries.Goals as goal

pub returns-in-Array-clause-entries : goal.returns-in-Array-clause-entries
returns-in-Array-clause-entries c = λ form t d.
    array_entries_are form t c.in-Array.parts _ refl refl refl refl refl
    (Decodes-array form c.args.bytes.now c.in-Array.parts (rw c.in-Array.is at c.in_ok-read_container.ensures.cut) t d)

pub returns-in_err-keys-in-Object-clause-entries : goal.returns-in_err-keys-in-Object-clause-entries
returns-in_err-keys-in-Object-clause-entries c = λ form t d.
    absurd (no_parts form t c.in-Object.parts
    (Decodes-object form c.args.bytes.now c.in-Object.parts (rw c.in-Object.is at c.in_ok-read_container.ensures.cut) t d)
    (c.in_err-keys-in-Object.ensures.entries form))

pub returns-in_ok-keys-in-Object-clause-entries : goal.returns-in_ok-keys-in-Object-clause-entries
returns-in_ok-keys-in-Object-clause-entries c = λ form t d.
    object_entries_are form t c.in-Object.parts _ refl
    (Decodes-object form c.args.bytes.now c.in-Object.parts (rw c.in-Object.is at c.in_ok-read_container.ensures.cut) t d)
    (c.in_ok-keys-in-Object.ensures.entries form)

pub returns-in-Array-clause-reads : goal.returns-in-Array-clause-reads
returns-in-Array-clause-reads c =
    (shapes.Array, array_root c.args.bytes.now c.in-Array.parts (rw c.in-Array.is at c.in_ok-read_container.ensures.cut))

pub returns-in_ok-keys-in-Object-clause-reads : goal.returns-in_ok-keys-in-Object-clause-reads
returns-in_ok-keys-in-Object-clause-reads c =
    (shapes.Object, object_root c.args.bytes.now c.in-Object.parts (rw c.in-Object.is at c.in_ok-read_container.ensures.cut))
