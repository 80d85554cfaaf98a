use Rattle.jsonb_raw.proofs.Lemmas.{refl, Decodes-array, entries_of_array, array_root}
use Rattle.jsonb_doc.specs.declared.shape.Shape.TheVariants as shapes
use Rattle.jsonb_doc.specs.declared.item.Item.TheVariants as items
use Rattle.jsonb_raw.proofs.functions.entries.element_entries.Goals as goal

pub returns-in-Array-clause-entries : goal.returns-in-Array-clause-entries
returns-in-Array-clause-entries c = λ form t d.
    entries_of_array form t c.in-Array.parts _ refl refl
    (Decodes-array form c.args.bytes.now c.in-Array.parts (rw c.in-Array.is at c.in_ok-parts.ensures.cut) t d)

pub returns-in-Array-clause-reads : goal.returns-in-Array-clause-reads
returns-in-Array-clause-reads c =
    (shapes.Array, array_root c.args.bytes.now c.in-Array.parts (rw c.in-Array.is at c.in_ok-parts.ensures.cut))

pub returns-in-Array-clause-root : goal.returns-in-Array-clause-root
returns-in-Array-clause-root c =
    (items.Array c.args.bytes, (refl, array_root c.args.bytes.now c.in-Array.parts (rw c.in-Array.is at c.in_ok-parts.ensures.cut)))
