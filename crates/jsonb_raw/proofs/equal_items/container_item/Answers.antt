use Rattle.jsonb_raw.proofs.Lemmas.{ap, header_number, array_content, object_content}
use Rattle.jsonb_raw.proofs.equal_items.container_item.Goals as goal

pub returns-in-Array-clause-item : goal.returns-in-Array-clause-item
returns-in-Array-clause-item c = λ form t stored.
    array_content form _ _ _ _ c.in-Some.ensures t (ap header_number c.in-Array.is) (rw c.in-Container.is at stored.content)

pub returns-in-Object-clause-item : goal.returns-in-Object-clause-item
returns-in-Object-clause-item c = λ form t stored.
    object_content form _ _ _ _ c.in-Some.ensures t (ap header_number c.in-Object.is) (rw c.in-Container.is at stored.content)
