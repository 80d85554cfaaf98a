use Rattle.jsonb_raw.proofs.Lemmas.{inr, refl, length, map, ◌++◌, keys_of, values_of, text, object, pairs_of, object_made, too_many_made}
use Rattle.jsonb_doc.specs.declared.layout.HeaderKind.TheVariants as header_kind
use Rattle.jsonb_raw.proofs.functions.joined.object_of.Goals as goal

pub returns-in_default-clause-object : goal.returns-in_default-clause-object
returns-in_default-clause-object c = λ form ps sorted k v.
    inr (
      refl,
      too_many_made form header_kind.Object (length (map text (keys_of ps))) (map text (keys_of ps) ++ values_of ps) (object (pairs_of ps))
          (object_made (length (map text (keys_of ps))) ps sorted refl) (rw c.in_default.is at (c.count_entries.ensures form _ k)),
    )

pub returns-clause-object : goal.returns-clause-object
returns-clause-object c = λ form ps sorted k v.
    c.container_of.ensures.container form _ _ _ k v (object_made c.in-Some.count ps sorted (c.in-Some.ensures form _ k))
